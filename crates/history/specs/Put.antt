use Rattle.std.specs.Prelude.{Bool, List, [], ◌∷◌, fold, if◌then◌else◌}

-- a list in which each thing stands once, with one thing more: in the place of the same thing, or else at
-- the end
abbrev pub put : {A : Type 0} → (A → A → Bool) → List A → A → List A
put same [] x = x ∷ []
put same (y ∷ ys) x = if same x y then x ∷ ys else y ∷ put same ys x

-- the same with more things, one after another
abbrev pub put_all : {A : Type 0} → (A → A → Bool) → List A → List A → List A
put_all same xs [] = xs
put_all same xs (y ∷ ys) = put_all same (put same xs y) ys
