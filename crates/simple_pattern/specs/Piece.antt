use Rattle.std.specs.Prelude.{◌≡◌, ◌≢◌, ℕ, List, ◌∷◌, ◌++◌, All}
use Rattle.simple_pattern.specs.Glob.{star}

-- a text with no `*`
abbrev pub IsPlain : List ℕ → Type 0
IsPlain text = All (λ byte. byte ≢ star) text

-- a glob is a plain piece, a `*` and more
pub record SplitsAtStar (glob piece more : List ℕ) : Type 0 where
  pub whole : glob ≡ piece ++ star ∷ more
  pub plain : IsPlain piece
