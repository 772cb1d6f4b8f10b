-- What a match is, said by the parts of a name.
use Rattle.std.proofs.Common.{◌≡◌, ◌==◌, ℕ, Bool, true, false, ◌⊎◌, ◌↔◌, List, [], ◌∷◌, ◌++◌, refl, sym, ap, ◌∙◌, subst, inl, inr}
use Rattle.std.proofs.lemmas.Bool.{eqb-true, and_parts, both_ways, or_cases, or_right}
use Rattle.simple_pattern.specs.Glob.{any_end, is_match}
use Rattle.simple_pattern.specs.Piece.{IsPlain}
use Rattle.simple_pattern.proofs.GlobLemmas.{is_match-append, is_match-plain, IsPlain-head, IsPlain-tail, any_end-whole, same_truth}

-- a name is a run, and then an end that passes
abbrev HasEnd : (List ℕ → Bool) → List ℕ → Type 0
HasEnd passes name = (run : List ℕ) × (rest : List ℕ) × (name ≡ run ++ rest) × (passes rest ≡ true)

-- a name is a piece, and then a rest that passes
abbrev HasRest : List ℕ → (List ℕ → Bool) → List ℕ → Type 0
HasRest piece passes name = (rest : List ℕ) × (name ≡ piece ++ rest) × (passes rest ≡ true)

module _ (passes : List ℕ → Bool) where
  parts_step : (first : ℕ) (name : List ℕ) → (any_end passes name ≡ true → HasEnd passes name) → (passes (first ∷ name) ≡ true) ⊎ (any_end passes name ≡ true) → HasEnd passes (first ∷ name)
  parts_step first name later (inl e) = ([], first ∷ name, refl, e)
  parts_step first name later (inr e) =
      let parts = later e in
      (first ∷ parts.0, parts.1, ap (λ l. first ∷ l) parts.2, parts.3)

  parts : (name : List ℕ) → any_end passes name ≡ true → HasEnd passes name
  parts [] e = ([], [], refl, e)
  parts (first ∷ name) e = parts_step first name (parts name) (or_cases (passes (first ∷ name)) (any_end passes name) e)

  behind : (run rest : List ℕ) → passes rest ≡ true → any_end passes (run ++ rest) ≡ true
  behind [] rest e = any_end-whole passes rest e
  behind (first ∷ run) rest e = or_right (passes (first ∷ (run ++ rest))) (any_end passes (run ++ rest)) (behind run rest e)

  pub any_end-parts : (name : List ℕ) → (any_end passes name ≡ true) ↔ HasEnd passes name
  any_end-parts name = (parts name, λ p. subst (λ l. any_end passes l ≡ true) (sym p.2) (behind p.0 p.1 p.3))

  twice_step : (first : ℕ) (name : List ℕ) → (any_end (any_end passes) name ≡ true → any_end passes name ≡ true)
      → (any_end passes (first ∷ name) ≡ true) ⊎ (any_end (any_end passes) name ≡ true) → any_end passes (first ∷ name) ≡ true
  twice_step first name later (inl e) = e
  twice_step first name later (inr e) = or_right (passes (first ∷ name)) (any_end passes name) (later e)

  twice : (name : List ℕ) → any_end (any_end passes) name ≡ true → any_end passes name ≡ true
  twice [] e = e
  twice (first ∷ name) e = twice_step first name (twice name) (or_cases (any_end passes (first ∷ name)) (any_end (any_end passes) name) e)

  pub any_end-twice : (name : List ℕ) → any_end (any_end passes) name ≡ any_end passes name
  any_end-twice name = same_truth (any_end (any_end passes) name) (any_end passes name) (twice name) (any_end-whole (any_end passes) name)

pub every_name : (name : List ℕ) → any_end (is_match []) name ≡ true
every_name [] = refl
every_name (first ∷ name) = every_name name

plain_parts : (piece glob name : List ℕ) → IsPlain piece → is_match (piece ++ glob) name ≡ true → HasRest piece (is_match glob) name
plain_parts [] glob name plain e = (name, refl, e)
plain_parts (byte ∷ piece) glob [] plain e = absurd (both_ways (is_match (byte ∷ (piece ++ glob)) []) (is_match-plain byte (piece ++ glob) [] (IsPlain-head byte piece plain)) e)
plain_parts (byte ∷ piece) glob (first ∷ name) plain e =
    let both = and_parts (first == byte) (is_match (piece ++ glob) name) (sym (is_match-plain byte (piece ++ glob) (first ∷ name) (IsPlain-head byte piece plain)) ∙ e) in
    let same : first ≡ byte = eqb-true first byte both.0 in
    let parts = plain_parts piece glob name (IsPlain-tail byte piece plain) both.1 in
    let whole : name ≡ piece ++ parts.0 = parts.1 in
    (parts.0, cc, parts.2)

pub is_match-parts : (piece glob name : List ℕ) → IsPlain piece → (is_match (piece ++ glob) name ≡ true) ↔ HasRest piece (is_match glob) name
is_match-parts piece glob name plain =
    (plain_parts piece glob name plain, λ p. subst (λ l. is_match (piece ++ glob) l ≡ true) (sym p.1) (is_match-append piece glob p.0 plain ∙ p.2))

pub is_match-nil : (name : List ℕ) → (is_match [] name ≡ true) ↔ (name ≡ [])
is_match-nil [] = (λ _. refl, λ _. refl)
is_match-nil (first ∷ name) = (λ e. absurd (both_ways false refl e), λ e. cc)
