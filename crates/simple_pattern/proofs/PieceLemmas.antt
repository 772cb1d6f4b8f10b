-- What std's searches of a text say of a glob's pieces.
use Rattle.std.proofs.Common.{◌≡◌, ◌≢◌, ◌==◌, ◌&&◌, ℕ, Bool, true, false, List, [], ◌∷◌, ◌++◌, length, take, drop, ◌-◌, refl, sym, ap, ◌∙◌, Option, Some, None, MatchOption, MatchBool, Bor, lit<}
use Rattle.std.proofs.lemmas.List.Elements.{All-from_get_or}
use Rattle.std.proofs.lemmas.Str.Pattern.{IsSplitOnceResult, split_parts}
use Rattle.std.specs.Str.{bytes_eq}
use Rattle.std.specs.Str.Pattern.{FindsText, FindsTextPrefix, FindsTextSuffix, StripsPrefix, SplitsAroundMatch, HasSuffixMatch}
use Rattle.simple_pattern.specs.Glob.{any_end, is_match}
use Rattle.simple_pattern.specs.Piece.{IsPlain, SplitsAtStar}
use Rattle.simple_pattern.proofs.GlobLemmas.{IsPlain-head, IsPlain-tail, is_match-plain, is_match-append, is_match-lacks, first_place, no_place, end_found, end_lacking}

pub split_star : (glob : List ℕ) (r : Option (Bor (List ℕ) × Bor (List ℕ))) → IsSplitOnceResult 42 glob r
    → MatchOption r (IsPlain glob) (λ halves. SplitsAtStar glob halves.0.now halves.1.now)
split_star glob None is = All-from_get_or (λ b. b ≢ 42) glob 0 (split_parts 42 glob None is (lit< tt))
split_star glob (Some halves) is =
    let parts = split_parts 42 glob (Some halves) is (lit< tt) in
    record { whole = parts.0; plain = All-from_get_or (λ b. b ≢ 42) halves.0.now 0 parts.1 }

pub start_found : (piece name : List ℕ) (r : Option (Bor (List ℕ))) → IsPlain piece
    → MatchOption r (FindsTextPrefix piece name None) (λ x. StripsPrefix (FindsTextPrefix piece) name x.now)
    → MatchOption r ((glob : List ℕ) → is_match (piece ++ glob) name ≡ false) (λ rest. (glob : List ℕ) → is_match (piece ++ glob) name ≡ is_match glob rest.now)
start_found piece name None plain lacks = λ glob. is_match-lacks piece glob name plain lacks
start_found piece name (Some rest) plain found = λ glob.
    ap (is_match (piece ++ glob)) found.1.1 ∙ is_match-append piece glob (drop found.0 name) plain ∙ ap (is_match glob) (sym found.2)

module _ (piece name : List ℕ) (plain : IsPlain piece) where
  pub first_lacking : FindsText piece name None → (glob : List ℕ) → any_end (is_match (piece ++ 42 ∷ glob)) name ≡ false
  first_lacking lacks glob = no_place piece glob name plain lacks

  pub first_found : (prefix back : List ℕ) → SplitsAroundMatch (FindsText piece) name prefix back
      → (glob : List ℕ) → any_end (is_match (piece ++ 42 ∷ glob)) name ≡ any_end (is_match glob) back
  first_found prefix back found glob =
      first_place piece glob name (drop found.1 name) found.0 plain found.2.0 found.2.1.split ∙ ap (any_end (is_match glob)) (sym found.4)

pub end_answer : (glob name : List ℕ) (r : Bool) → IsPlain glob
    → MatchBool r (HasSuffixMatch (FindsTextSuffix glob) name) (FindsTextSuffix glob name None) → r ≡ any_end (is_match glob) name
end_answer glob name true plain found = sym (ap (any_end (is_match glob)) found.1.1 ∙ end_found glob (take (length name - found.0) name) plain)
end_answer glob name false plain lacks = sym (end_lacking glob name plain lacks)

-- a plain glob matches where it is the name
pub whole_answer : (glob name : List ℕ) → IsPlain glob → bytes_eq name glob ≡ is_match glob name
whole_answer [] [] plain = refl
whole_answer [] (first ∷ name) plain = refl
whole_answer (byte ∷ glob) [] plain = sym (is_match-plain byte glob [] (IsPlain-head byte glob plain))
whole_answer (byte ∷ glob) (first ∷ name) plain =
    ap (λ t. first == byte && t) (whole_answer glob name (IsPlain-tail byte glob plain))
    ∙ sym (is_match-plain byte glob (first ∷ name) (IsPlain-head byte glob plain))
