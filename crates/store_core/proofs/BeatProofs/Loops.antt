-- Records that are read one after the other.
use Rattle.std.proofs.Common.{◌≡◌, ℕ, ◌+◌, ◌<◌, List, [], ◌∷◌, ◌++◌, length, get_or, take, Option, Some, None, refl, sym, ap, ◌∙◌, append_assoc}
use Rattle.std.specs.List.{AllByRecursion}
use Rattle.std.specs.Option.{option_map}
use Rattle.std.proofs.lemmas.List.{take_more}
use Rattle.list_lemmas.proofs.Every.{all-push}
use Rattle.store_core.specs.declared.beats.beat.Beat.{Beat}
use Rattle.store_core.specs.beats.Records.{beats_from, last_after, next_beat}

-- the beats that were read before, in front of those that are still read
abbrev pub with_prefix : List Beat → Option (List Beat) → Option (List Beat)
with_prefix prefix rest = option_map (λ beats. prefix ++ beats) rest

pub with_prefix-nil : (rest : Option (List Beat)) → with_prefix [] rest ≡ rest
with_prefix-nil None = refl
with_prefix-nil (Some rest) = refl

regroup : (prefix : List Beat) (beat : Beat) (rest : Option (List Beat)) → with_prefix prefix (option_map (λ beats. beat ∷ beats) rest) ≡ with_prefix (prefix ++ beat ∷ []) rest
regroup prefix beat None = refl
regroup prefix beat (Some rest) = ap (λ (beats : List Beat). Some beats) (sym (append_assoc prefix (beat ∷ []) rest))

-- one beat more is read
pub goes_on : (prefix : List Beat) (last : ℕ) (body : List ℕ) (bodies : List (List ℕ)) (beat : Beat) (total : Option (List Beat)) → next_beat last body ≡ Some beat
    → with_prefix prefix (beats_from last (body ∷ bodies)) ≡ total
    → with_prefix (prefix ++ beat ∷ []) (beats_from (last_after last beat.moment) bodies) ≡ total
goes_on prefix last body bodies beat total read so_far =
    sym (regroup prefix beat (beats_from (last_after last beat.moment) bodies)) ∙ sym (ap (with_prefix prefix) (one last body bodies beat read)) ∙ so_far
  where
    one : (last : ℕ) (body : List ℕ) (bodies : List (List ℕ)) (beat : Beat) → next_beat last body ≡ Some beat
        → beats_from last (body ∷ bodies) ≡ option_map (λ beats. beat ∷ beats) (beats_from (last_after last beat.moment) bodies)
    one last body bodies beat read = rw read refl

-- one element more
pub one_more : {X : Type 0} (P : X → Type 0) (xs : List X) (place : ℕ) (x : X) → place < length xs → get_or xs place x ≡ x → AllByRecursion P (take place xs) → P x
    → AllByRecursion P (take (place + 1) xs)
one_more P xs place x within is all here =
    let split : take (place + 1) xs ≡ take place xs ++ x ∷ [] = take_more xs place x within ∙ ap (λ y. take place xs ++ y ∷ []) is in
    rw split (all-push P (take place xs) x all here)
