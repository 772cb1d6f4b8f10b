-- The words of a line that are kept.
use Rattle.std.proofs.Common.{◌≡◌, ℕ, ◌≤◌, List, [], ◌∷◌, ◌++◌, length, take, sym, ap, ◌∙◌}
use Rattle.std.proofs.lemmas.List.{append-nil, length-map, take_all, take_at}
use denote.Ref.{Bor}
use Rattle.plugin_text.specs.Fields.{texts}

-- where the kept words are full, one more changes nothing
pub kept_full : (n : ℕ) (fields : List (Bor (List ℕ))) (word : List ℕ) (old new all : List (List ℕ)) → length fields ≡ n → old ≡ word ∷ new
    → take n (texts fields ++ old) ≡ take n all → take n (texts fields ++ new) ≡ take n all
kept_full n fields word old new all full next so_far =
    let len = length-map fields (λ w. w.now) ∙ full in
    take_at (texts fields) new n len ∙ sym (take_at (texts fields) old n len) ∙ so_far

-- where no word is left, the kept words are those that are wanted
pub kept_all : (n : ℕ) (fields : List (Bor (List ℕ))) (left all : List (List ℕ)) → length fields ≤ n → left ≡ []
    → take n (texts fields ++ left) ≡ take n all → texts fields ≡ take n all
kept_all n fields left all fits none so_far =
    let len : length (texts fields) ≤ n = rw (length-map fields (λ w. w.now)) fits in
    sym (take_all n (texts fields) len) ∙ ap (take n) (sym (append-nil (texts fields))) ∙ ap (λ more. take n (texts fields ++ more)) (sym none) ∙ so_far
