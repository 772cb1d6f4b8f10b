-- What is true of all things of a list, and of a list that takes more.
use Rattle.std.proofs.Common.{◌≡◌, ℕ, ◌+◌, ◌≤◌, Bool, false, ◌||◌, List, [], ◌∷◌, length, map, Option, Some, None, refl, sym, ap, ◌∙◌, arith}
use Rattle.std.specs.List.{cons_option, count_by, filter_map, list_any, AllByRecursion}
use Rattle.std.specs.Option.{option_map_or}
use Rattle.std.proofs.lemmas.List.Sums.{count_by-le-length}
use Rattle.history.specs.Put.{put, put_all}
use Rattle.chart_registry.proofs.Applying.{all-put}
use Rattle.chart_registry.proofs.FewLemmas.{count-cons}
use Rattle.chart_registry.proofs.Finding.{one_if}

module _ {A : Type 0} (same : A → A → Bool) (P : A → Type 0) where
  pub all-put_all : (xs ys : List A) → AllByRecursion P xs → AllByRecursion P ys → AllByRecursion P (put_all same xs ys)
  all-put_all xs [] all more = all
  all-put_all xs (y ∷ ys) all more = all-put_all (put same xs y) ys (all-put same P xs y all more.0) more.1

-- ---- what is made of a list

pub any_map : {A B : Type 0} (q : B → Bool) (f : A → B) (xs : List A) → list_any (λ x. q (f x)) xs ≡ list_any q (map f xs)
any_map q f [] = refl
any_map q f (x ∷ xs) = ap (λ (rest : Bool). q (f x) || rest) (any_map q f xs)

pub count_map : {A B : Type 0} (q : B → Bool) (f : A → B) (xs : List A) → count_by (λ x. q (f x)) xs ≡ count_by q (map f xs)
count_map q f [] = refl
count_map q f (x ∷ xs) = omega (arith, count-cons (λ x. q (f x)) x xs, count-cons q (f x) (map f xs), count_map q f xs)

pub any_made : {A B : Type 0} (q : B → Bool) (f : A → Option B) (xs : List A) → list_any (λ x. option_map_or q (f x) false) xs ≡ list_any q (filter_map f xs)
any_made q f [] = refl
any_made {A} {B} q f (x ∷ xs) = ap (λ (rest : Bool). option_map_or q (f x) false || rest) (any_made q f xs) ∙ by (f x)
  where
    by : (found : Option B) → (option_map_or q found false || list_any q (filter_map f xs)) ≡ list_any q (cons_option found (filter_map f xs))
    by None = refl
    by (Some y) = refl

pub count_made : {A B : Type 0} (q : B → Bool) (f : A → Option B) (xs : List A) → count_by (λ x. option_map_or q (f x) false) xs ≡ count_by q (filter_map f xs)
count_made q f [] = refl
count_made {A} {B} q f (x ∷ xs) = count-cons (λ x. option_map_or q (f x) false) x xs ∙ ap (λ (rest : ℕ). one_if (option_map_or q (f x) false) + rest) (count_made q f xs) ∙ by (f x)
  where
    by : (found : Option B) → one_if (option_map_or q found false) + count_by q (filter_map f xs) ≡ count_by q (cons_option found (filter_map f xs))
    by None = omega arith
    by (Some y) = sym (count-cons q y (filter_map f xs))

-- no more pass than there are things
pub few_made : {A B : Type 0} (q : B → Bool) (f : A → Option B) (xs : List A) → count_by q (filter_map f xs) ≤ length xs
few_made q f xs = omega (arith, count_made q f xs, count_by-le-length (λ x. option_map_or q (f x) false) xs)
