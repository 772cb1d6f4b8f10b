-- What was gathered of a list: the numbered of those that have a number.
use Rattle.std.proofs.Common.{◌≡◌, ℕ, ◌+◌, ◌<◌, Bool, true, false, cond, ◌||◌, nat_eq, List, [], ◌∷◌, ◌++◌, length, take, get_or, Option, Some, None, refl, sym, ap, ◌∙◌, true≢false}
use Rattle.std.specs.List.{find, list_any, filter_map, cons_option, AllByRecursion}
use Rattle.std.specs.Option.{option_map, option_and_then}
use Rattle.std.proofs.lemmas.List.{take_more}
use Rattle.std.proofs.lemmas.List.Elements.{filter_map-append}
use Rattle.std.proofs.lemmas.Option.{none-some, same_Some}
use Rattle.chart_registry.proofs.RegistryLemmas.{or_false}
use Rattle.history.specs.Regular.{AreApart}
use Rattle.chart_registry.proofs.Finding.{nat_eq_other}
use Rattle.beat_entries.proofs.Slots.{at, same_key, find-own, find-other}

pub map-some : {A B : Type 0} (f : A → B) (found : Option A) (made : B) → option_map f found ≡ Some made → (a : A) × ((found ≡ Some a) × (f a ≡ made))
map-some f None made e = absurd (none-some made e)
map-some f (Some a) made e = (a, (refl, same_Some (f a) made e))

pub then-some : {A B : Type 0} (f : A → Option B) (found : Option A) (made : B) → option_and_then f found ≡ Some made → (a : A) × ((found ≡ Some a) × (f a ≡ Some made))
then-some f None made e = absurd (none-some made e)
then-some f (Some a) made e = (a, (refl, e))

pub gathered-more : {B C : Type 0} (item : B → Option C) (bs : List B) (n : ℕ) (b : B) (old new : List C) → n < length bs → get_or bs n b ≡ b
    → new ≡ old ++ cons_option (item b) [] → old ≡ filter_map item (take n bs) → new ≡ filter_map item (take (n + 1) bs)
gathered-more {B = B} {C = C} item bs n b old new within at pushed before =
    pushed ∙ ap (λ (l : List C). l ++ cons_option (item b) []) before ∙ sym (filter_map-append item (take n bs) (b ∷ []))
    ∙ ap (filter_map item) (ap (λ (x : B). take n bs ++ x ∷ []) (sym at) ∙ sym (take_more bs n b within))

module _ {B C : Type 0} (item : B → Option C) where
  pub all-gathered : (P : C → Type 0) → ((b : B) (c : C) → item b ≡ Some c → P c) → (bs : List B) → AllByRecursion P (filter_map item bs)
  all-gathered P holds [] = tt
  all-gathered P holds (b ∷ bs) = by (item b) refl (all-gathered P holds bs)
    where
      by : (found : Option C) → item b ≡ found → AllByRecursion P (filter_map item bs) → AllByRecursion P (cons_option found (filter_map item bs))
      by None e rest = rest
      by (Some c) e rest = (holds b c e, rest)

  module _ (key : C → ℕ) where
    module _ (same : B → B → Bool) (alike : (x y : B) (c d : C) → item x ≡ Some c → item y ≡ Some d → key c ≡ key d → same x y ≡ true) where
      none-gathered : (b : B) (c : C) → item b ≡ Some c → (bs : List B) → list_any (same b) bs ≡ false → list_any (at key (key c)) (filter_map item bs) ≡ false
      none-gathered b c is [] none = refl
      none-gathered b c is (y ∷ bs) none = let parts = or_false (same b y) (list_any (same b) bs) none in by (item y) refl parts.0 (none-gathered b c is bs parts.1)
        where
          by : (found : Option C) → item y ≡ found → same b y ≡ false → list_any (at key (key c)) (filter_map item bs) ≡ false → list_any (at key (key c)) (cons_option found (filter_map item bs)) ≡ false
          by None e other rest = rest
          by (Some d) e other rest =
              let apart : nat_eq (key c) (key d) ≡ false = nat_eq_other (key c) (key d) (λ equal. true≢false (sym (alike b y c d is e equal) ∙ other)) in
              λ i. apart i || rest i

      pub apart-gathered : (bs : List B) → AreApart same bs → AreApart (same_key key) (filter_map item bs)
      apart-gathered [] apart = tt
      apart-gathered (b ∷ bs) apart = by (item b) refl (apart-gathered bs apart.1)
        where
          by : (found : Option C) → item b ≡ found → AreApart (same_key key) (filter_map item bs) → AreApart (same_key key) (cons_option found (filter_map item bs))
          by None e rest = rest
          by (Some c) e rest = (none-gathered b c e bs apart.0, rest)

    module _ (n : ℕ) (matches : B → Bool) (P : B → Type 0)
        (hit : (b : B) → P b → matches b ≡ true → (c : C) × ((item b ≡ Some c) × (n ≡ key c)))
        (miss : (b : B) → matches b ≡ false → (c : C) → item b ≡ Some c → n ≡ key c → ⊥) where
      pub find-gathered : (bs : List B) → AllByRecursion P bs → find (at key n) (filter_map item bs) ≡ option_and_then item (find matches bs)
      find-gathered [] all = refl
      find-gathered (b ∷ bs) all = by (matches b) refl (find-gathered bs all.1)
        where
          by : (m : Bool) → matches b ≡ m → find (at key n) (filter_map item bs) ≡ option_and_then item (find matches bs)
              → find (at key n) (cons_option (item b) (filter_map item bs)) ≡ option_and_then item (cond m (Some b) (find matches bs))
          by true e rest =
              let made = hit b all.0 e in
              ap (λ (found : Option C). find (at key n) (cons_option found (filter_map item bs))) made.1.0
              ∙ find-own key n made.0 (filter_map item bs) made.1.1 ∙ sym made.1.0
          by false e rest = other (item b) refl
            where
              other : (found : Option C) → item b ≡ found → find (at key n) (cons_option found (filter_map item bs)) ≡ option_and_then item (find matches bs)
              other None f = rest
              other (Some c) f = find-other key n c (filter_map item bs) (miss b e c f) ∙ rest
