-- Groups of items by the moments of their beats.
use Rattle.std.proofs.Common.{◌≡◌, ℕ, ◌+◌, ◌<◌, ◌≤◌, Bool, true, false, cond, leb, ◌&&◌, List, [], ◌∷◌, ◌++◌, length, filter, reverse, inl, inr, Option, Some, None, arith, refl, sym, ap, ◌∙◌}
use Rattle.std.specs.List.{flat_map}
use Rattle.std.proofs.lemmas.Bool.{cases_lt, cond-true, cond-false, and_right, ltb-true, le-leb, lt-leb, lt-ltb, le-ltb}
use Rattle.std.proofs.lemmas.List.{append_assoc, append-nil, reverse-append}
use Rattle.std.proofs.lemmas.List.Concat.{flat_map-append}
use Rattle.beat_tiers.specs.declared.item.Item.{Item}
use Rattle.beat_tiers.specs.declared.parts.Segment.{Segment}
use Rattle.beat_tiers.specs.Tiers.{Group, with_group, is_after, is_between_groups, items_in, AreSplit}

-- the moments of the groups fall, from below a limit
abbrev pub AreFalling : {T : Type 0} → ℕ → List (Group T) → Type 0
AreFalling limit [] = Unit {0}
AreFalling limit (group ∷ groups) = (group.moment < limit) × AreFalling group.moment groups

pub falling_to : {T : Type 0} (low high : ℕ) (groups : List (Group T)) → AreFalling low groups → low ≤ high → AreFalling high groups
falling_to low high [] falls le = tt
falling_to low high (group ∷ groups) falls le = (omega (arith, falls.0), falls.1)

pub with_falling : {T : Type 0} (limit moment : ℕ) (items : List (Item T)) (groups : List (Group T)) → AreFalling moment groups → moment < limit → AreFalling limit (with_group moment items groups)
with_falling limit moment [] groups falls lt = falling_to moment limit groups falls (omega arith)
with_falling limit moment (item ∷ items) groups falls lt = (lt, falls)

pub reverse_cons : {A : Type 0} (x : A) (xs : List A) → reverse (x ∷ xs) ≡ reverse xs ++ x ∷ []
reverse_cons x xs = reverse-append (x ∷ []) xs

pub items_cons : {T : Type 0} (group : Group T) (groups : List (Group T)) → items_in (group ∷ groups) ≡ items_in groups ++ group.items
items_cons {T} group groups =
    ap (flat_map (λ (one : Group T). one.items)) (reverse_cons group groups)
    ∙ flat_map-append (λ (one : Group T). one.items) (reverse groups) (group ∷ [])
    ∙ ap (λ (last : List (Item T)). items_in groups ++ last) (append-nil group.items)

pub with_items : {T : Type 0} (moment : ℕ) (items : List (Item T)) (groups : List (Group T)) → items_in (with_group moment items groups) ≡ items_in groups ++ items
with_items moment [] groups = sym (append-nil (items_in groups))
with_items moment (item ∷ items) groups = items_cons (record { moment = moment; items = item ∷ items }) groups

-- ---- groups up to a moment

pub none_after : {T : Type 0} (limit from : ℕ) (groups : List (Group T)) → AreFalling limit groups → limit ≤ from + 1
    → filter (λ (group : Group T). is_after (Some from) group.moment) groups ≡ []
none_after limit from [] falls le = refl
none_after limit from (group ∷ groups) falls le =
    cond-false _ _ _ (le-ltb from group.moment (omega (arith, falls.0))) ∙ none_after group.moment from groups falls.1 (omega (arith, falls.0))

pub all_between : {T : Type 0} (limit : ℕ) (from : Option ℕ) (to : ℕ) (groups : List (Group T)) → AreFalling limit groups → limit ≤ to + 1
    → filter (is_between_groups from to) groups ≡ filter (λ (group : Group T). is_after from group.moment) groups
all_between limit from to [] falls le = refl
all_between {T} limit from to (group ∷ groups) falls le =
    let rest : filter (is_between_groups from to) groups ≡ filter (λ (group : Group T). is_after from group.moment) groups =
    all_between group.moment from to groups falls.1 (omega (arith, falls.0)) in
    by (is_after from group.moment) (leb group.moment to) (le-leb group.moment to (omega (arith, falls.0))) rest
  where
    by : (a b : Bool) → b ≡ true → {xs ys : List (Group T)} → xs ≡ ys → cond (a && b) (group ∷ xs) xs ≡ cond a (group ∷ ys) ys
    by true true e same = ap (λ rest. group ∷ rest) same
    by true false e same = absurd (cc)
    by false b e same = same

-- the items up to a moment, and those after it
pub items_split : {T : Type 0} (limit : ℕ) (from : Option ℕ) (to : ℕ) (groups : List (Group T)) → AreFalling limit groups → is_after from to ≡ true
    → items_in (filter (is_between_groups from to) groups) ++ items_in (filter (λ (group : Group T). is_after (Some to) group.moment) groups)
    ≡ items_in (filter (λ (group : Group T). is_after from group.moment) groups)
items_split limit from to [] falls rises = refl
items_split {T} limit from to (group ∷ groups) falls rises =
    elim (cases_lt to group.moment) [
      | inl lt ↦
          let between : filter (is_between_groups from to) (group ∷ groups) ≡ filter (is_between_groups from to) groups =
          cond-false _ _ _ (and_right _ _ (lt-leb group.moment to lt)) in
          let after : filter (λ (group : Group T). is_after (Some to) group.moment) (group ∷ groups) ≡ group ∷ filter (λ (group : Group T). is_after (Some to) group.moment) groups =
          cond-true _ _ _ (lt-ltb to group.moment lt) in
          let all : filter (λ (group : Group T). is_after from group.moment) (group ∷ groups) ≡ group ∷ filter (λ (group : Group T). is_after from group.moment) groups =
          cond-true _ _ _ (later from to group.moment rises lt) in
          ap (λ (xs : List (Group T)). items_in xs ++ items_in (filter (λ (group : Group T). is_after (Some to) group.moment) (group ∷ groups))) between
          ∙ ap (λ (xs : List (Group T)). items_in (filter (is_between_groups from to) groups) ++ items_in xs) after
          ∙ ap (λ (xs : List (Item T)). items_in (filter (is_between_groups from to) groups) ++ xs) (items_cons group (filter (λ (group : Group T). is_after (Some to) group.moment) groups))
          ∙ sym (append_assoc (items_in (filter (is_between_groups from to) groups)) (items_in (filter (λ (group : Group T). is_after (Some to) group.moment) groups)) group.items)
          ∙ ap (λ (xs : List (Item T)). xs ++ group.items) (items_split group.moment from to groups falls.1 rises)
          ∙ sym (items_cons group (filter (λ (group : Group T). is_after from group.moment) groups))
          ∙ ap items_in (sym all)
      | inr ge ↦
          let low : AreFalling (to + 1) (group ∷ groups) = (omega arith, falls.1) in
          ap (λ (xs : List (Group T)). items_in (filter (is_between_groups from to) (group ∷ groups)) ++ items_in xs) (none_after (to + 1) to (group ∷ groups) low (omega arith))
          ∙ append-nil (items_in (filter (is_between_groups from to) (group ∷ groups)))
          ∙ ap items_in (all_between (to + 1) from to (group ∷ groups) low (omega arith))
    ]
  where
    later : (from : Option ℕ) (to moment : ℕ) → is_after from to ≡ true → to < moment → is_after from moment ≡ true
    later None to moment e lt = refl
    later (Some from) to moment e lt = lt-ltb from moment (omega (arith, ltb-true from to e))

-- all that is kept are the items after the last moment that has expired
pub split_items : {T : Type 0} (limit : ℕ) (from : Option ℕ) (sealed : List (Segment T)) (unsealed : List (Item T)) (groups : List (Group T)) → AreFalling limit groups
    → AreSplit from sealed unsealed groups
    → flat_map (λ (segment : Segment T). segment.items) sealed ++ unsealed ≡ items_in (filter (λ (group : Group T). is_after from group.moment) groups)
split_items limit from [] unsealed groups falls split = split
split_items {T} limit from (segment ∷ rest) unsealed groups falls split =
    append_assoc segment.items (flat_map (λ (segment : Segment T). segment.items) rest) unsealed
    ∙ ap (λ (xs : List (Item T)). segment.items ++ xs) (split_items limit (Some segment.sealed_at) rest unsealed groups falls split.3)
    ∙ ap (λ (xs : List (Item T)). xs ++ items_in (filter (λ (group : Group T). is_after (Some segment.sealed_at) group.moment) groups)) split.0
    ∙ items_split limit from segment.sealed_at groups falls split.2

-- there are no more groups than moments below the limit
pub falling_few : {T : Type 0} (limit : ℕ) (groups : List (Group T)) → AreFalling limit groups → length groups ≤ limit
falling_few limit [] falls = omega arith
falling_few limit (group ∷ groups) falls = omega (arith, falls.0, falling_few group.moment groups falls.1)
