-- The slots of a bucket by series: what a slot more, and a record in a slot, makes of their records.
use Rattle.std.proofs.Common.{◌≡◌, ℕ, suc, ◌≤◌, ◌==◌, ◌||◌, Bool, true, false, cond, List, [], ◌∷◌, length, Option, Some, None, is_some, IsSome, Result, Ok, Err, IfOk, OnOk, OnErr, arith, refl, sym, ap, ◌∙◌}
use Rattle.std.specs.BTreeMap.{insert_entry, is_at}
use Rattle.std.specs.List.{AllByRecursion}
use Rattle.std.specs.List.Sorted.{IsStrictlySortedBy}
use Rattle.std.specs.Map.{keys_of, lookup}
use Rattle.std.specs.Option.{option_and_then}
use Rattle.std.specs.Ordering.{is_eq, match_ordering, nat_cmp}
use Rattle.std.specs.declared.cmp.Ordering.{Ordering}
use Rattle.std.specs.declared.cmp.Ordering.TheVariants.{Less, Equal, Greater}
use Rattle.std.proofs.lemmas.Bool.{cond-true, cond-false, eq-eqb, ne_eqb}
use Rattle.std.proofs.lemmas.Cmp.{ranked}
use Rattle.std.proofs.lemmas.Map.Keys.{sorted_head, sorted_tail}
use Rattle.fixed_num.specs.declared.units.Record.{Record}
use Rattle.beat_tiers.specs.declared.item.BeatPoint.{BeatPoint}
use Rattle.beat_tiers.specs.Room.{HasRoom, HasRoomAfter, HaveSlots, RecordTierHeld, closes, filled, has_slot}
use Rattle.beat_tiers.proofs.EntryLemmas.{cmp_less}

abbrev Slot : Type 0
Slot = ℕ × Option Record

-- every key is above a series
abbrev AreKeysAbove : ℕ → List Slot → Type 0
AreKeysAbove series slots = AllByRecursion (λ key. nat_cmp series key ≡ Less) (keys_of slots)

above_from : (low series : ℕ) (slots : List Slot) → low ≤ series → AreKeysAbove series slots → AreKeysAbove low slots
above_from low series [] le above = tt
above_from low series (slot ∷ slots) le above =
    let lt = ranked series slot.0 Less (sym above.0) in
    (cmp_less low slot.0 (omega (arith, le, lt)), above_from low series slots le above.1)

-- ---- a record in a slot

insert_prefix : (series : ℕ) (one : Record) (slots : List Slot) → AreKeysAbove series slots → insert_entry nat_cmp (filled slots) series one ≡ (series, one) ∷ filled slots
insert_prefix series one [] above = refl
insert_prefix series one (slot ∷ slots) above = by slot.1 (insert_prefix series one slots above.1)
  where
    by : (was : Option Record) → insert_entry nat_cmp (filled slots) series one ≡ (series, one) ∷ filled slots
        → insert_entry nat_cmp (filled ((slot.0, was) ∷ slots)) series one ≡ (series, one) ∷ filled ((slot.0, was) ∷ slots)
    by None rest = rest
    by (Some was) rest = ap (λ order. match_ordering order ((series, one) ∷ (slot.0, was) ∷ filled slots) ((slot.0, one) ∷ filled slots) ((slot.0, was) ∷ insert_entry nat_cmp (filled slots) series one)) above.0

pub filled_with : (series : ℕ) (one : Record) (slots : List Slot) → IsStrictlySortedBy nat_cmp (keys_of slots)
    → filled (insert_entry nat_cmp slots series (Some one)) ≡ insert_entry nat_cmp (filled slots) series one
filled_with series one [] sorted = refl
filled_with series one (slot ∷ slots) sorted =
    by (nat_cmp series slot.0) slot.1 refl (sorted_head nat_cmp slot.0 (keys_of slots) sorted) (filled_with series one slots (sorted_tail nat_cmp slot.0 (keys_of slots) sorted))
  where
    by : (order : Ordering) (was : Option Record) → nat_cmp series slot.0 ≡ order → AreKeysAbove slot.0 slots
        → filled (insert_entry nat_cmp slots series (Some one)) ≡ insert_entry nat_cmp (filled slots) series one
        → filled (match_ordering order ((series, Some one) ∷ (slot.0, was) ∷ slots) ((slot.0, Some one) ∷ slots) ((slot.0, was) ∷ insert_entry nat_cmp slots series (Some one)))
        ≡ insert_entry nat_cmp (filled ((slot.0, was) ∷ slots)) series one
    by Less was order above rest =
        let lt = ranked series slot.0 Less (sym order) in
        sym (insert_prefix series one ((slot.0, was) ∷ slots) (order, above_from series slot.0 slots (omega (arith, lt)) above))
    by Equal None order above rest =
        let same : series ≡ slot.0 = ranked series slot.0 Equal (sym order) in
        ap (λ n. (n, one) ∷ filled slots) (sym same) ∙ sym (insert_prefix series one slots (above_from series slot.0 slots (omega (arith, same)) above))
    by Equal (Some was) order above rest =
        sym (ap (λ order. match_ordering order ((series, one) ∷ (slot.0, was) ∷ filled slots) ((slot.0, one) ∷ filled slots) ((slot.0, was) ∷ insert_entry nat_cmp (filled slots) series one)) order)
    by Greater None order above rest = rest
    by Greater (Some was) order above rest =
        ap (λ rest. (slot.0, was) ∷ rest) rest
        ∙ sym (ap (λ order. match_ordering order ((series, one) ∷ (slot.0, was) ∷ filled slots) ((slot.0, one) ∷ filled slots) ((slot.0, was) ∷ insert_entry nat_cmp (filled slots) series one)) order)

-- ---- a record put into a slot that is there

none_found : (found : Option (Option Record)) → is_some found ≡ true → found ≡ None → ⊥
none_found found e none = let no : false ≡ true = ap is_some (sym none) ∙ e in absurd cc

pub put_in : {E : Type 0} (result : Result (Option (Option Record)) E) (slots new : List Slot) (series : ℕ) (one : Record) → IsStrictlySortedBy nat_cmp (keys_of slots)
    → is_some (lookup (is_at (nat_cmp series)) slots) ≡ true
    → OnOk result (new ≡ insert_entry nat_cmp slots series (Some one)) → OnErr result (lookup (is_at (nat_cmp series)) slots ≡ None)
    → filled new ≡ insert_entry nat_cmp (filled slots) series one
put_in (Ok was) slots new series one sorted there put absent = ap filled put ∙ filled_with series one slots sorted
put_in (Err failed) slots new series one sorted there put absent = absurd (none_found (lookup (is_at (nat_cmp series)) slots) there absent)

pub put_keys : {E : Type 0} (result : Result (Option (Option Record)) E) (slots new : List Slot) (series : ℕ) → is_some (lookup (is_at (nat_cmp series)) slots) ≡ true
    → IfOk result (λ was. was ≡ lookup (is_at (nat_cmp series)) slots) → IfOk result (λ was. IsSome was → keys_of new ≡ keys_of slots) → OnErr result (lookup (is_at (nat_cmp series)) slots ≡ None)
    → keys_of new ≡ keys_of slots
put_keys (Ok was) slots new series there is stay absent = stay (ap is_some is ∙ there)
put_keys (Err failed) slots new series there is stay absent = absurd (none_found (lookup (is_at (nat_cmp series)) slots) there absent)

-- ---- a slot more

pub filled_still : (series : ℕ) (slots : List Slot) → is_some (lookup (is_at (nat_cmp series)) slots) ≡ false → filled (insert_entry nat_cmp slots series None) ≡ filled slots
filled_still series [] none = refl
filled_still series (slot ∷ slots) none = by (nat_cmp series slot.0) slot.1 none (filled_still series slots)
  where
    by : (order : Ordering) (was : Option Record) → is_some (cond (is_eq order) (Some was) (lookup (is_at (nat_cmp series)) slots)) ≡ false
        → (is_some (lookup (is_at (nat_cmp series)) slots) ≡ false → filled (insert_entry nat_cmp slots series None) ≡ filled slots)
        → filled (match_ordering order ((series, None) ∷ (slot.0, was) ∷ slots) ((slot.0, None) ∷ slots) ((slot.0, was) ∷ insert_entry nat_cmp slots series None)) ≡ filled ((slot.0, was) ∷ slots)
    by Less was none rest = refl
    by Equal was none rest = absurd cc
    by Greater None none rest = rest none
    by Greater (Some was) none rest = ap (λ rest. (slot.0, was) ∷ rest) (rest none)

or_right : (a b : Bool) → b ≡ true → a || b ≡ true
or_right true b e = refl
or_right false b e = e

or_more : (a b c : Bool) → (b ≡ true → c ≡ true) → a || b ≡ true → a || c ≡ true
or_more true b c more e = refl
or_more false b c more e = more e

pub slot_stays : (series : ℕ) (slot : Option Record) (other : ℕ) (slots : List Slot) → has_slot slots other ≡ true → has_slot (insert_entry nat_cmp slots series slot) other ≡ true
slot_stays series new other [] has = absurd cc
slot_stays series new other (slot ∷ slots) has = by (nat_cmp series slot.0) has (slot_stays series new other slots)
  where
    by : (order : Ordering) → (other == slot.0) || has_slot slots other ≡ true → (has_slot slots other ≡ true → has_slot (insert_entry nat_cmp slots series new) other ≡ true)
        → has_slot (match_ordering order ((series, new) ∷ slot ∷ slots) ((slot.0, new) ∷ slots) (slot ∷ insert_entry nat_cmp slots series new)) other ≡ true
    by Less has rest = or_right (other == series) ((other == slot.0) || has_slot slots other) has
    by Equal has rest = has
    by Greater has rest = or_more (other == slot.0) (has_slot slots other) (has_slot (insert_entry nat_cmp slots series new) other) rest has

pub slot_made : (series : ℕ) (slot : Option Record) (slots : List Slot) → has_slot (insert_entry nat_cmp slots series slot) series ≡ true
slot_made series new [] = ap (λ b. b || false) (eq-eqb series series refl)
slot_made series new (slot ∷ slots) = by (nat_cmp series slot.0) refl (slot_made series new slots)
  where
    by : (order : Ordering) → nat_cmp series slot.0 ≡ order → has_slot (insert_entry nat_cmp slots series new) series ≡ true
        → has_slot (match_ordering order ((series, new) ∷ slot ∷ slots) ((slot.0, new) ∷ slots) (slot ∷ insert_entry nat_cmp slots series new)) series ≡ true
    by Less order rest = ap (λ b. b || ((series == slot.0) || has_slot slots series)) (eq-eqb series series refl)
    by Equal order rest = ap (λ b. b || has_slot slots series) (eq-eqb series slot.0 (ranked series slot.0 Equal (sym order)))
    by Greater order rest = or_right (series == slot.0) (has_slot (insert_entry nat_cmp slots series new) series) rest

-- a look-up finds exactly the series that have a slot
pub slot_found : (series : ℕ) (slots : List Slot) → is_some (lookup (is_at (nat_cmp series)) slots) ≡ has_slot slots series
slot_found series [] = refl
slot_found series (slot ∷ slots) = by (nat_cmp series slot.0) refl (slot_found series slots)
  where
    by : (order : Ordering) → nat_cmp series slot.0 ≡ order → is_some (lookup (is_at (nat_cmp series)) slots) ≡ has_slot slots series
        → is_some (cond (is_eq order) (Some slot.1) (lookup (is_at (nat_cmp series)) slots)) ≡ (series == slot.0) || has_slot slots series
    by Less order rest =
        let lt = ranked series slot.0 Less (sym order) in
        rest ∙ sym (ap (λ b. b || has_slot slots series) (ne_eqb series slot.0 (λ e. omega (arith, lt, e))))
    by Equal order rest = sym (ap (λ b. b || has_slot slots series) (eq-eqb series slot.0 (ranked series slot.0 Equal (sym order))))
    by Greater order rest =
        let gt = ranked series slot.0 Greater (sym order) in
        rest ∙ sym (ap (λ b. b || has_slot slots series) (ne_eqb series slot.0 (λ e. omega (arith, gt, e))))

-- ---- what a look-up finds

none_above : (series : ℕ) (slots : List Slot) → AreKeysAbove series slots → lookup (λ key. series == key) (filled slots) ≡ None
none_above series [] above = refl
none_above series (slot ∷ slots) above = by slot.1 (none_above series slots above.1)
  where
    by : (was : Option Record) → lookup (λ key. series == key) (filled slots) ≡ None → lookup (λ key. series == key) (filled ((slot.0, was) ∷ slots)) ≡ None
    by None rest = rest
    by (Some was) rest =
        let lt = ranked series slot.0 Less (sym above.0) in
        cond-false (series == slot.0) (Some was) (lookup (λ key. series == key) (filled slots)) (ne_eqb series slot.0 (λ e. omega (arith, lt, e))) ∙ rest

pub lookup_filled : (series : ℕ) (slots : List Slot) → IsStrictlySortedBy nat_cmp (keys_of slots)
    → lookup (λ key. series == key) (filled slots) ≡ option_and_then (λ was. was) (lookup (is_at (nat_cmp series)) slots)
lookup_filled series [] sorted = refl
lookup_filled series (slot ∷ slots) sorted =
    by (nat_cmp series slot.0) slot.1 refl (sorted_head nat_cmp slot.0 (keys_of slots) sorted) (lookup_filled series slots (sorted_tail nat_cmp slot.0 (keys_of slots) sorted))
  where
    other : (was : Option Record) → (series ≡ slot.0 → ⊥) → lookup (λ key. series == key) (filled ((slot.0, was) ∷ slots)) ≡ lookup (λ key. series == key) (filled slots)
    other None ne = refl
    other (Some was) ne = cond-false (series == slot.0) (Some was) (lookup (λ key. series == key) (filled slots)) (ne_eqb series slot.0 ne)

    by : (order : Ordering) (was : Option Record) → nat_cmp series slot.0 ≡ order → AreKeysAbove slot.0 slots
        → lookup (λ key. series == key) (filled slots) ≡ option_and_then (λ was. was) (lookup (is_at (nat_cmp series)) slots)
        → lookup (λ key. series == key) (filled ((slot.0, was) ∷ slots)) ≡ option_and_then (λ was. was) (cond (is_eq order) (Some was) (lookup (is_at (nat_cmp series)) slots))
    by Less was order above rest =
        let lt = ranked series slot.0 Less (sym order) in
        other was (λ e. omega (arith, lt, e)) ∙ rest
    by Equal None order above rest =
        let same : series ≡ slot.0 = ranked series slot.0 Equal (sym order) in
        none_above series slots (above_from series slot.0 slots (omega (arith, same)) above)
    by Equal (Some was) order above rest = cond-true (series == slot.0) (Some was) (lookup (λ key. series == key) (filled slots)) (eq-eqb series slot.0 (ranked series slot.0 Equal (sym order)))
    by Greater was order above rest =
        let gt = ranked series slot.0 Greater (sym order) in
        other was (λ e. omega (arith, gt, e)) ∙ rest

-- ---- how many

pub filled_few : (slots : List Slot) → length (filled slots) ≤ length slots
filled_few [] = omega arith
filled_few (slot ∷ slots) = by slot.1 (filled_few slots)
  where
    by : (was : Option Record) → length (filled slots) ≤ length slots → length (filled ((slot.0, was) ∷ slots)) ≤ suc (length slots)
    by None rest = omega (arith, rest)
    by (Some was) rest = omega (arith, rest)

-- a beat that closes has memory where the slots that follow serve its points
pub room_behind : {E : Type 0} (result : Result (Unit {0}) E) (last moment : ℕ) (points : List BeatPoint) (held : RecordTierHeld) → closes last moment held ≡ true
    → HasRoom (length held.slots) held.segments → OnOk result (HaveSlots held.next points) → OnOk result (HasRoomAfter last moment points held)
room_behind (Ok done) last moment points held is room have =
    (λ e. ((omega (arith, filled_few held.slots, room.0), room.1), have), λ e. let no : false ≡ true = sym e ∙ is in absurd cc)
room_behind (Err failed) last moment points held is room have = tt
