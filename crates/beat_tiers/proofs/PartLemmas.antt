-- What is kept of tiers, in parts: its form, and what comes back from it.
use Rattle.std.proofs.Common.{◌≡◌, ℕ, suc, ◌+◌, ◌-◌, ◌/◌, ◌<◌, ◌≤◌, ◌==◌, ◌&&◌, Bool, true, false, nat_le, nat_lt, List, [], ◌∷◌, ◌++◌, length, map, Option, Some, slice_get, drop, get_or, arith, refl, sym, ap, ◌∙◌, add-one, drop-cons, append_assoc, append-nil}
use Rattle.std.specs.BTreeMap.{insert_entry}
use Rattle.std.specs.List.{AllByRecursion}
use Rattle.std.specs.Ordering.{match_ordering, nat_cmp}
use Rattle.std.specs.declared.cmp.Ordering.{Ordering}
use Rattle.std.proofs.lemmas.Bool.{and_parts, leb-true, ltb-true, ne_eqb}
use Rattle.std.proofs.lemmas.List.{map-append}
use Rattle.fixed_num.specs.declared.units.Record.{Record}
use Rattle.tier_settings.specs.declared.tier.Tier.{Tier}
use Rattle.beat_tiers.specs.declared.item.Item.{Item}
use Rattle.beat_tiers.specs.declared.parts.KeptItems.{KeptItems}
use Rattle.beat_tiers.specs.declared.parts.KeptRecords.{KeptRecords}
use Rattle.beat_tiers.specs.declared.parts.Segment.{Segment}
use Rattle.beat_tiers.specs.Parts.{are_kept, are_open, are_placed, are_record_tiers, are_sealed, is_behind, is_record_tier, is_sealed, last_item, restored_tier, restored_tiers, with_records}
use Rattle.beat_tiers.specs.Room.{RecordTierHeld, records_held}
use Rattle.beat_tiers.specs.Searching.{HasItems, items_in}
use Rattle.beat_tiers.specs.State.{RecordTierState}
use Rattle.beat_tiers.proofs.EntryLemmas.{cmp_greater}

and-assoc : (a b c : Bool) → (a && b) && c ≡ a && (b && c)
and-assoc true b c = refl
and-assoc false b c = refl

pub and-false : (a b : Bool) → a ≡ false → a && b ≡ false
and-false true b e = absurd cc
and-false false b e = refl

pub and-true : (a b : Bool) → a ≡ true → a && b ≡ b
and-true true b e = refl
and-true false b e = absurd cc

module _ {T : Type 0} where
  pub last-item-is : (before : Option (Item T)) (items : List (Item T)) (last : Item T) → slice_get items (length items - 1) ≡ Some last → last_item before items ≡ Some last
  last-item-is before [] last is = absurd cc
  last-item-is before (item ∷ []) last is = let e : length (item ∷ []) - 1 ≡ 0 = omega arith in sym (ap (slice_get (item ∷ [])) e) ∙ is
  last-item-is before (item ∷ next ∷ items) last is =
      let e : length (item ∷ next ∷ items) - 1 ≡ suc (length (next ∷ items) - 1) = omega arith in
      last-item-is (Some item) (next ∷ items) last (sym (ap (slice_get (item ∷ next ∷ items)) e) ∙ is)

  -- items and those behind them
  pub placed-append : (limit : ℕ) (before : Option (Item T)) (xs ys : List (Item T)) → are_placed limit before (xs ++ ys) ≡ are_placed limit before xs && are_placed limit (last_item before xs) ys
  placed-append limit before [] ys = refl
  placed-append limit before (x ∷ xs) ys =
      let here : Bool = is_behind before x && nat_lt x.place limit in
      ap (λ b. here && b) (placed-append limit (Some x) xs ys) ∙ sym (and-assoc here (are_placed limit (Some x) xs) (are_placed limit (last_item (Some x) xs) ys))

  pub sealed-have : (least last : ℕ) (segments : List (Segment T)) → are_sealed least last segments ≡ true → AllByRecursion HasItems segments
  sealed-have least last [] are = tt
  sealed-have least last (segment ∷ segments) are =
      let parts = and_parts (is_sealed least last segment) _ are in
      let here = and_parts (nat_lt 0 (length segment.items) && nat_le least segment.sealed_at) _ parts.0 in
      let some = and_parts (nat_lt 0 (length segment.items)) _ here.0 in
      (let lt = ltb-true 0 (length segment.items) some.0 in omega (arith, lt), sealed-have (segment.sealed_at + 1) last segments parts.1)

  -- the items of the next segment, and those behind them
  pub placed-next : (limit : ℕ) (before : Option (Item T)) (segments : List (Segment T)) (index : ℕ) (segment : Segment T) (unsealed : List (Item T))
      → index < length segments → segment ≡ get_or segments index segment
      → are_placed limit before (items_in (drop index segments) ++ unsealed)
      ≡ are_placed limit before segment.items && are_placed limit (last_item before segment.items) (items_in (drop (index + 1) segments) ++ unsealed)
  placed-next limit before segments index segment unsealed lt is =
      let next : drop index segments ≡ segment ∷ drop (index + 1) segments =
      drop-cons segments index segment lt ∙ ap (λ one. one ∷ drop (suc index) segments) (sym is) ∙ ap (λ n. segment ∷ drop n segments) (sym (add-one index)) in
      ap (λ (rest : List (Segment T)). are_placed limit before (items_in rest ++ unsealed)) next
      ∙ ap (are_placed limit before) (append_assoc segment.items (items_in (drop (index + 1) segments)) unsealed)
      ∙ placed-append limit before segment.items (items_in (drop (index + 1) segments) ++ unsealed)

  pub kept-have : (tier : Tier) (last limit : ℕ) (kept : KeptItems T) → are_kept tier last limit kept ≡ true → AllByRecursion HasItems kept.sealed
  kept-have tier last limit kept are =
      let parts = and_parts (nat_le (length kept.sealed) tier.extents && nat_lt (length kept.unsealed) tier.items && are_sealed 0 last kept.sealed) _ are in
      sealed-have 0 last kept.sealed (and_parts (nat_le (length kept.sealed) tier.extents && nat_lt (length kept.unsealed) tier.items) _ parts.0).1

-- ---- open records

-- the series of records lie below a number
abbrev AreEarlier : ℕ → List (ℕ × Record) → Type 0
AreEarlier limit records = AllByRecursion (λ (one : ℕ × Record). one.0 < limit) records

earlier-to : (low high : ℕ) (records : List (ℕ × Record)) → AreEarlier low records → low ≤ high → AreEarlier high records
earlier-to low high [] early le = tt
earlier-to low high (one ∷ records) early le = (omega (arith, early.0, le), earlier-to low high records early.1 le)

earlier-more : (limit : ℕ) (records : List (ℕ × Record)) (one : ℕ × Record) → AreEarlier limit records → one.0 < limit → AreEarlier limit (records ++ one ∷ [])
earlier-more limit [] one early lt = (lt, tt)
earlier-more limit (first ∷ records) one early lt = (early.0, earlier-more limit records one early.1 lt)

put-behind : (records : List (ℕ × Record)) (series : ℕ) (value : Record) → AreEarlier series records → insert_entry nat_cmp records series value ≡ records ++ (series, value) ∷ []
put-behind [] series value early = refl
put-behind (one ∷ records) series value early =
    ap (λ (order : Ordering). match_ordering order ((series, value) ∷ one ∷ records) ((one.0, value) ∷ records) (one ∷ insert_entry nat_cmp records series value)) (cmp_greater series one.0 early.0)
    ∙ ap (λ (rest : List (ℕ × Record)). one ∷ rest) (put-behind records series value early.1)

put-all : (least : ℕ) (before records : List (ℕ × Record)) → AreEarlier least before → are_open least records ≡ true → with_records before records ≡ before ++ records
put-all least before [] early are = sym (append-nil before)
put-all least before (one ∷ records) early are =
    let parts = and_parts (nat_le least one.0 && nat_lt one.0 65536) _ are in
    let low = leb-true least one.0 (and_parts (nat_le least one.0) _ parts.0).0 in
    let below : AreEarlier one.0 before = earlier-to least one.0 before early low in
    let now = earlier-more (one.0 + 1) before one (earlier-to one.0 (one.0 + 1) before below (omega arith)) (omega arith) in
    ap (λ (found : List (ℕ × Record)). with_records found records) (put-behind before one.0 one.1 below)
    ∙ put-all (one.0 + 1) (before ++ one ∷ []) records now parts.1
    ∙ append_assoc before (one ∷ []) records

-- records in the order of their series, put in one after the other
pub open-put : (records : List (ℕ × Record)) → are_open 0 records ≡ true → with_records [] records ≡ records
open-put records are = put-all 0 [] records tt are

-- ---- tiers of records

module _ (last : ℕ) (tier : Tier) (rest tiers : List Tier) (kept : KeptRecords) (more records : List KeptRecords) (first : tiers ≡ tier ∷ rest) (next : records ≡ kept ∷ more)
    (are : are_record_tiers last tiers records ≡ true) where
  both : is_record_tier last tier kept && are_record_tiers last rest more ≡ true
  both = sym (ap (λ ts. are_record_tiers last ts records) first ∙ ap (are_record_tiers last (tier ∷ rest)) next) ∙ are

  pub first-records : is_record_tier last tier kept ≡ true
  first-records = (and_parts (is_record_tier last tier kept) _ both).0

  pub later-records : are_record_tiers last rest more ≡ true
  later-records = (and_parts (is_record_tier last tier kept) _ both).1

  pub first-have : AllByRecursion HasItems kept.items.sealed
  first-have =
      kept-have tier last (last / tier.width) kept.items
      (and_parts (kept.items.before == 0) _ (and_parts (kept.items.before == 0 && are_kept tier last (last / tier.width) kept.items) _ first-records).0).1

  pub first-open : are_open 0 kept.current ≡ true
  first-open = (and_parts (kept.items.before == 0 && are_kept tier last (last / tier.width) kept.items) _ first-records).1

-- what comes back of the first, and of those behind it
pub restored-more : (before new : List RecordTierHeld) (one : RecordTierHeld) (tier : Tier) (rest tiers : List Tier) (kept : KeptRecords) (more records : List KeptRecords) (whole : List RecordTierState)
    → new ≡ before ++ one ∷ [] → records_held one ≡ restored_tier tier kept → tiers ≡ tier ∷ rest → records ≡ kept ∷ more
    → map records_held before ++ restored_tiers tiers records ≡ whole → map records_held new ++ restored_tiers rest more ≡ whole
restored-more before new one tier rest tiers kept more records whole put is first next all =
    let behind : List RecordTierState = restored_tiers rest more in
    ap (λ (held : List RecordTierHeld). map records_held held ++ behind) put
    ∙ ap (λ (states : List RecordTierState). states ++ behind) (map-append records_held before (one ∷ []))
    ∙ append_assoc (map records_held before) (records_held one ∷ []) behind
    ∙ ap (λ (state : RecordTierState). map records_held before ++ state ∷ behind) is
    ∙ ap (λ (states : List RecordTierState). map records_held before ++ states) (sym (ap (λ ts. restored_tiers ts records) first ∙ ap (restored_tiers (tier ∷ rest)) next))
    ∙ all

pub none-restored : (tiers : List Tier) (records : List KeptRecords) → length tiers ≡ 0 → restored_tiers tiers records ≡ []
none-restored [] records none = refl
none-restored (tier ∷ tiers) records none = absurd (omega (arith, none))

pub none-further : (tiers : List Tier) (records : List KeptRecords) → length records ≡ 0 → restored_tiers tiers records ≡ []
none-further [] records none = refl
none-further (tier ∷ tiers) [] none = refl
none-further (tier ∷ tiers) (one ∷ records) none = absurd (omega (arith, none))

pub none-left : (last : ℕ) (tiers : List Tier) → (length tiers == 0) ≡ are_record_tiers last tiers []
none-left last [] = refl
none-left last (tier ∷ tiers) = ne_eqb (length (tier ∷ tiers)) 0 (λ e. omega (arith, e))
