-- What is kept of the tiers of some beats is in form, and they come back from it.
use Rattle.std.proofs.Common.{◌≡◌, ℕ, zero, suc, ◌+◌, ◌/◌, ◌<◌, ◌≤◌, ◌==◌, ◌&&◌, ◌||◌, ◌⊎◌, Bool, true, false, cond, min, nat_le, nat_lt, List, [], ◌∷◌, length, map, take, inl, inr, Option, Some, None, slice_get, arith, refl, sym, ap, subst, ◌∙◌}
use Rattle.std.specs.List.{cons_option}
use Rattle.std.specs.Option.{option_map}
use Rattle.std.proofs.lemmas.Bool.{and_from, and_parts, cond-true, eq-eqb, eqb-true, le-leb, leb-true, lt-ltb, ltb-true}
use Rattle.std.proofs.lemmas.Option.{none-some, same_Some}
use Rattle.std.proofs.lemmas.List.{length-map, length-reverse}
use Rattle.fixed_num.specs.declared.units.Record.{Record}
use Rattle.tier_settings.specs.declared.tier.Tier.{Tier}
use Rattle.beat_tiers.specs.declared.item.Item.{Item}
use Rattle.beat_tiers.specs.declared.item.Stepped.{Stepped}
use Rattle.beat_tiers.specs.declared.parts.KeptItems.{KeptItems}
use Rattle.beat_tiers.specs.declared.parts.KeptRecords.{KeptRecords}
use Rattle.beat_tiers.specs.declared.parts.Segment.{Segment}
use Rattle.beat_tiers.specs.Beats.{TierBeat, last, record_of, series_limit}
use Rattle.beat_tiers.specs.Floors.{Cuts, cuts_of, expired_of}
use Rattle.beat_tiers.specs.Parts.{are_in_form, are_kept, are_open, are_placed, are_record_tiers, are_sealed, is_behind, is_record_tier, kept_of, restored, restored_tier, restored_tiers}
use Rattle.beat_tiers.specs.Segments.{items_of}
use Rattle.beat_tiers.specs.State.{AreClosed, RecordTierState, TiersState}
use Rattle.beat_tiers.specs.Tiers.{AreBeats, AreOrdered, AreRecordTiersOf, AreSegmentsOf, AreSplit, AreTiersOf, Group, IsRecordTierOf, is_after, points_given, records_given}
use Rattle.beat_tiers.proofs.EntryLemmas.{limit_is}
use Rattle.beat_tiers.proofs.GivenLemmas.{AreBelow, ArePlaced, cuts_less, entries, kept_below, kept_ordered, points_fall, points_placed, records_fall, records_placed, since_few}
use Rattle.beat_tiers.proofs.GroupLemmas.{AreFalling}
use Rattle.beat_tiers.proofs.SegmentLemmas.{AreLess, ends, length_take, less-reverse, less-take}

module _ {T : Type 0} where
  behind : (before item : Item T) → (before.place < item.place) ⊎ ((before.place ≡ item.place) × (before.series < item.series)) → is_behind (Some before) item ≡ true
  behind before item (inl lt) = ap (λ b. b || (before.place == item.place && nat_lt before.series item.series)) (lt-ltb before.place item.place lt)
  behind before item (inr same) =
      or-true (nat_lt before.place item.place) _ (and_from _ _ (eq-eqb before.place item.place same.0) (lt-ltb before.series item.series same.1))
    where
      or-true : (a b : Bool) → b ≡ true → a || b ≡ true
      or-true true b e = refl
      or-true false b e = e

  placed-on : (limit : ℕ) (before : Item T) (items : List (Item T)) → AreOrdered (before ∷ items) → AreBelow limit items → are_placed limit (Some before) items ≡ true
  placed-on limit before [] ordered below = refl
  placed-on limit before (item ∷ items) ordered below =
      and_from _ _ (and_from _ _ (behind before item ordered.0) (lt-ltb item.place limit below.0)) (placed-on limit item items ordered.1 below.1)

  pub placed-all : (limit : ℕ) (items : List (Item T)) → AreOrdered items → AreBelow limit items → are_placed limit None items ≡ true
  placed-all limit [] ordered below = refl
  placed-all limit (item ∷ items) ordered below = and_from _ _ (lt-ltb item.place limit below.0) (placed-on limit item items ordered below.1)

  sealed-all : (from : Option ℕ) (least last : ℕ) (segments : List (Segment T)) (unsealed : List (Item T)) (groups : List (Group T))
      → ((moment : ℕ) → is_after from moment ≡ true → least ≤ moment) → AreLess (last + 1) (ends segments) → AreSplit from segments unsealed groups
      → are_sealed least last segments ≡ true
  sealed-all from least last [] unsealed groups low less split = refl
  sealed-all from least last (segment ∷ segments) unsealed groups low less split =
      and_from _ _
      (and_from _ _ (and_from _ _ (lt-ltb 0 (length segment.items) (omega (arith, split.1))) (le-leb least segment.sealed_at (low segment.sealed_at split.2)))
      (le-leb segment.sealed_at last (omega (arith, less.0))))
      (sealed-all (Some segment.sealed_at) (segment.sealed_at + 1) last segments unsealed groups (λ moment e. let lt = ltb-true segment.sealed_at moment e in omega (arith, lt)) less.1 split.3)

  -- what is kept of a tier
  kept-all : (number : ℕ) (tier : Tier) (cuts : Cuts) (now limit : ℕ) (groups : List (Group T)) (kept : KeptItems T)
      → cuts.since < tier.items → AreLess (now + 1) cuts.sealed → AreFalling (now + 1) groups → ArePlaced limit groups → AreSegmentsOf number tier cuts groups kept
      → are_kept tier now limit kept ≡ true
  kept-all number tier cuts now limit groups kept few less falls placed are =
      let size : length kept.sealed ≡ min tier.extents (length cuts.sealed) =
      sym (length-map kept.sealed (λ (segment : Segment T). segment.sealed_at)) ∙ ap length are.sealed ∙ length-reverse (take tier.extents cuts.sealed) ∙ length_take cuts.sealed tier.extents in
      let ends_less : AreLess (now + 1) (ends kept.sealed) = subst (AreLess (now + 1)) (sym are.sealed) (less-reverse (now + 1) (take tier.extents cuts.sealed) (less-take (now + 1) tier.extents cuts.sealed less)) in
      and_from _ _
      (and_from _ _ (and_from _ _ (le-leb (length kept.sealed) tier.extents (omega (arith, size))) (lt-ltb (length kept.unsealed) tier.items (omega (arith, are.since, few))))
      (sealed-all (expired_of tier cuts) 0 now kept.sealed kept.unsealed groups (λ moment e. omega arith) ends_less are.split))
      (placed-all limit (items_of kept) (kept_ordered number tier cuts (now + 1) limit groups kept falls placed are) (kept_below number tier cuts (now + 1) limit groups kept falls placed are))

-- ---- open records

open-low : (low high : ℕ) (records : List (ℕ × Record)) → are_open high records ≡ true → low ≤ high → are_open low records ≡ true
open-low low high [] are le = refl
open-low low high (one ∷ records) are le =
    let parts = and_parts (nat_le high one.0 && nat_lt one.0 65536) _ are in
    let here = and_parts (nat_le high one.0) (nat_lt one.0 65536) parts.0 in
    let least = leb-true high one.0 here.0 in
    and_from _ _ (and_from _ _ (le-leb low one.0 (omega (arith, least, le))) here.1) parts.1

open-entries : (found : ℕ → Option Record) (from count : ℕ) → from + count ≤ 65536 → are_open from (entries found from count) ≡ true
open-entries found from zero few = refl
open-entries found from (suc count) few = by (found from) (open-entries found (from + 1) count (omega arith))
  where
    by : (one : Option Record) → are_open (from + 1) (entries found (from + 1) count) ≡ true → are_open from (cons_option (option_map (λ one. (from, one)) one) (entries found (from + 1) count)) ≡ true
    by None rest = open-low from (from + 1) (entries found (from + 1) count) rest (omega arith)
    by (Some one) rest = and_from _ _ (and_from _ _ (le-leb from from (omega arith)) (lt-ltb from 65536 (omega arith))) rest

-- ---- all tiers

record-tier-all : (beats : List TierBeat) (number now : ℕ) (state : RecordTierState) → now ≡ last beats → AreBeats beats → IsRecordTierOf beats number state → is_record_tier now state.tier (kept_of state) ≡ true
record-tier-all beats number now state same beats_are is =
    subst (λ n. is_record_tier n state.tier (kept_of state) ≡ true) (sym same)
    (and_from _ _
    (and_from _ _ (eq-eqb state.segments.before 0 is.uncounted)
    (kept-all number state.tier (cuts_of number state.tier beats) (last beats) (last beats / state.tier.width) (records_given state.tier.width beats) state.segments
    (since_few number state.tier beats is.settings.items) (cuts_less number state.tier beats beats_are)
    (records_fall state.tier.width beats beats_are) (records_placed state.tier.width beats is.settings.width beats_are) is.segments))
    (ap (are_open 0) is.current ∙ open-entries (record_of state.tier.width (last beats / state.tier.width) beats) 0 series_limit (omega (arith, limit_is))))

record-tiers-all : (beats : List TierBeat) (number now : ℕ) (states : List RecordTierState) → now ≡ last beats → AreBeats beats → AreRecordTiersOf beats number states
    → are_record_tiers now (map (λ (one : RecordTierState). one.tier) states) (map kept_of states) ≡ true
record-tiers-all beats number now [] same beats_are are = refl
record-tiers-all beats number now (state ∷ states) same beats_are are =
    and_from _ _ (record-tier-all beats number now state same beats_are are.0) (record-tiers-all beats (number + 1) now states same beats_are are.1)

pub tiers-again : (states : List RecordTierState) → restored_tiers (map (λ (one : RecordTierState). one.tier) states) (map kept_of states) ≡ states
tiers-again [] = refl
tiers-again (state ∷ states) = ap (λ (rest : List RecordTierState). state ∷ rest) (tiers-again states)

-- The tiers of some beats come back from what is kept of them.
pub restored-again : (set : List Tier) (beats : List TierBeat) (state : TiersState) → AreTiersOf set beats state
    → restored state.first (map (λ (one : RecordTierState). one.tier) state.records) state.last state.points (map kept_of state.records) ≡ Some state
restored-again set beats state are =
    let points : are_kept state.first state.last (state.last + 1) state.points ≡ true =
    subst (λ n. are_kept state.first n (n + 1) state.points ≡ true) (sym are.last_is)
    (kept-all 0 state.first (cuts_of 0 state.first beats) (last beats) (last beats + 1) (points_given beats) state.points
    (since_few 0 state.first beats are.settings.items) (cuts_less 0 state.first beats are.beats_are)
    (points_fall beats are.beats_are) (points_placed beats are.beats_are) are.points) in
    cond-true _ _ _ (and_from _ _ points (record-tiers-all beats 1 state.last state.records are.last_is are.beats_are are.records))
    ∙ ap (λ (records : List RecordTierState). Some (record { last = state.last; first = state.first; points = state.points; records = records })) (tiers-again state.records)

-- ---- what came back

module _ {T : Type 0} where
  in-turn : (before item : Item T) → is_behind (Some before) item ≡ true → (before.place < item.place) ⊎ ((before.place ≡ item.place) × (before.series < item.series))
  in-turn before item is = by (nat_lt before.place item.place) refl is
    where
      by : (b : Bool) → nat_lt before.place item.place ≡ b → b || (before.place == item.place && nat_lt before.series item.series) ≡ true
          → (before.place < item.place) ⊎ ((before.place ≡ item.place) × (before.series < item.series))
      by true e is = inl (ltb-true before.place item.place e)
      by false e is =
          let parts = and_parts (before.place == item.place) _ is in
          inr (eqb-true before.place item.place parts.0, ltb-true before.series item.series parts.1)

  ordered-on : (limit : ℕ) (before : Item T) (items : List (Item T)) → are_placed limit (Some before) items ≡ true → AreOrdered (before ∷ items)
  ordered-on limit before [] are = tt
  ordered-on limit before (item ∷ items) are =
      let parts = and_parts (is_behind (Some before) item && nat_lt item.place limit) _ are in
      (in-turn before item (and_parts (is_behind (Some before) item) _ parts.0).0, ordered-on limit item items parts.1)

  pub ordered-all : (limit : ℕ) (items : List (Item T)) → are_placed limit None items ≡ true → AreOrdered items
  ordered-all limit [] are = tt
  ordered-all limit (item ∷ items) are = ordered-on limit item items (and_parts (nat_lt item.place limit) _ are).1

  pub below-all : (limit : ℕ) (before : Option (Item T)) (items : List (Item T)) → are_placed limit before items ≡ true → AreBelow limit items
  below-all limit before [] are = tt
  below-all limit before (item ∷ items) are =
      let parts = and_parts (is_behind before item && nat_lt item.place limit) _ are in
      (ltb-true item.place limit (and_parts (is_behind before item) _ parts.0).1, below-all limit (Some item) items parts.1)

  pub kept-placed : (tier : Tier) (last limit : ℕ) (kept : KeptItems T) → are_kept tier last limit kept ≡ true → are_placed limit None (items_of kept) ≡ true
  kept-placed tier last limit kept are = (and_parts (nat_le (length kept.sealed) tier.extents && nat_lt (length kept.unsealed) tier.items && are_sealed 0 last kept.sealed) _ are).1

  kept-ordered : (tier : Tier) (last limit : ℕ) (kept : KeptItems T) → are_kept tier last limit kept ≡ true → AreOrdered (items_of kept)
  kept-ordered tier last limit kept are = ordered-all limit (items_of kept) (kept-placed tier last limit kept are)

  kept-within : (tier : Tier) (last limit : ℕ) (kept : KeptItems T) → are_kept tier last limit kept ≡ true → AreBelow limit (items_of kept)
  kept-within tier last limit kept are = below-all limit None (items_of kept) (kept-placed tier last limit kept are)

tier-there : (last : ℕ) (tiers : List Tier) (records : List KeptRecords) (place : ℕ) (one : RecordTierState) → are_record_tiers last tiers records ≡ true
    → slice_get (restored_tiers tiers records) place ≡ Some one → is_record_tier last one.tier (kept_of one) ≡ true
tier-there last [] records place one are there = absurd (none-some one there)
tier-there last (tier ∷ tiers) [] place one are there = absurd cc
tier-there last (tier ∷ tiers) (kept ∷ others) zero one are there =
    subst (λ (state : RecordTierState). is_record_tier last state.tier (kept_of state) ≡ true) (same_Some (restored_tier tier kept) one there) (and_parts (is_record_tier last tier kept) _ are).0
tier-there last (tier ∷ tiers) (kept ∷ others) (suc place) one are there = tier-there last tiers others place one (and_parts (is_record_tier last tier kept) _ are).1 there

-- ---- what is kept of what came back

kept-again : (last : ℕ) (tiers : List Tier) (records : List KeptRecords) → are_record_tiers last tiers records ≡ true
    → (map (λ (one : RecordTierState). one.tier) (restored_tiers tiers records) ≡ tiers) × (map kept_of (restored_tiers tiers records) ≡ records)
kept-again last [] [] are = (refl, refl)
kept-again last (tier ∷ tiers) [] are = absurd cc
kept-again last [] (one ∷ others) are = absurd cc
kept-again last (tier ∷ tiers) (one ∷ others) are =
    let rest = kept-again last tiers others (and_parts (is_record_tier last tier one) _ are).1 in
    (ap (λ (more : List Tier). tier ∷ more) rest.0, ap (λ (more : List KeptRecords). one ∷ more) rest.1)

module _ (first : Tier) (others : List Tier) (last : ℕ) (points : KeptItems Stepped) (records : List KeptRecords) (state : TiersState) where
  abbrev whole : TiersState
  whole = record { last = last; first = first; points = points; records = restored_tiers others records }

  record AreBack : Type 0 where
    form : are_in_form first others last points records ≡ true
    same : whole ≡ state

  back : restored first others last points records ≡ Some state → AreBack
  back is = by (are_in_form first others last points records) refl is
    where
      by : (b : Bool) → are_in_form first others last points records ≡ b → cond b (Some whole) None ≡ Some state → AreBack
      by true e is = record { form = e; same = same_Some whole state is }
      by false e is = absurd (none-some state is)

  module _ (is : restored first others last points records ≡ Some state) where
    tiers-form : are_record_tiers last others records ≡ true
    tiers-form = (and_parts (are_kept first last (last + 1) points) _ (back is).form).1

    pub same-first : state.first ≡ first
    same-first = ap (λ (s : TiersState). s.first) (sym (back is).same)

    pub same-last : state.last ≡ last
    same-last = ap (λ (s : TiersState). s.last) (sym (back is).same)

    pub same-points : state.points ≡ points
    same-points = ap (λ (s : TiersState). s.points) (sym (back is).same)

    pub same-tiers : map (λ (one : RecordTierState). one.tier) state.records ≡ others
    same-tiers = ap (λ (s : TiersState). map (λ (one : RecordTierState). one.tier) s.records) (sym (back is).same) ∙ (kept-again last others records tiers-form).0

    pub same-records : map kept_of state.records ≡ records
    same-records = ap (λ (s : TiersState). map kept_of s.records) (sym (back is).same) ∙ (kept-again last others records tiers-form).1

    pub back-ordered : AreOrdered (items_of state.points)
    back-ordered =
        let kept = (and_parts (are_kept first last (last + 1) points) _ (back is).form).0 in
        subst (λ (s : TiersState). AreOrdered (items_of s.points)) (back is).same (kept-ordered first last (last + 1) points kept)

    module _ (place : ℕ) (one : RecordTierState) (there : slice_get state.records place ≡ Some one) where
      one-form : are_kept one.tier last (last / one.tier.width) one.segments ≡ true
      one-form =
          let here : slice_get (restored_tiers others records) place ≡ Some one = ap (λ (s : TiersState). slice_get s.records place) (back is).same ∙ there in
          (and_parts (one.segments.before == 0) _ (and_parts (one.segments.before == 0 && are_kept one.tier last (last / one.tier.width) one.segments) _ (tier-there last others records place one tiers-form here)).0).1

      pub back-each-ordered : AreOrdered (items_of one.segments)
      back-each-ordered = kept-ordered one.tier last (last / one.tier.width) one.segments one-form

      pub back-each-closed : AreClosed state.last one
      back-each-closed =
          subst (λ n. AreBelow (n / one.tier.width) (items_of one.segments)) (sym same-last)
          (kept-within one.tier last (last / one.tier.width) one.segments one-form)
