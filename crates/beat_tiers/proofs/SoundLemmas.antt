-- Sound tiers stay sound with a beat more.
use Rattle.std.proofs.Common.{◌≡◌, ℕ, ◌+◌, ◌/◌, ◌<◌, ◌≤◌, ◌==◌, ◌&&◌, ◌^◌, true, nat_le, nat_lt, List, [], ◌∷◌, length, map, inl, inr, Option, Some, None, arith, refl, sym, subst}
use Rattle.std.specs.BTreeMap.{insert_entry}
use Rattle.std.specs.List.{AllByRecursion}
use Rattle.std.specs.Map.{lookup}
use Rattle.std.specs.Option.{option_map_or}
use Rattle.std.specs.Ordering.{match_ordering, nat_cmp}
use Rattle.std.specs.declared.cmp.Ordering.{Ordering}
use Rattle.std.specs.declared.cmp.Ordering.TheVariants.{Less, Equal, Greater}
use Rattle.std.proofs.lemmas.Bool.{and_from, and_parts, cases_lt, eq-eqb, eqb-true, le-leb, leb-true, lt-ltb, ltb-true}
use Rattle.std.proofs.lemmas.Cmp.{ranked}
use Rattle.std.proofs.lemmas.List.{length-map}
use Rattle.fixed_num.specs.declared.units.Record.{Record}
use Rattle.list_lemmas.proofs.Every.{all-append}
use Rattle.storage_number.specs.declared.point.Point.{Point as Value}
use Rattle.storage_number.specs.Word.{point_of}
use Rattle.tier_rollup.specs.Growing.{with_value}
use Rattle.tier_settings.specs.declared.tier.Tier.{Tier}
use Rattle.beat_tiers.specs.declared.item.BeatPoint.{BeatPoint}
use Rattle.beat_tiers.specs.declared.item.Item.{Item}
use Rattle.beat_tiers.specs.declared.item.Stepped.{Stepped}
use Rattle.beat_tiers.specs.declared.parts.KeptItems.{KeptItems}
use Rattle.beat_tiers.specs.declared.segments.ItemKind.TheVariants.{Points, Records}
use Rattle.beat_tiers.specs.Beats.{AreAbove}
use Rattle.beat_tiers.specs.Parts.{are_kept, are_open, are_record_tiers, is_record_tier, kept_of}
use Rattle.beat_tiers.specs.Segments.{items_of}
use Rattle.beat_tiers.specs.Sound.{tier_of, AreSound, HaveChanged, HaveSealed, IsBeatAfter, IsBeatPoint, IsPointItem, IsRecordOfSeries, SealsAtMostOne}
use Rattle.beat_tiers.specs.State.{RecordTierState, TiersState, after_beat, no_beats, no_records, point_items, points_after, record_items, record_tier_after, with_point, with_points}
use Rattle.beat_tiers.specs.Tiers.{IsTier}
use Rattle.beat_tiers.proofs.GivenLemmas.{AreAt, at_points, beat_of, bucket_rises}
use Rattle.beat_tiers.proofs.SegmentLemmas.{given, given_uncounted}
use Rattle.beat_tiers.proofs.SoundTier.{IsGiven, IsKept, all-right, given-is, given-none, is-kept, kept-is}
use Rattle.beat_tiers.proofs.TierLemmas.{after_given, closed_open, closed_shut, shut}

-- ---- open records

open-with : (least : ℕ) (records : List (ℕ × Record)) (series : ℕ) (value : Record) → are_open least records ≡ true → least ≤ series → series < 65536
    → are_open least (insert_entry nat_cmp records series value) ≡ true
open-with least [] series value are low high = and_from _ _ (and_from _ _ (le-leb least series low) (lt-ltb series 65536 high)) refl
open-with least (one ∷ records) series value are low high =
    let parts = and_parts (nat_le least one.0 && nat_lt one.0 65536) _ are in
    by (nat_cmp series one.0) refl parts.0 parts.1 (λ behind. open-with (one.0 + 1) records series value parts.1 behind high)
  where
    by : (order : Ordering) → nat_cmp series one.0 ≡ order → nat_le least one.0 && nat_lt one.0 65536 ≡ true → are_open (one.0 + 1) records ≡ true
        → (one.0 + 1 ≤ series → are_open (one.0 + 1) (insert_entry nat_cmp records series value) ≡ true)
        → are_open least (match_ordering order ((series, value) ∷ one ∷ records) ((one.0, value) ∷ records) (one ∷ insert_entry nat_cmp records series value)) ≡ true
    by Less is here others rest =
        let lt = ranked series one.0 Less (sym is) in
        and_from _ _ (and_from _ _ (le-leb least series low) (lt-ltb series 65536 high))
        (and_from _ _ (and_from _ _ (le-leb (series + 1) one.0 (omega (arith, lt))) (and_parts (nat_le least one.0) _ here).1) others)
    by Equal is here others rest = and_from _ _ here others
    by Greater is here others rest =
        let gt = ranked series one.0 Greater (sym is) in
        and_from _ _ here (rest (omega (arith, gt)))

open-point : (current : List (ℕ × Record)) (point : BeatPoint) → are_open 0 current ≡ true → point.series < 65536 → are_open 0 (with_point current point) ≡ true
open-point current point are high = by (point_of point.word)
  where
    with_one : Value → List (ℕ × Record)
    with_one value = insert_entry nat_cmp current point.series (with_value (lookup (λ key. point.series == key) current) value.units value.anomalous)

    by : (value : Option Value) → are_open 0 (option_map_or with_one value current) ≡ true
    by None = are
    by (Some value) = open-with 0 current point.series (with_value (lookup (λ key. point.series == key) current) value.units value.anomalous) are (omega arith) high

open-points : (least : ℕ) (current : List (ℕ × Record)) (points : List BeatPoint) → are_open 0 current ≡ true → AreAbove least points → are_open 0 (with_points current points) ≡ true
open-points least current [] are above = are
open-points least current (point ∷ points) are above = open-points (point.series + 1) (with_point current point) points (open-point current point are above.1) above.2

open-few : (least : ℕ) (records : List (ℕ × Record)) → least ≤ 65536 → are_open least records ≡ true → least + length records ≤ 65536
open-few least [] le are = omega arith
open-few least (one ∷ records) le are =
    let parts = and_parts (nat_le least one.0 && nat_lt one.0 65536) _ are in
    let here = and_parts (nat_le least one.0) _ parts.0 in
    let low = leb-true least one.0 here.0 in
    let high = ltb-true one.0 65536 here.1 in
    let rest = open-few (one.0 + 1) records (omega (arith, high)) parts.1 in
    omega (arith, low, rest)

open-at : (place least : ℕ) (records : List (ℕ × Record)) → are_open least records ≡ true → AreAt place least (record_items place records)
open-at place least [] are = tt
open-at place least (one ∷ records) are =
    let parts = and_parts (nat_le least one.0 && nat_lt one.0 65536) _ are in
    (refl, leb-true least one.0 (and_parts (nat_le least one.0) _ parts.0).0, open-at place (one.0 + 1) records parts.1)

open-series : (place least : ℕ) (records : List (ℕ × Record)) → are_open least records ≡ true → AllByRecursion IsRecordOfSeries (record_items place records)
open-series place least [] are = tt
open-series place least (one ∷ records) are =
    let parts = and_parts (nat_le least one.0 && nat_lt one.0 65536) _ are in
    (ltb-true one.0 65536 (and_parts (nat_le least one.0) _ parts.0).1, open-series place (one.0 + 1) records parts.1)

-- ---- points

above-few : (least : ℕ) (points : List BeatPoint) → least ≤ 65536 → AreAbove least points → least + length points ≤ 65536
above-few least [] le above = omega arith
above-few least (point ∷ points) le above =
    let rest = above-few (point.series + 1) points (omega (arith, above.1)) above.2 in
    omega (arith, above.0, rest)

points-items : (moment least : ℕ) (points : List BeatPoint) → AreAbove least points → AllByRecursion IsBeatPoint points → AllByRecursion IsPointItem (point_items moment points)
points-items moment least [] above are = tt
points-items moment least (point ∷ points) above are = (
  record { series = above.1; least = are.0.least; most = are.0.most; word = are.0.word },
  points-items moment (point.series + 1) points above.2 are.1,
)

-- ---- a tier of records

record IsSoundTier (last : ℕ) (state : RecordTierState) : Type 0 where
  settings : IsTier state.tier
  form : is_record_tier last state.tier (kept_of state) ≡ true
  series : AllByRecursion IsRecordOfSeries (items_of state.segments)

record IsNextTier (moment : ℕ) (was now : RecordTierState) : Type 0 where
  sound : IsSoundTier moment now
  tier : now.tier ≡ was.tier
  seals : SealsAtMostOne Records was.tier moment was.segments now.segments

module _ (last moment : ℕ) (points : List BeatPoint) (later : last < moment) (above : AreAbove 0 points) where
  module _ (state : RecordTierState) (is : IsSoundTier last state) where
    abbrev bucket : ℕ
    bucket = last / state.tier.width

    halves : ((state.segments.before == 0) && are_kept state.tier last (last / state.tier.width) state.segments ≡ true) × (are_open 0 state.current ≡ true)
    halves = and_parts ((state.segments.before == 0) && are_kept state.tier last (last / state.tier.width) state.segments) _ is.form

    counts : ((state.segments.before == 0) ≡ true) × (are_kept state.tier last (last / state.tier.width) state.segments ≡ true)
    counts = and_parts (state.segments.before == 0) _ halves.0

    uncounted : state.segments.before ≡ 0
    uncounted = eqb-true state.segments.before 0 counts.0

    kept : IsKept state.tier last (last / state.tier.width) state.segments
    kept = is-kept state.tier last (last / state.tier.width) state.segments counts.1

    -- what becomes of the segments with these items, and of the open records with the points
    with-given : (items : List (Item Record)) (current : List (ℕ × Record)) (segments : KeptItems Record) → segments.before ≡ 0 → are_open 0 current ≡ true
        → AllByRecursion IsRecordOfSeries items → IsGiven Records state.tier moment (moment / state.tier.width) state.segments segments items
        → IsNextTier moment state (record { tier = state.tier; current = with_points current points; segments = segments })
    with-given items current segments none order all given = record {
      sound = record {
        settings = is.settings;
        form = and_from _ _ (and_from _ _ (eq-eqb segments.before 0 none) (kept-is state.tier moment (moment / state.tier.width) segments given.kept)) (open-points 0 current points order above);
        series = all-right IsRecordOfSeries given.ends.prefix (items_of segments)
            (subst (AllByRecursion IsRecordOfSeries) (sym given.ends.is) (all-append IsRecordOfSeries (items_of state.segments) items is.series all));
      };
      tier = refl;
      seals = given.seals;
    }

    tier-shut : last / state.tier.width < moment / state.tier.width → IsNextTier moment state (record (shut (last / state.tier.width) moment state) { current = with_points [] points })
    tier-shut lt =
        let items : List (Item Record) = record_items (last / state.tier.width) state.current in
        let few = open-few 0 state.current (omega arith) halves.1 in
        let size : length items ≡ length state.current = length-map state.current (λ (one : ℕ × Record). record { place = last / state.tier.width; series = one.0; value = one.1 }) in
        with-given items [] (given Records state.tier moment items state.segments) (given_uncounted state.tier moment items state.segments uncounted) refl
        (open-series (last / state.tier.width) 0 state.current halves.1)
        (given-is Records state.tier last moment (last / state.tier.width) (moment / state.tier.width) (last / state.tier.width) state.segments items is.settings.items is.settings.extents later kept
        (record { above = omega arith; below = lt; at = open-at (last / state.tier.width) 0 state.current halves.1; few = omega (arith, size, few) }))

    tier-open : moment / state.tier.width ≤ last / state.tier.width → IsNextTier moment state (record state { current = with_points state.current points })
    tier-open le =
        with-given [] state.current state.segments uncounted halves.1 tt
        (given-none Records state.tier last moment (last / state.tier.width) (moment / state.tier.width) state.segments kept (omega (arith, later)) (bucket_rises state.tier.width last moment is.settings.width (omega (arith, later))))

    tier-next : IsNextTier moment state (record_tier_after last moment points state)
    tier-next =
        let P : RecordTierState → Type 0 = λ closed. IsNextTier moment state (record closed { current = with_points closed.current points }) in
        elim (cases_lt (last / state.tier.width) (moment / state.tier.width)) [
          | inl lt ↦ subst P (sym (closed_shut last moment state lt)) (tier-shut lt)
          | inr le ↦ subst P (sym (closed_open last moment state le)) (tier-open le)
        ]

  -- each of them
  record AreNextTiers (was now : List RecordTierState) : Type 0 where
    others : AllByRecursion (λ (one : RecordTierState). IsTier one.tier) now
    form : are_record_tiers moment (map tier_of now) (map kept_of now) ≡ true
    records : AllByRecursion (λ (one : RecordTierState). AllByRecursion IsRecordOfSeries (items_of one.segments)) now
    sealed : HaveChanged (λ tier. SealsAtMostOne Records tier moment) was now

  tiers-next : (states : List RecordTierState) → AllByRecursion (λ (one : RecordTierState). IsTier one.tier) states
      → are_record_tiers last (map tier_of states) (map kept_of states) ≡ true
      → AllByRecursion (λ (one : RecordTierState). AllByRecursion IsRecordOfSeries (items_of one.segments)) states
      → AreNextTiers states (map (record_tier_after last moment points) states)
  tiers-next [] settings form series = record { others = tt; form = refl; records = tt; sealed = tt }
  tiers-next (state ∷ states) settings form series =
      let forms = and_parts (is_record_tier last state.tier (kept_of state)) _ form in
      let here = tier-next state (record { settings = settings.0; form = forms.0; series = series.0 }) in
      let rest = tiers-next states settings.1 forms.1 series.1 in
      record {
        others = (here.sound.settings, rest.others);
        form = and_from _ _ here.sound.form rest.form;
        records = (here.sound.series, rest.records);
        sealed = (here.tier, here.seals, rest.sealed);
      }

-- ---- all tiers

pub record IsNextState (moment : ℕ) (was now : TiersState) : Type 0 where
  pub sound : AreSound now
  pub seals : HaveSealed moment was now

points-next : (tier : Tier) (last moment : ℕ) (points : List BeatPoint) (kept : KeptItems Stepped) → IsTier tier → last < moment → AreAbove 0 points
    → are_kept tier last (last + 1) kept ≡ true → IsGiven Points tier moment (moment + 1) kept (points_after tier moment points kept) (point_items moment points)
points-next tier last moment points kept settings later above form =
    let few = above-few 0 points (omega arith) above in
    let size : length (point_items moment points) ≡ length points =
    length-map points (λ (point : BeatPoint). record { place = moment; series = point.series; value = record { step = point.step; word = point.word } }) in
    subst (λ (now : KeptItems Stepped). IsGiven Points tier moment (moment + 1) kept now (point_items moment points)) (sym (after_given tier moment points kept))
    (given-is Points tier last moment (last + 1) (moment + 1) moment kept (point_items moment points) settings.items settings.extents later (is-kept tier last (last + 1) kept form)
    (record { above = omega (arith, later); below = omega arith; at = at_points moment 0 points above; few = omega (arith, size, few) }))

pub sound-next : (state : TiersState) (moment : ℕ) (points : List BeatPoint) → AreSound state → IsBeatAfter state.last (beat_of (Some moment) points)
    → IsNextState moment state (after_beat (Some moment) points state)
sound-next state moment points sound after =
    let later : state.last < moment = ltb-true state.last moment after.later in
    let forms = and_parts (are_kept state.first state.last (state.last + 1) state.points) _ sound.form in
    let given = points-next state.first state.last moment points state.points sound.first later after.order forms.0 in
    let now : KeptItems Stepped = points_after state.first moment points state.points in
    let tiers = tiers-next state.last moment points later after.order state.records sound.others forms.1 sound.records in
    record {
      sound = record {
        last = ltb-true moment (2 ^ 32) after.short;
        first = sound.first;
        others = tiers.others;
        form = and_from _ _ (kept-is state.first moment (moment + 1) now given.kept) tiers.form;
        points = all-right IsPointItem given.ends.prefix (items_of now)
            (subst (AllByRecursion IsPointItem) (sym given.ends.is)
            (all-append IsPointItem (items_of state.points) (point_items moment points) sound.points (points-items moment 0 points after.order after.points)));
        records = tiers.records;
      };
      seals = record { points = given.seals; records = tiers.sealed };
    }

pub sound-more : (state : TiersState) (moment : Option ℕ) (points : List BeatPoint) → AreSound state → IsBeatAfter state.last (beat_of moment points) → AreSound (after_beat moment points state)
sound-more state None points sound after = sound
sound-more state (Some moment) points sound after = (sound-next state moment points sound after).sound

-- ---- no beats

record AreNoTiers (states : List RecordTierState) : Type 0 where
  others : AllByRecursion (λ (one : RecordTierState). IsTier one.tier) states
  form : are_record_tiers 0 (map tier_of states) (map kept_of states) ≡ true
  records : AllByRecursion (λ (one : RecordTierState). AllByRecursion IsRecordOfSeries (items_of one.segments)) states

none-kept : (tier : Tier) → IsTier tier → nat_le 0 tier.extents && nat_lt 0 tier.items ≡ true
none-kept tier settings = and_from _ _ (le-leb 0 tier.extents (omega arith)) (lt-ltb 0 tier.items (omega (arith, settings.items)))

tiers-none : (others : List Tier) → AllByRecursion IsTier others → AreNoTiers (map no_records others)
tiers-none [] settings = record { others = tt; form = refl; records = tt }
tiers-none (tier ∷ others) settings =
    let rest = tiers-none others settings.1 in
    record {
      others = (settings.0, rest.others);
      form = and_from _ _ (and_from _ _ (and_from _ _ (and_from _ _ (none-kept tier settings.0) refl) refl) refl) rest.form;
      records = (tt, rest.records);
    }

pub sound-none : (first : Tier) (others : List Tier) → IsTier first → AllByRecursion IsTier others → AreSound (no_beats first others)
sound-none first others settings each =
    let tiers = tiers-none others each in
    record {
      last = omega arith;
      first = settings;
      others = tiers.others;
      form = and_from _ _ (and_from _ _ (and_from _ _ (none-kept first settings) refl) refl) tiers.form;
      points = tt;
      records = tiers.records;
    }
