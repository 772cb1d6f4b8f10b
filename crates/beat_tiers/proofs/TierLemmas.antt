-- Tiers of records, with a beat more.
use Rattle.std.proofs.Common.{◌≡◌, ℕ, zero, suc, ◌+◌, ◌*◌, ◌/◌, ◌<◌, ◌≤◌, ◌==◌, ◌&&◌, ◌^◌, Bool, true, false, cond, nat_lt, List, [], ◌∷◌, length, map, reverse, inl, inr, Option, Some, None, slice_get, arith, refl, sym, ap, subst, ◌∙◌}
use Rattle.std.specs.List.{AllByRecursion}
use Rattle.std.proofs.Math.Nat.{mul-le-mul_right}
use Rattle.std.proofs.Math.Seq.{take-nil}
use Rattle.std.proofs.lemmas.Bool.{and_left, cases_lt, cond-true, cond-false, cond_both, lt-ltb, le-ltb, ltb-true, ne_eqb}
use Rattle.std.proofs.lemmas.List.{length-map}
use Rattle.std.proofs.lemmas.Option.{same_Some, none-some}
use Rattle.fixed_num.specs.declared.units.Record.{Record}
use Rattle.tier_rollup.proofs.BucketLemmas.{ends_after}
use Rattle.beat_tiers.specs.declared.item.BeatPoint.{BeatPoint}
use Rattle.beat_tiers.specs.declared.item.Item.{Item}
use Rattle.beat_tiers.specs.declared.item.Stepped.{Stepped}
use Rattle.beat_tiers.specs.declared.segments.ItemKind.TheVariants.{Points, Records}
use Rattle.tier_settings.specs.declared.tier.Tier.{Tier}
use Rattle.beat_tiers.specs.Beats.{TierBeat, Follows, last, record_of, records_in, series_limit}
use Rattle.beat_tiers.specs.Floors.{closing, cut_after, cuts_of, items_added}
use Rattle.beat_tiers.specs.declared.parts.KeptItems.{KeptItems}
use Rattle.beat_tiers.specs.Segments.{ended, with_items}
use Rattle.beat_tiers.specs.State.{RecordTierState, TiersState, after_beat, closed_before, no_beats, no_records, point_items, points_after, record_items, record_tier_after, with_points}
use Rattle.beat_tiers.specs.Tiers.{AreBeats, AreRecordTiersOf, AreSegmentsOf, AreTiersOf, IsRecordTierOf, IsTier, closing_items, points_given, records_given}
use Rattle.beat_tiers.proofs.BucketLemmas.{open_more, open_none}
use Rattle.beat_tiers.proofs.EntryLemmas.{entries_none}
use Rattle.beat_tiers.proofs.GivenLemmas.{beat_of, above_last, bucket_rises, cuts_less, points_fall, records_fall, since_few}
use Rattle.beat_tiers.proofs.GroupLemmas.{falling_to}
use Rattle.beat_tiers.proofs.MoreLaws.{cuts_few}
use Rattle.beat_tiers.proofs.SegmentLemmas.{AreOfKind, given, given_more, given_uncounted, less_to}

pub tier_at : (beats : List TierBeat) (number place : ℕ) (states : List RecordTierState) (one : RecordTierState) → AreRecordTiersOf beats number states → slice_get states place ≡ Some one
    → IsRecordTierOf beats (place + number) one
tier_at beats number place [] one are is = absurd (none-some one is)
tier_at beats number zero (state ∷ states) one are is =
    let first : 0 + number ≡ number = omega arith in
    subst (λ n. IsRecordTierOf beats n one) (sym first) (subst (λ (s : RecordTierState). IsRecordTierOf beats number s) (same_Some state one is) are.0)
tier_at beats number (suc place) (state ∷ states) one are is =
    let next : place + (number + 1) ≡ suc place + number = omega arith in
    subst (λ n. IsRecordTierOf beats n one) next (tier_at beats (number + 1) place states one are.1 is)

-- ---- the records that close

-- a tier whose records of the bucket of the last moment are over
abbrev pub shut : ℕ → ℕ → RecordTierState → RecordTierState
shut bucket moment state = record state { current = []; segments = given Records state.tier moment (record_items bucket state.current) state.segments }

shut_if : (t : Bool) (bucket moment : ℕ) (tier : Tier) (segments : KeptItems Record) (current : List (ℕ × Record)) (left closed : RecordTierState) → t ≡ true
    → left ≡ record { tier = tier; current = current; segments = segments }
    → closed ≡ record { tier = tier; current = []; segments = ended Records tier moment (with_items segments (record_items bucket current)) }
    → cond (t && nat_lt 0 (length current)) closed left ≡ record { tier = tier; current = []; segments = given Records tier moment (record_items bucket current) segments }
shut_if true bucket moment tier segments [] left closed e was is = was
shut_if true bucket moment tier segments (one ∷ others) left closed e was is = cond-true _ _ _ (lt-ltb 0 (length (one ∷ others)) (omega arith)) ∙ is
shut_if false bucket moment tier segments current left closed e was is = absurd (cc)

pub closed_shut : (last moment : ℕ) (state : RecordTierState) → last / state.tier.width < moment / state.tier.width → closed_before last moment state ≡ shut (last / state.tier.width) moment state
closed_shut last moment state lt =
    shut_if (nat_lt (last / state.tier.width) (moment / state.tier.width)) (last / state.tier.width) moment state.tier state.segments state.current state _
    (lt-ltb (last / state.tier.width) (moment / state.tier.width) lt) refl refl

pub closed_open : (last moment : ℕ) (state : RecordTierState) → moment / state.tier.width ≤ last / state.tier.width → closed_before last moment state ≡ state
closed_open last moment state le = cond-false _ _ _ (and_left _ _ (le-ltb (last / state.tier.width) (moment / state.tier.width) le))

count_is : (number : ℕ) (tier : Tier) (moment : ℕ) (points : List BeatPoint) (beats : List TierBeat) → 1 ≤ number
    → items_added number tier (beat_of (Some moment) points) beats ≡ length (closing_items tier.width beats moment)
count_is number tier moment points beats some =
    cond-false (number == 0) (length points) (closing tier.width beats moment) (ne_eqb number 0 (λ e. omega arith)) ∙ by (nat_lt (last beats / tier.width) (moment / tier.width))
  where
    by : (b : Bool) → cond b (length (records_in tier.width (last beats / tier.width) beats)) 0 ≡ length (cond b (record_items (last beats / tier.width) (records_in tier.width (last beats / tier.width) beats)) [])
    by true = sym (length-map (records_in tier.width (last beats / tier.width) beats) (λ (one : ℕ × Record). record { place = last beats / tier.width; series = one.0; value = one.1 }))
    by false = refl

-- ---- a beat more

of_records : (number : ℕ) (tier : Tier) → 1 ≤ number → AreOfKind Records number tier
of_records number tier some moment low = sym (cond-false (number == 0) (moment + 1) (tier.width * (moment / tier.width)) (ne_eqb number 0 (λ e. omega arith)))

of_points : (tier : Tier) → AreOfKind Points 0 tier
of_points tier moment low = omega (arith, low)

module _ (beats : List TierBeat) (number moment : ℕ) (points : List BeatPoint) (some : 1 ≤ number) (beats_are : AreBeats beats) (follows : Follows (beat_of (Some moment) points) beats) where
  above : last beats < moment
  above = above_last moment beats follows.later

  short : moment < 2 ^ 32
  short = ltb-true moment (2 ^ 32) follows.short

  -- what is kept of the records that close
  segments_more : (tier : Tier) (segments : KeptItems Record) (items : List (Item Record)) → IsTier tier → closing_items tier.width beats moment ≡ items
      → AreSegmentsOf number tier (cuts_of number tier beats) (records_given tier.width beats) segments
      → AreSegmentsOf number tier (cuts_of number tier (beat_of (Some moment) points ∷ beats)) (records_given tier.width (beat_of (Some moment) points ∷ beats)) (given Records tier moment items segments)
  unfolding above
  segments_more tier segments items settings is are =
      let low : last beats + 1 ≤ moment = omega (arith, above) in
      let more = given_more Records number tier (cuts_of number tier beats) moment (closing_items tier.width beats moment) (records_given tier.width beats) segments
      settings.extents (of_records number tier some) (since_few number tier beats settings.items)
      (falling_to (last beats + 1) moment (records_given tier.width beats) (records_fall tier.width beats beats_are) low)
      (less_to (last beats + 1) moment (cuts_of number tier beats).sealed (cuts_less number tier beats beats_are) low)
      (omega (arith, cuts_few number tier beats beats_are, low)) short are in
      subst (λ (items : List (Item Record)). AreSegmentsOf number tier (cuts_of number tier (beat_of (Some moment) points ∷ beats)) (records_given tier.width (beat_of (Some moment) points ∷ beats)) (given Records tier moment items segments)) is
      (subst (λ n. AreSegmentsOf number tier (cut_after tier (Some moment) n (cuts_of number tier beats)) (records_given tier.width (beat_of (Some moment) points ∷ beats)) (given Records tier moment (closing_items tier.width beats moment) segments))
      (sym (count_is number tier moment points beats some)) more)

  shut_more : (state : RecordTierState) → last beats / state.tier.width < moment / state.tier.width → IsRecordTierOf beats number state
      → IsRecordTierOf (beat_of (Some moment) points ∷ beats) number (record (shut (last beats / state.tier.width) moment state) { current = with_points [] points })
  shut_more state lt is =
      let over : (last beats / state.tier.width + 1) * state.tier.width ≤ moment / state.tier.width * state.tier.width = mul-le-mul_right state.tier.width (omega arith) in
      let ends : last beats < (last beats / state.tier.width + 1) * state.tier.width = ends_after state.tier.width (last beats) is.settings.width in
      let none : records_in state.tier.width (moment / state.tier.width) beats ≡ [] = open_none state.tier.width (moment / state.tier.width) beats beats_are (omega (arith, over, ends)) in
      record {
        settings = is.settings;
        current = ap (λ (current : List (ℕ × Record)). with_points current points) (sym none) ∙ open_more state.tier.width moment points beats is.settings.width beats_are above short follows.points;
        uncounted = given_uncounted state.tier moment (record_items (last beats / state.tier.width) state.current) state.segments is.uncounted;
        segments = segments_more state.tier state.segments (record_items (last beats / state.tier.width) state.current) is.settings
            (cond-true _ _ _ (lt-ltb (last beats / state.tier.width) (moment / state.tier.width) lt) ∙ ap (record_items (last beats / state.tier.width)) (sym is.current)) is.segments;
      }

  kept_open : (state : RecordTierState) → moment / state.tier.width ≤ last beats / state.tier.width → IsRecordTierOf beats number state
      → IsRecordTierOf (beat_of (Some moment) points ∷ beats) number (record state { current = with_points state.current points })
  kept_open state le is =
      let same : last beats / state.tier.width ≡ moment / state.tier.width =
      (let rises = bucket_rises state.tier.width (last beats) moment is.settings.width (omega (arith, above)) in omega (arith, rises, le)) in
      record {
        settings = is.settings;
        current = ap (λ (current : List (ℕ × Record)). with_points current points) (is.current ∙ ap (λ bucket. records_in state.tier.width bucket beats) same)
            ∙ open_more state.tier.width moment points beats is.settings.width beats_are above short follows.points;
        uncounted = is.uncounted;
        segments = segments_more state.tier state.segments [] is.settings (cond-false _ _ _ (le-ltb (last beats / state.tier.width) (moment / state.tier.width) le)) is.segments;
      }

  pub tier_more : (state : RecordTierState) → IsRecordTierOf beats number state → IsRecordTierOf (beat_of (Some moment) points ∷ beats) number (record_tier_after (last beats) moment points state)
  tier_more state is =
      let P : RecordTierState → Type 0 = λ closed. IsRecordTierOf (beat_of (Some moment) points ∷ beats) number (record closed { current = with_points closed.current points }) in
      elim (cases_lt (last beats / state.tier.width) (moment / state.tier.width)) [
        | inl lt ↦ subst P (sym (closed_shut (last beats) moment state lt)) (shut_more state lt is)
        | inr le ↦ subst P (sym (closed_open (last beats) moment state le)) (kept_open state le is)
      ]

tiers_more : (beats : List TierBeat) (number moment : ℕ) (points : List BeatPoint) (states : List RecordTierState) → 1 ≤ number → AreBeats beats → Follows (beat_of (Some moment) points) beats
    → AreRecordTiersOf beats number states → AreRecordTiersOf (beat_of (Some moment) points ∷ beats) number (map (record_tier_after (last beats) moment points) states)
tiers_more beats number moment points [] some beats_are follows are = tt
tiers_more beats number moment points (state ∷ states) some beats_are follows are =
    (tier_more beats number moment points some beats_are follows state are.0, tiers_more beats (number + 1) moment points states (omega arith) beats_are follows are.1)

-- a beat without a moment
tiers_same : (beats : List TierBeat) (number : ℕ) (points : List BeatPoint) (states : List RecordTierState) → AreRecordTiersOf beats number states → AreRecordTiersOf (beat_of None points ∷ beats) number states
tiers_same beats number points [] are = tt
tiers_same beats number points (state ∷ states) are =
    (record { settings = are.0.settings; current = are.0.current; uncounted = are.0.uncounted; segments = are.0.segments }, tiers_same beats (number + 1) points states are.1)

pub tier_kept : (last moment : ℕ) (points : List BeatPoint) (state : RecordTierState) → (record_tier_after last moment points state).tier ≡ state.tier
tier_kept last moment points state =
    cond_both (nat_lt (last / state.tier.width) (moment / state.tier.width) && nat_lt 0 (length state.current)) _ state (λ (closed : RecordTierState). closed.tier ≡ state.tier) (λ e. refl) (λ e. refl)

pub set_kept : (last moment : ℕ) (points : List BeatPoint) (states : List RecordTierState)
    → map (λ (one : RecordTierState). one.tier) states ≡ map (λ (one : RecordTierState). one.tier) (map (record_tier_after last moment points) states)
set_kept last moment points [] = refl
set_kept last moment points (state ∷ states) =
    ap (λ (tier : Tier). tier ∷ map (λ (one : RecordTierState). one.tier) states) (sym (tier_kept last moment points state))
    ∙ ap (λ (rest : List Tier). (record_tier_after last moment points state).tier ∷ rest) (set_kept last moment points states)

-- ---- tier 0

pub after_given : (tier : Tier) (moment : ℕ) (points : List BeatPoint) (segments : KeptItems Stepped) → points_after tier moment points segments ≡ given Points tier moment (point_items moment points) segments
after_given tier moment [] segments = refl
after_given tier moment (point ∷ points) segments = refl

points_more : (beats : List TierBeat) (tier : Tier) (moment : ℕ) (points : List BeatPoint) (segments : KeptItems Stepped) → IsTier tier → AreBeats beats → Follows (beat_of (Some moment) points) beats
    → AreSegmentsOf 0 tier (cuts_of 0 tier beats) (points_given beats) segments
    → AreSegmentsOf 0 tier (cuts_of 0 tier (beat_of (Some moment) points ∷ beats)) (points_given (beat_of (Some moment) points ∷ beats)) (points_after tier moment points segments)
points_more beats tier moment points segments settings beats_are follows are =
    let low : last beats + 1 ≤ moment = omega (arith, above_last moment beats follows.later) in
    let more = given_more Points 0 tier (cuts_of 0 tier beats) moment (point_items moment points) (points_given beats) segments
    settings.extents (of_points tier) (since_few 0 tier beats settings.items)
    (falling_to (last beats + 1) moment (points_given beats) (points_fall beats beats_are) low)
    (less_to (last beats + 1) moment (cuts_of 0 tier beats).sealed (cuts_less 0 tier beats beats_are) low)
    (omega (arith, cuts_few 0 tier beats beats_are, low)) (ltb-true moment (2 ^ 32) follows.short) are in
    subst (λ (s : KeptItems Stepped). AreSegmentsOf 0 tier (cuts_of 0 tier (beat_of (Some moment) points ∷ beats)) (points_given (beat_of (Some moment) points ∷ beats)) s) (sym (after_given tier moment points segments))
    (subst (λ n. AreSegmentsOf 0 tier (cut_after tier (Some moment) n (cuts_of 0 tier beats)) (points_given (beat_of (Some moment) points ∷ beats)) (given Points tier moment (point_items moment points) segments))
    (length-map points (λ (point : BeatPoint). record { place = moment; series = point.series; value = record { step = point.step; word = point.word } })) more)

-- ---- all tiers

-- the tiers of no beats
none_records : (number : ℕ) (others : List Tier) → AllByRecursion IsTier others → AreRecordTiersOf [] number (map no_records others)
none_records number [] each = tt
none_records number (tier ∷ others) each = (
  record {
    settings = each.0;
    current = sym (entries_none (record_of tier.width (0 / tier.width) []) 0 series_limit (λ series. refl));
    uncounted = refl;
    segments = record { floor = refl; sealed = ap reverse (sym (take-nil tier.extents)); count = refl; since = refl; split = refl };
  },
  none_records (number + 1) others each.1,
)

none_set : (others : List Tier) → others ≡ map (λ (one : RecordTierState). one.tier) (map no_records others)
none_set [] = refl
none_set (tier ∷ others) = ap (λ (rest : List Tier). tier ∷ rest) (none_set others)

pub tiers_none : (first : Tier) (others : List Tier) → IsTier first → AllByRecursion IsTier others → AreTiersOf (first ∷ others) [] (no_beats first others)
tiers_none first others settings each = record {
  set_is = ap (λ (rest : List Tier). first ∷ rest) (none_set others);
  settings = settings;
  beats_are = tt;
  last_is = refl;
  points = record { floor = refl; sealed = ap reverse (sym (take-nil first.extents)); count = refl; since = refl; split = refl };
  records = none_records 1 others each;
}

-- The tiers of some beats, with a beat more.
pub tiers_with : (set : List Tier) (beats : List TierBeat) (moment : Option ℕ) (points : List BeatPoint) (state : TiersState) → AreTiersOf set beats state → Follows (beat_of moment points) beats
    → AreTiersOf set (beat_of moment points ∷ beats) (after_beat moment points state)
tiers_with set beats None points state are follows = record {
  set_is = are.set_is;
  settings = are.settings;
  beats_are = (follows, are.beats_are);
  last_is = are.last_is;
  points = are.points;
  records = tiers_same beats 1 points state.records are.records;
}
tiers_with set beats (Some moment) points state are follows = record {
  set_is = are.set_is ∙ ap (λ (rest : List Tier). state.first ∷ rest) (set_kept state.last moment points state.records);
  settings = are.settings;
  beats_are = (follows, are.beats_are);
  last_is = refl;
  points = points_more beats state.first moment points state.points are.settings are.beats_are follows are.points;
  records = subst (λ n. AreRecordTiersOf (beat_of (Some moment) points ∷ beats) 1 (map (record_tier_after n moment points) state.records)) (sym are.last_is)
      (tiers_more beats 1 moment points state.records (omega arith) are.beats_are follows are.records);
}
