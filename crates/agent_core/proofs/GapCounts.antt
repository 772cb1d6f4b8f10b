-- How many gaps a history has above the floor of tier 0: at most one more than that tier can keep beats with points. A
-- history has its newest beat first, and so has a list of beats; gaps stand with the oldest first.
use Rattle.std.proofs.Common.{◌≡◌, ℕ, zero, suc, ◌+◌, ◌*◌, ◌<◌, ◌≤◌, ◌⊎◌, inl, inr, Bool, true, false, cond, not, ◌&&◌, nat_le, nat_lt, List, [], ◌∷◌, ◌++◌, length, map, Option, Some, None, is_some, slice_get, refl, sym, ap, ◌∙◌, subst, arith, suc-mul, length-append}
use Rattle.std.specs.List.{AllByRecursion}
use Rattle.std.specs.Option.{option_map_or}
use Rattle.std.proofs.lemmas.Bool.{and_from, and_right, cases_lt, cond-false, cond-true, cond_both, le-leb, le-ltb, lt-leb, lt-ltb, true≢false}
use Rattle.std.proofs.lemmas.List.{length-map, map-append}
use Rattle.list_lemmas.proofs.Every.{all-push, all-weaker}
use Rattle.history.specs.History.{Beat, child, collected, copied, gaps, health, last, missing, registry_of, Copy, Gap}
use Rattle.side_codec.specs.declared.gap.GapSpan.{GapSpan}
use Rattle.tier_settings.specs.declared.settings.Settings.{Settings}
use Rattle.tier_settings.specs.declared.tier.Tier.{Tier}
use Rattle.tier_settings.specs.Settings.{first_tier}
use Rattle.beat_tiers.specs.declared.item.BeatPoint.{BeatPoint}
use Rattle.beat_tiers.specs.Beats.{TierBeat}
use Rattle.beat_tiers.specs.Beats as tiers
use Rattle.beat_tiers.specs.Floors.{Cuts, cut_after, cuts_of, floor_of, has_points, is_kept}
use Rattle.beat_tiers.specs.Tiers.{IsTier}
use Rattle.beat_tiers.proofs.GivenLemmas.{IsLater, above_last, beat_of, since_few}
use Rattle.store_core.specs.declared.beats.beat.Beat.{Beat as StoreBeat}
use Rattle.agent_core.specs.Answers.{floor_of_history, tier_beat, tier_beats}
use Rattle.agent_core.specs.Gaps.{gap_limit, gap_span, gaps_above, gaps_of, join_gap, joined_behind}
use Rattle.agent_core.specs.Kept.{copied_point, AreBeatsOf}
use Rattle.agent_core.proofs.FloorLemmas.{AreLater}
use Rattle.agent_core.proofs.GapLemmas.{are-later}
use Rattle.agent_core.proofs.GapLists.{join-none, joined-more, met, EndBefore}
use Rattle.agent_core.proofs.HistoryLemmas.{follows-alone}

-- ---- beats with points from a moment on

abbrev counts : ℕ → TierBeat → Bool
counts from beat = has_points beat && is_kept from beat

abbrev one_for : Bool → ℕ
one_for b = cond b 1 0

abbrev count : ℕ → List TierBeat → ℕ
count from [] = 0
count from (beat ∷ beats) = one_for (counts from beat) + count from beats

one-most : (b : Bool) → one_for b ≤ 1
one-most true = omega arith
one-most false = omega arith

-- a beat that counts has a point
one-point : (from : ℕ) (moment : Option ℕ) (points : List BeatPoint) → one_for (counts from (beat_of moment points)) ≤ length points
one-point from moment [] = omega arith
one-point from moment (point ∷ points) = omega (arith, one-most (counts from (beat_of moment (point ∷ points))))

-- one without a moment does not count, and one before the first moment does not
none-without : (from : ℕ) (points : List BeatPoint) → one_for (counts from (beat_of None points)) ≡ 0
none-without from points = ap one_for (and_right (has_points (beat_of None points)) false refl)

none-before : (from moment : ℕ) (points : List BeatPoint) → moment < from → one_for (counts from (beat_of (Some moment) points)) ≡ 0
none-before from moment points less = ap one_for (and_right (has_points (beat_of (Some moment) points)) (nat_le from moment) (lt-leb from moment less))

-- and where all come before it, none counts
count-none : (from : ℕ) (beats : List TierBeat) → AreLater beats → tiers.last beats < from → count from beats ≡ 0
count-none from [] are less = refl
count-none from (beat ∷ beats) are less = by beat.moment beat.points are.0 (count-none from beats are.1) less
  where
    by : (moment : Option ℕ) (points : List BeatPoint) → IsLater moment beats → (tiers.last beats < from → count from beats ≡ 0) → tiers.last (beat_of moment points ∷ beats) < from
        → count from (beat_of moment points ∷ beats) ≡ 0
    by None points later rest less = omega (arith, none-without from points, rest less)
    by (Some moment) points later rest less =
        let above = above_last moment beats later in
        omega (arith, none-before from moment points less, rest (omega (arith, above, less)))

-- ---- and behind a cut

-- the first moment behind the cut at a place, the latest of which is at 0
abbrev behind : List ℕ → ℕ → ℕ
behind moments place = option_map_or (λ (moment : ℕ). moment + 1) (slice_get moments place) 0

-- each segment but the last has at most as many beats with points as it has items
abbrev AreFew : Tier → List TierBeat → Cuts → Type 0
AreFew tier beats cuts = (place : ℕ) → count (behind cuts.sealed place) beats ≤ place * tier.items + cuts.since

-- one more beat, with which the last segment is sealed
sealed-few : (tier : Tier) (moment : ℕ) (points : List BeatPoint) (beats : List TierBeat) (cuts : Cuts) → AreLater (beat_of (Some moment) points ∷ beats) → cuts.since < tier.items → AreFew tier beats cuts
    → AreFew tier (beat_of (Some moment) points ∷ beats) (record { sealed = moment ∷ cuts.sealed; since = 0 })
sealed-few tier moment points beats cuts are short few zero = omega (arith, count-none (moment + 1) (beat_of (Some moment) points ∷ beats) are (omega arith))
sealed-few tier moment points beats cuts are short few (suc place) =
    omega (arith, one-most (counts (behind cuts.sealed place) (beat_of (Some moment) points)), few place, short, suc-mul place tier.items)

behind-few : (tier : Tier) (beats : List TierBeat) → 1 ≤ tier.items → AreLater beats → AreFew tier beats (cuts_of 0 tier beats)
behind-few tier [] some are = λ place. omega arith
behind-few tier (beat ∷ beats) some are = by beat.moment beat.points are.0 (cuts_of 0 tier beats) (since_few 0 tier beats some) (behind-few tier beats some are.1)
  where
    by : (moment : Option ℕ) (points : List BeatPoint) → IsLater moment beats → (cuts : Cuts) → cuts.since < tier.items → AreFew tier beats cuts
        → AreFew tier (beat_of moment points ∷ beats) (cut_after tier moment (length points) cuts)
    by None points later cuts short few = λ place. omega (arith, none-without (behind cuts.sealed place) points, few place)
    by (Some moment) points later cuts short few =
        cond_both (nat_lt (cuts.since + length points) tier.items) (record cuts { since = cuts.since + length points }) (record { sealed = moment ∷ cuts.sealed; since = 0 })
        (AreFew tier (beat_of (Some moment) points ∷ beats))
        (λ e place. omega (arith, one-point (behind cuts.sealed place) (Some moment) points, few place))
        (λ e. sealed-few tier moment points beats cuts (later, are.1) short few)

-- tier 0 keeps not more of them
kept-few : (tier : Tier) (beats : List TierBeat) → 1 ≤ tier.items → AreLater beats → count (floor_of 0 tier beats) beats ≤ (tier.extents + 1) * tier.items
kept-few tier beats some are = omega (arith, behind-few tier beats some are tier.extents, since_few 0 tier beats some, suc-mul tier.extents tier.items)

-- ---- gaps above a floor

module _ (floor : ℕ) where
  -- one more behind them is at most one more
  above-more : (before : List GapSpan) (gap : GapSpan) → length (gaps_above floor (before ++ gap ∷ [])) ≤ length (gaps_above floor before) + 1
  above-more [] gap = by (nat_lt gap.to floor)
    where
      by : (b : Bool) → length (cond b [] (gap ∷ [])) ≤ 1
      by true = omega arith
      by false = omega arith
  above-more (first ∷ before) gap = by (nat_lt first.to floor) (above-more before gap)
    where
      by : (b : Bool) → length (gaps_above floor (before ++ gap ∷ [])) ≤ length (gaps_above floor before) + 1
          → length (cond b (gaps_above floor (before ++ gap ∷ [])) (first ∷ before ++ gap ∷ [])) ≤ length (cond b (gaps_above floor before) (first ∷ before)) + 1
      by true rest = rest
      by false rest = omega (arith, length-append before (gap ∷ []))

  -- another one in place of the last is no more, where that does not end below the floor
  above-other : (before : List GapSpan) (final other : GapSpan) → floor ≤ final.to → length (gaps_above floor (before ++ other ∷ [])) ≤ length (gaps_above floor (before ++ final ∷ []))
  above-other [] final other high =
      let one : length (gaps_above floor (final ∷ [])) ≡ 1 = ap length (cond-false (nat_lt final.to floor) [] (final ∷ []) (le-ltb final.to floor high)) in
      omega (arith, one, above-more [] other)
  above-other (first ∷ before) final other high = by (nat_lt first.to floor) (above-other before final other high)
    where
      by : (b : Bool) → length (gaps_above floor (before ++ other ∷ [])) ≤ length (gaps_above floor (before ++ final ∷ []))
          → length (cond b (gaps_above floor (before ++ other ∷ [])) (first ∷ before ++ other ∷ [])) ≤ length (cond b (gaps_above floor (before ++ final ∷ [])) (first ∷ before ++ final ∷ []))
      by true rest = rest
      by false rest = omega (arith, length-append before (other ∷ []), length-append before (final ∷ []))

  above-none : (spans : List GapSpan) → EndBefore floor spans → length (gaps_above floor spans) ≡ 0
  above-none [] below = refl
  above-none (gap ∷ spans) below = ap length (cond-true (nat_lt gap.to floor) (gaps_above floor spans) (gap ∷ spans) (lt-ltb gap.to floor below.0)) ∙ above-none spans below.1

abbrev EndBy : ℕ → List GapSpan → Type 0
EndBy moment spans = AllByRecursion (λ (gap : GapSpan). gap.to ≤ moment) spans

ends-before : (moment limit : ℕ) (spans : List GapSpan) → moment < limit → EndBy moment spans → EndBefore limit spans
ends-before moment limit spans less = all-weaker (λ (gap : GapSpan). gap.to ≤ moment) (λ (gap : GapSpan). gap.to < limit) (λ gap by. omega (arith, by, less)) spans

ends-by : (moment limit : ℕ) (spans : List GapSpan) → moment ≤ limit → EndBy moment spans → EndBy limit spans
ends-by moment limit spans le = all-weaker (λ (gap : GapSpan). gap.to ≤ moment) (λ (gap : GapSpan). gap.to ≤ limit) (λ gap by. omega (arith, by, le)) spans

before-by : (moment : ℕ) (spans : List GapSpan) → EndBefore moment spans → EndBy moment spans
before-by moment spans = all-weaker (λ (gap : GapSpan). gap.to < moment) (λ (gap : GapSpan). gap.to ≤ moment) (λ gap before. omega (arith, before)) spans

-- where nothing was copied there are none
no-gaps : (h : List Beat) → is_some (child h) ≡ false → gaps h ≡ []
no-gaps [] none = refl
no-gaps (collected moment beat ∷ h) none = no-gaps h none
no-gaps (copied copy ∷ h) none = absurd (true≢false none)
no-gaps (health text ∷ h) none = no-gaps h none
no-gaps (missing gap ∷ h) none = absurd (true≢false none)

-- ---- each of them but one has a beat of its own

module _ (floor : ℕ) where
  -- the history ends with a gap, which is the one
  record EndsInGap (h : List Beat) : Type 0 where
    before : List GapSpan
    final : GapSpan
    whole : gaps_of h ≡ before ++ final ∷ []
    ends : EndBy (last h) before
    at : final.to ≡ last h
    few : length (gaps_above floor (gaps_of h)) ≤ 1 + count floor (tier_beats h)

  -- or behind its gaps, and each has a beat
  record EndsBehind (h : List Beat) : Type 0 where
    ends : EndBefore (last h) (gaps_of h)
    few : length (gaps_above floor (gaps_of h)) ≤ count floor (tier_beats h)

  abbrev Counted : List Beat → Type 0
  Counted h = EndsInGap h ⊎ EndsBehind h

  all-end : (h : List Beat) → Counted h → EndBy (last h) (gaps_of h)
  all-end h (inl of) =
      let at = of.at in
      subst (EndBy (last h)) (sym of.whole) (all-push (λ (gap : GapSpan). gap.to ≤ last h) of.before of.final of.ends (omega (arith, at)))
  all-end h (inr of) = before-by (last h) (gaps_of h) of.ends

  at-most : (h : List Beat) → Counted h → length (gaps_above floor (gaps_of h)) ≤ 1 + count floor (tier_beats h)
  at-most h (inl of) = of.few
  at-most h (inr of) = omega (arith, of.few)

  -- a gap goes on with the last one, or is the one
  module _ (h : List Beat) (gap : Gap) (at : gap.from ≡ last h) (later : last h < gap.to) where
    joins : gaps_of (missing gap ∷ h) ≡ join_gap (gaps_of h) (gap_span gap)
    joins = ap (joined_behind []) (map-append gap_span (gaps h) (gap ∷ [])) ∙ joined-more [] (map gap_span (gaps h)) (gap_span gap)

    abbrev HasFew : List GapSpan → Type 0
    HasFew spans = length (gaps_above floor spans) ≤ 1 + count floor (tier_beats (missing gap ∷ h))

    goes-on : EndsInGap h → EndsInGap (missing gap ∷ h)
    goes-on of =
        let longer : GapSpan = record { from = of.final.from; to = gap.to } in
        let whole : gaps_of (missing gap ∷ h) ≡ of.before ++ longer ∷ [] = joins ∙ sym (met (gaps_of h) of.before of.final (gap_span gap) of.whole (of.at ∙ sym at)) in
        let had = subst (λ (spans : List GapSpan). length (gaps_above floor spans) ≤ 1 + count floor (tier_beats h)) of.whole of.few in
        let few : HasFew (of.before ++ longer ∷ []) = elim (cases_lt of.final.to floor) [
          | inl low ↦
              let end = of.at in
              omega (arith, above-more floor of.before longer, above-none floor of.before (ends-before (last h) floor of.before (omega (arith, end, low)) of.ends))
          | inr high ↦ omega (arith, above-other floor of.before of.final longer high, had)
        ] in
        record { before = of.before; final = longer; whole = whole; ends = ends-by (last h) gap.to of.before (omega (arith, later)) of.ends; at = refl; few = subst HasFew (sym whole) few }

    begins-here : EndsBehind h → EndsInGap (missing gap ∷ h)
    begins-here of =
        let whole : gaps_of (missing gap ∷ h) ≡ gaps_of h ++ gap_span gap ∷ [] =
        joins ∙ join-none (gaps_of h) (gap_span gap) (subst (λ (moment : ℕ). EndBefore moment (gaps_of h)) (sym at) of.ends) in
        let few : HasFew (gaps_of h ++ gap_span gap ∷ []) = omega (arith, above-more floor (gaps_of h) (gap_span gap), of.few) in
        record {
          before = gaps_of h;
          final = gap_span gap;
          whole = whole;
          ends = ends-by (last h) gap.to (gaps_of h) (omega (arith, later)) (before-by (last h) (gaps_of h) of.ends);
          at = refl;
          few = subst HasFew (sym whole) few;
        }

    gap-counted : Counted h → EndsInGap (missing gap ∷ h)
    gap-counted (inl of) = goes-on of
    gap-counted (inr of) = begins-here of

  -- a copied beat is that of the last gap
  copy-counted : (h : List Beat) (copy : Copy) → 0 < length copy.words → last h < copy.moment → Counted h → EndsBehind (copied copy ∷ h)
  copy-counted h copy some later of =
      let points = map (copied_point (registry_of (copied copy ∷ h))) copy.words in
      let many : length points ≡ length copy.words = length-map copy.words (copied_point (registry_of (copied copy ∷ h))) in
      let ends : EndBefore copy.moment (gaps_of h) = ends-before (last h) copy.moment (gaps_of h) later (all-end h of) in
      record {
        ends = ends;
        few = elim (cases_lt copy.moment floor) [
          | inl low ↦ omega (arith, above-none floor (gaps_of h) (ends-before (last h) floor (gaps_of h) (omega (arith, later, low)) (all-end h of)))
          | inr high ↦
              let one : one_for (counts floor (beat_of (Some copy.moment) points)) ≡ 1 =
              ap one_for (and_from (has_points (beat_of (Some copy.moment) points)) (nat_le floor copy.moment) (ap not (lt-leb (length points) 0 (omega (arith, many, some)))) (le-leb floor copy.moment high)) in
              omega (arith, one, at-most h of)
        ];
      }

  health-counted : (h : List Beat) (text : List ℕ) → Counted h → Counted (health text ∷ h)
  health-counted h text (inl of) = inl (record { before = of.before; final = of.final; whole = of.whole; ends = of.ends; at = of.at; few = omega (arith, of.few) })
  health-counted h text (inr of) = inr (record { ends = of.ends; few = omega (arith, of.few) })

  counted : (h : List Beat) (beats : List StoreBeat) → AreBeatsOf h beats → Counted h
  counted [] beats are = inr (record { ends = tt; few = omega arith })
  counted (collected moment beat ∷ h) [] are = absurd are
  counted (collected moment beat ∷ h) (kept ∷ beats) are =
      let none : [] ≡ gaps_of (collected moment beat ∷ h) = sym (ap (λ (all : List Gap). joined_behind [] (map gap_span all)) (no-gaps h (follows-alone h moment beat are.0.follows))) in
      inr (record {
        ends = subst (EndBefore moment) none tt;
        few = subst (λ (spans : List GapSpan). length (gaps_above floor spans) ≤ count floor (tier_beats (collected moment beat ∷ h))) none (omega arith);
      })
  counted (copied copy ∷ h) [] are = absurd are
  counted (copied copy ∷ h) (kept ∷ beats) are = inr (copy-counted h copy are.0.follows.some are.0.follows.later (counted h beats are.1))
  counted (health text ∷ h) [] are = absurd are
  counted (health text ∷ h) (kept ∷ beats) are = health-counted h text (counted h beats are.1)
  counted (missing gap ∷ h) [] are = absurd are
  counted (missing gap ∷ h) (kept ∷ beats) are = inl (gap-counted h gap are.0.from are.0.later (counted h beats are.1))

-- a checkpoint of the history has no more gaps than it may
pub few-gaps : (set : Settings) (h : List Beat) (beats : List StoreBeat) → AreBeatsOf h beats → IsTier (first_tier set) → length (gaps_above (floor_of_history set h 0) (gaps_of h)) ≤ gap_limit set
unfolding floor_of_history gap_limit
few-gaps set h beats are is_tier =
    let floor = floor_of_history set h 0 in
    omega (arith, at-most floor h (counted floor h beats are), kept-few (first_tier set) (tier_beats h) is_tier.items (are-later h beats are))
