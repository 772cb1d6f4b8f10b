use Rattle.std.proofs.Common.{◌≡◌, ℕ, zero, suc, ◌+◌, ◌-◌, ◌*◌, ◌/◌, ◌%◌, ◌^◌, ◌<◌, ◌≤◌, min, max, true, inl, inr, List, get_or, Option, Some, None, arith, refl, sym, ap, subst, ◌∙◌}
use Rattle.std.proofs.Math.Nat.{div-le_self, mul-le-mul_right, mul-mod_left}
use Rattle.std.proofs.lemmas.Bool.{cases_lt}
use Rattle.std.proofs.lemmas.Nat.{le-div}
use Rattle.fixed_num.specs.declared.units.Record.{Record}
use Rattle.tier_rollup.specs.declared.point.Point.{Point}
use Rattle.tier_rollup.proofs.BucketLemmas.{ends_after, starts_by}
use Rattle.query_engine.specs.declared.plan.Plan.{Plan}
use Rattle.query_engine.specs.Joining.{joined}
use Rattle.query_engine.specs.Planning.{IsPartEnd, IsPlan}
use Rattle.query_engine.specs.Points.{Tiers, are_rising_from, HaveNoRecord, IsFirstWithRecord}
use Rattle.query_engine.specs.Tiers.{record_of_buckets}
use Rattle.query_engine.specs.Windows.{record_between}
use Rattle.query_engine.proofs.WindowLemmas.{buckets_are, empty_span, next_whole, record_at_is, record_between-split, span_past, whole}

-- ---- the buckets of what is left of a window

-- the first bucket of what is left, and the last that has a moment
pub record AreBuckets (width from end first last : ℕ) : Type 0 where
  pub starts : first * width ≡ from
  pub in_order : first ≤ last
  pub fits : last < 2 ^ 32
  pub inside : (last + 1) * width ≤ end
  pub all : min end (2 ^ 32) ≤ (last + 1) * width

pub buckets_left : (width from end : ℕ) → 0 < width → from < 2 ^ 32 → from < end → from % width ≡ 0 → end % width ≡ 0
    → AreBuckets width from end (from / width) ((min end (2 ^ 32) - 1) / width)
buckets_left width from end positive fits some first_whole end_whole =
    let moment : ℕ = min end (2 ^ 32) - 1 in
    let first : from / width * width ≡ from = whole from width first_whole in
    let start : moment / width * width ≤ moment = starts_by width moment in
    let after : moment < (moment / width + 1) * width = ends_after width moment positive in
    let less : moment / width ≤ moment = div-le_self moment width in
    record {
      starts = first;
      in_order = le-div (from / width) moment width positive (omega (arith, first));
      fits = omega (arith, less);
      inside = let next : moment / width * width + width ≤ end = next_whole (moment / width * width) end width positive (mul-mod_left (moment / width) width) end_whole (omega (arith, start)) in omega (arith, next);
      all = omega (arith, after);
    }

-- ---- buckets without records

none_of_buckets : (width floor bucket count : ℕ) (points : List Point) → HaveNoRecord width floor bucket (bucket + count) points
    → record_of_buckets width floor bucket count points ≡ None
none_of_buckets width floor bucket zero points none = refl
none_of_buckets width floor bucket (suc count) points none =
    ap (λ (r : Option Record). joined r (record_of_buckets width floor (bucket + 1) count points)) (none bucket (omega arith) (omega arith))
    ∙ none_of_buckets width floor (bucket + 1) count points (λ later low high. none later (omega arith) (omega arith))

no_span : (width floor first before : ℕ) (points : List Point) → are_rising_from 0 points ≡ true → floor ≤ first * width → first ≤ before
    → HaveNoRecord width floor first before points → record_between (first * width) (before * width) points ≡ None
no_span width floor first before points rising high order none =
    let count : first + (before - first) ≡ before = omega arith in
    ap (λ n. record_between (first * width) (n * width) points) (sym count)
    ∙ sym (buckets_are width floor first (before - first) points rising high)
    ∙ none_of_buckets width floor first (before - first) points (λ later low less. none later low (omega (arith, less, count)))

-- where no bucket of what is left has a record, it comes to nothing
pub nothing_left : (width floor from end first last : ℕ) (points : List Point) → are_rising_from 0 points ≡ true → AreBuckets width from end first last → floor ≤ from
    → HaveNoRecord width floor first (last + 1) points → None ≡ record_between from end points
nothing_left width floor from end first last points rising are high none =
    sym (record_between-split from ((last + 1) * width) end points rising (omega (arith, are.starts, forward)) are.inside
    ∙ ap (λ (r : Option Record). joined r (record_between ((last + 1) * width) end points))
    (ap (λ n. record_between n ((last + 1) * width) points) (sym are.starts)
    ∙ no_span width floor first (last + 1) points rising (omega (arith, high, are.starts)) (omega (arith, are.in_order)) none)
    ∙ rest)
  where
    forward : first * width ≤ (last + 1) * width
    forward = mul-le-mul_right width (omega (arith, are.in_order))

    rest : record_between ((last + 1) * width) end points ≡ None
    rest = elim (cases_lt ((last + 1) * width) end) [
      | inl less ↦ span_past ((last + 1) * width) end points rising (omega (arith, are.all, less))
      | inr past ↦
          let same : (last + 1) * width ≡ end = omega (arith, past, are.inside) in
          ap (λ n. record_between n end points) same ∙ sym (empty_span end points)
    ]

-- up to the end of the first bucket that has a record it comes to that record
pub first_left : (width floor from end first last bucket : ℕ) (points : List Point) (found : Record) → are_rising_from 0 points ≡ true → AreBuckets width from end first last → floor ≤ from
    → IsFirstWithRecord width floor first last points bucket found → Some found ≡ record_between from ((bucket + 1) * width) points
first_left width floor from end first last bucket points found rising are high is =
    let forward : first * width ≤ bucket * width = mul-le-mul_right width is.low in
    let above : floor ≤ bucket * width = omega (arith, high, forward, are.starts) in
    sym (record_between-split from (bucket * width) ((bucket + 1) * width) points rising (omega (arith, are.starts, forward)) (omega arith)
    ∙ ap (λ (r : Option Record). joined r (record_between (bucket * width) ((bucket + 1) * width) points))
    (ap (λ n. record_between n (bucket * width) points) (sym are.starts)
    ∙ no_span width floor first bucket points rising (omega (arith, high, are.starts)) is.low is.none_before)
    ∙ sym (record_at_is width floor bucket points above)
    ∙ is.here)

-- ---- what the code reads

pub buckets_read : (width w from end least : ℕ) → w ≡ width → least ≡ min end (2 ^ 32) → 0 < width → from < 2 ^ 32 → from < end → from % width ≡ 0 → end % width ≡ 0
    → AreBuckets width from end (from / w) ((least - 1) / w)
buckets_read width w from end least same is positive fits some first_whole end_whole =
    subst (λ v. AreBuckets width from end (from / v) ((least - 1) / v)) (sym same)
    (subst (λ n. AreBuckets width from end (from / width) ((n - 1) / width)) (sym is) (buckets_left width from end positive fits some first_whole end_whole))

pub part_end : (plan : Plan) (from end first last bucket w : ℕ) → AreBuckets plan.width from end first last → w ≡ plan.width → 0 < plan.width → first ≤ bucket → bucket ≤ last
    → IsPartEnd plan from end ((bucket + 1) * w)
part_end plan from end first last bucket w are same positive low high =
    subst (λ v. IsPartEnd plan from end ((bucket + 1) * v)) (sym same) (record {
      later = let forward : first * plan.width ≤ bucket * plan.width = mul-le-mul_right plan.width low in omega (arith, forward, are.starts);
      inside = let forward : (bucket + 1) * plan.width ≤ (last + 1) * plan.width = mul-le-mul_right plan.width (omega (arith, high)) in omega (arith, forward, are.inside);
      whole = λ not. mul-mod_left (bucket + 1) plan.width;
    })

pub part_found : (plan : Plan) (tiers : Tiers) (from end first last bucket read w : ℕ) (points : List Point) (found : Record) → AreBuckets plan.width from end first last → IsPlan tiers plan
    → w ≡ plan.width → read ≡ max first (min bucket last) → are_rising_from 0 points ≡ true → plan.floor ≤ from
    → IsFirstWithRecord (get_or tiers.widths plan.tier 0) (tiers.floor plan.tier) first last points bucket found
    → Some found ≡ record_between from ((read + 1) * w) points
part_found plan tiers from end first last bucket read w points found are is_plan same clamped rising high is =
    let place : read ≡ bucket = omega (arith, clamped, is.low, is.high) in
    let left : IsFirstWithRecord plan.width plan.floor first last points bucket found =
    subst (λ v. IsFirstWithRecord v plan.floor first last points bucket found) (sym is_plan.width)
    (subst (λ f. IsFirstWithRecord (get_or tiers.widths plan.tier 0) f first last points bucket found) (sym is_plan.floor) is) in
    first_left plan.width plan.floor from end first last bucket points found rising are high left
    ∙ ap (λ b. record_between from ((b + 1) * plan.width) points) (sym place)
    ∙ ap (λ v. record_between from ((read + 1) * v) points) (sym same)

pub part_empty : (plan : Plan) (tiers : Tiers) (from end first last : ℕ) (points : List Point) → AreBuckets plan.width from end first last → IsPlan tiers plan
    → are_rising_from 0 points ≡ true → plan.floor ≤ from
    → HaveNoRecord (get_or tiers.widths plan.tier 0) (tiers.floor plan.tier) first (last + 1) points
    → None ≡ record_between from end points
part_empty plan tiers from end first last points are is_plan rising high none =
    nothing_left plan.width plan.floor from end first last points rising are high
    (subst (λ v. HaveNoRecord v plan.floor first (last + 1) points) (sym is_plan.width)
    (subst (λ f. HaveNoRecord (get_or tiers.widths plan.tier 0) f first (last + 1) points) (sym is_plan.floor) none))
