use Rattle.std.proofs.Common.{◌≡◌, ℕ, ◌+◌, ◌-◌, ◌^◌, ◌<◌, min, Bool, true, false, Some, ℤ, ◌+ℤ◌, SFits, to_z, of_z, to_z-of_z, rules, arith, ap, ◌∙◌}
use Rattle.std.specs.Int.{int_min, int_max, saturate_to_bits, from_bool, w128}
use Rattle.tier_rollup.specs.Buckets.{one_if}
use Rattle.tier_rollup.proofs.RecordLemmas.{same_parts, unsaturated, counted}
use Rattle.alarm_core.proofs.record.grown.Goals as goal

marked : (anomalous : Bool) (count one sum : ℕ) → one ≡ from_bool anomalous → sum ≡ min (count + one) (2 ^ 32 - 1) → count + one_if anomalous < 2 ^ 32 → sum ≡ count + one_if anomalous
marked true count one sum is made few = omega arith
marked false count one sum is made few = omega arith

pub returns : goal.returns
returns c = λ has.
    let units : ℤ = c.args.units in
    let low : SFits w128 c.min.result = search rules in
    let high : SFits w128 c.max.result = search rules in
    let whole : SFits w128 c.saturating_add.result = search rules in
    let least : SFits w128 c.args.before.min = search rules in
    let most : SFits w128 c.args.before.max = search rules in
    let sum : SFits w128 c.args.before.sum = search rules in
    let same : to_z w128 (of_z w128 c.args.units) ≡ c.args.units = to_z-of_z c.ranges.units in
    ap Some (same_parts _ (int_min c.args.before.min units) _ (int_max c.args.before.max units) _ (c.args.before.sum +ℤ units)
    _ (c.args.before.count + 1) _ (c.args.before.anomalies + one_if c.args.anomalous)
    (to_z-of_z low ∙ c.min.ensures.value
    ∙ ap (λ (x : ℤ). int_min x (to_z w128 (of_z w128 units))) (to_z-of_z least) ∙ ap (λ (x : ℤ). int_min c.args.before.min x) same)
    (to_z-of_z high ∙ c.max.ensures.value
    ∙ ap (λ (x : ℤ). int_max x (to_z w128 (of_z w128 units))) (to_z-of_z most) ∙ ap (λ (x : ℤ). int_max c.args.before.max x) same)
    (to_z-of_z whole ∙ c.saturating_add.ensures
    ∙ ap (λ (x : ℤ). saturate_to_bits 127 (x +ℤ to_z w128 (of_z w128 units))) (to_z-of_z sum)
    ∙ ap (λ (x : ℤ). saturate_to_bits 127 (c.args.before.sum +ℤ x)) same
    ∙ unsaturated (c.args.before.sum +ℤ units) has.sum_room)
    (counted c.args.before.count 1 c.saturating_add-2.result c.saturating_add-2.ensures has.count_room)
    (marked c.args.anomalous c.args.before.anomalies c.from.result c.saturating_add-3.result c.from.ensures c.saturating_add-3.ensures has.anomalies_room))
