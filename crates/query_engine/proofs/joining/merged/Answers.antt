use Rattle.std.proofs.Common.{◌+◌, ℤ, ◌+ℤ◌, SFits, to_z, of_z, to_z-of_z, rules, ap, ◌∙◌}
use Rattle.std.specs.Int.{int_min, int_max, saturate_to_bits, w128}
use Rattle.tier_rollup.proofs.RecordLemmas.{same_parts, unsaturated, counted}
use Rattle.query_engine.proofs.joining.merged.Goals as goal

pub returns : goal.returns
returns c = λ has.
    let low : SFits w128 c.min.result = search rules in
    let high : SFits w128 c.max.result = search rules in
    let whole : SFits w128 c.saturating_add.result = search rules in
    let one_min : SFits w128 c.args.one.min = search rules in
    let one_max : SFits w128 c.args.one.max = search rules in
    let one_sum : SFits w128 c.args.one.sum = search rules in
    let other_min : SFits w128 c.args.other.min = search rules in
    let other_max : SFits w128 c.args.other.max = search rules in
    let other_sum : SFits w128 c.args.other.sum = search rules in
    same_parts _ (int_min c.args.one.min c.args.other.min) _ (int_max c.args.one.max c.args.other.max) _ (c.args.one.sum +ℤ c.args.other.sum)
    _ (c.args.one.count + c.args.other.count) _ (c.args.one.anomalies + c.args.other.anomalies)
    (to_z-of_z low ∙ c.min.ensures.value
    ∙ ap (λ (x : ℤ). int_min x (to_z w128 (of_z w128 c.args.other.min))) (to_z-of_z one_min) ∙ ap (λ (x : ℤ). int_min c.args.one.min x) (to_z-of_z other_min))
    (to_z-of_z high ∙ c.max.ensures.value
    ∙ ap (λ (x : ℤ). int_max x (to_z w128 (of_z w128 c.args.other.max))) (to_z-of_z one_max) ∙ ap (λ (x : ℤ). int_max c.args.one.max x) (to_z-of_z other_max))
    (to_z-of_z whole ∙ c.saturating_add.ensures
    ∙ ap (λ (x : ℤ). saturate_to_bits 127 (x +ℤ to_z w128 (of_z w128 c.args.other.sum))) (to_z-of_z one_sum)
    ∙ ap (λ (x : ℤ). saturate_to_bits 127 (c.args.one.sum +ℤ x)) (to_z-of_z other_sum)
    ∙ unsaturated (c.args.one.sum +ℤ c.args.other.sum) has.sum_room)
    (counted c.args.one.count c.args.other.count c.saturating_add-2.result c.saturating_add-2.ensures has.count_room)
    (counted c.args.one.anomalies c.args.other.anomalies c.saturating_add-3.result c.saturating_add-3.ensures has.anomalies_room)
