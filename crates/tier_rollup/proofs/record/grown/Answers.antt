use Rattle.std.proofs.Common.{◌≡◌, ℕ, ◌+◌, ◌-◌, ◌^◌, min, ℤ, ◌+ℤ◌, SFits, to_z, of_z, to_z-of_z, rules, ap, ◌∙◌}
use Rattle.std.specs.Int.{int_min, int_max, saturate_to_bits, w128}
use Rattle.tier_rollup.specs.Buckets.{one_if}
use Rattle.tier_rollup.proofs.RecordLemmas.{marked, same_parts, within_is}
use Rattle.tier_rollup.proofs.record.grown.Goals as goal

pub returns-clause-within : goal.returns-clause-within
returns-clause-within c =
    let units : ℤ = c.args.units in
    let low : SFits w128 c.min.result = search rules in
    let high : SFits w128 c.max.result = search rules in
    let whole : SFits w128 c.saturating_add.result = search rules in
    let least : SFits w128 c.args.before.min = search rules in
    let most : SFits w128 c.args.before.max = search rules in
    let sum : SFits w128 c.args.before.sum = search rules in
    let same : to_z w128 (of_z w128 c.args.units) ≡ c.args.units = to_z-of_z c.ranges.units in
    same_parts _ (int_min units c.args.before.min) _ (int_max units c.args.before.max) _ (saturate_to_bits 127 (units +ℤ c.args.before.sum))
    _ (min (c.args.before.count + 1) (2 ^ 32 - 1)) _ (min (c.args.before.anomalies + one_if c.args.anomalous) (2 ^ 32 - 1))
    (to_z-of_z low ∙ c.min.ensures.value
    ∙ ap (λ (x : ℤ). int_min x (to_z w128 (of_z w128 c.args.before.min))) same ∙ ap (λ (x : ℤ). int_min c.args.units x) (to_z-of_z least))
    (to_z-of_z high ∙ c.max.ensures.value
    ∙ ap (λ (x : ℤ). int_max x (to_z w128 (of_z w128 c.args.before.max))) same ∙ ap (λ (x : ℤ). int_max c.args.units x) (to_z-of_z most))
    (to_z-of_z whole ∙ c.saturating_add.ensures
    ∙ ap (λ (x : ℤ). saturate_to_bits 127 (x +ℤ to_z w128 (of_z w128 c.args.before.sum))) same
    ∙ ap (λ (x : ℤ). saturate_to_bits 127 (c.args.units +ℤ x)) (to_z-of_z sum))
    c.saturating_add-2.ensures
    (c.saturating_add-3.ensures ∙ ap (λ (one : ℕ). min (c.args.before.anomalies + one) (2 ^ 32 - 1)) (c.from.ensures ∙ marked c.args.anomalous))

pub returns-clause-exact : goal.returns-clause-exact
returns-clause-exact c = λ has. returns-clause-within c ∙ within_is c.args.before c.args.units c.args.anomalous has
