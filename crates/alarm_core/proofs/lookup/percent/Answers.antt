use Rattle.std.proofs.Common.{◌≡◌, ◌||◌, false, ℤ, pos, ◌*ℤ◌, SFits, to_z, of_z, to_z-of_z, rules, sym, ap, ◌∙◌}
use Rattle.std.specs.Int.{w128}
use Rattle.fixed_num.specs.Rounding.{nearest}
use Rattle.health_expr.specs.Value.{fixed}
use Rattle.alarm_core.specs.Lookups.{is_past}
use Rattle.alarm_core.proofs.LookupLemmas.{product_fits, not_zero, percent_is}
use Rattle.alarm_core.proofs.lookup.percent.Goals as goal

pub returns-else-is_far-clause-percent : goal.returns-else-is_far-clause-percent
returns-else-is_far-clause-percent c =
    let number : ℤ = c.args.number in
    let all : ℤ = c.args.all in
    let same_number : to_z w128 (of_z w128 number) ≡ number = to_z-of_z c.ranges.number in
    let same_all : to_z w128 (of_z w128 all) ≡ all = to_z-of_z c.ranges.all in
    let share_fits : SFits w128 c.quotient.result = search rules in
    let near : (is_past number || is_past all) ≡ false =
    ap (λ (z : ℤ). is_past z || is_past all) (sym same_number)
    ∙ ap (λ (z : ℤ). is_past (to_z w128 (of_z w128 number)) || is_past z) (sym same_all)
    ∙ sym c.is_far.ensures ∙ c.if-is_far.false in
    let share : c.quotient.result ≡ nearest (pos 1000000000 *ℤ number) all =
    c.quotient.ensures
    ∙ ap (λ (z : ℤ). nearest (to_z w128 (of_z w128 (pos 1000000000 *ℤ z))) (to_z w128 (of_z w128 all))) same_number
    ∙ ap (λ (z : ℤ). nearest z (to_z w128 (of_z w128 all))) (to_z-of_z (product_fits number all near))
    ∙ ap (nearest (pos 1000000000 *ℤ number)) same_all in
    c.capped.ensures.value
    ∙ ap fixed (to_z-of_z share_fits ∙ share)
    ∙ percent_is number all (not_zero all c.if-all-eq0.false) near
