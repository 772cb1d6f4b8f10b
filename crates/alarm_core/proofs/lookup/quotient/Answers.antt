use Rattle.std.proofs.Common.{◌≡◌, true, ℤ, pos, ◌-ℤ◌, int_lt, SFits, to_z, of_z, to_z-of_z, rules, sym, ap, ◌∙◌}
use Rattle.std.specs.Int.{w128}
use Rattle.fixed_num.specs.Rounding.{nearest}
use Rattle.alarm_core.proofs.LookupLemmas.{turned_fits, nearest-turned}
use Rattle.alarm_core.proofs.lookup.quotient.Goals as goal

pub returns-then-den-lt0 : goal.returns-then-den-lt0
returns-then-den-lt0 c =
    let num : ℤ = c.args.num in
    let den : ℤ = c.args.den in
    let whole : SFits w128 c.round_half_even.result = search rules in
    let same_num : to_z w128 (of_z w128 num) ≡ num = to_z-of_z c.ranges.num in
    let same_den : to_z w128 (of_z w128 den) ≡ den = to_z-of_z c.ranges.den in
    let below : int_lt den (pos 0) ≡ true = ap (λ (z : ℤ). int_lt z (pos 0)) (sym same_den) ∙ c.if-den-lt0.true in
    to_z-of_z whole ∙ c.round_half_even.ensures.value
    ∙ ap (λ (z : ℤ). nearest (to_z w128 (of_z w128 (pos 0 -ℤ z))) (to_z w128 (of_z w128 (pos 0 -ℤ to_z w128 (of_z w128 den))))) same_num
    ∙ ap (λ (z : ℤ). nearest z (to_z w128 (of_z w128 (pos 0 -ℤ to_z w128 (of_z w128 den))))) (to_z-of_z (turned_fits num c.requires.num))
    ∙ ap (λ (z : ℤ). nearest (pos 0 -ℤ num) (to_z w128 (of_z w128 (pos 0 -ℤ z)))) same_den
    ∙ ap (λ (z : ℤ). nearest (pos 0 -ℤ num) z) (to_z-of_z (turned_fits den c.requires.den))
    ∙ nearest-turned num den below
