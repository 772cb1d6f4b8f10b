use Rattle.std.proofs.Common.{◌≡◌, ◌*◌, ◌^◌, ◌<◌, ◌∙◌, ap, pos, to_z, of_z, rules, arith}
use Rattle.std.proofs.lemmas.Int.{to_z_pos}
use Rattle.std.proofs.lemmas.Nat.{mul-le}
use Rattle.std.specs.Int.{w128}
use Rattle.fixed_num.specs.Rounding.{nearest}
use Rattle.storage_number.specs.Packing.{mantissa_at}
use Rattle.storage_number.proofs.packing.mantissa_at.Goals as goal

value : (c : goal.After-round_half_even) → to_z w128 (of_z w128 c.round_half_even.result) ≡ pos (mantissa_at c.args.size c.args.den c.args.step)
value c =
    let times : c.args.size * c.args.step.den < 2 ^ 127 = omega (arith, mul-le c.args.size c.args.step.den (2 ^ 100) (10 ^ 7) c.requires.size_bound c.requires.step_bound.den_bound) in
    let over : c.args.den * c.args.step.num < 2 ^ 127 = omega (arith, mul-le c.args.den c.args.step.num (2 ^ 80) (10 ^ 14) c.requires.den_bound c.requires.step_bound.num_bound) in
    let back : to_z w128 (of_z w128 c.round_half_even.result) ≡ c.round_half_even.result = search rules in
    back
    ∙ c.round_half_even.ensures.value
    ∙ ap (λ n. nearest (to_z w128 (c.args.size * n)) (to_z w128 (c.args.den * c.from-2.result))) c.from.ensures
    ∙ ap (λ d. nearest (to_z w128 (c.args.size * c.args.step.den)) (to_z w128 (c.args.den * d))) c.from-2.ensures
    ∙ ap (λ n. nearest n (to_z w128 (c.args.den * c.args.step.num))) (to_z_pos w128 (c.args.size * c.args.step.den) times)
    ∙ ap (λ d. nearest (pos (c.args.size * c.args.step.den)) d) (to_z_pos w128 (c.args.den * c.args.step.num) over)

pub overflow_cast-result : goal.overflow_cast-result
overflow_cast-result c = rw (value c) (tt, search rules)

pub returns : goal.returns
returns c = rw (value c)
