use Rattle.std.proofs.Common.{◌≡◌, ◌*◌, ◌∙◌, rules, unsigned_abs}
use Rattle.fixed_num.specs.Rounding.{half_even, signed, differ_in_sign}
use Rattle.fixed_num.specs.Units.{one}
use Rattle.fixed_num.proofs.UnitsLemmas.{nearest_quotient, within}
use Rattle.fixed_num.proofs.units.div.Goals as goal

pub returns : goal.returns
returns c =
    let parts : signed (differ_in_sign c.args.a c.args.b) (half_even (unsigned_abs c.args.a * one) (unsigned_abs c.args.b)) ≡ signed c.differ_in_sign.result c.half_even-size.result = search rules in
    within c.within_limit.result _ _ _ c.within_limit.ensures (nearest_quotient c.args.a c.args.b ∙ parts)
