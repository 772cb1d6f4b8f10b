use Rattle.std.proofs.Common.{◌≡◌, ◌*◌, ◌∙◌, rules, unsigned_abs}
use Rattle.fixed_num.specs.Rounding.{half_even, signed, differ_in_sign}
use Rattle.fixed_num.specs.Units.{one}
use Rattle.fixed_num.proofs.UnitsLemmas.{nearest_product, within}
use Rattle.fixed_num.proofs.units.mul.Goals as goal

pub returns : goal.returns
returns c =
    let parts : signed (differ_in_sign c.args.a c.args.b) (half_even (unsigned_abs c.args.a * unsigned_abs c.args.b) one) ≡ signed c.differ_in_sign.result c.in_ok-size.size = search rules in
    within c.within_limit.result _ _ _ c.within_limit.ensures (nearest_product c.args.a c.args.b ∙ parts)
