use Rattle.std.proofs.Common.{◌≡◌, rules, to_z, of_z}
use Rattle.std.specs.Int.{w128}
use Rattle.fixed_num.specs.Rounding.{nearest}
use Rattle.fixed_num.proofs.RoundingLemmas.{nearest-mono, nearest_near, nearest_only}
use Rattle.fixed_num.proofs.rounding.round_half_even.Goals as goal

pub returns-clause-near : goal.returns-clause-near
returns-clause-near c =
    let value : to_z w128 (of_z w128 c.signed.result) ≡ nearest c.args.f.num c.args.f.den = search rules in
    rw value (nearest_near c.args.f.num c.args.f.den c.requires)

pub returns-clause-unique : goal.returns-clause-unique
returns-clause-unique c =
    let value : to_z w128 (of_z w128 c.signed.result) ≡ nearest c.args.f.num c.args.f.den = search rules in
    rw value (nearest_only c.args.f.num c.args.f.den c.requires)

pub returns-clause-monotone : goal.returns-clause-monotone
returns-clause-monotone c =
    let value : to_z w128 (of_z w128 c.signed.result) ≡ nearest c.args.f.num c.args.f.den = search rules in
    rw value (λ n d positive less. nearest-mono c.args.f.num c.args.f.den n d c.requires positive less)
