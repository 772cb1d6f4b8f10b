use Rattle.std.proofs.Common.{◌-◌, arith}
use Rattle.std.proofs.lemmas.Grind.{common_steps}
use Rattle.std.proofs.Math.Nat.{mod-lt}
use Rattle.fixed_num.proofs.UnitsTextLemmas.{decimals-none, decimals-step, pow_positive}
use Rattle.fixed_num.proofs.units_text.push_decimals.Goals as goal

pub nonzero_div-rest : goal.nonzero_div-rest
nonzero_div-rest c = rw c.pow-place.ensures (pow_positive (c.loop-rest.places - 1))

pub push_digit-requires-clause-below : goal.push_digit-requires-clause-below
push_digit-requires-clause-below c =
    rw c.pow-place.ensures ((decimals-step c.loop-rest.places c.loop-rest.rest c.loop-rest-test.true c.loop-rest.invariant.below).0)

pub nonzero_rem-rest : goal.nonzero_rem-rest
nonzero_rem-rest c = rw c.pow-place.ensures (pow_positive (c.loop-rest.places - 1))

pub loop-rest-preserved : goal.loop-rest-preserved
loop-rest-preserved c =
    let step = decimals-step c.loop-rest.places c.loop-rest.rest c.loop-rest-test.true c.loop-rest.invariant.below in
    record {
      written = grind (arith, common_steps, step.1);
      below = rw c.pow-place.ensures (mod-lt c.loop-rest.rest (pow_positive (c.loop-rest.places - 1)));
      room = grind (arith, common_steps);
      places_left = omega arith;
    }

pub returns : goal.returns
returns c = grind (arith, common_steps, decimals-none c.loop-rest.places)
