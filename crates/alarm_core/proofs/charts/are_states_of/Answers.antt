use Rattle.std.proofs.Common.{◌<◌, length, sym, ◌∙◌, arith}
use Rattle.alarm_core.specs.Charts.{owner, owner_of}
use Rattle.alarm_core.proofs.ChartLemmas.{owners_at}
use Rattle.alarm_core.proofs.charts.are_states_of.Goals as goal

pub returns-then-not-is_state_of : goal.returns-then-not-is_state_of
returns-then-not-is_state_of c =
    let inside : c.loop-place.place < length c.args.states.now = c.loop-place-test.true in
    let too : c.loop-place.place < length c.args.pairs.now = omega (arith, c.loop-place-test.true, c.if-states-pairs.false) in
    (λ never. absurd (cc), λ same. sym c.if-not-is_state_of.true ∙ c.is_state_of.ensures.1 (owners_at owner owner_of c.args.states.now c.args.pairs.now c.loop-place.place _ _ inside too same))
