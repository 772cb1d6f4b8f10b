use Rattle.std.proofs.Common.{◌≡◌, ℕ, ◌<◌, Some, length, map, arith, ap, ◌∙◌}
use Rattle.std.proofs.lemmas.List.Elements.{All-set}
use Rattle.health_config.specs.Entity.{alarm_of}
use Rattle.alarm_core.specs.declared.state.Holder.{Holder}
use Rattle.alarm_core.specs.declared.state.State.{State}
use Rattle.alarm_core.specs.Beats.{beat_of, state_after, event_of}
use Rattle.alarm_core.specs.Charts.{owner}
use Rattle.alarm_core.specs.Pairing.{alarm_at}
use Rattle.alarm_core.proofs.RunLemmas.{in_place, told_in_place, same_owner}
use Rattle.alarm_core.proofs.beats.step_due.Goals as goal

pub returns-in_err-step_one-clause-owners : goal.returns-in_err-step_one-clause-owners
returns-in_err-step_one-clause-owners g c =
    let inside : c.loop-state.state-index < length c.loop-state.states = omega (arith, c.loop-state-test.true, c.loop-state.auto.states) in
    same_owner owner c.loop-state.states c.loop-state.state-index c.step_one.new.state _ inside c.step_one.ensures.owner ∙ c.loop-state.invariant.owners

pub loop-state-preserved : goal.loop-state-preserved
loop-state-preserved g c =
    let alarms = map alarm_of c.args.alarms.now in
    let states = c.loop-state.states in
    let i = c.loop-state.state-index in
    let after = c.step_one.new.state in
    let inside : i < length states = omega (arith, c.loop-state-test.true, c.loop-state.auto.states) in
    record {
      alarm = All-set (λ (state : State). alarm_at alarms state.alarm ≡ Some (alarm_of c.args.alarm.now)) states i after
          (ap (λ (o : Holder × ℕ). alarm_at alarms o.0) c.step_one.ensures.owner ∙ c.loop-state.invariant.alarm i _ inside) c.loop-state.invariant.alarm;
      owners = same_owner owner states i after _ inside c.step_one.ensures.owner ∙ c.loop-state.invariant.owners;
      keeps = record {
        same = c.step_one.ensures.tiers ∙ c.loop-state.invariant.keeps.same;
        still = λ told tells. c.step_one.ensures.told told (c.loop-state.invariant.keeps.still told tells);
        holds = c.step_one.ensures.held ∙ c.loop-state.invariant.keeps.holds;
        unfailed = c.in_ok-step_one.ensures.cause.stays (λ e. absurd cc) ∙ c.loop-state.invariant.keeps.unfailed;
        so_far = λ told tells.
            let beat = beat_of c.args.sight.now ((g.P.Points.tiers c.args.points.now).floor 0) told in
            let still = c.loop-state.invariant.keeps.still told tells in
            let made = rw c.loop-state.invariant.keeps.same at (c.in_ok-step_one.ensures.state told still) in
            let event = rw c.loop-state.invariant.keeps.same at (c.in_ok-step_one.ensures.event told still) in (
              in_place (state_after beat alarms) states i after _ inside made ∙ (c.loop-state.invariant.keeps.so_far told tells).0,
              told_in_place (event_of beat alarms) states i after _ c.loop-state.told c.step_one.new.told inside event ∙ (c.loop-state.invariant.keeps.so_far told tells).1,
            );
      };
    }
