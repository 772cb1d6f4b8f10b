use Rattle.std.proofs.Common.{length, take, subst, sym, ap, ◌∙◌, arith}
use Rattle.std.proofs.lemmas.List.Sums.{sum_by-take-le}
use Rattle.replication.specs.World.{happens, step_points}
use Rattle.replication.specs.Points.{points_of}
use Rattle.replication.specs.Sound.{Sound}
use Rattle.replication.proofs.WorldLaws.{run-next, run-sound, run-points}
use Rattle.replication.proofs.laws.schedule.Goals as goal

pub take_step-requires-clause-sound : goal.take_step-requires-clause-sound
take_step-requires-clause-sound c = subst Sound (sym c.loop-step.invariant.runs) (run-sound (take c.loop-step.step-index c.args.steps.now))

pub take_step-requires-clause-few : goal.take_step-requires-clause-few
take_step-requires-clause-few c =
    let steps = take c.loop-step.step-index c.args.steps.now in
    omega (arith, ap (λ world. length (points_of world.beats)) c.loop-step.invariant.runs, run-points steps, sum_by-take-le step_points c.args.steps.now c.loop-step.step-index, c.requires)

pub loop-step-preserved : goal.loop-step-preserved
loop-step-preserved c =
    let x = c.step-item.result in
    record {
      runs = c.in_ok-take_step.ensures.step ∙ ap (λ world. happens world x) c.loop-step.invariant.runs
          ∙ run-next c.args.steps.now c.as_slice-step-items.result.now c.loop-step.step-index x c.as_slice-step-items.ensures c.loop-step-test.true c.step-item.is;
      end = c.in_ok-take_step.ensures.end;
    }

pub returns-clause-copy : goal.returns-clause-copy
returns-clause-copy c = let sound = subst Sound (sym c.loop-step.invariant.runs) (run-sound (take c.loop-step.step-index c.args.steps.now)) in sound.copies

pub returns-clause-told : goal.returns-clause-told
returns-clause-told c = let sound = subst Sound (sym c.loop-step.invariant.runs) (run-sound (take c.loop-step.step-index c.args.steps.now)) in sound.told

pub returns-clause-begun : goal.returns-clause-begun
returns-clause-begun c = let sound = subst Sound (sym c.loop-step.invariant.runs) (run-sound (take c.loop-step.step-index c.args.steps.now)) in sound.begun
