use Rattle.std.proofs.Common.{ℕ, ◌+◌, ◌-◌, List, length, get_or, map, arith, refl, ap, ◌∙◌}
use Rattle.std.proofs.lemmas.List.{length-map}
use Rattle.health_config.specs.Entity.{alarm_of}
use Rattle.alarm_core.specs.declared.runs.Run.{Run}
use Rattle.alarm_core.specs.declared.state.Holder.{Holder}
use Rattle.alarm_core.specs.declared.state.State.{State}
use Rattle.alarm_core.specs.Beats.{beat_of, state_after, event_of}
use Rattle.alarm_core.specs.Charts.{owner}
use borrow.Rule.Slice.PartMut.{put_mid}
use Rattle.alarm_core.proofs.RunLemmas.{next_run, run_length, behind_run, run_in_place, told_of_run, owners_of_run}
use Rattle.alarm_core.proofs.beats.step_states.Goals as goal

abbrev nothing : Run
nothing = record { alarm = 0; len = 0 }

pub overflow_add-stop : goal.overflow_add-stop
overflow_add-stop g c =
    let run : Run = get_or c.args.runs.now c.loop-run.run-index nothing in
    let next = next_run c.args.runs.now c.loop-run.run-index nothing c.loop-run.states c.loop-run.first (c.loop-run.first + run.len) refl c.loop-run-test.true c.loop-run.invariant.within c.loop-run.invariant.rest in
    omega (arith, next.within)

pub slice_bounds-step_run-end : goal.slice_bounds-step_run-end
slice_bounds-step_run-end g c =
    let run : Run = get_or c.args.runs.now c.loop-run.run-index nothing in
    let next = next_run c.args.runs.now c.loop-run.run-index nothing c.loop-run.states c.loop-run.first (c.loop-run.first + run.len) refl c.loop-run-test.true c.loop-run.invariant.within c.loop-run.invariant.rest in
    next.within

pub step_run-requires : goal.step_run-requires
step_run-requires g c =
    let run : Run = get_or c.args.runs.now c.loop-run.run-index nothing in
    let next = next_run c.args.runs.now c.loop-run.run-index nothing c.loop-run.states c.loop-run.first (c.loop-run.first + run.len) refl c.loop-run-test.true c.loop-run.invariant.within c.loop-run.invariant.rest in
    next.row

pub returns-in_err-step_run-clause-owners : goal.returns-in_err-step_run-clause-owners
returns-in_err-step_run-clause-owners g c =
    let run : Run = get_or c.args.runs.now c.loop-run.run-index nothing in
    let first = c.loop-run.first in
    let stop = first + run.len in
    let states = c.loop-run.states in
    let next = next_run c.args.runs.now c.loop-run.run-index nothing states first stop refl c.loop-run-test.true c.loop-run.invariant.within c.loop-run.invariant.rest in
    let long = run_length owner states c.step_run.new.states first stop next.order next.within c.step_run.ensures.owners in
    owners_of_run owner states c.step_run.new.states first stop next.order next.within long c.step_run.ensures.owners ∙ c.loop-run.invariant.owners

pub loop-run-preserved : goal.loop-run-preserved
loop-run-preserved g c =
    let alarms = map alarm_of c.args.alarms.now in
    let run : Run = get_or c.args.runs.now c.loop-run.run-index nothing in
    let first = c.loop-run.first in
    let stop = first + run.len in
    let states = c.loop-run.states in
    let part = c.step_run.new.states in
    let next = next_run c.args.runs.now c.loop-run.run-index nothing states first stop refl c.loop-run-test.true c.loop-run.invariant.within c.loop-run.invariant.rest in
    let long = run_length owner states part first stop next.order next.within c.step_run.ensures.owners in
    let owners = owners_of_run owner states part first stop next.order next.within long c.step_run.ensures.owners in
    record {
      within = omega (
        arith,
        next.within,
        ap (λ (all : List (Holder × ℕ)). length all) owners,
        length-map (put_mid first (stop - first) states part) owner,
        length-map states owner,
      );
      rest = ap (map (λ (state : State). state.alarm)) (behind_run states part first stop next.order next.within long) ∙ next.rest;
      owners = owners ∙ c.loop-run.invariant.owners;
      keeps = record {
        same = c.step_run.ensures.tiers ∙ c.loop-run.invariant.keeps.same;
        still = λ told tells. c.step_run.ensures.told told (c.loop-run.invariant.keeps.still told tells);
        holds = c.step_run.ensures.held ∙ c.loop-run.invariant.keeps.holds;
        unfailed = c.in_ok-step_run.ensures.cause.stays (λ e. absurd cc) ∙ c.loop-run.invariant.keeps.unfailed;
        so_far = λ told tells.
            let beat = beat_of c.args.sight.now ((g.P.Points.tiers c.args.points.now).floor 0) told in
            let steps = rw c.loop-run.invariant.keeps.same at (c.in_ok-step_run.ensures.steps told (c.loop-run.invariant.keeps.still told tells)) in (
              run_in_place (state_after beat alarms) states part first stop next.order next.within long steps.states ∙ (c.loop-run.invariant.keeps.so_far told tells).0,
              told_of_run (event_of beat alarms) states part first stop c.loop-run.told c.step_run.new.told next.order next.within long steps.told
                  ∙ (c.loop-run.invariant.keeps.so_far told tells).1,
            );
      };
    }
