use Rattle.std.proofs.Common.{◌≡◌, ◌≤◌, ◌++◌, length, map, take, drop}
use Rattle.std.specs.List.{filter_map, flat_map}
use Rattle.health_config.specs.Entity.{alarm_of}
use Rattle.query_engine.proofs.Keeping.{Keeps}
use Rattle.alarm_core.specs.declared.state.Holder.TheVariants as holder
use Rattle.alarm_core.specs.Beats.{beat_of, state_after, event_of}
use Rattle.alarm_core.specs.Charts.{owner}
use Rattle.alarm_core.specs.Runs.{alarms_in}
use Rattle.alarm_core.specs.Telling.{tell_all}
use Rattle.alarm_core.proofs.beats.step_states.Given as goal

abbrev pub invariant-loop-run : goal.invariant-loop-run
invariant-loop-run g l = record {
  within : l.first ≤ length l.states;
  rest : map (λ state. state.alarm) (drop l.first l.states) ≡ map holder.Alarm (flat_map alarms_in (drop l.run-index l.runs));
  owners : map owner l.states ≡ map owner l.fn.states;
  keeps : Keeps (g.P.Points.tiers l.fn.points) (g.P.Points.tiers l.points) (g.P.Points.tells l.fn.points) (g.P.Points.tells l.points) (g.P.Points.held l.points ≡ g.P.Points.held l.fn.points) (g.P.Points.faults l.fn.points) (g.P.Points.faults l.points)
      (λ series. let beat = beat_of l.sight ((g.P.Points.tiers l.fn.points).floor 0) series in
      (take l.first l.states ++ map (state_after beat (map alarm_of l.alarms)) (drop l.first l.states) ≡ map (state_after beat (map alarm_of l.alarms)) l.fn.states)
      × (tell_all l.told (filter_map (event_of beat (map alarm_of l.alarms)) (drop l.first l.states)) ≡ tell_all l.fn.told (filter_map (event_of beat (map alarm_of l.alarms)) l.fn.states)));
}
