use Rattle.std.proofs.Common.{◌≡◌, ◌++◌, Some, map, take, drop}
use Rattle.std.specs.Prelude.{All}
use Rattle.std.specs.List.{filter_map}
use Rattle.health_config.specs.Entity.{alarm_of}
use Rattle.query_engine.proofs.Keeping.{Keeps}
use Rattle.alarm_core.specs.Beats.{beat_of, state_after, event_of}
use Rattle.alarm_core.specs.Charts.{owner}
use Rattle.alarm_core.specs.Pairing.{alarm_at}
use Rattle.alarm_core.specs.Telling.{tell_all}
use Rattle.alarm_core.proofs.beats.step_due.Given as goal

abbrev pub invariant-loop-state : goal.invariant-loop-state
invariant-loop-state g l = record {
  alarm : All (λ state. alarm_at (map alarm_of l.alarms) state.alarm ≡ Some (alarm_of l.alarm)) l.states;
  owners : map owner l.states ≡ map owner l.fn.states;
  keeps : Keeps (g.P.Points.tiers l.fn.points) (g.P.Points.tiers l.points) (g.P.Points.tells l.fn.points) (g.P.Points.tells l.points) (g.P.Points.held l.points ≡ g.P.Points.held l.fn.points) (g.P.Points.faults l.fn.points) (g.P.Points.faults l.points)
      (λ series. let beat = beat_of l.sight ((g.P.Points.tiers l.fn.points).floor 0) series in
      (take l.state-index l.states ++ map (state_after beat (map alarm_of l.alarms)) (drop l.state-index l.states) ≡ map (state_after beat (map alarm_of l.alarms)) l.fn.states)
      × (tell_all l.told (filter_map (event_of beat (map alarm_of l.alarms)) (drop l.state-index l.states)) ≡ tell_all l.fn.told (filter_map (event_of beat (map alarm_of l.alarms)) l.fn.states)));
}
