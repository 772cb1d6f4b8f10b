use Rattle.std.proofs.Common.{◌≡◌, ◌++◌, map, drop, take}
use Rattle.std.specs.Prelude.{◌==◌}
use Rattle.std.specs.List.{dedup, flat_map}
use Rattle.alarm_core.specs.Runs.{alarms_in, alarms_with}
use Rattle.alarm_core.proofs.runs.runs_of.Given as goal

abbrev pub invariant-loop-pair : goal.invariant-loop-pair
invariant-loop-pair l = record {
  alarms : flat_map alarms_in l.runs ++ alarms_in l.run ≡ map (λ pair. pair.alarm) (take l.pair-index l.pairs);
  whole : alarms_with l.runs l.run (map (λ pair. pair.alarm) (drop l.pair-index l.pairs)) ≡ dedup ◌==◌ (map (λ pair. pair.alarm) l.pairs);
}
