use Rattle.std.proofs.Common.{◌≡◌, take}
use Rattle.replication.specs.Sound.{IsEndOf}
use Rattle.replication.specs.World.{run}
use Rattle.replication.proofs.laws.schedule.Given as goal

abbrev pub invariant-loop-step : goal.invariant-loop-step
invariant-loop-step l = record {
  runs : l.world ≡ run (take l.step-index l.steps);
  end : IsEndOf l.world l.parent;
}
