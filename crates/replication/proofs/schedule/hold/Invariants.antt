use Rattle.std.proofs.Common.{◌≡◌, ◌++◌}
use Rattle.replication.proofs.schedule.hold.Given as goal

abbrev pub invariant-loop-beat : goal.invariant-loop-beat
invariant-loop-beat l = l.held ≡ l.fn.held ++ l.yielded
