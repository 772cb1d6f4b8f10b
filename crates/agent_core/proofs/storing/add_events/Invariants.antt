use Rattle.std.proofs.Common.{◌≡◌, ◌++◌}
use Rattle.agent_core.proofs.storing.add_events.Given as goal

abbrev pub invariant-loop-event : goal.invariant-loop-event
invariant-loop-event l = l.events ≡ l.initial.events ++ l.yielded
