use Rattle.std.proofs.Common.{◌≡◌, ◌++◌, take}
use Rattle.alarm_events.proofs.log.fill.Given as goal

abbrev pub invariant-loop-event : goal.invariant-loop-event
invariant-loop-event l =
    (l.ring.items ≡ l.fn.ring.items ++ take l.event-index l.events) × (l.ring.capacity ≡ l.fn.ring.capacity)
