use Rattle.std.proofs.Common.{◌≡◌, ◌++◌, take}
use Rattle.std.specs.List.{flat_map}
use Rattle.alarm_events.specs.Event.{event_line}
use Rattle.agent_app.proofs.log_text.push_lines.Given as goal

abbrev pub invariant-loop-event : goal.invariant-loop-event
invariant-loop-event l = l.text ≡ l.fn.text ++ flat_map event_line (take l.event-index l.events)
