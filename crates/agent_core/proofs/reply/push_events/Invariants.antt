use Rattle.std.proofs.Common.{◌≡◌, ◌++◌, take}
use Rattle.agent_core.specs.Replies.{event_lines}
use Rattle.agent_core.proofs.reply.push_events.Given as goal

abbrev pub invariant-loop-event : goal.invariant-loop-event
invariant-loop-event l = l.text ≡ l.initial.text ++ event_lines (take l.event-index l.events)
