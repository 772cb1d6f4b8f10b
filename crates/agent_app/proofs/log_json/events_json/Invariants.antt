use Rattle.std.proofs.Common.{◌≡◌, map, take}
use Rattle.serde_json.specs.View.{view}
use Rattle.agent_app.specs.LogJson.{event_data}
use Rattle.agent_app.proofs.log_json.events_json.Given as goal

abbrev pub invariant-loop-event : goal.invariant-loop-event
invariant-loop-event l = map view l.list.items ≡ map event_data (take l.event-index l.events)
