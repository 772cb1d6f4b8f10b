-- What is told: each event is noted in the log, with the log's next number.
use Rattle.std.specs.Prelude.{List, [], ◌∷◌, ◌++◌, Option, Some, None}
use Rattle.std.specs.List.{fold}
use Rattle.alarm_events.specs.declared.event.Event.{Event}
use Rattle.alarm_events.specs.Log.{Shown, noted, next_id}
use Rattle.alarm_core.specs.declared.telling.Told.{Told}

-- an event with the next number of a log
abbrev pub numbered : Shown → Event → Event
numbered log event = record event { id = next_id log }

abbrev pub tell : Told → Event → Told
tell told event = record { log = noted told.log event; events = told.events ++ numbered told.log event ∷ [] }

abbrev pub tell_some : Told → Option Event → Told
tell_some told None = told
tell_some told (Some event) = tell told event

-- one event after the other
abbrev pub tell_all : Told → List Event → Told
tell_all told events = fold tell told events
