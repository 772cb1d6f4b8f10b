-- The line of JSON that the log of alarms is told as.
use Rattle.std.specs.Prelude.{ℕ, List, [], ◌∷◌, ◌++◌, map, codes, Option, Some, None}
use Rattle.serde_json.specs.Data.{Data, null, unsigned, number, string, array, object, Members, no_members, member}
use Rattle.serde_json.specs.View.{items_of}
use Rattle.serde_json.specs.Written.{compact_text}
use Rattle.alarm_events.specs.Event.{value_text}
use Rattle.alarm_events.specs.Log.{Shown}
use Rattle.alarm_events.specs.Status.{name}
use Rattle.alarm_events.specs.declared.event.Event.{Event}

abbrev members : List (List ℕ × Data) → Members
members [] = no_members
members (one ∷ more) = member one.0 one.1 (members more)

-- an object with these members, in their order
abbrev pub object_of : List (List ℕ × Data) → Data
object_of list = object (members list)

-- no due moment is null
abbrev pub due_data : Option ℕ → Data
due_data None = null
due_data (Some moment) = number (unsigned moment)

-- the keys stand in the order of their bytes; the value is a text, as in the event's line
abbrev pub event_data : Event → Data
event_data event = object_of (
    (codes "alarm", string event.alarm)
    ∷ (codes "chart", string event.chart)
    ∷ (codes "due", due_data event.due)
    ∷ (codes "id", number (unsigned event.id))
    ∷ (codes "moment", number (unsigned event.moment))
    ∷ (codes "new", string (name event.new))
    ∷ (codes "old", string (name event.old))
    ∷ (codes "value", string (value_text event.value))
    ∷ []
    )

abbrev pub log_data : Shown → Data
log_data log = object_of ((codes "dropped", number (unsigned log.dropped)) ∷ (codes "events", array (items_of (map event_data log.events))) ∷ [])

-- no blanks outside of strings
abbrev pub log_line : Shown → List ℕ
log_line log = compact_text (log_data log)

-- that, and a line feed
abbrev pub log_json : Shown → List ℕ
log_json log = log_line log ++ codes "\n"
