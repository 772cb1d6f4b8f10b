-- The log of events: those that are shown, and how many came before them.
use Rattle.std.specs.Prelude.{ℕ, ◌+◌, ◌-◌, ◌^◌, min, List, [], ◌∷◌, ◌++◌, length}
use Rattle.circular_buffer.specs.Buffer.{keep_last}
use Rattle.alarm_events.specs.declared.event.Event.{Event}
use Rattle.alarm_events.specs.declared.log.TheConstants.{SHOWN}

-- how many events are shown
abbrev pub most_shown : ℕ
most_shown = SHOWN

-- a count that stands still at the end of its type
abbrev pub counted : ℕ → ℕ
counted count = min count (2 ^ 64 - 1)

pub record Shown : Type 0 where
  -- how many events came before those that are shown
  pub dropped : ℕ
  -- the earliest first
  pub events : List Event

-- of all events the last are shown
abbrev pub shown : List Event → Shown
shown all = record { dropped = counted (length all - most_shown); events = keep_last most_shown all }

-- the number of the next event
abbrev pub next_id : Shown → ℕ
next_id log = counted (log.dropped + length log.events + 1)

-- the log with one event more, which has the next number
abbrev pub noted : Shown → Event → Shown
noted log event = record {
  dropped = counted (log.dropped + (length log.events + 1 - most_shown));
  events = keep_last most_shown (log.events ++ record event { id = next_id log } ∷ []);
}
