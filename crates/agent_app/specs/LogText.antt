-- The lines that the log of alarms is told as.
use Rattle.std.specs.Prelude.{ℕ, List, ◌++◌, codes}
use Rattle.std.specs.Fmt.{decimal}
use Rattle.std.specs.List.{flat_map}
use Rattle.alarm_events.specs.Event.{event_line}
use Rattle.alarm_events.specs.Log.{Shown}
use Rattle.alarm_events.specs.declared.log.Log.{Log}

-- what a log shows
abbrev pub shown_by : Log → Shown
shown_by log = record { dropped = log.dropped; events = log.events }

-- how many events came before those that are shown
abbrev pub dropped_line : ℕ → List ℕ
dropped_line dropped = codes "DROPPED " ++ decimal dropped ++ codes "\n"

-- that line, and a line for each event, in their order
abbrev pub log_text : Shown → List ℕ
log_text log = dropped_line log.dropped ++ flat_map event_line log.events
