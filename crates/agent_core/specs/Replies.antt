-- What is told of a stored beat.
use Rattle.std.specs.Prelude.{ℕ, List, [], ◌∷◌, ◌++◌, codes, decimal}
use Rattle.alarm_events.specs.declared.event.Event.{Event}
use Rattle.alarm_events.specs.Event.{event_line}
use Rattle.agent_core.specs.declared.reply.Reply.{Reply}

-- the word STORED, the number of the beat, and a line feed
abbrev pub stored_line : ℕ → List ℕ
stored_line count = codes "STORED " ++ decimal count ++ 10 ∷ []

-- the line of each event, the earliest first
abbrev pub event_lines : List Event → List ℕ
event_lines [] = []
event_lines (event ∷ events) = event_line event ++ event_lines events

-- the line of the beat, and then those of its events
abbrev pub reply_text : Reply → List ℕ
reply_text reply = stored_line reply.count ++ event_lines reply.events
