-- What a line is answered with.
use Rattle.std.specs.Prelude.{◌≡◌, ℕ, List}
use Rattle.history.specs.declared.line.Line.{Line}
use Rattle.history.specs.declared.line.Line.TheVariants as line
use Rattle.history.specs.History.{Beat}
use Rattle.alarm_events.specs.declared.event.Event.{Event}
use Rattle.tier_settings.specs.declared.settings.Settings.{Settings}
use Rattle.agent_core.specs.declared.reply.Said.{Said}
use Rattle.agent_core.specs.declared.reply.Said.TheVariants.{Nothing, Stored, Table, Disabled}
use Rattle.agent_core.specs.Alarms.{events_at}
use Rattle.agent_core.specs.Answers.{reply_of}

-- this is said of a line, where there are so many beats with the one that it closes: of a beat, some events, and
-- of a question, some table
abbrev pub IsSaid : ℕ → Line → Said → Type 0
IsSaid count (line.Moment moment) said = (events : List Event) × (said ≡ Stored (record { count = count; events = events }))
IsSaid count (line.Query text) said = (reply : List ℕ) × (said ≡ Table reply)
IsSaid count line.Disable said = said ≡ Disabled
IsSaid count line said = said ≡ Nothing

-- the table of a question is the reply of this history
abbrev pub Answers : Settings → List Beat → Line → Said → Type 0
Answers set h (line.Query text) said = said ≡ Table (reply_of set h text)
Answers set h line said = Unit {0}

-- a beat is told with the events of the last beat of this history
abbrev pub TellsEvents : Settings → List Beat → Line → Said → Type 0
TellsEvents set h (line.Moment moment) said = (count : ℕ) × (said ≡ Stored (record { count = count; events = events_at set h }))
TellsEvents set h line said = Unit {0}
