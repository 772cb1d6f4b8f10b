-- The alarms of a health text, or its first refusal.
use Rattle.std.specs.Prelude.{◌≡◌, ℕ, ◌+◌, Bool, true, false, nat_lt, if◌then◌else◌, List, [], ◌∷◌, ◌++◌, length, map, Option, Some, None, Result, Ok, Err}
use Rattle.std.specs.Option.{option_to_list}
use Rattle.health_config.specs.declared.config.TheConstants.{TEXT_LIMIT}
use Rattle.health_config.specs.declared.fault.ConfigFault.{ConfigFault}
use Rattle.health_config.specs.declared.fault.ConfigFault.TheVariants.{NoOn, TooManyAlarms, TextTooLong}
use Rattle.health_config.specs.declared.lines.Line.{Line}
use Rattle.health_config.specs.declared.tally.Tally.{Tally}
use Rattle.health_config.specs.declared.tally.TheConstants.{ENTITY_LIMIT}
use Rattle.health_config.specs.Fault.{◌>>=◌, at_line}
use Rattle.health_config.specs.Draft.{Draft, draft_read}
use Rattle.health_config.specs.Entity.{Alarm, alarm, alarm_of, name}
use Rattle.health_config.specs.Key.{begins}
use Rattle.health_config.specs.Lines.{lines}
use Rattle.health_config.specs.Sections.{Group, Sections, sections}

-- alarms in the order of their text, and how many keys were skipped
pub record Configuration : Type 0 where
  pub alarms : List Alarm
  pub skipped : ℕ

abbrev pub both : Configuration → Configuration → Configuration
both first second = record { alarms = first.alarms ++ second.alarms; skipped = first.skipped + second.skipped }

-- ---- one entity

-- an entity is on something, or is refused where it ends, by its first line
abbrev pub ended_by : Option (List ℕ) → ℕ → Configuration → Result Configuration ConfigFault
ended_by None line config = Err (NoOn line)
ended_by (Some on) line config = Ok config

abbrev pub of_draft : List ℕ → Bool → Draft → Configuration
of_draft name template draft = record { alarms = option_to_list (alarm name template draft); skipped = draft.skipped }

abbrev pub ended : ℕ → List ℕ → Bool → Draft → Result Configuration ConfigFault
ended line name template draft = ended_by draft.on line (of_draft name template draft)

-- there is room for one entity more behind so many
abbrev pub room : ℕ → ℕ → Result ℕ ConfigFault
room before line = if nat_lt before ENTITY_LIMIT then Ok before else Err (TooManyAlarms line)

-- the alarm of an entity behind so many: its name, its place, its lines, and where it ends, in this order
abbrev pub entity : ℕ → Group → Result Configuration ConfigFault
entity before group = do
  name ← at_line group.head.number (name group.head.text)
  _ ← room before group.head.number
  draft ← draft_read true group.body
  ended group.head.number name group.template draft

-- ---- the whole

abbrev pub entities : ℕ → List Group → Result Configuration ConfigFault
entities before [] = Ok (record { alarms = []; skipped = 0 })
entities before (group ∷ groups) = do
  first ← entity before group
  more ← entities (before + 1) groups
  Ok (both first more)

-- the lines before the first entity have no alarm, and may be refused and skipped
abbrev pub prefix_skipped : List Line → Result ℕ ConfigFault
prefix_skipped prefix = draft_read false prefix >>= λ draft. Ok draft.skipped

abbrev pub none_but : ℕ → Configuration
none_but skipped = record { alarms = []; skipped = skipped }

-- what was read, and then these entities
abbrev pub then_entities : Configuration → Result Configuration ConfigFault → Result Configuration ConfigFault
then_entities done left = left >>= λ more. Ok (both done more)

abbrev pub of_sections : Sections → Result Configuration ConfigFault
of_sections all = prefix_skipped all.prefix >>= λ skipped. then_entities (none_but skipped) (entities 0 all.groups)

unfoldable pub config_read : List ℕ → Result Configuration ConfigFault
config_read text = if nat_lt TEXT_LIMIT (length text) then Err TextTooLong else of_sections (sections (lines text))

-- ---- the code's tallies

-- what the code has so far, seen with trees
abbrev pub tally_of : Tally → Configuration
tally_of tally = record { alarms = map alarm_of tally.alarms; skipped = tally.skipped }

-- what an entity adds
abbrev pub Adds : Result Configuration ConfigFault → Configuration → Configuration → Type 0
Adds read old new = (more : Configuration) × (read ≡ Ok more) × (new ≡ both old more)

-- the lines begin with this one, which begins an entity
pub record IsFound (lines : List Line) (template : Bool) (head : Line) (behind : List Line) : Type 0 where
  pub whole : lines ≡ head ∷ behind
  pub begins : begins head.text ≡ Some template
