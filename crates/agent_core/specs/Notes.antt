-- From what is stored an agent can be opened: the side is that of charts and dimensions and of alarms of these, the entries
-- in the notes go on, each from what those before it leave, and points are of series that are there. A list of beats has the
-- newest first; those of a disk have the oldest first.
use Rattle.std.specs.Prelude.{◌≡◌, ℕ, nat_lt, Bool, true, false, ◌&&◌, List, [], ◌∷◌, length, Option, Some, None, is_none, is_some, Result, Ok, Err, if◌then◌else◌}
use Rattle.std.specs.List.{list_all}
use Rattle.std.specs.Option.{option_and_then, option_map, option_map_or}
use Rattle.host_model.specs.declared.file.File.{File}
use Rattle.history.specs.History.{Beat, registry_of}
use Rattle.history.specs.Registry.{Registry, empty}
use Rattle.history.specs.declared.numbered.NumberedBeat.{NumberedBeat}
use Rattle.alarm_core.specs.Kept.{of_kept}
use Rattle.side_codec.specs.declared.role.SideRole.{SideRole}
use Rattle.side_codec.specs.declared.role.SideRole.TheVariants as side_role
use Rattle.side_codec.specs.declared.side.Side.{Side}
use Rattle.side_codec.specs.Sides.{read_side}
use Rattle.entry_codec.specs.declared.entry.Entry.{Entry}
use Rattle.entry_codec.specs.declared.entry.Entry.TheVariants as entry
use Rattle.entry_codec.specs.declared.fault.EntryFault.{EntryFault}
use Rattle.entry_codec.specs.Entries.{read_entry}
use Rattle.beat_entries.specs.Copied.{copied_goes_on, defined_by}
use Rattle.chart_registry.specs.Taking.{is_number}
use Rattle.beat_entries.specs.Next.{goes_on, with_numbered}
use Rattle.checkpoint_body.specs.declared.body.Body.{Body}
use Rattle.store_core.specs.declared.beats.beat.Beat.{Beat as StoreBeat}
use Rattle.store_core.specs.beats.Records.{with_all}
use Rattle.beat_tiers.specs.declared.item.BeatPoint.{BeatPoint}
use Rattle.store_core.specs.Damaged.{HasForm}
use Rattle.store_core.specs.Stands.{is_made}
use Rattle.agent_core.specs.declared.left.Left.{Left}
use Rattle.agent_core.specs.declared.left.Role.{Role}
use Rattle.agent_core.specs.declared.left.Role.TheVariants.{Undecided, Collects, Copies}
use Rattle.agent_core.specs.Health.{health_refusal}
use Rattle.agent_core.specs.Roles.{may_collect, may_copy, role_of}

-- ---- the entry of a note

-- the moment of an entry's beat: a gap counts with its end, and a configuration has none
abbrev pub moment_of : Entry → Option ℕ
moment_of (entry.Collected found) = Some found.moment
moment_of (entry.Copied found) = Some found.moment
moment_of (entry.Health text) = None
moment_of (entry.Gap gap) = Some gap.to

abbrev pub same_moment : Option ℕ → Option ℕ → Bool
same_moment None moment = is_none moment
same_moment (Some own) moment = is_number own moment

-- the entry that was read, if this is its moment
abbrev pub entry_at : Option ℕ → Result Entry EntryFault → Option Entry
entry_at moment (Ok found) = if same_moment (moment_of found) moment then Some found else None
entry_at moment (Err fault) = None

-- the entry in the note of a kept beat, if its moment is that of the beat
abbrev pub entry_in : StoreBeat → Option Entry
entry_in kept = entry_at kept.moment (read_entry kept.note)

-- ---- what an entry goes on from, and what it leaves

-- what notes leave: the charts and dimensions by number, and what the history does
pub record Noted : Type 0 where
  pub registry : Registry
  pub role : Role

-- as much of what beats left
abbrev pub noted_in : Left → Noted
noted_in left = record { registry = left.registry; role = left.role }

-- Whether an entry goes on: settings are no beat; collected beats do not mix with copies and gaps; and what is
-- defined goes on from what the registry has. Nothing refuses the text of a configuration. A gap's child and
-- beginning are compared with nothing.
abbrev pub entry_goes_on : Noted → Entry → Bool
entry_goes_on left (entry.Collected found) = may_collect left.role && goes_on left.registry found
entry_goes_on left (entry.Copied found) = may_copy left.role && copied_goes_on left.registry found
entry_goes_on left (entry.Health text) = is_none (health_refusal text)
entry_goes_on left (entry.Gap gap) = may_copy left.role

-- what is left once it is taken
abbrev pub with_entry : Noted → Entry → Noted
with_entry left (entry.Collected found) = record { registry = with_numbered left.registry found; role = Collects }
with_entry left (entry.Copied found) = record { registry = with_numbered left.registry (defined_by found); role = Copies found.child }
with_entry left (entry.Health text) = left
with_entry left (entry.Gap gap) = record { registry = left.registry; role = Copies gap.child }

-- what is left once the note of a kept beat is taken, if it has such an entry
abbrev pub with_note : Noted → StoreBeat → Noted
with_note left kept = option_map_or (with_entry left) (entry_in kept) left

-- each point is of a series that the registry has
abbrev pub names_series : Registry → List BeatPoint → Bool
names_series registry points = list_all (λ (point : BeatPoint). nat_lt point.series (length registry.dimensions)) points

-- there is such an entry, it goes on, and the points are of series that are there then
abbrev pub takes_note : Noted → StoreBeat → Bool
takes_note left kept = option_map_or (entry_goes_on left) (entry_in kept) false && names_series (with_note left kept).registry kept.points

-- ---- the beats of a store

-- what the notes of a history leave
abbrev pub noted_of : List Beat → Noted
noted_of h = record { registry = registry_of h; role = role_of h }

-- what the notes of no beats leave
abbrev pub nothing_noted : Noted
nothing_noted = record { registry = empty; role = Undecided }

-- what the entries of kept beats leave, on top of what those before them left
unfoldable pub left_after : Noted → List StoreBeat → Noted
left_after start [] = start
left_after start (kept ∷ beats) = with_note (left_after start beats) kept

-- the beats go on from this: each has an entry that goes on from what those before it leave, and points of series that
-- are there
unfoldable pub beats_go_on : Noted → List StoreBeat → Bool
beats_go_on start [] = true
beats_go_on start (kept ∷ beats) = beats_go_on start beats && takes_note (left_after start beats) kept

-- ---- the side

-- the charts and dimensions of a side, as a beat that defines them
abbrev pub defined_in : Side → NumberedBeat
defined_in side = record { moment = 0; charts = side.charts; dimensions = side.dimensions; rows = [] }

abbrev pub role_in : SideRole → Role
role_in side_role.Undecided = Undecided
role_in side_role.Collects = Collects
role_in (side_role.Copies child) = Copies child

-- what it leaves
abbrev pub noted_by : Side → Noted
noted_by side = record { registry = with_numbered empty (defined_in side); role = role_in side.role }

-- its charts and dimensions go on from nothing, each id once, and its alarms are of charts that are there, by a health text
-- that nothing refuses
abbrev pub is_good : Side → Bool
is_good side = goes_on empty (defined_in side) && is_some (of_kept (noted_by side).registry side.alarms)

abbrev pub noted_if : Side → Option Noted
noted_if side = if is_good side then Some (noted_by side) else None

-- what the side with these bytes leaves, if they are a good one's
unfoldable pub noted_in_side : List ℕ → Option Noted
noted_in_side bytes = option_and_then noted_if (read_side bytes)

-- ---- all that a disk has

-- what the side and the entries of the beats since leave, if the side is good
abbrev pub left_by : (side : List ℕ) → List StoreBeat → Option Noted
left_by side beats = option_map (λ start. left_after start (with_all [] beats)) (noted_in_side side)

-- the side is good, and the beats since go on from what it leaves
abbrev pub notes_go_on : (side : List ℕ) → List StoreBeat → Bool
notes_go_on side beats = option_map_or (λ start. beats_go_on start (with_all [] beats)) (noted_in_side side) false

-- the disk has the form of a database, and whether the side and the notes of this go on
pub record NotesGo (goes : Bool) (disk : File → List ℕ) : Type 0 where
  pub body : Body
  pub beats : List StoreBeat
  pub form : HasForm body beats disk
  pub notes : notes_go_on body.side beats ≡ goes

-- ---- damage

-- there is a database on the disk, and it is in no form
pub record IsDamaged (disk : File → List ℕ) : Type 0 where
  pub made : is_made disk ≡ true
  pub no_form : (body : Body) (beats : List StoreBeat) → HasForm body beats disk → ⊥
