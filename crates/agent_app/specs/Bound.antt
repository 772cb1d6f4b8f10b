-- How far the files of a database grow over a command: at every moment each stays within its share.
use Rattle.std.specs.Prelude.{◌≡◌, ℕ, ◌≤◌, true, List, Option, Some}
use Rattle.host_model.specs.declared.file.File.{File}
use Rattle.host_model.specs.Disks.{reads_as}
use Rattle.host_model.specs.Moments.{Throughout}
use Rattle.host_model.specs.Past.{Event, IsDisk}
use Rattle.history.specs.History.{Beat}
use Rattle.tier_settings.specs.declared.settings.Settings.{Settings}
use Rattle.store_core.specs.disk.Shares.{share, IsWithin}
use Rattle.store_core.specs.Stands.{Stands}
use Rattle.store_core.specs.Stored.{is_numbered, Stored}
use Rattle.agent_core.specs.Agent.{AgentState, IsAgentOf}
use Rattle.agent_core.specs.Gaps.{side_share}
use Rattle.agent_core.specs.Notes.{NotesGo}
use Rattle.agent_core.specs.Stands.{StandsForHistory}
use Rattle.agent_app.specs.declared.command.Command.{Command}
use Rattle.agent_app.specs.declared.command.Command.TheVariants.{Collect, Health, New, Receive, Run}
use Rattle.agent_app.specs.Command.{settings_for}

-- where each file was within its share, it is so at every moment
abbrev pub StaysWithin : (File → ℕ) → (old new : List Event) → Type 0
StaysWithin shares old new = IsWithin shares old → Throughout (IsWithin shares) old new

-- there can be a later checkpoint of the database that the disk holds
abbrev pub IsNumbered : (File → List ℕ) → Type 0
IsNumbered disk = (stored : Stored) → Stands stored disk → is_numbered stored.base.number ≡ true

-- by these settings, where a side has at most so many bytes: as long as on a disk that a crash may leave at the end
-- there can be a later checkpoint
abbrev pub EndsWithin : Settings → (limit : ℕ) → (old new : List Event) → Type 0
EndsWithin set limit old new = (disk : File → List ℕ) → IsDisk new disk → IsNumbered disk → StaysWithin (share set limit) old new

-- on a disk that reads as a database of whatever history, by each share that has room for the side of these settings
abbrev pub GrowsBy : (old new : List Event) → Type 0
GrowsBy old new = (set : Settings) (h : List Beat) → StandsForHistory set h (reads_as old) → (limit : ℕ) → side_share set ≤ limit → EndsWithin set limit old new

-- the same of an agent that is of whatever history
abbrev pub AgentGrows : AgentState → (old new : List Event) → Type 0
AgentGrows agent old new = (set : Settings) (h : List Beat) → IsAgentOf old agent set h → (limit : ℕ) → side_share set ≤ limit → EndsWithin set limit old new

-- where no database can be opened, no file grows
abbrev pub StaysUnopened : (old new : List Event) → Type 0
StaysUnopened old new = (NotesGo true (reads_as old) → ⊥) → (shares : File → ℕ) → StaysWithin shares old new

-- What the command of a command line's words lets the files do, or no command. Those that ask and send write nothing,
-- and no file grows.
abbrev pub StaysBy : Option Command → (old new : List Event) → Type 0
StaysBy (Some Run) old new = GrowsBy old new × StaysUnopened old new
StaysBy (Some (Collect every starts)) old new = GrowsBy old new × StaysUnopened old new
StaysBy (Some Health) old new = GrowsBy old new × StaysUnopened old new
StaysBy (Some Receive) old new = GrowsBy old new × StaysUnopened old new
StaysBy (Some (New plan)) old new = let set = settings_for plan in (limit : ℕ) → side_share set ≤ limit → StaysWithin (share set limit) old new
StaysBy command old new = (shares : File → ℕ) → StaysWithin shares old new
