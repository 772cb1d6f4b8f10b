-- How far the files of an agent's database grow: at every moment each stays within its share.
use Rattle.std.specs.Prelude.{◌≡◌, ℕ, ◌≤◌, true, List}
use Rattle.host_model.specs.declared.file.File.{File}
use Rattle.host_model.specs.Disks.{EveryDisk}
use Rattle.host_model.specs.Past.{Event}
use Rattle.host_model.specs.Moments.{Throughout}
use Rattle.host_model.specs.Seen.{Seen}
use Rattle.history.specs.History.{Beat}
use Rattle.tier_settings.specs.declared.settings.Settings.{Settings}
use Rattle.store_core.specs.disk.Shares.{share, IsWithin}
use Rattle.store_core.specs.Store.{StoreState}
use Rattle.store_core.specs.Stands.{Stands}
use Rattle.store_core.specs.Stored.{is_numbered, Stored}
use Rattle.agent_core.specs.Agent.{AgentState, IsSoundBy}
use Rattle.agent_core.specs.Gaps.{side_share}

-- the disk holds a database with the checkpoint of this number, or a later one
pub record HasReached (number : ℕ) (disk : File → List ℕ) : Type 0 where
  pub stored : Stored
  pub stands : Stands stored disk
  pub reached : number ≤ stored.base.number

-- From the one past and store to the other each file stays within its share, where a side has at most so many bytes. The
-- number of the checkpoint never falls, and at the end there can be a later one. Whatever a crash leaves has the checkpoint of
-- the store or a later one, where that was so before.
pub record GrowsWithin (set : Settings) (limit : ℕ) (past : List Event) (store : StoreState) (past' : List Event) (store' : StoreState) : Type 0 where
  pub number : store.files.number ≤ store'.files.number
  pub reached : EveryDisk (HasReached store.files.number) past → EveryDisk (HasReached store'.files.number) past'
  pub moments : is_numbered store'.files.number ≡ true → IsWithin (share set limit) past → Throughout (IsWithin (share set limit)) past past'

-- the agent is sound by some history
pub record IsSound (past : List Event) (agent : AgentState) (set : Settings) : Type 0 where
  pub h : List Beat
  pub tried : List Beat
  pub sound : IsSoundBy past agent set h tried

-- Calls of an agent, one after the other, leave it sound, and each file stays within its share, where a side has at most so
-- many bytes.
pub record RunsWithin (honest : Type 0) (host : Seen) (agent : AgentState) (host' : Seen) (agent' : AgentState) : Type 0 where
  pub sound : honest → (set : Settings) → IsSound host.past agent set → IsSound host'.past agent' set
  pub bound : honest → (set : Settings) → IsSound host.past agent set → (limit : ℕ) → side_share set ≤ limit
      → GrowsWithin set limit host.past agent.store host'.past agent'.store
