-- What `new` promises.
use Rattle.std.specs.Prelude.{◌≡◌, ℕ, ◌≤◌, true, false, [], ◌⊎◌}
use Rattle.host_model.specs.declared.status.Status.{Status}
use Rattle.host_model.specs.declared.status.Status.TheVariants.{Ok as Done, DiskFault, Exists, Memory}
use Rattle.host_model.specs.Cause.{HasCause}
use Rattle.host_model.specs.Disks.{EveryDisk, reads_as}
use Rattle.host_model.specs.Moments.{Throughout}
use Rattle.host_model.specs.Past.{IsDisk}
use Rattle.tier_settings.specs.declared.settings.Settings.{Settings}
use Rattle.side_codec.specs.Size.{side_limit}
use Rattle.store_core.specs.disk.Holds.{OnlyOwn}
use Rattle.store_core.specs.disk.Shares.{share}
use Rattle.store_core.specs.Stands.{is_made}
use Rattle.host_model.specs.Seen.{Seen}
use Rattle.agent_core.specs.Calls.{ReadsAsBefore}
use Rattle.agent_core.specs.Stands.{StandsForHistory, StandsForNew}
use Rattle.agent_app.specs.Bound.{StaysWithin}

abbrev pub IsNewStatus : Status → Type 0
IsNewStatus status = (status ≡ Done) ⊎ (status ≡ Exists) ⊎ (status ≡ DiskFault) ⊎ (status ≡ Memory)

-- `new` with these settings ended with this status, and left the host so
pub record Makes (honest : Type 0) (set : Settings) (status : Status) (host host' : Seen) : Type 0 where
  -- at every moment a crash leaves what it might have left before the call, no database, or the new one
  pub any_moment : honest → Throughout (EveryDisk (λ disk. IsDisk host.past disk ⊎ StandsForNew set disk)) host.past host'.past
  -- at Ok it leaves the new one, and there was none
  pub created : status ≡ Done → honest → EveryDisk (StandsForHistory set []) host'.past
  pub none : status ≡ Done → honest → is_made (reads_as host.past) ≡ false
  -- where memory ran out nothing is written: at every moment a crash leaves what it might have left before the call
  pub memory : status ≡ Memory → honest → ReadsAsBefore host.past host'.past
  pub memory_moment : status ≡ Memory → honest → Throughout (EveryDisk (IsDisk host.past)) host.past host'.past
  -- exactly where there is a database it is refused, or the disk failed, or memory ran out, and nothing is written: at
  -- every moment a crash leaves what it might have left before the call
  pub exists : status ≡ Exists → honest → is_made (reads_as host.past) ≡ true
  pub made : honest → is_made (reads_as host.past) ≡ true → ((status ≡ Exists) ⊎ (status ≡ DiskFault) ⊎ (status ≡ Memory)) × ReadsAsBefore host.past host'.past
  pub made_moment : honest → is_made (reads_as host.past) ≡ true → Throughout (EveryDisk (IsDisk host.past)) host.past host'.past
  pub statuses : IsNewStatus status
  -- the disk counts a failure exactly where that is why it ended
  pub disk_cause : HasCause host.disk_faults host'.disk_faults (status ≡ DiskFault)
  -- each file of the database stays within its share, where a side without gaps has at most so many bytes
  pub bound : (limit : ℕ) → side_limit 0 ≤ limit → honest → StaysWithin (share set limit) host.past host'.past
  -- nothing happens to a file that is not the store's own, and nothing is told
  pub only_here : honest → OnlyOwn host.past host'.past
  pub tells : host'.tell_faults ≡ host.tell_faults
