-- What opening does to the disk: it makes what the files read as hold.
use Rattle.std.specs.Prelude.{◌≡◌, List}
use Rattle.host_model.specs.declared.file.File.{File}
use Rattle.host_model.specs.declared.file.File.TheVariants.{CheckA, CheckB, Tier0, Tier1, Tier2}
use Rattle.host_model.specs.Images.{IsSynced}
use Rattle.host_model.specs.Past.{Event, of, IsDisk}
use Rattle.host_model.specs.Disks.{reads_as, EveryDisk}
use Rattle.host_model.specs.Moments.{Throughout}
use Rattle.store_core.specs.disk.Holds.{OnlyOwn}

-- nothing but syncs happened, to files of the database
pub record OnlySyncs (old new : List Event) : Type 0 where
  pub any_moment : Throughout (EveryDisk (IsDisk old)) old new
  pub same : (file : File) → reads_as new file ≡ reads_as old file
  pub own : OnlyOwn old new

-- a file that was synced still is
abbrev pub StaySynced : List Event → List Event → Type 0
StaySynced old new = (file : File) → IsSynced (of file old) → IsSynced (of file new)

-- what the checkpoint's files and those of the tiers read as will hold
pub record AreFixed (past : List Event) : Type 0 where
  pub first : IsSynced (of CheckA past)
  pub second : IsSynced (of CheckB past)
  pub points : IsSynced (of Tier0 past)
  pub minutes : IsSynced (of Tier1 past)
  pub hours : IsSynced (of Tier2 past)
