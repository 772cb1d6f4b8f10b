use Rattle.std.specs.Prelude.{◌≡◌, ℕ, ◌<◌, List, [], length, slice_index, None}
use Rattle.host_model.specs.declared.file.File.{File}
use Rattle.host_model.specs.declared.keep.Keep.{Keep}
use Rattle.host_model.specs.declared.keep.Keep.TheVariants.{All, None as Nothing, Fill}
use Rattle.host_model.specs.Images.{Change, contents, synced, greatest, IsUntouched, IsSynced}
use Rattle.host_model.specs.Past.{of, told}
use Rattle.host_model.specs.HostState.{HostState, new_host}

-- the longest image of a file that has this byte wherever another could stand
pub record IsFilled (byte : ℕ) (past : List Change) (bytes : List ℕ) : Type 0 where
  pub size : length bytes ≡ greatest past
  pub kept : (place : ℕ) → place < length (synced past) → IsUntouched past place → slice_index bytes place ≡ slice_index (synced past) place
  pub filled : (place : ℕ) → place < length bytes → (place < length (synced past) → IsUntouched past place → ⊥) → slice_index bytes place ≡ byte

-- what a crash leaves of a file
abbrev pub IsLeftBy : Keep → List Change → List ℕ → Type 0
IsLeftBy All past bytes = bytes ≡ contents past
IsLeftBy Nothing past bytes = bytes ≡ synced past
IsLeftBy (Fill byte) past bytes = IsFilled byte past bytes

-- a host that a crash leaves: no call of it was made yet, and none is to fail
pub record IsStopped (keep : Keep) (old new : HostState) : Type 0 where
  pub files : (file : File) → IsLeftBy keep (of file old.past) (contents (of file new.past))
  pub stable : (file : File) → IsSynced (of file new.past)
  pub output : told new.past ≡ []
  pub fresh : new ≡ record (new_host [] None) { past = new.past }
