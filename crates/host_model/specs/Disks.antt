-- the whole disk: what a crash may leave of it, whatever was told by then
use Rattle.std.specs.Prelude.{ℕ, List, if◌then◌else◌}
use Rattle.host_model.specs.declared.file.File.{File}
use Rattle.host_model.specs.Images.{contents}
use Rattle.host_model.specs.Past.{Event, is_same, of, IsDisk}

-- this holds of every disk that a crash may leave
abbrev pub EveryDisk : ((File → List ℕ) → Type 0) → List Event → Type 0
EveryDisk P past = (disk : File → List ℕ) → IsDisk past disk → P disk

-- what each file reads as
abbrev pub reads_as : List Event → File → List ℕ
reads_as past file = contents (of file past)

-- a disk on which these bytes stand in a file
abbrev pub disk_with : File → List ℕ → (File → List ℕ) → File → List ℕ
disk_with file bytes disk other = if is_same other file then bytes else disk other
