-- what a load has found so far
use Rattle.std.specs.Prelude.{◌≡◌, List, ℕ, Option, Some, None}
use Rattle.host_model.specs.declared.file.File.{File}
use Rattle.host_model.specs.declared.file.File.TheVariants.{CheckA, CheckB}
use Rattle.checkpoint.specs.declared.head.Head.{Head}
use Rattle.checkpoint.specs.Files.{slot_of, slot_file, checkpoint_in}

-- this is the head of the disk's checkpoint
abbrev pub IsFound : Option Head → (File → List ℕ) → Type 0
IsFound None disk = checkpoint_in disk ≡ None
IsFound (Some head) disk = checkpoint_in disk ≡ Some (slot_of (disk (slot_file head.number)) head)

-- the two files are those of another disk
pub record AreBoth (other disk : File → List ℕ) : Type 0 where
  pub first : disk CheckA ≡ other CheckA
  pub second : disk CheckB ≡ other CheckB
