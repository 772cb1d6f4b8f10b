-- the two checkpoint files of a disk, and the checkpoint that they hold
use Rattle.std.specs.Prelude.{◌≡◌, ◌⊎◌, ◌==◌, ℕ, ◌+◌, ◌%◌, if◌then◌else◌, nat_lt, List, length, drop, Option, Some, None}
use Rattle.std.specs.Option.{option_map}
use Rattle.host_model.specs.declared.file.File.{File}
use Rattle.host_model.specs.declared.file.File.TheVariants.{CheckA, CheckB}
use Rattle.checkpoint.specs.declared.head.Head.{Head}
use Rattle.checkpoint.specs.declared.head.TheConstants.{HEAD}
use Rattle.checkpoint.specs.Form.{head_in, body_in}

-- what an open checkpoint file holds
pub record Slot : Type 0 where
  pub number : ℕ
  -- none where the file is shorter than it says
  pub body : Option (List ℕ)

-- what a file with this head holds
abbrev pub slot_of : List ℕ → Head → Slot
slot_of bytes head = record { number = head.number; body = body_in head.size (drop HEAD bytes) }

-- what a file holds, if it is open: its numbers are odd (1) or even (0)
abbrev pub slot_in : ℕ → List ℕ → Option Slot
slot_in odd bytes = option_map (slot_of bytes) (head_in odd bytes)

-- of two that are numbered, the one with the larger number
abbrev pub later_by : {X : Type 0} → (X → ℕ) → Option X → Option X → Option X
later_by number None other = other
later_by number (Some one) None = Some one
later_by number (Some one) (Some other) = if nat_lt (number one) (number other) then Some other else Some one

abbrev pub later_head : Option Head → Option Head → Option Head
later_head one other = later_by (λ (head : Head). head.number) one other

abbrev pub later_slot : Option Slot → Option Slot → Option Slot
later_slot one other = later_by (λ (slot : Slot). slot.number) one other

-- the checkpoint of a disk: the open file with the larger number counts
unfoldable pub checkpoint_in : (File → List ℕ) → Option Slot
checkpoint_in disk = later_slot (slot_in 0 (disk CheckA)) (slot_in 1 (disk CheckB))

-- the file in which the checkpoint of this number lies
abbrev pub slot_file : ℕ → File
slot_file number = if number % 2 == 0 then CheckA else CheckB

-- the checkpoint with this number and this body
abbrev pub new_slot : ℕ → List ℕ → Option Slot
new_slot number body = Some (record { number = number; body = Some body })

-- the number that comes after that of a checkpoint, or the first
abbrev pub IsNext : Option Slot → ℕ → Type 0
IsNext None number = number ≡ 0
IsNext (Some slot) number = number ≡ slot.number + 1

-- the disk has the checkpoint that was there, or the new one
abbrev pub HasOldOrNew : Option Slot → ℕ → List ℕ → (File → List ℕ) → Type 0
HasOldOrNew old number body disk = (checkpoint_in disk ≡ old) ⊎ (checkpoint_in disk ≡ new_slot number body)

-- the open file that counts is shorter than it says, and this is its length
pub record EndsEarly (place : ℕ) (disk : File → List ℕ) : Type 0 where
  pub number : ℕ
  pub early : checkpoint_in disk ≡ Some (record { number = number; body = None })
  pub end : place ≡ length (disk (slot_file number))
