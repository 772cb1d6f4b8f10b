use Rattle.std.specs.Prelude.{◌≡◌, ◌==◌, ℕ, Bool, false, true, if◌then◌else◌, List, [], ◌∷◌, ◌++◌, ◌⊎◌, take}
use Rattle.host_model.specs.declared.file.File.{File}
use Rattle.host_model.specs.declared.file.File.TheVariants.{CheckA, CheckB, JournalA, JournalB, Tier0, Tier1, Tier2, Tier3, Tier4}
use Rattle.host_model.specs.Images.{Change, IsImage}

-- what happened to a host
pub data Event : Type 0 where
  -- this happened to this file
  On : (file : File) (change : Change) → Event
  -- these bytes reached the output
  Told : (sent : List ℕ) → Event

-- the number of a file in the order of their names
abbrev pub file_number : File → ℕ
file_number CheckA = 0
file_number CheckB = 1
file_number JournalA = 2
file_number JournalB = 3
file_number Tier0 = 4
file_number Tier1 = 5
file_number Tier2 = 6
file_number Tier3 = 7
file_number Tier4 = 8

abbrev pub is_same : File → File → Bool
is_same file other = file_number file == file_number other

abbrev pub IsOther : File → File → Type 0
IsOther file other = is_same file other ≡ false

-- what happened to one file: a past has its newest event first
abbrev pub of : File → List Event → List Change
of file [] = []
of file (On other change ∷ past) = if is_same file other then change ∷ of file past else of file past
of file (Told sent ∷ past) = of file past

-- all that was told
abbrev pub told : List Event → List ℕ
told [] = []
told (On file change ∷ past) = told past
told (Told sent ∷ past) = told past ++ sent

-- a crash may leave this disk: an image of each file, whatever it leaves of the others
abbrev pub IsDisk : List Event → (File → List ℕ) → Type 0
IsDisk past disk = (file : File) → IsImage (of file past) (disk file)

-- this may be what was told by the time of the newest event: of a tell, any prefix of what it sent
abbrev pub IsText : List Event → List ℕ → Type 0
IsText [] text = text ≡ []
IsText (On file change ∷ past) text = text ≡ told past
IsText (Told sent ∷ past) text = (n : ℕ) × (text ≡ told past ++ take n sent)

-- a prefix of this text was told since, and all of it where `all` says so
pub record TellsPrefix (all : Bool) (text : List ℕ) (old new : List Event) : Type 0 where
  pub said : List ℕ
  pub unsaid : List ℕ
  pub whole : text ≡ said ++ unsaid
  pub tells : told new ≡ told old ++ said
  pub complete : all ≡ true → unsaid ≡ []

-- a call that failed left one such event, or none
abbrev pub MayAdd : {T : Type 0} → (T → Event) → List Event → List Event → Type 0
MayAdd {T} event old new = (new ≡ old) ⊎ ((x : T) × (new ≡ event x ∷ old))
