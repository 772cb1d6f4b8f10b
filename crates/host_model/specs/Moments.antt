use Rattle.std.specs.Prelude.{◌≡◌, ℕ, List, ◌∷◌}
use Rattle.host_model.specs.declared.file.File.{File}
use Rattle.host_model.specs.Images.{IsImage}
use Rattle.host_model.specs.Past.{Event, of, told, IsOther, IsDisk, IsText}

-- from the old past to the new one, which has grown from it, this holds of the past at every moment.
-- A call that is under way is covered by the moment before its event and the moment after it: what a
-- crash leaves within a write or a cut is left after its event too, what it leaves within a sync is
-- left before its event too, and what a tell has sent by then is a prefix of what it sends.
pub data Throughout (P : List Event → Type 0) (old : List Event) : List Event → Type 0 where
  begins : P old → Throughout P old old
  goes_on : (event : Event) (past : List Event) → Throughout P old past → P (event ∷ past) → Throughout P old (event ∷ past)

-- this holds of all bytes that a crash may leave of this file
abbrev pub EveryImage : File → (List ℕ → Type 0) → List Event → Type 0
EveryImage file P past = (bytes : List ℕ) → IsImage (of file past) bytes → P bytes

-- this holds of every disk that a crash may leave, with all that may have been told by then
abbrev pub EveryCrash : ((File → List ℕ) → List ℕ → Type 0) → List Event → Type 0
EveryCrash P past = (disk : File → List ℕ) (text : List ℕ) → IsDisk past disk → IsText past text → P disk text

-- nothing happened to any other file, and nothing was told
pub record OnlyOn (file : File) (old new : List Event) : Type 0 where
  pub others : (other : File) → IsOther other file → of other new ≡ of other old
  pub output : told new ≡ told old
