-- What bytes may be in: fields one after the other, where those before a field say which values it may have.
use Rattle.std.specs.Prelude.{◌≡◌, ◌⊎◌, ℕ, ◌+◌, ◌<◌, ◌≤◌, List, length, take, drop, Result, MatchResult}
use Rattle.byteorder.specs.Endian.{little_number}
use Rattle.extent_file.specs.declared.field.Field.{Field}
use Rattle.extent_file.specs.declared.entry.Entry.{Entry}
use Rattle.extent_file.specs.Fields.{IsAllowed, IsFirstWrong}

pub data Form : Type 0 where
  -- so many bytes, whatever they are; this is what was read before them
  Rest : (size : ℕ) (entries : List Entry) → Form
  -- a field, and what comes after each of its values
  Next : (field : Field) (after : ℕ → Form) → Form

-- the bytes begin in the form, and say these entries
abbrev pub Says : Form → List ℕ → List Entry → Type 0
Says (Rest size said) bytes entries = (size ≤ length bytes) × (entries ≡ said)
Says (Next field after) bytes entries =
    (field.width ≤ length bytes) × IsAllowed field (little_number field.width bytes)
    × Says (after (little_number field.width bytes)) (drop field.width bytes) entries

-- the first byte at which the form does not go on, or the end where the bytes end early
abbrev pub StopsAt : Form → List ℕ → ℕ → Type 0
StopsAt (Rest size said) bytes place = (length bytes < size) × (place ≡ length bytes)
StopsAt (Next field after) bytes place =
    IsFirstWrong field bytes place
    ⊎ ((field.width ≤ length bytes) × IsAllowed field (little_number field.width bytes)
    × ((rest : ℕ) × (place ≡ field.width + rest) × StopsAt (after (little_number field.width bytes)) (drop field.width bytes) rest))

-- after so many bytes the form goes on as another
pub record Leads (form : Form) (bytes : List ℕ) (at : ℕ) (to : Form) : Type 0 where
  pub inside : at ≤ length bytes
  pub says : (entries : List Entry) → Says to (drop at bytes) entries → Says form bytes entries
  pub stops : (place : ℕ) → StopsAt to (drop at bytes) place → StopsAt form bytes (at + place)

-- what a read of a form's next part gives, which ends at this place: what comes after it, or where the form
-- does not go on. What was seen is a prefix of some bytes, up to that place at least.
abbrev pub GoesTo : {T : Type 0} → List ℕ → ℕ → ℕ → Form → (T → Form) → Result T ℕ → Type 0
GoesTo seen at end part after result =
    (bytes : List ℕ) (size : ℕ) (form : Form) → seen ≡ take size bytes → end ≤ size → Leads form bytes at part
    → MatchResult result (λ read. Leads form bytes end (after read)) (StopsAt form bytes)
