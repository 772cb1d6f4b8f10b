-- What holds of each kind of field, and what a call that takes one gives.
use Rattle.std.specs.Prelude.{◌≡◌, ℕ, ◌<◌, List, ◌++◌, slice_index, Result, Ok, Err}
use Rattle.field_codec.specs.declared.fault.FieldFault.{FieldFault}
use Rattle.field_codec.specs.Reading.{ReadOf}

-- what a call took, and the bytes that it left
abbrev pub with_rest : {X : Type 0} → Result X FieldFault → List ℕ → ReadOf X
with_rest (Ok value) rest = Ok (value, rest)
with_rest (Err fault) rest = Err fault

-- the same, of a value that a view shows, as the bytes behind a reference
abbrev pub seen : {X Y : Type 0} → (X → Y) → Result X FieldFault → Result Y FieldFault
seen view (Ok value) = Ok (view value)
seen view (Err fault) = Err fault

-- each number of the list is a byte
abbrev pub IsBytes : List ℕ → Type 0
IsBytes bytes = (place : ℕ) → slice_index bytes place < 256

-- A kind of field: the values that have a spelling, the spelling, and what bytes read as. A spelling
-- reads as its value, whatever follows. What is read of bytes has a spelling, and they begin with it. So
-- two values never share a spelling, and none is the prefix of another.
pub record IsField {X : Type 0} (HasSpelling : X → Type 0) (spelling : X → List ℕ) (read : List ℕ → ReadOf X) : Type 0 where
  pub reads_back : (value : X) (rest : List ℕ) → HasSpelling value → read (spelling value ++ rest) ≡ Ok (value, rest)
  pub has_spelling : (bytes : List ℕ) (value : X) (rest : List ℕ) → IsBytes bytes → read bytes ≡ Ok (value, rest) → HasSpelling value
  pub is_spelt : (bytes : List ℕ) (value : X) (rest : List ℕ) → IsBytes bytes → read bytes ≡ Ok (value, rest) → bytes ≡ spelling value ++ rest
  pub one_value : (a b : X) (x y : List ℕ) → HasSpelling a → HasSpelling b → spelling a ++ x ≡ spelling b ++ y → a ≡ b
  pub one_end : (a b : X) (x y : List ℕ) → HasSpelling a → HasSpelling b → spelling a ++ x ≡ spelling b ++ y → x ≡ y
