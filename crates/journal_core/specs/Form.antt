use Rattle.std.specs.Prelude.{◌≡◌, ◌≢◌, ℕ, ◌+◌, ◌<◌, ◌≤◌, List, [], ◌∷◌, ◌++◌, length, take, codes}
use Rattle.std.specs.Int.{w32, w64, to_le_bytes}
use Rattle.std.specs.List.{AllByRecursion}
use Rattle.journal_core.specs.declared.journal.TheConstants.{RECORD_LIMIT}

-- a journal begins with eight letters and its generation, the lowest byte first
unfoldable pub header : ℕ → List ℕ
header generation = codes "NDAJRNL1" ++ to_le_bytes w64 generation

-- the length of a record, the lowest byte first
unfoldable pub length_field : ℕ → List ℕ
length_field size = to_le_bytes w32 size

-- records, each behind an open gate and its length
abbrev pub opened : List (List ℕ) → List ℕ
opened [] = []
opened (body ∷ records) = 1 ∷ (length_field (length body) ++ (body ++ opened records))

-- how many bytes a record has in a journal: its gate, its length and itself
abbrev pub record_size : List ℕ → ℕ
record_size body = 5 + length body

-- a record has at most RECORD_LIMIT bytes
abbrev pub IsShort : List ℕ → Type 0
IsShort bytes = length bytes ≤ RECORD_LIMIT

-- these bytes are a journal of this generation, and hold these records
pub record StandsFor (generation : ℕ) (bytes : List ℕ) (records : List (List ℕ)) : Type 0 where
  -- the gate byte that ends the records
  pub gate : ℕ
  -- the bytes behind it, which have no meaning
  pub rest : List ℕ
  pub form : bytes ≡ header generation ++ (opened records ++ gate ∷ rest)
  pub closed : gate ≢ 1
  pub fits : AllByRecursion IsShort records

-- these bytes are a journal of this generation
abbrev pub IsJournal : ℕ → List ℕ → Type 0
IsJournal generation bytes = (records : List (List ℕ)) × StandsFor generation bytes records

-- some journal of this generation begins with these bytes
abbrev pub GoesOn : ℕ → List ℕ → Type 0
GoesOn generation bytes = (more : List ℕ) × IsJournal generation (bytes ++ more)

-- these bytes are no journal of this generation, and this is the first place at which none goes on:
-- some journal begins with the bytes before it, and none with the byte there too. Where the file ends
-- too early, that is its end.
pub record FailsAt (generation : ℕ) (bytes : List ℕ) (place : ℕ) : Type 0 where
  pub within : place ≤ length bytes
  pub before : GoesOn generation (take place bytes)
  pub here : place < length bytes → GoesOn generation (take (place + 1) bytes) → ⊥
  pub broken : IsJournal generation bytes → ⊥
