use Rattle.std.specs.Prelude.{◌≡◌, ◌≢◌, ℕ, ◌+◌, ◌-◌, ◌<◌, ◌≤◌, List, ◌∷◌, ◌++◌, length, take, drop, Option, Some, None}
use Rattle.std.specs.List.{AllByRecursion}
use Rattle.journal_core.specs.declared.fault.JournalFault.{JournalFault}
use Rattle.journal_core.specs.declared.fault.JournalFault.TheVariants.{DiskFault, NotAJournal, Memory}
use Rattle.journal_core.specs.declared.journal.TheConstants.{RECORD_LIMIT}
use Rattle.journal_core.specs.declared.reading.Next.{Next}
use Rattle.journal_core.specs.declared.reading.Next.TheVariants.{Closed, Record, Broken}
use Rattle.journal_core.specs.Form.{length_field, opened, IsShort}

-- what stands behind the header of a journal with these records
pub record Tail (bytes : List ℕ) (records : List (List ℕ)) : Type 0 where
  pub gate : ℕ
  pub rest : List ℕ
  pub form : bytes ≡ opened records ++ gate ∷ rest
  pub closed : gate ≢ 1
  pub fits : AllByRecursion IsShort records

-- behind a header, some journal goes on with these bytes
abbrev pub TailGoesOn : List ℕ → Type 0
TailGoesOn bytes = (more : List ℕ) × (records : List (List ℕ)) × Tail (bytes ++ more) records

-- behind a header, no journal has these bytes, and this is the first place at which none goes on
pub record TailFails (bytes : List ℕ) (place : ℕ) : Type 0 where
  pub within : place ≤ length bytes
  pub before : TailGoesOn (take place bytes)
  pub here : place < length bytes → TailGoesOn (take (place + 1) bytes) → ⊥
  pub broken : (records : List (List ℕ)) → Tail bytes records → ⊥

-- the fault, if it is one of the bytes
abbrev pub IfNotAJournal : JournalFault → (ℕ → Type 0) → Type 0
IfNotAJournal DiskFault P = Unit {0}
IfNotAJournal (NotAJournal place) P = P place
IfNotAJournal Memory P = Unit {0}

-- so the bytes from a gate on begin
abbrev pub BeginsWith : List ℕ → Next → Type 0
BeginsWith bytes Closed = (gate : ℕ) × (rest : List ℕ) × (bytes ≡ gate ∷ rest) × (gate ≢ 1)
BeginsWith bytes (Record size) = (rest : List ℕ) × (bytes ≡ 1 ∷ (length_field size ++ rest)) × (size ≤ RECORD_LIMIT)
BeginsWith bytes (Broken place) = TailFails bytes place

-- what was seen of so many bytes from a gate on
abbrev pub SeenWithin : ℕ → Next → Type 0
SeenWithin count Closed = 1 ≤ count
SeenWithin count (Record size) = (5 ≤ count) × (size ≤ RECORD_LIMIT)
SeenWithin count (Broken place) = place ≤ count

-- the record that the bytes from a gate on begin with, if the gate is open
abbrev pub BeginsWithRecord : List ℕ → Option (List ℕ) → Type 0
BeginsWithRecord bytes None = BeginsWith bytes Closed
BeginsWithRecord bytes (Some body) = bytes ≡ 1 ∷ (length_field (length body) ++ (body ++ drop (5 + length body) bytes))

-- the record ends in the file
abbrev pub EndsWithin : ℕ → ℕ → Option (List ℕ) → Type 0
EndsWithin place size None = place < size
EndsWithin place size (Some body) = IsShort body × (place + 5 + length body ≤ size)

-- the records stand from the place of the first gate on, and the last gate is at this one
pub record Holds (bytes : List ℕ) (place : ℕ) (records : List (List ℕ)) : Type 0 where
  pub tail : Tail (drop 16 bytes) records
  pub at_gate : place ≡ 16 + length (opened records)

-- from this place on the bytes fail, first at `end`
pub record FailsFrom (place : ℕ) (bytes : List ℕ) (end : ℕ) : Type 0 where
  pub after : place ≤ end
  pub fails : TailFails (drop place bytes) (end - place)
