-- The items of a page as its bytes: each has the same size, and a number has its lowest byte first.
use Rattle.std.specs.Prelude.{◌≡◌, ◌≤◌, ◌/◌, ◌%◌, ℕ, zero, suc, ℤ, List, [], ◌∷◌, ◌++◌, length, drop}
use Rattle.std.specs.Int.{w128, cast_signed, cast_unsigned}
use Rattle.byteorder.specs.Endian.{little_number, little_bytes}
use Rattle.fixed_num.specs.declared.units.Record.{Record}
use Rattle.page_buffer.specs.declared.records.TheConstants.{RECORD_SIZE}
use Rattle.page_pool.specs.declared.node.TheConstants.{PAGE_SIZE}

-- the first so many items of a size
abbrev pub items_in : {X : Type 0} → (List ℕ → X) → ℕ → ℕ → List ℕ → List X
items_in item_from size zero bytes = []
items_in item_from size (suc n) bytes = item_from bytes ∷ items_in item_from size n (drop size bytes)

-- the words of 4 bytes
abbrev pub words_of : List ℕ → List ℕ
words_of bytes = items_in (little_number 4) 4 (length bytes / 4) bytes

-- they are whole words, of one page
abbrev pub IsWords : List ℕ → Type 0
IsWords bytes = (length bytes % 4 ≡ 0) × (length bytes ≤ PAGE_SIZE)

-- a number of 16 bytes with a sign
abbrev pub signed_from : List ℕ → ℤ
signed_from bytes = cast_signed w128 (little_number 16 bytes)

abbrev pub signed_bytes : ℤ → List ℕ
signed_bytes z = little_bytes 16 (cast_unsigned w128 z)

-- a record in its `RECORD_SIZE` bytes: minimum, maximum and sum, then the two counts
abbrev pub record_from : List ℕ → Record
record_from bytes = record {
  min = signed_from bytes;
  max = signed_from (drop 16 bytes);
  sum = signed_from (drop 32 bytes);
  count = little_number 4 (drop 48 bytes);
  anomalies = little_number 4 (drop 52 bytes);
}

abbrev pub record_bytes : Record → List ℕ
record_bytes r =
    signed_bytes r.min ++ signed_bytes r.max ++ signed_bytes r.sum ++ little_bytes 4 r.count ++ little_bytes 4 r.anomalies

-- the records, each of `RECORD_SIZE` bytes
abbrev pub records_of : List ℕ → List Record
records_of bytes = items_in record_from RECORD_SIZE (length bytes / RECORD_SIZE) bytes

-- they are whole records, of one page
abbrev pub IsRecords : List ℕ → Type 0
IsRecords bytes = (length bytes % RECORD_SIZE ≡ 0) × (length bytes ≤ PAGE_SIZE)
