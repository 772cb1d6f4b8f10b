-- the bytes of one checkpoint file
use Rattle.std.specs.Prelude.{◌≢◌, ◌⊎◌, ◌==◌, ◌&&◌, ℕ, ◌<◌, ◌%◌, Bool, if◌then◌else◌, nat_le, List, ◌∷◌, ◌++◌, length, take, drop, slice_index, Option, Some, None}
use Rattle.byteorder.specs.Endian.{little_bytes, little_number}
use Rattle.checkpoint.specs.declared.head.Head.{Head}
use Rattle.checkpoint.specs.declared.head.TheConstants.{HEAD}

-- a number in eight bytes, the lowest first
unfoldable pub field : ℕ → List ℕ
field number = little_bytes 8 number

-- what stands behind the gate: the number, the length of the body, and the body
abbrev pub rest_bytes : ℕ → List ℕ → List ℕ
rest_bytes number body = field number ++ (field (length body) ++ body)

-- a checkpoint file with this gate byte
abbrev pub slot_bytes : ℕ → ℕ → List ℕ → List ℕ
slot_bytes gate number body = gate ∷ rest_bytes number body

-- the number that stands behind the gate
unfoldable pub number_in : List ℕ → ℕ
number_in bytes = little_number 8 (drop 1 bytes)

-- the length of the body that stands behind the number
unfoldable pub size_in : List ℕ → ℕ
size_in bytes = little_number 8 (drop 9 bytes)

-- the file is open: it has a whole head, its gate byte is 1, and its number is odd (1) or even (0), as
-- the numbers of the file are
abbrev pub is_open : ℕ → List ℕ → Bool
is_open odd bytes = nat_le HEAD (length bytes) && (slice_index bytes 0 == 1) && (number_in bytes % 2 == odd)

-- what the head of an open file says
unfoldable pub head_in : ℕ → List ℕ → Option Head
head_in odd bytes = if is_open odd bytes then Some (record { number = number_in bytes; size = size_in bytes }) else None

-- the body of this length, where the bytes behind the head are enough
abbrev pub body_in : ℕ → List ℕ → Option (List ℕ)
body_in size rest = if nat_le size (length rest) then Some (take size rest) else None

-- the file is not open, whatever its number
abbrev pub IsShut : List ℕ → Type 0
IsShut bytes = (length bytes < HEAD) ⊎ (slice_index bytes 0 ≢ 1)
