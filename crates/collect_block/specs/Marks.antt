use Rattle.std.specs.Prelude.{◌≡◌, ℕ, ◌+◌, ◌-◌, ◌*◌, ◌%◌, ◌^◌, Bool, true, false, List, bit_and, length, fold, map, slice_index_or}
use Rattle.std.specs.List.{All}
use Rattle.history.specs.declared.beat.OpenValue.{OpenValue}

-- a short mark of an id
unfoldable pub mark_of : List ℕ → ℕ
mark_of id = fold (λ mark byte. (mark * 31 % 2 ^ 32 + byte) % 2 ^ 32) 0 id

-- the marks of the ids of these values, in their order
abbrev pub AreMarksOf : List ℕ → List OpenValue → Type 0
AreMarksOf marks values = marks ≡ map (λ value. mark_of value.id) values

-- whether the bit of a mark is set in a table of bits
unfoldable pub has_bit : List Bool → ℕ → Bool
has_bit bits mark = slice_index_or bits (bit_and mark (length bits - 1)) false

-- the bit of each of these marks is set
abbrev pub AreSeen : List Bool → List ℕ → Type 0
AreSeen bits marks = All (λ mark. has_bit bits mark ≡ true) marks
