-- Lines in one buffer.
use Rattle.std.specs.Prelude.{ℕ, ◌≤◌, List, All, length, map, slice_range}
use Rattle.plugin_text.specs.declared.line_list.Place.{Place}

-- the bytes at a place
abbrev pub line_at : List ℕ → Place → List ℕ
line_at bytes place = slice_range bytes place.start place.end

-- the lines at these places, in their order
abbrev pub lines_at : List ℕ → List Place → List (List ℕ)
lines_at bytes places = map (line_at bytes) places

-- the place is one of the bytes
abbrev pub IsWithin : List ℕ → Place → Type 0
IsWithin bytes place = (place.start ≤ place.end) × (place.end ≤ length bytes)

-- all these places are
abbrev pub AreWithin : List ℕ → List Place → Type 0
AreWithin bytes places = All (IsWithin bytes) places
