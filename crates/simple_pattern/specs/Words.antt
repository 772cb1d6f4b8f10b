use Rattle.std.specs.Prelude.{◌==◌, ℕ, Bool, true, false, ◌&&◌, ◌||◌, List, [], ◌∷◌, filter}
use Rattle.std.specs.List.{slice_split}
use Rattle.words.specs.Words.{is_blank}

-- a blank, and where commas cut too, `,` (44) and `|` (124)
abbrev pub is_separator : Bool → ℕ → Bool
is_separator commas byte = is_blank byte || commas && (byte == 44 || byte == 124)

abbrev pub is_word : List ℕ → Bool
is_word [] = false
is_word (byte ∷ part) = true

-- the words of a text: what stands between separators and is not empty
abbrev pub words : Bool → List ℕ → List (List ℕ)
words commas text = filter is_word (slice_split (is_separator commas) text)
