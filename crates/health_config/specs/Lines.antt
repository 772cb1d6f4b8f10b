-- The logical lines of a text.
use Rattle.std.specs.Prelude.{◌≡◌, ◌==◌, ℕ, ◌+◌, ◌-◌, Bool, ◌&&◌, nat_lt, if◌then◌else◌, List, [], ◌∷◌, ◌++◌, length, take, slice_index}
use Rattle.std.specs.List.{slice_split}
use Rattle.health_config.specs.declared.lines.Line.{Line}

abbrev pub is_line_feed : ℕ → Bool
is_line_feed byte = byte == 10

-- what stands between line feeds
abbrev pub parts : List ℕ → List (List ℕ)
parts text = slice_split is_line_feed text

-- a part that ends with `\` goes on with the next
abbrev pub goes_on : List ℕ → Bool
goes_on part = nat_lt 0 (length part) && slice_index part (length part - 1) == 92

-- what a part says: there a blank stands for the `\`
abbrev pub said : List ℕ → List ℕ
said part = if goes_on part then take (length part - 1) part ++ 32 ∷ [] else part

-- the first of these lines goes on what stands before it, under that number; at the text's end there is none
abbrev pub joined : ℕ → List ℕ → List Line → List Line
joined number prefix [] = record { number = number; text = prefix } ∷ []
joined number prefix (line ∷ lines) = record { number = number; text = prefix ++ line.text } ∷ lines

-- the lines of these parts, of which the first has this number
abbrev pub lines_from : ℕ → List (List ℕ) → List Line
lines_from number [] = []
lines_from number (part ∷ parts) =
    if goes_on part then joined number (said part) (lines_from (number + 1) parts)
    else record { number = number; text = said part } ∷ lines_from (number + 1) parts

-- the logical lines of a text: a part that goes on and the next are one, which has the first one's number
unfoldable pub lines : List ℕ → List Line
lines text = lines_from 1 (parts text)

-- a part was added to the line at hand, which was handed out where the part does not go on
abbrev pub Takes : List ℕ → ℕ → List Line → Line → List Line → Line → Type 0
Takes part next lines line lines' line' =
    let whole : Line = record { number = line.number; text = line.text ++ said part } in
    (lines' ≡ (if goes_on part then lines else lines ++ whole ∷ []))
    × (line' ≡ (if goes_on part then whole else record { number = next; text = [] }))
