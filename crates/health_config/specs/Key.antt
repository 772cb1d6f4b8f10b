-- `key: value` of a line.
use Rattle.std.specs.Prelude.{◌==◌, ℕ, ◌+◌, ◌-◌, Bool, true, false, ◌||◌, if◌then◌else◌, List, length, take, drop, reverse, position, slice_index, Option, Some, None, codes}
use Rattle.std.specs.List.{prefix_len}
use Rattle.std.specs.Str.{bytes_eq}
use Rattle.words.specs.Words.{is_blank}

-- a text without the blanks in front
abbrev pub without_prefix : List ℕ → List ℕ
without_prefix text = drop (prefix_len is_blank text) text

-- a text without the blanks at its end
abbrev pub without_back : List ℕ → List ℕ
without_back text = take (length text - prefix_len is_blank (reverse text)) text

-- a text without blanks on either side
abbrev pub trimmed : List ℕ → List ℕ
trimmed text = without_prefix (without_back text)

-- a line with nothing but blanks, or with a `#` behind them, says nothing
abbrev pub is_ignored : List ℕ → Bool
is_ignored line = length (without_prefix line) == 0 || slice_index (without_prefix line) 0 == 35

abbrev pub is_colon : ℕ → Bool
is_colon byte = byte == 58

-- the key and the value of a line with its first colon there, both without blanks on either side
abbrev pub cut_at : List ℕ → Option ℕ → Option (List ℕ × List ℕ)
cut_at line None = None
cut_at line (Some place) = Some (trimmed (take place line), trimmed (drop (place + 1) line))

unfoldable pub key_value : List ℕ → Option (List ℕ × List ℕ)
key_value line = cut_at line (position is_colon line)

-- whether a key begins an entity, and then whether that is a template
abbrev pub template_of : List ℕ → Option Bool
template_of key =
    if bytes_eq key (codes "alarm") then Some false
    else (if bytes_eq key (codes "template") then Some true
    else None)

-- the same of a line, by its key
abbrev pub begins_by : Option (List ℕ × List ℕ) → Option Bool
begins_by None = None
begins_by (Some said) = template_of said.0

unfoldable pub begins : List ℕ → Option Bool
begins line = begins_by (key_value line)
