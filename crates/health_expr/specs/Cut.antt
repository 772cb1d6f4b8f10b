-- The word at the front of a text.
use Rattle.std.specs.Prelude.{ℕ, ◌+◌, Bool, ◌||◌, ◌&&◌, ◌==◌, nat_lt, if◌then◌else◌, List, [], ◌∷◌, length, take, drop, slice_index, position, Option, Some, None, codes}
use Rattle.std.specs.Char.{is_ascii_digit, is_ascii_alphanumeric}
use Rattle.std.specs.List.{prefix_len}
use Rattle.std.specs.Str.{bytes_eq}
use Rattle.health_expr.specs.declared.word.Kind.{Kind}
use Rattle.health_expr.specs.declared.word.Kind.TheVariants.{End, Number, Name, Nan, Infinity, Abs, Open, Close, Question, Colon, Not, Plus, Minus, Star, Slash, Or, And, Equal, NotEqual, Less, AtMost, Greater, AtLeast, Unknown}

-- a word: its kind, what it says beside that, and how many bytes it has
pub record Cut : Type 0 where
  pub kind : Kind
  pub said : List ℕ
  pub len : ℕ

-- ---- bytes

-- letters, digits, `_` and `.`
abbrev pub is_letter : ℕ → Bool
is_letter byte = is_ascii_alphanumeric byte || byte == 95 || byte == 46

-- ---- numbers

abbrev pub digits_len : List ℕ → ℕ
digits_len text = prefix_len is_ascii_digit text

-- a dot, and one digit or more
abbrev pub decimals_len : List ℕ → ℕ
decimals_len [] = 0
decimals_len (byte ∷ text) = if byte == 46 && nat_lt 0 (digits_len text) then digits_len text + 1 else 0

abbrev pub number_len : List ℕ → ℕ
number_len text = digits_len text + decimals_len (drop (digits_len text) text)

-- ---- words of letters, and marks

-- which word of the language a run of letters is
abbrev pub keyword : List ℕ → Kind
keyword letters =
    if bytes_eq letters (codes "nan") then Nan
    else (if bytes_eq letters (codes "inf") then Infinity
    else (if bytes_eq letters (codes "abs") then Abs
    else (if bytes_eq letters (codes "NOT") then Not
    else (if bytes_eq letters (codes "AND") then And
    else (if bytes_eq letters (codes "OR") then Or
    else Unknown)))))

-- a mark of one byte, and how long it is; anything else is unknown, all of this length
abbrev pub single : ℕ → ℕ → Kind × ℕ
single all byte =
    if byte == 40 then (Open, 1)
    else (if byte == 41 then (Close, 1)
    else (if byte == 63 then (Question, 1)
    else (if byte == 58 then (Colon, 1)
    else (if byte == 33 then (Not, 1)
    else (if byte == 43 then (Plus, 1)
    else (if byte == 45 then (Minus, 1)
    else (if byte == 42 then (Star, 1)
    else (if byte == 47 then (Slash, 1)
    else (if byte == 60 then (Less, 1)
    else (if byte == 62 then (Greater, 1)
    else (Unknown, all)))))))))))

-- a mark by its first byte and the next, the longest first
abbrev pub mark : ℕ → ℕ → ℕ → Kind × ℕ
mark all byte next =
    if byte == 124 && next == 124 then (Or, 2)
    else (if byte == 38 && next == 38 then (And, 2)
    else (if byte == 61 && next == 61 then (Equal, 2)
    else (if byte == 33 && next == 61 then (NotEqual, 2)
    else (if byte == 60 && next == 62 then (NotEqual, 2)
    else (if byte == 60 && next == 61 then (AtMost, 2)
    else (if byte == 62 && next == 61 then (AtLeast, 2)
    else single all byte))))))

-- ---- the word at the front

-- what begins no word is one to the text's end
abbrev pub unknown : List ℕ → Cut
unknown text = record { kind = Unknown; said = []; len = length text }

abbrev pub is_brace : ℕ → Bool
is_brace byte = byte == 125

-- `${`, any text up to the first `}`, and that
abbrev pub braced : List ℕ → Option ℕ → Cut
braced text None = unknown text
braced text (Some end) = record { kind = Name; said = take end (drop 2 text); len = end + 3 }

-- `$` and letters, one or more
abbrev pub named : List ℕ → ℕ → Cut
named text len = if len == 0 then unknown text else record { kind = Name; said = take len (drop 1 text); len = len + 1 }

-- what begins with `$`
abbrev pub dollar : List ℕ → Cut
dollar text =
    if slice_index text 1 == 123 then braced text (position is_brace (drop 2 text))
    else named text (prefix_len is_letter (drop 1 text))

abbrev pub number : List ℕ → Cut
number text = record { kind = Number; said = take (number_len text) text; len = number_len text }

-- letters that are no word of the language are unknown
abbrev pub letters : List ℕ → Cut
letters text = record { kind = keyword (take (prefix_len is_letter text) text); said = []; len = prefix_len is_letter text }

abbrev pub marked : Kind × ℕ → Cut
marked mark = record { kind = mark.0; said = []; len = mark.1 }

abbrev pub first_by : ℕ → List ℕ → Cut
first_by byte text =
    if is_ascii_digit byte then number text
    else (if byte == 36 then dollar text
    else (if is_letter byte then letters text
    else marked (mark (length text) byte (slice_index text 1))))

-- the first word of a text with no blank in front
unfoldable pub first_word : List ℕ → Cut
first_word text =
    if length text == 0 then record { kind = End; said = []; len = 0 }
    else first_by (slice_index text 0) text
