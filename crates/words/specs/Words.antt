use Rattle.std.specs.Prelude.{◌≡◌, ◌==◌, ℕ, Bool, true, false, ◌||◌, if◌then◌else◌, List, [], ◌∷◌, ◌++◌, drop}

-- space, tab, carriage return, vertical tab and form feed
abbrev pub is_blank : ℕ → Bool
is_blank byte = byte == 32 || byte == 9 || byte == 13 || byte == 11 || byte == 12

-- outside quotes a blank or an `=` separates words
abbrev pub is_separator : ℕ → Bool
is_separator byte = is_blank byte || byte == 61

-- `'` and `"`
abbrev pub is_quote : ℕ → Bool
is_quote byte = byte == 39 || byte == 34

-- a place in a line
pub data Place : Type 0 where
  -- between words
  Between : Place
  -- in a word that began with no quote, of which these bytes have been read
  Bare : (word : List ℕ) → Place
  -- in a word that began with this quote
  Quoted : (quote : ℕ) (word : List ℕ) → Place

-- the place behind a byte that stood between words
abbrev pub place_behind : ℕ → Place
place_behind byte =
    if is_separator byte then Between else (if is_quote byte then Quoted byte [] else Bare (byte ∷ []))

-- the words that are complete at the end of the bytes from a place on
abbrev pub words_from : Place → List ℕ → List (List ℕ)
words_from Between [] = []
words_from (Bare word) [] = word ∷ []
words_from (Quoted quote word) [] = []
words_from Between (byte ∷ bytes) = words_from (place_behind byte) bytes
words_from (Bare word) (byte ∷ bytes) =
    if is_separator byte then word ∷ words_from Between bytes else words_from (Bare (word ++ byte ∷ [])) bytes
words_from (Quoted quote word) (byte ∷ bytes) =
    if byte == quote then word ∷ words_from Between bytes else words_from (Quoted quote (word ++ byte ∷ [])) bytes

-- the words of a line; one whose quote stays open is not among them
abbrev pub words : List ℕ → List (List ℕ)
words line = words_from Between line

-- whether a quote is open at the end of the bytes from a place on
abbrev pub is_open_from : Place → List ℕ → Bool
is_open_from Between [] = false
is_open_from (Bare word) [] = false
is_open_from (Quoted quote word) [] = true
is_open_from Between (byte ∷ bytes) = is_open_from (place_behind byte) bytes
is_open_from (Bare word) (byte ∷ bytes) =
    if is_separator byte then is_open_from Between bytes else is_open_from (Bare (word ++ byte ∷ [])) bytes
is_open_from (Quoted quote word) (byte ∷ bytes) =
    if byte == quote then is_open_from Between bytes else is_open_from (Quoted quote (word ++ byte ∷ [])) bytes

-- whether a quote that began a word of the line is not closed
abbrev pub has_open_quote : List ℕ → Bool
has_open_quote line = is_open_from Between line

-- what follows the first word that is complete of the bytes from a place on: where the word is in
-- quotes, it begins right behind the closing one
abbrev pub rest_from : Place → List ℕ → List ℕ
rest_from Between [] = []
rest_from (Bare word) [] = []
rest_from (Quoted quote word) [] = []
rest_from Between (byte ∷ bytes) = rest_from (place_behind byte) bytes
rest_from (Bare word) (byte ∷ bytes) =
    if is_separator byte then byte ∷ bytes else rest_from (Bare (word ++ byte ∷ [])) bytes
rest_from (Quoted quote word) (byte ∷ bytes) =
    if byte == quote then bytes else rest_from (Quoted quote (word ++ byte ∷ [])) bytes

-- what follows the first word of a line
abbrev pub behind_first : List ℕ → List ℕ
behind_first line = rest_from Between line

-- these bytes are those of a line from some byte on
pub record IsEndOf (line end : List ℕ) : Type 0 where
  pub from : ℕ
  pub is : end ≡ drop from line
