-- Texts without a line feed: the parts of a text, and the words of a line.
use Rattle.std.proofs.Common.{◌≡◌, ◌==◌, ℕ, zero, suc, cond, true, false, List, [], ◌∷◌, ◌++◌, refl, ◌∙◌}
use Rattle.std.specs.List.{list_any, onto_first, AllByRecursion, AllPass}
use Rattle.std.proofs.lemmas.Bool.{cond_both, or_parts, or_from, not_from_false}
use Rattle.std.proofs.lemmas.List.Elements.{All-from_recursion, All-weaker}
use Rattle.std.proofs.lemmas.List.Folds.{list_any-append}
use Rattle.history.specs.Limits.{is_line_feed, is_one_line}
use Rattle.words.specs.Words.{Place, Between, Bare, Quoted, words_from, place_behind, rest_from, is_separator, is_quote}
use Rattle.plugin_text.specs.Fields.{field}
use Rattle.plugin_text.specs.Lines.{parts}

-- no byte of the text is a line feed
abbrev pub IsOneLine : List ℕ → Type 0
IsOneLine text = list_any is_line_feed text ≡ false

IsOneLine-cons : (byte : ℕ) (bytes : List ℕ) → is_line_feed byte ≡ false → IsOneLine bytes → IsOneLine (byte ∷ bytes)
IsOneLine-cons byte bytes here others = or_from (is_line_feed byte) (list_any is_line_feed bytes) here others

IsOneLine-parts : (byte : ℕ) (bytes : List ℕ) → IsOneLine (byte ∷ bytes) → (is_line_feed byte ≡ false) × IsOneLine bytes
IsOneLine-parts byte bytes all = or_parts (is_line_feed byte) (list_any is_line_feed bytes) all

IsOneLine-push : (text : List ℕ) (byte : ℕ) → IsOneLine text → is_line_feed byte ≡ false → IsOneLine (text ++ byte ∷ [])
IsOneLine-push text byte before here =
    list_any-append is_line_feed text (byte ∷ []) ∙ or_from (list_any is_line_feed text) (list_any is_line_feed (byte ∷ [])) before (IsOneLine-cons byte [] here refl)

-- ---- the parts of a text

onto_first-one_line : (byte : ℕ) (others : List (List ℕ)) → is_line_feed byte ≡ false → AllByRecursion IsOneLine others → AllByRecursion IsOneLine (onto_first byte others)
onto_first-one_line byte [] here all = (IsOneLine-cons byte [] here refl, tt)
onto_first-one_line byte (part ∷ others) here all = (IsOneLine-cons byte part here all.0, all.1)

each_part : (text : List ℕ) → AllByRecursion IsOneLine (parts text)
each_part [] = (refl, tt)
each_part (byte ∷ text) =
    cond_both (is_line_feed byte) ([] ∷ parts text) (onto_first byte (parts text)) (AllByRecursion IsOneLine)
    (λ ends. (refl, each_part text)) (λ here. onto_first-one_line byte (parts text) here (each_part text))

pub parts-one_line : (text : List ℕ) → AllPass is_one_line (parts text)
parts-one_line text =
    All-weaker IsOneLine (λ part. is_one_line part ≡ true) (λ part one. not_from_false (list_any is_line_feed part) one) (parts text)
    (All-from_recursion IsOneLine (parts text) (each_part text))

-- ---- the words of a line

-- what has been read of the word at a place
abbrev word_at : Place → List ℕ
word_at Between = []
word_at (Bare word) = word
word_at (Quoted quote word) = word

-- a byte that is no line feed begins no word with one
place_behind-one_line : (byte : ℕ) → is_line_feed byte ≡ false → IsOneLine (word_at (place_behind byte))
place_behind-one_line byte here =
    cond_both (is_separator byte) Between (cond (is_quote byte) (Quoted byte []) (Bare (byte ∷ []))) (λ place. IsOneLine (word_at place)) (λ between. refl)
    (λ in_word. cond_both (is_quote byte) (Quoted byte []) (Bare (byte ∷ [])) (λ place. IsOneLine (word_at place)) (λ quoted. refl) (λ bare. IsOneLine-cons byte [] here refl))

-- a line without a line feed has no word with one
pub words_from-one_line : (place : Place) (bytes : List ℕ) → IsOneLine (word_at place) → IsOneLine bytes → AllByRecursion IsOneLine (words_from place bytes)
words_from-one_line Between [] word all = tt
words_from-one_line (Bare begun) [] word all = (word, tt)
words_from-one_line (Quoted quote begun) [] word all = tt
words_from-one_line Between (byte ∷ bytes) word all =
    let parts = IsOneLine-parts byte bytes all in
    words_from-one_line (place_behind byte) bytes (place_behind-one_line byte parts.0) parts.1
words_from-one_line (Bare begun) (byte ∷ bytes) word all =
    let parts = IsOneLine-parts byte bytes all in
    cond_both (is_separator byte) (begun ∷ words_from Between bytes) (words_from (Bare (begun ++ byte ∷ [])) bytes) (AllByRecursion IsOneLine)
    (λ ends. (word, words_from-one_line Between bytes refl parts.1))
    (λ goes_on. words_from-one_line (Bare (begun ++ byte ∷ [])) bytes (IsOneLine-push begun byte word parts.0) parts.1)
words_from-one_line (Quoted quote begun) (byte ∷ bytes) word all =
    let parts = IsOneLine-parts byte bytes all in
    cond_both (byte == quote) (begun ∷ words_from Between bytes) (words_from (Quoted quote (begun ++ byte ∷ [])) bytes) (AllByRecursion IsOneLine)
    (λ ends. (word, words_from-one_line Between bytes refl parts.1))
    (λ goes_on. words_from-one_line (Quoted quote (begun ++ byte ∷ [])) bytes (IsOneLine-push begun byte word parts.0) parts.1)

pub field-one_line : (place : ℕ) (words : List (List ℕ)) → AllByRecursion IsOneLine words → IsOneLine (field place words)
field-one_line place [] all = refl
field-one_line zero (word ∷ words) all = all.0
field-one_line (suc place) (word ∷ words) all = field-one_line place words all.1

-- what follows the first word of a line has none either
pub rest_from-one_line : (place : Place) (bytes : List ℕ) → IsOneLine bytes → IsOneLine (rest_from place bytes)
rest_from-one_line Between [] all = refl
rest_from-one_line (Bare begun) [] all = refl
rest_from-one_line (Quoted quote begun) [] all = refl
rest_from-one_line Between (byte ∷ bytes) all = rest_from-one_line (place_behind byte) bytes (IsOneLine-parts byte bytes all).1
rest_from-one_line (Bare begun) (byte ∷ bytes) all =
    cond_both (is_separator byte) (byte ∷ bytes) (rest_from (Bare (begun ++ byte ∷ [])) bytes) IsOneLine
    (λ ends. all) (λ goes_on. rest_from-one_line (Bare (begun ++ byte ∷ [])) bytes (IsOneLine-parts byte bytes all).1)
rest_from-one_line (Quoted quote begun) (byte ∷ bytes) all =
    let parts = IsOneLine-parts byte bytes all in
    cond_both (byte == quote) bytes (rest_from (Quoted quote (begun ++ byte ∷ [])) bytes) IsOneLine
    (λ ends. parts.1) (λ goes_on. rest_from-one_line (Quoted quote (begun ++ byte ∷ [])) bytes parts.1)
