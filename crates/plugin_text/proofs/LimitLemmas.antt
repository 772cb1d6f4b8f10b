-- What a line that is read defines keeps its limits.
use Rattle.std.proofs.Common.{◌≡◌, ◌==◌, ℕ, zero, suc, ◌<◌, true, ◌&&◌, nat_lt, List, [], ◌∷◌, length, take, ℤ, pos, negsuc, neg_ℤ, int_le, unsigned_abs, Option, Some, None, Result, Ok, Err, IfOk, subst, arith, refl, length-take, nat_le}
use Rattle.std.specs.List.{after_first, list_any, AllByRecursion}
use Rattle.std.specs.Option.{option_map_or}
use Rattle.std.specs.Str.{is_utf8}
use Rattle.std.specs.Str.Lossy.{utf8_valid_len}
use Rattle.std.proofs.lemmas.Bool.{cond_both, and_parts, and_from, not-true, not_from_false, lt-ltb, le-leb, ltb-false, eqb-false}
use Rattle.std.proofs.lemmas.Result.{IfOk-weaker}
use Rattle.history.specs.declared.chart.ChartDef.{ChartDef}
use Rattle.history.specs.declared.dimension.DimDef.{DimDef}
use Rattle.history.specs.declared.limits.TheConstants.{FACTOR_LIMIT, ID_LIMIT, TEXT_LIMIT, UPDATE_EVERY_LIMIT}
use Rattle.history.specs.declared.line.Line.{Line}
use Rattle.history.specs.declared.line.Line.TheVariants as line
use Rattle.history.specs.Limits.{is_dot, is_line_feed, is_one_line, has_two_parts, is_id, is_chart_id, is_short, is_factor, has_short_texts, chart_keeps_limits, dimension_keeps_limits, keeps_limits}
use Rattle.words.specs.Words.{words, has_open_quote, behind_first, Between}
use Rattle.plugin_text.specs.declared.block.TheConstants.{MOMENT_LIMIT}
use Rattle.plugin_text.specs.declared.fault.LineFault.{LineFault}
use Rattle.plugin_text.specs.declared.fault.LineFault.TheVariants.{NotText, OpenQuote, MissingWord, LongId, BadNumber}
use Rattle.plugin_text.specs.declared.keyword.Keyword.{Keyword}
use Rattle.plugin_text.specs.declared.keyword.Keyword.TheVariants.{Chart, Dimension, Begin, Set, End, Flush, Disable, Moment, Query}
use Rattle.plugin_text.specs.Answer.{◌>>=◌}
use Rattle.plugin_text.specs.Block.{set, set_value, moment}
use Rattle.plugin_text.specs.Chart.{chart_def, chart_of, priority, update_every}
use Rattle.plugin_text.specs.Dimension.{dimension, dimension_def, factor, one_for_zero}
use Rattle.plugin_text.specs.Fields.{field, word_or}
use Rattle.plugin_text.specs.Id.{short_id, chart_id, dimension_id}
use Rattle.plugin_text.specs.Number.{whole_number, number_within}
use Rattle.plugin_text.specs.Text.{shortened}
use Rattle.plugin_text.specs.Line.{line as line_of, text_line, first_keyword, known_line, said}
use Rattle.plugin_text.proofs.OneLineLemmas.{IsOneLine, words_from-one_line, field-one_line, rest_from-one_line}

-- ---- steps of an answer
any : {A : Type 0} (r : Result A LineFault) → IfOk r (λ _. Unit {0})
any (Ok a) = tt
any (Err fault) = tt

-- what an answer has by its first step and the next one
step : {A B : Type 0} (P : A → Type 0) (Q : B → Type 0) (r : Result A LineFault) (next : A → Result B LineFault) → IfOk r P → ((a : A) → P a → IfOk (next a) Q) → IfOk (r >>= next) Q
step P Q (Ok a) next h k = k a h
step P Q (Err fault) next h k = tt

-- the same, where nothing hangs on the first step
then : {A B : Type 0} (Q : B → Type 0) (r : Result A LineFault) (next : A → Result B LineFault) → ((a : A) → IfOk (next a) Q) → IfOk (r >>= next) Q
then Q r next k = step (λ _. Unit {0}) Q r next (any r) (λ a _. k a)

-- ---- ids

-- a word that is taken as an id has the form of one
short_id-is : (word : List ℕ) → IsOneLine word → 0 < length word → IfOk (short_id word) (λ _. is_id word ≡ true)
short_id-is word one some =
    cond_both (nat_lt ID_LIMIT (length word)) (Err LongId) (Ok word) (λ r. IfOk r (λ _. is_id word ≡ true)) (λ long. tt)
    (λ short. and_from _ (is_one_line word) (and_from _ _ (lt-ltb 0 (length word) some) (le-leb (length word) ID_LIMIT (ltb-false ID_LIMIT (length word) short))) (not_from_false _ one))

-- a word with two parts has a byte
has_some : (word : List ℕ) → has_two_parts word ≡ true → 0 < length word
has_some [] two = cc
has_some (byte ∷ bytes) two = omega arith

chart_id-is : (word : List ℕ) → IsOneLine word → IfOk (chart_id word) (λ _. is_chart_id word ≡ true)
chart_id-is word one =
    cond_both (has_two_parts word) (short_id word) (Err MissingWord) (λ r. IfOk r (λ _. is_chart_id word ≡ true))
    (λ two. IfOk-weaker (short_id word) (λ _. is_id word ≡ true) (λ _. is_chart_id word ≡ true) (λ _ id. and_from (is_id word) (has_two_parts word) id two) (short_id-is word one (has_some word two)))
    (λ missing. tt)

dimension_id-is : (word : List ℕ) → IsOneLine word → IfOk (dimension_id word) (λ _. is_id word ≡ true)
dimension_id-is word one =
    cond_both (length word == 0) (Err MissingWord) (short_id word) (λ r. IfOk r (λ _. is_id word ≡ true)) (λ none. tt)
    (λ some. let other = eqb-false (length word) 0 some in short_id-is word one (omega arith))

-- ---- texts

shortened-short : (text : List ℕ) → is_short (shortened text) ≡ true
unfolding shortened
shortened-short text =
    let prefix = take TEXT_LIMIT text in
    le-leb (length (take (utf8_valid_len prefix) prefix)) TEXT_LIMIT (omega (arith, length-take {A = ℕ} (utf8_valid_len prefix) prefix, length-take {A = ℕ} TEXT_LIMIT text))

-- ---- numbers

-- a number that is taken is in its limits
between : (low high : ℤ) (word : List ℕ) → IfOk (number_within low high word) (λ n. (int_le low n && int_le n high) ≡ true)
between low high word =
    then (λ n. (int_le low n && int_le n high) ≡ true) (whole_number word) _
    (λ n. cond_both (int_le low n && int_le n high) (Ok n) (Err BadNumber) (λ r. IfOk r (λ n. (int_le low n && int_le n high) ≡ true)) (λ is. is) (λ outside. tt))

-- a 1 in the place of a 0 is in the limits of a factor
one_for_zero-factor : (n : ℤ) → is_factor n ≡ true → is_factor (one_for_zero n) ≡ true
one_for_zero-factor (pos zero) is = refl
one_for_zero-factor (pos (suc n)) is = is
one_for_zero-factor (negsuc n) is = is

factor-is : (word : List ℕ) → IfOk (factor word) (λ n. is_factor n ≡ true)
factor-is [] = refl
factor-is (byte ∷ bytes) =
    step (λ n. is_factor n ≡ true) (λ n. is_factor n ≡ true) (number_within (neg_ℤ FACTOR_LIMIT) FACTOR_LIMIT (byte ∷ bytes)) _
    (between (neg_ℤ FACTOR_LIMIT) FACTOR_LIMIT (byte ∷ bytes)) one_for_zero-factor

abbrev IsUpdateEvery : ℤ → Type 0
IsUpdateEvery n = nat_le (unsigned_abs n) UPDATE_EVERY_LIMIT ≡ true

-- a number between 0 and the limit is its own size
size_is : (n : ℤ) → (int_le (pos 0) n && int_le n (pos UPDATE_EVERY_LIMIT)) ≡ true → IsUpdateEvery n
size_is (pos n) is = (and_parts (int_le (pos 0) (pos n)) (int_le (pos n) (pos UPDATE_EVERY_LIMIT)) is).1
size_is (negsuc n) is = cc

update_every-is : (word : List ℕ) → IfOk (update_every word) IsUpdateEvery
update_every-is [] = refl
update_every-is (byte ∷ bytes) =
    let low = pos 0 in
    let high = pos UPDATE_EVERY_LIMIT in
    IfOk-weaker (number_within low high (byte ∷ bytes)) (λ n. (int_le low n && int_le n high) ≡ true) IsUpdateEvery size_is (between low high (byte ∷ bytes))

-- ---- definitions

-- a definition keeps its limits where each part does
chart_keeps : (def : ChartDef) → is_chart_id def.id ≡ true → is_short def.name ≡ true → is_short def.title ≡ true → is_short def.units ≡ true → is_short def.family ≡ true → is_short def.context ≡ true
    → nat_le def.update_every UPDATE_EVERY_LIMIT ≡ true → chart_keeps_limits def ≡ true
chart_keeps def id name title units family context every =
    let texts : has_short_texts def ≡ true = and_from _ (is_short def.context) (and_from _ (is_short def.family) (and_from _ (is_short def.units) (and_from _ (is_short def.title) name title) units) family) context in
    and_from _ (nat_le def.update_every UPDATE_EVERY_LIMIT) (and_from (is_chart_id def.id) (has_short_texts def) id texts) every

dimension_keeps : (def : DimDef) → is_id def.id ≡ true → is_short def.name ≡ true → is_factor def.multiplier ≡ true → is_factor def.divisor ≡ true → dimension_keeps_limits def ≡ true
dimension_keeps def id name multiplier divisor =
    and_from _ (is_factor def.divisor) (and_from _ (is_factor def.multiplier) (and_from (is_id def.id) (is_short def.name) id name) multiplier) divisor

-- ---- lines

-- a line that is taken defines nothing, or something that keeps its limits
abbrev Keeps : Line → Type 0
Keeps said = keeps_limits said ≡ true

chart_of-keeps : (more : List (List ℕ)) → AllByRecursion IsOneLine more → IfOk (chart_of more) Keeps
chart_of-keeps more one =
    let id = field 0 more in
    let part = after_first is_dot id in
    step (λ _. is_chart_id id ≡ true) Keeps (chart_id id) _ (chart_id-is id (field-one_line 0 more one))
    (λ _ is_id. then Keeps (priority (field 7 more)) _
    (λ p. step IsUpdateEvery Keeps (update_every (field 8 more)) _ (update_every-is (field 8 more))
    (λ every within. chart_keeps (chart_def more p every) is_id
    (shortened-short (word_or part (field 1 more)))
    (shortened-short (field 2 more))
    (shortened-short (field 3 more))
    (shortened-short (word_or part (field 4 more)))
    (shortened-short (word_or id (field 5 more)))
    within)))

dimension-keeps : (more : List (List ℕ)) → AllByRecursion IsOneLine more → IfOk (dimension more) Keeps
dimension-keeps more one =
    let id = field 0 more in
    step (λ _. is_id id ≡ true) Keeps (dimension_id id) _ (dimension_id-is id (field-one_line 0 more one))
    (λ _ is. step (λ n. is_factor n ≡ true) Keeps (factor (field 3 more)) _ (factor-is (field 3 more))
    (λ multiplier by. step (λ n. is_factor n ≡ true) Keeps (factor (field 4 more)) _ (factor-is (field 4 more))
    (λ divisor over. dimension_keeps (dimension_def more multiplier divisor) is (shortened-short (word_or id (field 1 more))) by over)))

set-keeps : (more : List (List ℕ)) → IfOk (set more) Keeps
set-keeps more = then Keeps (dimension_id (field 0 more)) _ (λ id. then Keeps (set_value (field 1 more)) _ (λ value. refl))

moment-keeps : (more : List (List ℕ)) → IfOk (moment more) Keeps
moment-keeps more =
    let read = number_within (pos 1) MOMENT_LIMIT (field 0 more) in
    cond_both (length (field 0 more) == 0) (Err MissingWord) (read >>= (λ t. Ok (line.Moment (unsigned_abs t)))) (λ r. IfOk r Keeps) (λ none. tt)
    (λ some. then Keeps read _ (λ t. refl))

said-keeps : (keyword : Keyword) (more : List (List ℕ)) (rest : List ℕ) → AllByRecursion IsOneLine more → IfOk (said keyword more rest) Keeps
said-keeps Chart more rest one = cond_both (nat_lt (length more) 4) (Err MissingWord) (chart_of more) (λ r. IfOk r Keeps) (λ few. tt) (λ enough. chart_of-keeps more one)
said-keeps Dimension more rest one = dimension-keeps more one
said-keeps Begin more rest one = then Keeps (chart_id (field 0 more)) _ (λ id. refl)
said-keeps Set more rest one = set-keeps more
said-keeps End more rest one = refl
said-keeps Flush more rest one = refl
said-keeps Disable more rest one = refl
said-keeps Moment more rest one = moment-keeps more
said-keeps Query more rest one = refl

text_line-keeps : (text : List ℕ) → IsOneLine text → IfOk (text_line text) Keeps
text_line-keeps text one = by (first_keyword (words text))
  where
    by : (first : Option Keyword) → IfOk (option_map_or (known_line (behind_first text)) first (Ok line.Skipped)) Keeps
    by None = refl
    by (Some keyword) =
        let rest = behind_first text in
        cond_both (has_open_quote rest) (Err OpenQuote) (said keyword (words rest) rest) (λ r. IfOk r Keeps) (λ opened. tt)
        (λ closed. said-keeps keyword (words rest) rest (words_from-one_line Between rest refl (rest_from-one_line Between text one)))

line-keeps : (bytes : List ℕ) → IsOneLine bytes → IfOk (line_of bytes) Keeps
unfolding line_of
line-keeps bytes one = cond_both (is_utf8 bytes) (text_line bytes) (Err NotText) (λ r. IfOk r Keeps) (λ utf8. text_line-keeps bytes one) (λ other. tt)

pub limits-of : (bytes : List ℕ) (said : Line) → is_one_line bytes ≡ true → line_of bytes ≡ Ok said → keeps_limits said ≡ true
limits-of bytes said one is = subst (λ (answer : Result Line LineFault). IfOk answer Keeps) is (line-keeps bytes (not-true (list_any is_line_feed bytes) one))
