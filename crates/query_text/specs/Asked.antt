use Rattle.std.specs.Prelude.{ℕ, ◌-◌, ◌^◌, false, ◌&&◌, nat_le, nat_lt, if◌then◌else◌, List, [], ◌∷◌, ◌++◌, length, codes, ok_or, Result, Ok, Err, ℤ, pos, negsuc}
use Rattle.std.specs.Int.{div_ceil}
use Rattle.std.specs.List.{flat_map}
use Rattle.std.specs.Str.{bytes_eq}
use Rattle.std.specs.Str.Parse.{without_leading_sign, signed_digits_value}
use Rattle.fixed_num.specs.UnitsText.{is_numeral}
use Rattle.words.specs.Words.{words, has_open_quote}
use Rattle.simple_pattern.specs.declared.pattern.TheConstants.{WORD_LIMIT}
use Rattle.simple_pattern.specs.Words.{words as pattern_words}
use Rattle.history.specs.Registry.{Registry, chart_of}
use Rattle.query_engine.specs.declared.request.Group.{Group}
use Rattle.query_engine.specs.declared.request.Group.TheVariants.{Average, Min, Max, Sum, Count, AnomalyRate}
use Rattle.query_engine.specs.declared.request.Request.{Request}
use Rattle.query_text.specs.declared.fault.QueryFault.{QueryFault}
use Rattle.query_text.specs.declared.fault.QueryFault.TheVariants.{BadWord, BadNumber, NoChart, BadGroup, TooManyRows}
use Rattle.query_text.specs.declared.span.Span.{Span}
use Rattle.query_text.specs.declared.span.TheConstants.{MOST_WINDOWS}
use Rattle.query_text.specs.Fault.{◌>>=◌}
use Rattle.query_text.specs.Shown.{columns}

-- the words of a text without an open quote
abbrev pub words_read : List ℕ → Result (List (List ℕ)) QueryFault
words_read text = if has_open_quote text then Err BadWord else Ok (words text)

-- ---- the pattern

-- words with a blank between two
abbrev pub joined : List (List ℕ) → List ℕ
joined [] = []
joined (word ∷ others) = word ++ flat_map (λ other. codes " " ++ other) others

-- the words of a pattern, or `*` where there are none
abbrev pub pattern_text : List (List ℕ) → List ℕ
pattern_text [] = codes "*"
pattern_text (word ∷ others) = joined (word ∷ others)

-- the words of a pattern, at most 256, cut at the blanks of its text
abbrev pub pattern_read : List (List ℕ) → Result (List (List ℕ)) QueryFault
pattern_read given =
    let pattern = pattern_words false (pattern_text given) in
    if nat_lt WORD_LIMIT (length pattern) then Err BadWord else Ok pattern

-- ---- the numbers

-- a number of 32 bits that is at least so large
abbrev pub in_limits : ℕ → ℤ → Result ℕ QueryFault
in_limits least (pos n) = if nat_le least n && nat_lt n (2 ^ 32) then Ok n else Err BadNumber
in_limits least (negsuc n) = Err BadNumber

-- the number that a word says by a sign or none and digits
abbrev pub number_read : ℕ → List ℕ → Result ℕ QueryFault
number_read least word =
    if is_numeral (without_leading_sign word) then in_limits least (signed_digits_value 10 word) else Err BadNumber

-- from when to before when is asked, and in windows of how many seconds
abbrev pub span_read : List ℕ → List ℕ → List ℕ → Result Span QueryFault
span_read after before window = do
  after ← number_read 0 after
  before ← number_read 0 before
  window ← number_read 1 window
  Ok (record { after = after; before = before; window = window })

-- how many windows start below an end: a law says which
abbrev pub windows : ℕ → ℕ → ℕ → ℕ
windows after before window = div_ceil (before - after) window

-- the number of windows, at most 10,000
abbrev pub rows_read : Span → Result ℕ QueryFault
rows_read span =
    let rows = windows span.after span.before span.window in
    if nat_lt MOST_WINDOWS rows then Err TooManyRows else Ok rows

-- ---- the group

abbrev pub group_read : List ℕ → Result Group QueryFault
group_read word =
    if bytes_eq word (codes "average") then Ok Average
    else if bytes_eq word (codes "min") then Ok Min
    else if bytes_eq word (codes "max") then Ok Max
    else if bytes_eq word (codes "sum") then Ok Sum
    else if bytes_eq word (codes "count") then Ok Count
    else if bytes_eq word (codes "anomaly-rate") then Ok AnomalyRate
    else Err BadGroup

-- ---- the query

-- the number of a chart
abbrev pub chart_read : Registry → List ℕ → Result ℕ QueryFault
chart_read registry id = ok_or (chart_of registry id) NoChart

-- what the words of a query ask: the chart, from when, to before when, how long a window is, the group, and the words of a
-- pattern
abbrev pub request_read : Registry → List (List ℕ) → Result Request QueryFault
request_read registry (chart ∷ after ∷ before ∷ window ∷ group ∷ given) = do
  pattern ← pattern_read given
  span ← span_read after before window
  number ← chart_read registry chart
  group ← group_read group
  rows ← rows_read span
  Ok (record { series = columns registry chart pattern; after = span.after; window = span.window; rows = rows; group = group })
request_read registry too_few = Err BadWord

-- what a text asks, or the first refusal
abbrev pub query_read : Registry → List ℕ → Result Request QueryFault
query_read registry text = words_read text >>= request_read registry
