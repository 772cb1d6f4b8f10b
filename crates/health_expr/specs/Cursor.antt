-- A reader of words, and the words that it has before it.
use Rattle.std.specs.Prelude.{◌≡◌, ◌<◌, ◌+◌, ◌^◌, List, length}
use Rattle.std.specs.List.{prefix_len}
use Rattle.health_expr.specs.declared.cursor.Words.TheInside.{Inside}
use Rattle.words.specs.Words.{is_blank}
use Rattle.health_expr.specs.Cut.{first_word}
use Rattle.health_expr.specs.Word.{Is}
use Rattle.health_expr.specs.Words.{Placed, words_from}

-- the words of what is ahead
abbrev pub words_ahead : Inside → List Placed
words_ahead reader = words_from 0 reader.place reader.ahead.now

-- the first of them is known, and nothing stands before it
pub record IsReady (reader : Inside) : Type 0 where
  pub no_blank : prefix_len is_blank reader.ahead.now ≡ 0
  pub next : Is (first_word reader.ahead.now) reader.ahead.now reader.word
  pub fits : reader.place + length reader.ahead.now < 2 ^ 64
