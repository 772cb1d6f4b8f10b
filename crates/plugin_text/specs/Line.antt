use Rattle.std.specs.Prelude.{ℕ, List, [], ◌∷◌, Option, None, Result, Ok, Err, if◌then◌else◌}
use Rattle.std.specs.Option.{option_map_or}
use Rattle.std.specs.Str.{is_utf8}
use Rattle.history.specs.declared.line.Line.{Line}
use Rattle.history.specs.declared.line.Line.TheVariants.{End as EndLine, Flush as FlushLine, Disable as DisableLine, Query as QueryLine, Skipped}
use Rattle.plugin_text.specs.declared.fault.LineFault.{LineFault}
use Rattle.plugin_text.specs.declared.fault.LineFault.TheVariants.{NotText, OpenQuote}
use Rattle.plugin_text.specs.declared.keyword.Keyword.{Keyword}
use Rattle.plugin_text.specs.declared.keyword.Keyword.TheVariants.{Chart, Dimension, Begin, Set, End, Flush, Disable, Moment, Query}
use Rattle.words.specs.Words.{words, has_open_quote, behind_first}
use Rattle.plugin_text.specs.Block.{begin, set, moment}
use Rattle.plugin_text.specs.Chart.{chart}
use Rattle.plugin_text.specs.Dimension.{dimension}
use Rattle.plugin_text.specs.Keyword.{keyword_of}

-- what a line says by its keyword, by the words behind it, and by all that stands behind it
abbrev pub said : Keyword → List (List ℕ) → List ℕ → Result Line LineFault
said Chart more rest = chart more
said Dimension more rest = dimension more
said Begin more rest = begin more
said Set more rest = set more
said End more rest = Ok EndLine
said Flush more rest = Ok FlushLine
said Disable more rest = Ok DisableLine
said Moment more rest = moment more
said Query more rest = Ok (QueryLine rest)

-- what a line says by its keyword and what stands behind it, where no quote may stay open
abbrev pub known_line : List ℕ → Keyword → Result Line LineFault
known_line rest first = if has_open_quote rest then Err OpenQuote else said first (words rest) rest

abbrev pub first_keyword : List (List ℕ) → Option Keyword
first_keyword [] = None
first_keyword (first ∷ more) = keyword_of first

-- what a line that is text says: it is skipped where it does not begin with a keyword
abbrev pub text_line : List ℕ → Result Line LineFault
text_line text = option_map_or (known_line (behind_first text)) (first_keyword (words text)) (Ok Skipped)

-- what a line says, or why it is refused
unfoldable pub line : List ℕ → Result Line LineFault
line bytes = if is_utf8 bytes then text_line bytes else Err NotText
