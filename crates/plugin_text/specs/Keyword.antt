use Rattle.std.specs.Prelude.{ℕ, List, Option, Some, None, codes, if◌then◌else◌}
use Rattle.std.specs.Str.{bytes_eq}
use Rattle.plugin_text.specs.declared.keyword.Keyword.{Keyword}
use Rattle.plugin_text.specs.declared.keyword.Keyword.TheVariants.{Chart, Dimension, Begin, Set, End, Flush, Disable, Moment, Query}

-- the keyword that a word is
abbrev pub keyword_of : List ℕ → Option Keyword
keyword_of word =
    if bytes_eq word (codes "CHART") then Some Chart
    else if bytes_eq word (codes "DIMENSION") then Some Dimension
    else if bytes_eq word (codes "BEGIN") then Some Begin
    else if bytes_eq word (codes "SET") then Some Set
    else if bytes_eq word (codes "END") then Some End
    else if bytes_eq word (codes "FLUSH") then Some Flush
    else if bytes_eq word (codes "DISABLE") then Some Disable
    else if bytes_eq word (codes "MOMENT") then Some Moment
    else if bytes_eq word (codes "QUERY") then Some Query
    else None
