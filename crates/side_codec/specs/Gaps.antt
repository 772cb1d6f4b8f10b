-- A span that was not copied.
use Rattle.std.specs.Prelude.{ℕ, ◌<◌, ◌^◌, List, ◌++◌}
use Rattle.field_codec.specs.Reading.{ReadOf, read_as, read_u32}
use Rattle.field_codec.specs.Spelling.{u32_bytes}
use Rattle.field_codec.specs.Lists.{◌>>◌}
use Rattle.side_codec.specs.declared.gap.GapSpan.{GapSpan}

abbrev pub gap_of : ℕ × ℕ → GapSpan
gap_of (from, to) = record { from = from; to = to }

unfoldable pub read_gap : List ℕ → ReadOf GapSpan
read_gap bytes = read_as gap_of (read_u32 bytes >> read_u32)

unfoldable pub gap_bytes : GapSpan → List ℕ
gap_bytes gap = u32_bytes gap.from ++ u32_bytes gap.to

pub record IsGap (gap : GapSpan) : Type 0 where
  pub from : gap.from < 2 ^ 32
  pub to : gap.to < 2 ^ 32

-- any may be written
abbrev pub IsAnyGap : GapSpan → Type 0
IsAnyGap gap = Unit {0}
