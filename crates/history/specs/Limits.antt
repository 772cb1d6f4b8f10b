-- Which ids are in form, and which definitions keep their limits.
use Rattle.std.specs.Prelude.{ℕ, ◌==◌, Bool, true, not, ◌&&◌, nat_le, nat_lt, int_le, List, length, ℤ, neg_ℤ}
use Rattle.std.specs.List.{after_first, before_first, list_any}
use Rattle.history.specs.declared.chart.ChartDef.{ChartDef}
use Rattle.history.specs.declared.dimension.DimDef.{DimDef}
use Rattle.history.specs.declared.limits.TheConstants.{FACTOR_LIMIT, ID_LIMIT, TEXT_LIMIT, UPDATE_EVERY_LIMIT}
use Rattle.history.specs.declared.line.Line.{Line}
use Rattle.history.specs.declared.line.Line.TheVariants.{Chart, Dimension}

-- ---- ids
abbrev pub is_line_feed : ℕ → Bool
is_line_feed byte = byte == 10

abbrev pub is_dot : ℕ → Bool
is_dot byte = byte == 46

-- the text stands on one line
abbrev pub is_one_line : List ℕ → Bool
is_one_line text = not (list_any is_line_feed text)

-- a byte stands on each side of the first dot
abbrev pub has_two_parts : List ℕ → Bool
has_two_parts text = nat_lt 0 (length (before_first is_dot text)) && nat_lt 0 (length (after_first is_dot text))

-- the id of a dimension: 1 to 200 bytes on one line
abbrev pub is_id : List ℕ → Bool
is_id text = nat_lt 0 (length text) && nat_le (length text) ID_LIMIT && is_one_line text

-- the id of a chart, `type.id`
abbrev pub is_chart_id : List ℕ → Bool
is_chart_id text = is_id text && has_two_parts text

-- ---- definitions
-- a text other than an id has no more bytes than it may have
abbrev pub is_short : List ℕ → Bool
is_short text = nat_le (length text) TEXT_LIMIT

abbrev pub has_short_texts : ChartDef → Bool
has_short_texts def = is_short def.name && is_short def.title && is_short def.units && is_short def.family && is_short def.context

abbrev pub chart_keeps_limits : ChartDef → Bool
chart_keeps_limits def = is_chart_id def.id && has_short_texts def && nat_le def.update_every UPDATE_EVERY_LIMIT

-- a multiplier or a divisor
abbrev pub is_factor : ℤ → Bool
is_factor n = int_le (neg_ℤ FACTOR_LIMIT) n && int_le n FACTOR_LIMIT

abbrev pub dimension_keeps_limits : DimDef → Bool
dimension_keeps_limits def = is_id def.id && is_short def.name && is_factor def.multiplier && is_factor def.divisor

-- the definition of a line keeps its limits, if it has one
abbrev pub keeps_limits : Line → Bool
keeps_limits (Chart def) = chart_keeps_limits def
keeps_limits (Dimension def) = dimension_keeps_limits def
keeps_limits line = true
