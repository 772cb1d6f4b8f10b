use Rattle.std.specs.Prelude.{ℕ, ◌==◌, Bool, not, List, [], ◌∷◌, ◌++◌, filter, ℤ, Option, Some, None, if◌then◌else◌}
use Rattle.std.specs.Option.{option_map_or}
use Rattle.std.specs.Str.{bytes_eq}
use Rattle.history.specs.declared.beat.OpenBeat.{OpenBeat}
use Rattle.history.specs.declared.beat.OpenDim.{OpenDim}
use Rattle.history.specs.declared.beat.OpenRow.{OpenRow}
use Rattle.history.specs.declared.beat.OpenValue.{OpenValue}
use Rattle.history.specs.declared.chart.ChartDef.{ChartDef}
use Rattle.history.specs.declared.line.Line.{Line}
use Rattle.history.specs.declared.line.Line.TheVariants.{Chart, Dimension, Begin, Set, End, Flush, Disable, Moment, Query, Skipped}
use Rattle.history.specs.Put.{put}
use Rattle.history.specs.Registry.{same_chart, same_dimension}

-- Each question about a line is answered by looking back over the lines before it, the latest first.

-- the chart of the open block: that of the last BEGIN, with no END or FLUSH after it
abbrev pub open_block : List Line → Option (List ℕ)
open_block [] = None
open_block (Begin chart ∷ past) = Some chart
open_block (End ∷ past) = None
open_block (Flush ∷ past) = None
open_block (line ∷ past) = open_block past

-- the chart of the last CHART line of the text
abbrev pub last_chart : List Line → Option (List ℕ)
last_chart [] = None
last_chart (Chart def ∷ past) = Some def.id
last_chart (line ∷ past) = last_chart past

abbrev pub is_value : List ℕ → OpenValue → Bool
is_value id value = bytes_eq id value.id

abbrev pub same_value : OpenValue → OpenValue → Bool
same_value new old = is_value new.id old

-- the values of a block after a SET line: without a value the dimension is not set
abbrev pub set_value : List OpenValue → List ℕ → Option ℤ → Bool → List OpenValue
set_value values id (Some value) anomalous = put same_value values (record { id = id; value = value; anomalous = anomalous })
set_value values id None anomalous = filter (λ value. not (is_value id value)) values

-- what has been set since the last BEGIN
abbrev pub values : List Line → List OpenValue
values [] = []
values (Begin chart ∷ past) = []
values (Set id value anomalous ∷ past) = set_value (values past) id value anomalous
values (line ∷ past) = values past

-- the rows of the open beat: the blocks since the last MOMENT that an END closed
abbrev pub rows : List Line → List OpenRow
rows [] = []
rows (Moment moment ∷ past) = []
rows (End ∷ past) = rows past ++ option_map_or (λ chart. record { chart = chart; values = values past } ∷ []) (open_block past) []
rows (line ∷ past) = rows past

-- a chart's definition, with the caller's update_every where the line leaves it open
abbrev pub with_grid : ℕ → ChartDef → ChartDef
with_grid every def = if def.update_every == 0 then record def { update_every = every } else def

-- the charts that the open beat defines, each with its last definition
abbrev pub charts : ℕ → List Line → List ChartDef
charts every [] = []
charts every (Moment moment ∷ past) = []
charts every (Chart def ∷ past) = put same_chart (charts every past) (with_grid every def)
charts every (line ∷ past) = charts every past

-- the dimensions that the open beat defines; each belongs to the last CHART line before it
abbrev pub dimensions : List Line → List OpenDim
dimensions [] = []
dimensions (Moment moment ∷ past) = []
dimensions (Dimension def ∷ past) = option_map_or (λ chart. put same_dimension (dimensions past) (record { chart = chart; def = def })) (last_chart past) (dimensions past)
dimensions (line ∷ past) = dimensions past

-- the open beat
abbrev pub beat : ℕ → List Line → OpenBeat
beat every past = record { charts = charts every past; dimensions = dimensions past; rows = rows past }
