-- Which beats a caller may hand in and which of them a history refuses, as beat_entries says it, and what a line and a
-- registry may do by it.
pub use Rattle.beat_entries.specs.Rules.{IsOpenBeat, lacks_chart, row_lacks_dimension, lacks_dimension, changes_grid_of, changes_grid, too_many_charts, dimensions_with, fills_chart, is_too_long, too_many_dimensions, content_refusal}
unfoldable pub use Rattle.beat_entries.specs.Rules.{beat_refusal}
use Rattle.std.specs.Prelude.{◌≡◌, ℕ, ◌<◌, ◌≤◌, Bool, true, List, ◌∷◌, length, Option, Some, None, All}
use Rattle.std.specs.Option.{option_map_or}
use Rattle.history.specs.declared.beat.OpenDim.{OpenDim}
use Rattle.history.specs.declared.chart.ChartDef.{ChartDef}
use Rattle.history.specs.declared.fault.BlockFault.{BlockFault}
use Rattle.history.specs.declared.line.Line.{Line}
use Rattle.history.specs.declared.line.Line.TheVariants.{Moment}
use Rattle.history.specs.History.{Beat, collected}
use Rattle.history.specs.Limits.{chart_keeps_limits, dimension_keeps_limits}
use Rattle.history.specs.Looking.{beat as open_beat}
use Rattle.history.specs.Refusal.{refusal}
use Rattle.history.specs.Registry.{Registry}
use Rattle.history.specs.declared.limits.TheConstants.{MOST_CHARTS, MOST_DIMENSIONS, UPDATE_EVERY_LIMIT}
use Rattle.store_core.specs.Counts.{raised}

-- ---- what a line does

-- why the beat that a MOMENT closes may not follow, by the lines before it, the latest first
abbrev pub closing_refusal : Registry → Bool → ℕ → ℕ → List Line → Line → Option BlockFault
closing_refusal registry copies last every past (Moment moment) = beat_refusal registry copies last moment (open_beat every past)
closing_refusal registry copies last every past line = None

-- Why a line may not follow these lines of its text, the latest first: for where it stands, or else for the
-- beat that it closes.
abbrev pub line_refusal : Registry → Bool → ℕ → ℕ → List Line → Line → Option BlockFault
line_refusal registry copies last every past line =
    option_map_or Some (refusal registry every past copies last line) (closing_refusal registry copies last every past line)

-- a history with the beat that a line closes, if it closes one
abbrev pub history_with : List Beat → ℕ → List Line → Line → List Beat
history_with h every past (Moment moment) = collected moment (open_beat every past) ∷ h
history_with h every past line = h

-- the count and the last moment with that beat
abbrev pub count_with : ℕ → Line → ℕ
count_with count (Moment moment) = raised count
count_with count line = count

abbrev pub last_with : ℕ → Line → ℕ
last_with last (Moment moment) = moment
last_with last line = last

-- ---- what a history may have

-- Each chart has an update_every of 1 to 86,400 seconds, each definition keeps its limits, and there are no more of
-- them than there may be.
pub record HasLimits (registry : Registry) : Type 0 where
  pub grids : All (λ (def : ChartDef). (0 < def.update_every) × (def.update_every ≤ UPDATE_EVERY_LIMIT)) registry.charts
  pub charts : All (λ (def : ChartDef). chart_keeps_limits def ≡ true) registry.charts
  pub dimensions : All (λ (dimension : OpenDim). dimension_keeps_limits dimension.def ≡ true) registry.dimensions
  pub few_charts : length registry.charts ≤ MOST_CHARTS
  pub few : length registry.dimensions ≤ MOST_DIMENSIONS
