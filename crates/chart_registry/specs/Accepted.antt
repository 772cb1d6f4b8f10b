-- Lines of a text that may stand where they do, and what a registry may have.
use Rattle.std.specs.Prelude.{◌≡◌, ◌≤◌, ℕ, List, [], ◌∷◌, length, count_by, None}
use Rattle.history.specs.declared.line.Line.{Line}
use Rattle.history.specs.History.{Beat}
use Rattle.history.specs.Read.{refusal_at}
use Rattle.history.specs.Registry.{Registry, is_of}
use Rattle.history.specs.declared.limits.TheConstants.{MOST_CHARTS, MOST_DIMENSIONS, MOST_DIMENSIONS_OF_CHART}

-- each of these lines, the latest first, may stand after those before it, in a text that follows a history
abbrev pub AreAccepted : ℕ → List Beat → List Line → Type 0
AreAccepted every h [] = Unit {0}
AreAccepted every h (line ∷ past) = (refusal_at every h past line ≡ None) × AreAccepted every h past

-- no chart has more dimensions than a chart may have
abbrev pub HasFew : Registry → Type 0
HasFew registry = (chart : List ℕ) → count_by (is_of chart) registry.dimensions ≤ MOST_DIMENSIONS_OF_CHART

-- no more charts and dimensions than there may be, in all and of a chart
pub record IsWithin (registry : Registry) : Type 0 where
  pub charts : length registry.charts ≤ MOST_CHARTS
  pub dimensions : length registry.dimensions ≤ MOST_DIMENSIONS
  pub each : HasFew registry
