-- What was last seen of each chart and each series of a history, by number. A history has its newest beat first.
use Rattle.std.specs.Prelude.{◌≡◌, ◌==◌, ◌-◌, ◌++◌, replicate, ℕ, Bool, false, List, [], ◌∷◌, length, map, find, slice_get, slice_index_or, ℤ, Option, if◌then◌else◌}
use Rattle.std.specs.List.{list_any, range_with_len}
use Rattle.std.specs.Option.{option_map, option_map_or}
use Rattle.algorithms.specs.Words.{packed}
use Rattle.history.specs.declared.beat.OpenDim.{OpenDim}
use Rattle.history.specs.declared.chart.ChartDef.{ChartDef}
use Rattle.history.specs.declared.row.Row.{Row}
use Rattle.history.specs.History.{Beat, collected, copied, registry_of, Word}
use Rattle.history.specs.Points.{last_set, points, Collected}
use Rattle.history.specs.Refusal.{has_row}
use Rattle.history.specs.Registry.{Registry, chart_of, is_of}
use Rattle.beat_tiers.specs.declared.item.BeatPoint.{BeatPoint}
use Rattle.alarm_core.specs.declared.latest.Latest.{Latest}
use Rattle.tier_rollup.specs.declared.point.Point.{Point}
use Rattle.agent_core.specs.Answers.{told_point}

-- ---- charts

-- the word is of a series of this chart
abbrev pub is_word_of : Registry → List ℕ → Word → Bool
is_word_of registry chart word = option_map_or (is_of chart) (slice_get registry.dimensions word.series) false

-- the last moment at which a chart had a row or a copied point, or 0
abbrev pub seen_at : List Beat → List ℕ → ℕ
seen_at [] chart = 0
seen_at (collected moment beat ∷ h) chart = if has_row beat chart then moment else seen_at h chart
seen_at (copied copy ∷ h) chart = if list_any (is_word_of (registry_of (copied copy ∷ h)) chart) copy.words then copy.moment else seen_at h chart
seen_at (beat ∷ h) chart = seen_at h chart

-- ---- series

-- the last point of the series with this number
abbrev pub last_point : List Beat → ℕ → Option Point
last_point h series = option_map told_point (slice_get (points packed h series) 0)

-- the last value that a dimension was set to
abbrev pub last_raw : List Beat → OpenDim → Option ℤ
last_raw h dimension = option_map (λ (last : Collected). last.value) (last_set h dimension.chart dimension.def.id)

-- ---- by number

abbrev pub charts_seen : List Beat → List ℕ
charts_seen h = map (λ (chart : ChartDef). seen_at h chart.id) (registry_of h).charts

abbrev pub points_seen : List Beat → List (Option Point)
points_seen h = map (last_point h) (range_with_len 0 (length (registry_of h).dimensions))

abbrev pub raws_seen : List Beat → List (Option ℤ)
raws_seen h = map (last_raw h) (registry_of h).dimensions

abbrev pub latest_of : ℕ → List Beat → Latest
latest_of before h = record { before = before; charts = charts_seen h; points = points_seen h; raws = raws_seen h }

-- these are what was last seen of a history, whatever moment came before its last beat
pub record IsLatestOf (latest : Latest) (h : List Beat) : Type 0 where
  pub charts : latest.charts ≡ charts_seen h
  pub points : latest.points ≡ points_seen h
  pub raws : latest.raws ≡ raws_seen h

-- ---- a list by number that takes what things say

-- the list with room for this many things, of which nothing was seen
abbrev pub with_room : {A : Type 0} → A → ℕ → List A → List A
with_room none most list = list ++ replicate (most - length list) none

-- It has taken these things, of which the first is taken where several are of one number.
abbrev pub HasTaken : {A B : Type 0} → (ℕ → B → Bool) → (B → A) → A → List B → List A → List A → Type 0
HasTaken is_at value none things old new =
    ((n : ℕ) → slice_index_or new n none ≡ option_map_or value (find (is_at n) things) (slice_index_or old n none)) × (length new ≡ length old)

-- the row is of the chart with this number
abbrev pub is_row_at : ℕ → Row → Bool
is_row_at chart row = row.chart == chart

-- the point is of a series of the chart with this number
abbrev pub is_point_at : Registry → ℕ → BeatPoint → Bool
is_point_at registry chart point =
    option_map_or (λ (dimension : OpenDim). option_map_or (λ (number : ℕ). number == chart) (chart_of registry dimension.chart) false)
    (slice_get registry.dimensions point.series) false
