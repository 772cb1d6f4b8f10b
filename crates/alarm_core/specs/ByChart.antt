-- What is of each chart, in lists by the number of the chart.
use Rattle.std.specs.Prelude.{◌≡◌, ℕ, ◌==◌, Bool, List, [], filter, slice_index_or}

-- whether an item is of the chart with this number
abbrev pub is_on_chart : {A : Type 0} → (A → ℕ) → ℕ → A → Bool
is_on_chart chart_of chart item = chart == chart_of item

-- the list at the number of a chart has the items of that chart, in their order
abbrev pub AreByChart : {A : Type 0} → (A → ℕ) → List A → List (List A) → Type 0
AreByChart chart_of items lists = (chart : ℕ) → slice_index_or lists chart [] ≡ filter (is_on_chart chart_of chart) items
