use Rattle.std.specs.Prelude.{◌≡◌, ◌≤◌, ◌==◌, ℕ, Bool, List, length, find, reverse, slice_index_or, Option, None, Some}
use Rattle.std.specs.Option.{option_map, option_map_or, option_and_then}
use Rattle.algorithms.specs.declared.last.Last.{Last}
use Rattle.algorithms.specs.Cells.{last_of}
use Rattle.history.specs.declared.row.Value.{Value}
use Rattle.history.specs.History.{Beat, registry_of}
use Rattle.history.specs.Points.{last_set}
use Rattle.history.specs.Registry.{series_of}

-- the last row of the series with this number, if there is a number and a row
abbrev pub last_in : List (Option Last) → Option ℕ → Option Last
last_in lasts series = option_and_then (λ (n : ℕ). slice_index_or lasts n None) series

-- These are the last rows of a history: each dimension's stands at the number that the history's registry
-- gives it, and there are no more than dimensions.
pub record AreLastOf (lasts : List (Option Last)) (h : List Beat) : Type 0 where
  pub rows : (chart id : List ℕ) → last_in lasts (series_of (registry_of h) chart id) ≡ option_map last_of (last_set h chart id)
  pub within : length lasts ≤ length (registry_of h).dimensions

abbrev pub is_of_series : ℕ → Value → Bool
is_of_series series value = value.series == series

-- the last of these values that is of this series
abbrev pub last_value : ℕ → List Value → Option Value
last_value series values = find (is_of_series series) (reverse values)

-- a value as the last row of its series, or what was there before
abbrev pub noted : ℕ → Option Value → Option Last → Option Last
noted moment value before = option_map_or (λ (value : Value). Some (record { moment = moment; value = value.value })) value before

-- the last rows have taken these values of a beat
pub record Takes (moment : ℕ) (values : List Value) (old new : List (Option Last)) : Type 0 where
  pub rows_are : (series : ℕ) → slice_index_or new series None ≡ noted moment (last_value series values) (slice_index_or old series None)
  pub length_is : length new ≡ length old
