use Rattle.std.specs.Prelude.{◌≡◌, ◌≤◌, Bool, false, List, [], ◌∷◌, length, All, IsSome}
use Rattle.std.specs.List.{list_any}
use Rattle.std.specs.Str.{bytes_eq}
use Rattle.history.specs.declared.beat.OpenBeat.{OpenBeat}
use Rattle.history.specs.declared.beat.OpenRow.{OpenRow}
use Rattle.history.specs.declared.beat.OpenValue.{OpenValue}
use Rattle.history.specs.Looking.{same_value}
use Rattle.history.specs.Registry.{Registry, chart_of, series_of}
use Rattle.history.specs.declared.limits.TheConstants.{MOST_DIMENSIONS_OF_CHART}

-- no thing of the list is the same as a later one
abbrev pub AreApart : {A : Type 0} → (A → A → Bool) → List A → Type 0
AreApart same [] = Unit {0}
AreApart same (x ∷ xs) = (list_any (same x) xs ≡ false) × AreApart same xs

-- two rows of one chart
abbrev pub same_row : OpenRow → OpenRow → Bool
same_row new old = bytes_eq new.chart old.chart

-- A beat has at most one row for each chart, and a row at most one value for each dimension. Each chart
-- with a row and each dimension with a value is in the registry, and no row is longer than a chart can be.
pub record IsRegular (registry : Registry) (beat : OpenBeat) : Type 0 where
  pub rows : AreApart same_row beat.rows
  pub values : All (λ (row : OpenRow). AreApart same_value row.values) beat.rows
  pub charts : All (λ (row : OpenRow). IsSome (chart_of registry row.chart)) beat.rows
  pub dimensions : All (λ (row : OpenRow). All (λ (value : OpenValue). IsSome (series_of registry row.chart value.id)) row.values) beat.rows
  pub limit : All (λ (row : OpenRow). length row.values ≤ MOST_DIMENSIONS_OF_CHART) beat.rows
