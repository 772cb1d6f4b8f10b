-- What definitions changed in a registry, so that it can be taken back.
use Rattle.std.specs.Prelude.{◌≡◌, ℕ, ◌<◌, false, List, [], ◌∷◌, ◌++◌, slice_get, slice_set, Some}
use Rattle.std.specs.List.{list_any}
use Rattle.std.specs.Option.{option_map}
use Rattle.history.specs.declared.beat.OpenDim.{OpenDim}
use Rattle.history.specs.declared.chart.ChartDef.{ChartDef}
use Rattle.history.specs.declared.dimension.DimDef.{DimDef}
use Rattle.history.specs.Registry.{Registry, is_of}
use Rattle.chart_registry.specs.declared.changes.Change.{Change}
use Rattle.chart_registry.specs.declared.changes.Change.TheVariants.{ChartAdded, ChartReplaced, DimensionAdded, DimensionReplaced}
use Rattle.chart_registry.specs.Rows.{redefined}

-- a chart was added, which had no dimensions
pub record AddsChart (before after : Registry) : Type 0 where
  pub def : ChartDef
  pub charts : after.charts ≡ before.charts ++ def ∷ []
  pub dimensions : after.dimensions ≡ before.dimensions
  pub unowned : list_any (is_of def.id) before.dimensions ≡ false

-- the chart with this number has another definition in the place of this one
pub record ReplacesChart (before : Registry) (number : ℕ) (old : ChartDef) (after : Registry) : Type 0 where
  pub def : ChartDef
  pub same : def.id ≡ old.id
  pub there : slice_get before.charts number ≡ Some old
  pub grid : 0 < old.update_every
  pub charts : after.charts ≡ slice_set before.charts number def
  pub dimensions : after.dimensions ≡ before.dimensions

-- a dimension was added
pub record AddsDimension (before after : Registry) : Type 0 where
  pub dimension : OpenDim
  pub charts : after.charts ≡ before.charts
  pub dimensions : after.dimensions ≡ before.dimensions ++ dimension ∷ []

-- the dimension with this series has another definition in the place of this one
pub record ReplacesDimension (before : Registry) (series : ℕ) (old : DimDef) (after : Registry) : Type 0 where
  pub def : DimDef
  pub same : def.id ≡ old.id
  pub there : option_map (λ (dimension : OpenDim). dimension.def) (slice_get before.dimensions series) ≡ Some old
  pub charts : after.charts ≡ before.charts
  pub dimensions : after.dimensions ≡ redefined before.dimensions series def

-- this is what changed from one registry to the next
abbrev pub IsChange : Registry → Change → Registry → Type 0
IsChange before ChartAdded after = AddsChart before after
IsChange before (ChartReplaced number old) after = ReplacesChart before number old after
IsChange before DimensionAdded after = AddsDimension before after
IsChange before (DimensionReplaced series old) after = ReplacesDimension before series old after

-- these changes, one after the other, lead from one registry to another
abbrev pub AreChanges : Registry → List Change → Registry → Type 0
AreChanges before [] after = after ≡ before
AreChanges before (change ∷ changes) after = (between : Registry) × IsChange before change between × AreChanges between changes after
