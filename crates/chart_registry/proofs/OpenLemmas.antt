-- An open beat defines each chart and each dimension once.
use Rattle.std.proofs.Common.{◌≡◌, ℕ, true, List, [], ◌∷◌, Option, Some, None, refl}
use Rattle.std.specs.Option.{option_map_or}
use Rattle.history.specs.declared.beat.OpenDim.{OpenDim}
use Rattle.history.specs.declared.chart.ChartDef.{ChartDef}
use Rattle.history.specs.declared.dimension.DimDef.{DimDef}
use Rattle.history.specs.declared.line.Line.{Line}
use Rattle.history.specs.declared.line.Line.TheVariants as line
use Rattle.history.specs.Looking.{charts, dimensions, last_chart, with_grid}
use Rattle.history.specs.Put.{put}
use Rattle.history.specs.Registry.{same_chart, same_dimension}
use Rattle.history.specs.Regular.{AreApart}
use Rattle.chart_registry.proofs.ApartLemmas.{apart-put, chart-left, itself, left}
use Rattle.chart_registry.proofs.Applying.{same_chart-alike}
use Rattle.chart_registry.proofs.Growing.{same_dimension-alike}
use Rattle.chart_registry.proofs.RowsLemmas.{bytes_eq_same}

pub chart-same : (x : ChartDef) → same_chart x x ≡ true
chart-same x = bytes_eq_same x.id x.id refl

pub charts-apart : (every : ℕ) (past : List Line) → AreApart same_chart (charts every past)
charts-apart every [] = tt
charts-apart every (line.Moment moment ∷ past) = tt
charts-apart every (line.Chart def ∷ past) =
    apart-put same_chart chart-same chart-left (λ z. same_chart-alike z.id) (charts every past) (with_grid every def) (charts-apart every past)
charts-apart every (line ∷ past) = charts-apart every past

with-dimension : (def : DimDef) (ds : List OpenDim) (chart : Option (List ℕ)) → AreApart same_dimension ds
    → AreApart same_dimension (option_map_or (λ chart. put same_dimension ds (record { chart = chart; def = def })) chart ds)
with-dimension def ds None apart = apart
with-dimension def ds (Some chart) apart = apart-put same_dimension itself left (λ z. same_dimension-alike z.chart z.def.id) ds (record { chart = chart; def = def }) apart

pub dimensions-apart : (past : List Line) → AreApart same_dimension (dimensions past)
dimensions-apart [] = tt
dimensions-apart (line.Moment moment ∷ past) = tt
dimensions-apart (line.Dimension def ∷ past) = with-dimension def (dimensions past) (last_chart past) (dimensions-apart past)
dimensions-apart (line ∷ past) = dimensions-apart past
