-- The definitions of a text's lines, checked on small texts by computation.
use Rattle.std.proofs.Common.{false, List, [], ◌∷◌, pos, Some, refl, sym, arith}
use Rattle.std.proofs.lemmas.Option.{none-some}
use Rattle.history.specs.declared.chart.ChartDef.{ChartDef}
use Rattle.history.specs.declared.dimension.DimDef.{DimDef}
use Rattle.history.specs.declared.fault.BlockFault.TheVariants.{SecondBlock}
use Rattle.history.specs.declared.line.Line.{Line}
use Rattle.history.specs.declared.line.Line.TheVariants.{Chart, Dimension, Begin, Set, End, Moment}
use Rattle.history.specs.History.{registry_of}
use Rattle.chart_registry.specs.Accepted.{AreAccepted, HasFew}

-- a chart of one dimension, the latest line first
module _ (chart : ChartDef) (dimension : DimDef) where
  abbrev definitions : List Line
  definitions = Dimension (record dimension { id = 7 ∷ [] }) ∷ Chart (record chart { id = 1 ∷ []; update_every = 5 }) ∷ []

  accepted : AreAccepted 1 [] (Moment 5 ∷ End ∷ Set (7 ∷ []) (Some (pos 3)) false ∷ Begin (1 ∷ []) ∷ definitions)
  accepted = (refl, (refl, (refl, (refl, (refl, (refl, tt))))))

  -- a second block of the chart, in the same beat
  refused : AreAccepted 1 [] (Begin (1 ∷ []) ∷ End ∷ Begin (1 ∷ []) ∷ definitions) → ⊥
  refused lines = none-some SecondBlock (sym lines.0)

few : HasFew (registry_of [])
few chart = omega arith
