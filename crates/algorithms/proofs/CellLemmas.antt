-- The cells of a row are those of a history.
use Rattle.std.proofs.Common.{◌≡◌, ℕ, ◌<◌, List, Option, Some, None, IfSome, refl}
use Rattle.std.proofs.lemmas.Bool.{lt-ltb}
use Rattle.std.specs.Option.{option_map}
use Rattle.history.specs.declared.beat.OpenDim.{OpenDim}
use Rattle.history.specs.declared.beat.OpenValue.{OpenValue}
use Rattle.history.specs.declared.chart.ChartDef.{ChartDef}
use Rattle.history.specs.History.{Beat}
use Rattle.history.specs.Points.{Collected, before_at, last_set, cell_of as history_cell}
use Rattle.algorithms.specs.Cells.{before_of, cell_of, last_of, numbered}

before_of-same : (chart : ChartDef) (moment : ℕ) (last : Option Collected) → IfSome last (λ l. l.moment < moment)
    → before_of chart.update_every chart.store_first moment (option_map last_of last) ≡ before_at chart moment last
before_of-same chart moment (Some last) earlier = rw (lt-ltb last.moment moment earlier) refl
before_of-same chart moment None earlier = refl

pub cell_of-same : (h : List Beat) (chart : ChartDef) (moment series : ℕ) (value : OpenValue) (dimension : OpenDim)
    → IfSome (last_set h dimension.chart dimension.def.id) (λ last. last.moment < moment)
    → history_cell h chart moment dimension value
    ≡ cell_of chart.update_every chart.store_first moment (numbered series value)
    (option_map last_of (last_set h dimension.chart dimension.def.id)) dimension.def
cell_of-same h chart moment series value dimension earlier =
    rw (before_of-same chart moment (last_set h dimension.chart dimension.def.id) earlier) refl
