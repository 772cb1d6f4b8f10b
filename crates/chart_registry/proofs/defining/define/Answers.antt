use Rattle.std.proofs.Common.{◌≡◌, true, sym, subst}
use Rattle.history.specs.Registry.{Registry as Definitions}
use Rattle.chart_registry.specs.Taking.{all_taken, takes_dimension, with_dimension}
use Rattle.chart_registry.proofs.defining.define.Goals as goal

pub define_dimensions-requires : goal.define_dimensions-requires
define_dimensions-requires c =
    subst (λ (made : Definitions). all_taken takes_dimension with_dimension made c.args.dimensions.now ≡ true) (sym c.in_ok-define_charts.ensures.ok) c.requires.dimensions
