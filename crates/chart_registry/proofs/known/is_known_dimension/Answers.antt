use Rattle.std.proofs.Common.{sym}
use Rattle.std.specs.Str.{bytes_eq}
use Rattle.history.specs.declared.beat.OpenDim.{OpenDim}
use Rattle.history.specs.Registry.{is_of}
use Rattle.chart_registry.proofs.Lists.{any-none}
use Rattle.chart_registry.proofs.known.is_known_dimension.Goals as goal

pub returns-in-None : goal.returns-in-None
returns-in-None c = sym (any-none (is_of c.args.chart.now) (λ (dimension : OpenDim). bytes_eq c.args.id.now dimension.def.id) c.args.registry.now.dimensions c.in-None.ensures.unowned)
