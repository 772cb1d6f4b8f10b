use Rattle.std.proofs.Common.{sym}
use Rattle.history.specs.Registry.{is_of}
use Rattle.chart_registry.proofs.Lists.{count-none}
use Rattle.chart_registry.proofs.known.known_dimensions_of.Goals as goal

pub returns-in-None-clause-value : goal.returns-in-None-clause-value
returns-in-None-clause-value c = sym (count-none (is_of c.args.chart.now) c.args.registry.now.dimensions c.in-None.ensures.unowned)
