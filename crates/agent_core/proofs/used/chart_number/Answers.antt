use Rattle.std.proofs.Common.{slice_get}
use Rattle.agent_core.proofs.SentNames.{chart-there}
use Rattle.agent_core.proofs.UsedRegistry.{number-is}
use Rattle.agent_core.proofs.used.chart_number.Goals as goal

pub returns-clause-value : goal.returns-clause-value
returns-clause-value c = number-is c.args.registry.now c.owner.result (slice_get c.args.registry.now.dimensions c.args.series) c.owner.ensures.value

pub returns-clause-owned : goal.returns-clause-owned
returns-clause-owned c = chart-there c.args.registry.now (slice_get c.args.registry.now.dimensions c.args.series) c.owner.result c.owner.ensures.value
