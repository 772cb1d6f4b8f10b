use Rattle.std.proofs.Common.{sym}
use Rattle.agent_core.proofs.WordLemmas.{unowned-series}
use Rattle.agent_core.proofs.copying.known_series.Goals as goal

pub returns-in-None : goal.returns-in-None
returns-in-None c = sym (unowned-series c.args.registry.now c.args.chart.now c.args.id.now c.in-None.ensures.unowned)
