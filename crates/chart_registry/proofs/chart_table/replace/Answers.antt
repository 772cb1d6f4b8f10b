use Rattle.std.proofs.Common.{sym}
use Rattle.history.specs.Registry.{same_chart}
use Rattle.chart_registry.proofs.Places.{put-present}
use Rattle.chart_registry.proofs.TablesLemmas.{chart-replaced}
use Rattle.chart_registry.proofs.chart_table.replace.Goals as goal

pub returns-clause-put : goal.returns-clause-put
returns-clause-put c = sym (put-present same_chart c.args.def c.args.defs.now.items c.args.place c.requires.there)

pub returns-clause-kept : goal.returns-clause-kept
returns-clause-kept c = chart-replaced c.args.defs.now.items c.args.def c.args.place c.requires.there
