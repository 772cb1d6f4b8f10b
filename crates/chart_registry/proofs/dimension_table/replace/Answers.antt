use Rattle.std.proofs.Common.{sym}
use Rattle.history.specs.Registry.{same_dimension}
use Rattle.chart_registry.proofs.Places.{put-present}
use Rattle.chart_registry.proofs.TablesLemmas.{dimension-replaced, count-replaced}
use Rattle.chart_registry.proofs.dimension_table.replace.Goals as goal

pub returns-clause-put : goal.returns-clause-put
returns-clause-put c = sym (put-present same_dimension c.args.dimension c.args.defs.now.items c.args.place c.requires.there)

pub returns-clause-kept : goal.returns-clause-kept
returns-clause-kept c = dimension-replaced c.args.defs.now.items c.args.dimension c.args.place c.requires.there

pub returns-clause-counts : goal.returns-clause-counts
returns-clause-counts c = count-replaced c.args.defs.now.items c.args.dimension c.args.place c.requires.there
