use Rattle.chart_registry.proofs.ChangesLemmas.{changes-more}
use Rattle.chart_registry.proofs.defining.define_dimension.Goals as goal

pub returns-clause-noted : goal.returns-clause-noted
returns-clause-noted c =
    changes-more c.note.result c.args.registry.now c.change_dimension.new.self c.note.new.registry c.args.changes.now.items c.note.new.changes.items c.in_ok-change.change
    c.in_ok-change.ensures.change c.note.ensures.ok c.note.ensures.noted
