use Rattle.std.proofs.Common.{sym, subst}
use Rattle.chart_registry.specs.declared.changes.Change.{Change}
use Rattle.chart_registry.specs.Changes.{IsChange}
use Rattle.chart_registry.proofs.defining.note.Goals as goal

pub undo-requires : goal.undo-requires
undo-requires c = (c.requires.0, subst (λ (change : Change). IsChange c.requires.0 change c.args.registry.now) (sym c.in-Err.ensures.value_returned) c.requires.1)

pub returns-in-Err-clause-err : goal.returns-in-Err-clause-err
returns-in-Err-clause-err c = λ before is. c.undo.ensures before (subst (λ (change : Change). IsChange before change c.args.registry.now) (sym c.in-Err.ensures.value_returned) is)
