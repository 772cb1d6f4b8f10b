use Rattle.std.proofs.Common.{List, refl, sym, subst}
use Rattle.chart_registry.specs.declared.changes.Change.{Change}
use Rattle.chart_registry.specs.Changes.{AreChanges}
use Rattle.chart_registry.proofs.registry.Registry.take_definitions.Goals as goal

pub undo_all-requires : goal.undo_all-requires
undo_all-requires c =
    let registry = c.args.self.now in
    (registry, c.define.ensures.noted registry (subst (λ (changes : List Change). AreChanges registry changes registry) (sym c.new-changes.ensures.items) refl))

pub returns-in-Err-clause-unchanged : goal.returns-in-Err-clause-unchanged
returns-in-Err-clause-unchanged c =
    let registry = c.args.self.now in
    c.undo_all.ensures registry (c.define.ensures.noted registry (subst (λ (changes : List Change). AreChanges registry changes registry) (sym c.new-changes.ensures.items) refl))
