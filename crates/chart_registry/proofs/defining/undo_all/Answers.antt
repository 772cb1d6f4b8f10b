use Rattle.std.proofs.Common.{List, sym, subst}
use Rattle.history.specs.Registry.{Registry as Definitions}
use Rattle.chart_registry.specs.declared.changes.Change.{Change}
use Rattle.chart_registry.specs.Changes.{AreChanges}
use Rattle.chart_registry.proofs.ChangesLemmas.{changes-pop}
use Rattle.chart_registry.proofs.defining.undo_all.Goals as goal

pub undo-requires : goal.undo-requires
undo-requires c =
    let registry = c.loop-change.registry in
    let rest = changes-pop c.requires.0 registry c.pop.new.self.items c.in-Some.change (subst (λ (changes : List Change). AreChanges c.requires.0 changes registry) c.in-Some.ensures.items (c.loop-change.invariant c.requires.0 c.requires.1)) in
    (rest.0, rest.2)

pub loop-change-preserved : goal.loop-change-preserved
loop-change-preserved c = λ before are.
    let registry = c.loop-change.registry in
    let rest = changes-pop before registry c.pop.new.self.items c.in-Some.change (subst (λ (changes : List Change). AreChanges before changes registry) c.in-Some.ensures.items (c.loop-change.invariant before are)) in
    subst (λ (r : Definitions). AreChanges before c.pop.new.self.items r) (sym (c.undo.ensures rest.0 rest.2)) rest.1
