use Rattle.std.proofs.Common.{length}
use Rattle.history.specs.Registry.{Registry}
use Rattle.chart_registry.specs.Changes.{AreChanges}
use Rattle.chart_registry.proofs.defining.undo_all.Given as goal

abbrev pub invariant-loop-change : goal.invariant-loop-change
invariant-loop-change l = (before : Registry) → AreChanges before l.fn.changes.items l.fn.registry → AreChanges before l.changes.items l.registry

abbrev pub decreases-loop-change : goal.decreases-loop-change
decreases-loop-change l = length l.changes.items
