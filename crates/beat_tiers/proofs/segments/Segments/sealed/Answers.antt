use Rattle.std.proofs.Common.{sym, subst}
use Rattle.std.specs.List.{AllByRecursion}
use Rattle.beat_tiers.specs.Searching.{HasItems}
use Rattle.beat_tiers.proofs.Halves.{all_right}
use Rattle.beat_tiers.proofs.segments.Segments.sealed.Goals as goal

pub returns-clause-later : goal.returns-clause-later
returns-clause-later g c =
    all_right HasItems c.as_slices.result.0.now c.as_slices.result.1.now (subst (AllByRecursion HasItems) (sym c.as_slices.ensures.items) c.self.invariant)
