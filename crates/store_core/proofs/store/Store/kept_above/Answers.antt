use Rattle.std.proofs.Common.{filter, take, ap, subst, sym, ◌∙◌}
use Rattle.beat_tiers.specs.Above.{is_above}
use Rattle.beat_tiers.specs.declared.kept.Kept.{Kept}
use Rattle.beat_tiers.specs.Kept.{kept_in}
use Rattle.beat_tiers.specs.Segments.{items_of}
use Rattle.beat_tiers.specs.Tiers.{AreOrdered}
use Rattle.beat_tiers.proofs.StateLaws.{points_ordered}
use Rattle.store_core.specs.Store.{StoreState}
use Rattle.store_core.proofs.ViewLemmas.{kept_by}
use Rattle.store_core.proofs.store.Store.kept_above.Goals as goal

pub returns-clause-kept : goal.returns-clause-kept
returns-clause-kept g c = λ set beats has.
    let ordered = points_ordered set.tiers beats c.args.self.now.tiers has.are in
    c.in_ok-kept_above.ensures.kept (subst (λ (s : StoreState). AreOrdered (items_of s.tiers.points)) (sym c.self.view_is) ordered)
    ∙ ap (λ (kept : Kept). take c.args.most (filter (is_above c.args.from) kept.beats))
    (ap (λ (s : StoreState). kept_in s.tiers.points) c.self.view_is ∙ kept_by c.args.self.now set beats has)
