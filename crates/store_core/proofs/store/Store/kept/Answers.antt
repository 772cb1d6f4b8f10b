use Rattle.std.proofs.Common.{ap, ◌∙◌}
use Rattle.beat_tiers.specs.Kept.{kept_in}
use Rattle.store_core.specs.Store.{StoreState}
use Rattle.store_core.proofs.ViewLemmas.{kept_by}
use Rattle.store_core.proofs.store.Store.kept.Goals as goal

pub returns-clause-kept : goal.returns-clause-kept
returns-clause-kept g c = λ set beats has.
    c.in_ok-kept.ensures ∙ ap (λ (s : StoreState). kept_in s.tiers.points) c.self.view_is ∙ kept_by c.args.self.now set beats has
