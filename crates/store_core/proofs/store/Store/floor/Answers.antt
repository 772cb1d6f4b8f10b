use Rattle.std.proofs.Common.{ap, ◌∙◌}
use Rattle.beat_tiers.specs.State.{tier_floor}
use Rattle.store_core.specs.Store.{StoreState}
use Rattle.store_core.proofs.TierLemmas.{floor_is}
use Rattle.store_core.proofs.store.Store.floor.Goals as goal

pub returns-clause-applied : goal.returns-clause-applied
returns-clause-applied c = λ set beats has.
    c.floor.ensures
    ∙ ap (λ (s : StoreState). tier_floor s.tiers c.args.tier) c.self.view_is
    ∙ floor_is set beats c.args.self.now.tiers has c.args.tier c.requires
