use Rattle.beat_tiers.specs.Room.{tiers_held}
use Rattle.store_core.proofs.ViewLemmas.{points_found}
use Rattle.store_core.proofs.view.StoreViewPoints.points.Goals as goal

pub returns-clause-found : goal.returns-clause-found
returns-clause-found g c = λ told tells.
    points_found c.args.self.now.store.now told tells (tiers_held c.tiers.result.now) c.tiers.ensures c.args.series c.args.from c.args.to c.in_ok-points.field-0 c.in_ok-points.ensures
