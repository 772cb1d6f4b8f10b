use Rattle.beat_tiers.specs.Room.{tiers_held}
use Rattle.store_core.proofs.ViewLemmas.{record_found}
use Rattle.store_core.proofs.view.StoreViewPoints.record_of.Goals as goal

pub returns-clause-found : goal.returns-clause-found
returns-clause-found g c = λ told tells.
    record_found c.args.self.now.store.now told tells (tiers_held c.tiers.result.now) c.tiers.ensures c.args.tier c.requires.records c.requires.tier c.args.series c.args.bucket c.record_of.result c.record_of.ensures.kept
