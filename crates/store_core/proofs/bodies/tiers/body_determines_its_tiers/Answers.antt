use Rattle.store_core.proofs.BodyProofs.WholeLemmas.{tiers-one}
use Rattle.store_core.proofs.bodies.tiers.body_determines_its_tiers.Goals as goal

pub returns : goal.returns
returns c = record { one = tiers-one }
