use Rattle.std.proofs.Common.{◌≡◌, take, map}
use Rattle.beat_tiers.specs.Room.{records_held}
use Rattle.beat_tiers.specs.State.{no_records}
use Rattle.beat_tiers.proofs.tiers.record_tiers.Given as goal

abbrev pub invariant-loop-tier : goal.invariant-loop-tier
invariant-loop-tier l = map records_held l.tiers.items ≡ map no_records (take l.tier-index l.settings)
