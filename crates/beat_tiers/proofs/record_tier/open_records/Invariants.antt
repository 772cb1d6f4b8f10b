use Rattle.std.proofs.Common.{◌≡◌, ◌++◌}
use Rattle.beat_tiers.specs.Room.{filled}
use Rattle.beat_tiers.proofs.record_tier.open_records.Given as goal

abbrev pub invariant-loop-series : goal.invariant-loop-series
invariant-loop-series l = l.records ++ filled l.series-iterator ≡ filled l.slots.entries
