use Rattle.std.proofs.Common.{◌≡◌, ◌-◌, ◌≤◌, length}
use Rattle.beat_tiers.specs.Room.{filled}
use Rattle.beat_tiers.specs.Segments.{with_items}
use Rattle.beat_tiers.specs.State.{record_items}
use Rattle.beat_tiers.proofs.record_tier.push_records.Given as goal

abbrev pub invariant-loop-series : goal.invariant-loop-series
invariant-loop-series l =
    (with_items l.segments.kept (record_items l.bucket (filled l.series-iterator)) ≡ with_items l.fn.segments.kept (record_items l.bucket (filled l.slots.entries)))
    × (length (filled l.series-iterator) ≤ l.segments.items)
    × (l.segments.items - length (filled l.series-iterator) ≡ l.fn.segments.items - length (filled l.slots.entries))
    × (l.segments.segments ≡ l.fn.segments.segments)
