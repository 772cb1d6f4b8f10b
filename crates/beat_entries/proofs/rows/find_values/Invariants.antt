use Rattle.std.proofs.Common.{◌≡◌, true, not, take}
use Rattle.std.specs.List.{filter_map, list_any}
use Rattle.history.specs.declared.beat.OpenValue.{OpenValue}
use Rattle.history.specs.Refusal.{has_dimension}
use Rattle.beat_entries.specs.Coming.{CanNumber}
use Rattle.beat_entries.specs.Gathered.{value_at}
use Rattle.beat_entries.specs.Rules.{with_beat}
use Rattle.beat_entries.proofs.rows.find_values.Given as goal

abbrev pub invariant-loop-value : goal.invariant-loop-value
invariant-loop-value l =
    (l.lack ≡ list_any (λ (value : OpenValue). not (has_dimension l.coming.registry.now l.coming.beat.now l.chart value.id)) (take l.value-index l.given))
    × (CanNumber l.coming → l.values.whole ≡ true → l.values.items.items ≡ filter_map (value_at (with_beat l.coming.registry.now l.coming.beat.now) l.chart) (take l.value-index l.given))
