use Rattle.std.proofs.Common.{◌≡◌, ℕ, ◌≤◌, [], length, get_or}
use Rattle.alarm_core.proofs.by_chart.reach.Given as goal

abbrev pub invariant-loop : goal.invariant-loop
invariant-loop g l = record {
  same : (other : ℕ) → get_or l.lists.items other [] ≡ get_or l.initial.lists.items other [];
  longer : l.counter ≤ length l.lists.items;
}
