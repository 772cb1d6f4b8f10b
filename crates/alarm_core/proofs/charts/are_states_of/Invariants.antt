use Rattle.std.proofs.Common.{◌≡◌, map, take}
use Rattle.alarm_core.specs.Charts.{owner, owner_of}
use Rattle.alarm_core.proofs.charts.are_states_of.Given as goal

abbrev pub invariant-loop-place : goal.invariant-loop-place
invariant-loop-place l = map owner (take l.place l.states) ≡ map owner_of (take l.place l.pairs)
