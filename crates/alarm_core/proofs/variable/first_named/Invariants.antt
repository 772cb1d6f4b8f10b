use Rattle.std.proofs.Common.{◌≡◌, find, take, None}
use Rattle.alarm_core.specs.Series.{has_name}
use Rattle.alarm_core.proofs.variable.first_named.Given as goal

abbrev pub invariant-loop-one : goal.invariant-loop-one
invariant-loop-one l = find (has_name l.registry l.name) (take l.one-index l.series) ≡ None
