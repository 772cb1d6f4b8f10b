use Rattle.std.proofs.Common.{◌≡◌, ◌&&◌, false, map}
use Rattle.std.specs.List.{list_any, range_with_len}
use Rattle.health_config.specs.Entity.{alarm_of}
use Rattle.alarm_core.specs.Pairs.{goes_before_at, is_on_at}
use Rattle.alarm_core.proofs.pairs.is_replaced.Given as goal

abbrev pub invariant-loop-f : goal.invariant-loop-f
invariant-loop-f l = list_any (λ f. goes_before_at (map alarm_of l.entities) f l.e && is_on_at (map alarm_of l.entities) l.def f) (range_with_len 0 l.f) ≡ false
