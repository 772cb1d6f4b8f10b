use Rattle.std.proofs.Common.{◌≡◌, ◌+◌, ◌<◌, ◌^◌, take}
use Rattle.std.specs.Bool.{IsTrue}
use Rattle.query_engine.specs.Points.{are_series}
use Rattle.query_engine.specs.Windows.{record_between}
use Rattle.query_engine.proofs.span.record_between.Given as goal

abbrev pub invariant-loop-point : goal.invariant-loop-point
invariant-loop-point l = IsTrue (are_series l.points) → l.to < l.from + 2 ^ 32 → l.record ≡ record_between l.from l.to (take l.point-index l.points)
