use Rattle.std.proofs.Common.{◌≡◌, take}
use Rattle.std.specs.Bool.{IsTrue}
use Rattle.tier_rollup.specs.Buckets.{record_of}
use Rattle.query_engine.specs.Points.{are_series}
use Rattle.alarm_core.specs.Lookups.{members}
use Rattle.alarm_core.proofs.record.record_in.Given as goal

abbrev pub invariant-loop-point : goal.invariant-loop-point
invariant-loop-point l = IsTrue (are_series l.points) → l.record ≡ record_of (members l.absolute l.window.start l.window.stop (take l.point-index l.points))
