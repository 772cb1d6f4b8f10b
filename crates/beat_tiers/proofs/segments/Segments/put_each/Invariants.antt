use Rattle.std.proofs.Common.{◌≡◌, ◌++◌}
use Rattle.beat_tiers.proofs.segments.Segments.put_each.Given as goal

abbrev pub invariant-loop-segment : goal.invariant-loop-segment
invariant-loop-segment g l = l.self.kept ≡ record l.fn.self.kept { sealed = l.fn.self.kept.sealed ++ l.yielded }
