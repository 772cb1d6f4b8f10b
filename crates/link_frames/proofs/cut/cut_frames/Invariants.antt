use Rattle.std.proofs.Common.{◌++◌, length}
use Rattle.link_frames.specs.Stream.{HandsOut, IsOpen}
use Rattle.link_frames.proofs.cut.cut_frames.Given as goal

abbrev pub invariant-loop-ahead : goal.invariant-loop-ahead
invariant-loop-ahead l = record {
  frames : HandsOut (l.fn.held ++ l.fn.piece) l.fn.out l.out (l.held ++ l.ahead);
  held : IsOpen l.held;
}

abbrev pub decreases-loop-ahead : goal.decreases-loop-ahead
decreases-loop-ahead l = length l.ahead
