use Rattle.std.proofs.Common.{◌+◌, ◌≤◌, length, take}
use Rattle.plugin_runner.specs.Steps.{PutsAll}
use Rattle.plugin_runner.proofs.runner.take_lines.Given as goal

abbrev pub invariant-loop-at : goal.invariant-loop-at
invariant-loop-at g l =
    PutsAll (take l.at l.lines) l.fn.follower l.follower (g.C.Clock.readings l.fn.clock) (g.C.Clock.readings l.clock) l.fn.out l.out
    × (length l.fn.out + l.at ≤ length l.out)
