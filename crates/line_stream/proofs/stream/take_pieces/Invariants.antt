use Rattle.std.proofs.Common.{◌≡◌, ◌+◌}
use Rattle.line_stream.specs.Run.{Running}
use Rattle.line_stream.specs.Stream.{HasTaken}
use Rattle.line_stream.proofs.stream.take_pieces.Given as goal

abbrev pub invariant-loop-budget : goal.invariant-loop-budget
invariant-loop-budget g l =
    Running (λ text. HasTaken g.T.Taker.acts l.stream l.fn.taker l.fn.host text l.taker l.host) l.budget
    (g.S.Source.left l.fn.source) (g.S.Source.left l.source)
    × (g.S.Source.faults l.source ≡ g.S.Source.faults l.fn.source) × g.T.Taker.ready l.taker l.host (l.stream.count + 1)

abbrev pub decreases-loop-budget : goal.decreases-loop-budget
decreases-loop-budget g l = l.budget
