use Rattle.std.proofs.Common.{◌≡◌}
use Rattle.agent_app.specs.HealthText.{HasTaken}
use Rattle.agent_app.proofs.health_text.take_pieces.Given as goal

abbrev pub invariant-loop-room : goal.invariant-loop-room
invariant-loop-room g l =
    HasTaken l.text l.room (g.S.Source.left l.fn.source) (g.S.Source.left l.source) × (g.S.Source.faults l.source ≡ g.S.Source.faults l.fn.source)

abbrev pub decreases-loop-room : goal.decreases-loop-room
decreases-loop-room g l = l.room
