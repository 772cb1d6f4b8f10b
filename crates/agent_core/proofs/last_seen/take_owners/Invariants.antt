use Rattle.std.proofs.Common.{take, reverse}
use Rattle.agent_core.specs.LastSeen.{is_point_at, HasTaken}
use Rattle.agent_core.proofs.last_seen.take_owners.Given as goal

abbrev pub invariant-loop-point : goal.invariant-loop-point
invariant-loop-point l = HasTaken (is_point_at l.registry) (λ point. l.moment) 0 (reverse (take l.point-index l.points)) l.initial.moments l.moments
