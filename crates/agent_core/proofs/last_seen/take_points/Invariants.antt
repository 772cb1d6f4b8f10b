use Rattle.std.proofs.Common.{drop, Some, None}
use Rattle.beat_tiers.specs.declared.item.BeatPoint.{BeatPoint}
use Rattle.beat_tiers.specs.Beats.{is_series}
use Rattle.agent_core.specs.LastSeen.{HasTaken}
use Rattle.agent_core.proofs.last_seen.take_points.Given as goal

abbrev pub invariant-loop-i : goal.invariant-loop-i
invariant-loop-i l = HasTaken is_series (λ (point : BeatPoint). Some (record { moment = l.moment; word = point.word })) None (drop l.i l.points) l.initial.last l.last
