use Rattle.std.proofs.Common.{ℕ, Some, None, length, reverse, subst}
use Rattle.beat_tiers.specs.declared.item.BeatPoint.{BeatPoint}
use Rattle.beat_tiers.specs.Beats.{is_series}
use Rattle.agent_core.specs.LastSeen.{is_point_at, with_room, HasTaken}
use Rattle.agent_core.proofs.LastSeenLemmas.{only-defined, seen-copied}
use Rattle.agent_core.proofs.last_seen.see_copied.Goals as goal

pub returns-clause-seen : goal.returns-clause-seen
returns-clause-seen c =
    let registry = c.args.registry.now in
    let old = c.args.latest.now in
    let points = c.args.points.now in
    λ h beats lasts copy are last was same at stored.
    seen-copied registry h (only-defined h beats are) lasts last old _ was copy points same stored
    (subst (λ (moment : ℕ). HasTaken (is_point_at registry) (λ (point : BeatPoint). moment) 0 (reverse points) (with_room 0 (length registry.charts) old.charts) c.see_owners.new.charts) at c.in_ok-see_owners.ensures)
    c.in_ok-see_no_values.ensures
    (subst (λ (moment : ℕ). HasTaken is_series (λ (point : BeatPoint). Some (record { moment = moment; word = point.word })) None points (with_room None (length registry.dimensions) old.points) c.see_points.new.last) at c.in_ok-see_points.ensures)
