use Rattle.std.proofs.Common.{add-one, sym, subst, ◌∙◌, take, slice_set}
use Rattle.std.specs.List.{AllByRecursion}
use Rattle.beat_tiers.specs.Room.{HasRoomAfter, records_held}
use Rattle.beat_tiers.proofs.SetLemmas.{all_set, map_set}
use Rattle.beat_tiers.proofs.tiers.reserve_each.Goals as goal

pub returns-in_err-reserve-clause-kept : goal.returns-in_err-reserve-clause-kept
returns-in_err-reserve-clause-kept c =
    map_set records_held c.loop-tier.tiers c.loop-tier.tier-index c.tier-item.result c.reserve.new.self c.reserve.ensures.kept
    ∙ c.loop-tier.invariant.0

pub loop-tier-preserved : goal.loop-tier-preserved
loop-tier-preserved c = (
  map_set records_held c.loop-tier.tiers c.loop-tier.tier-index c.tier-item.result c.reserve.new.self c.reserve.ensures.kept
      ∙ c.loop-tier.invariant.0,
  subst (λ n. AllByRecursion (HasRoomAfter c.args.last c.args.moment c.args.points.now) (take n (slice_set c.loop-tier.tiers c.loop-tier.tier-index c.reserve.new.self))) (sym (add-one c.loop-tier.tier-index))
      (all_set (HasRoomAfter c.args.last c.args.moment c.args.points.now) c.loop-tier.tiers c.loop-tier.tier-index c.reserve.new.self c.loop-tier.invariant.1 c.in_ok-reserve.ensures.room),
)
