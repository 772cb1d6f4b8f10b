use Rattle.std.proofs.Common.{rules, subst}
use Rattle.std.specs.List.{All}
use Rattle.std.proofs.lemmas.List.{take_all}
use Rattle.std.proofs.lemmas.List.Elements.{All-more, recursion_from_All}
use Rattle.beat_tiers.specs.Sound.{IsPointItem}
use Rattle.store_core.proofs.bodies.sound.are_points.Goals as goal

pub loop-item-preserved : goal.loop-item-preserved
loop-item-preserved c =
    All-more IsPointItem c.args.items.now c.loop-item.item-index _ c.loop-item-test.true c.loop-item.invariant (c.is_point.ensures.0 c.if-not-is_point.false)

pub returns : goal.returns
returns c = (
  λ _. recursion_from_All IsPointItem c.args.items.now
      (subst (All IsPointItem) (take_all c.loop-item.item-index c.args.items.now c.loop-item-test.false) c.loop-item.invariant),
  λ _. search rules,
)
