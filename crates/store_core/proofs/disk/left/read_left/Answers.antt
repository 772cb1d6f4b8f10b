use Rattle.std.proofs.Common.{List, sym, subst, ◌∙◌, arith}
use Rattle.std.specs.List.{AllByRecursion}
use Rattle.checkpoint_body.specs.declared.body.Extent.{Extent}
use Rattle.store_core.specs.disk.Reading.{HasSlot}
use Rattle.store_core.proofs.DiskProofs.SpeltLemmas.{items_most, point_slots, minute_slots, hour_slots}
use Rattle.store_core.proofs.disk.left.read_left.Goals as goal

pub left_points-requires-clause-items : goal.left_points-requires-clause-items
left_points-requires-clause-items g c = omega (arith, c.items_of.ensures, items_most c.args.body.now c.requires 0 (omega arith))

pub left_points-requires-clause-slots : goal.left_points-requires-clause-slots
left_points-requires-clause-slots g c = subst (λ (l : List Extent). AllByRecursion HasSlot l) (sym c.as_slice.ensures) (point_slots c.args.body.now c.requires (sym c.has_own_slots.ensures ∙ c.if-not-has_own_slots.false))

pub left_tier-requires-clause-items : goal.left_tier-requires-clause-items
left_tier-requires-clause-items g c = omega (arith, c.items_of-2.ensures, items_most c.args.body.now c.requires 1 (omega arith))

pub left_tier-requires-clause-slots : goal.left_tier-requires-clause-slots
left_tier-requires-clause-slots g c = subst (λ (l : List Extent). AllByRecursion HasSlot l) (sym c.as_slice-2.ensures) (minute_slots c.args.body.now c.requires (sym c.has_own_slots.ensures ∙ c.if-not-has_own_slots.false))

pub left_tier-requires-2-clause-items : goal.left_tier-requires-2-clause-items
left_tier-requires-2-clause-items g c = omega (arith, c.items_of-3.ensures, items_most c.args.body.now c.requires 2 (omega arith))

pub left_tier-requires-2-clause-slots : goal.left_tier-requires-2-clause-slots
left_tier-requires-2-clause-slots g c = subst (λ (l : List Extent). AllByRecursion HasSlot l) (sym c.as_slice-3.ensures) (hour_slots c.args.body.now c.requires (sym c.has_own_slots.ensures ∙ c.if-not-has_own_slots.false))
