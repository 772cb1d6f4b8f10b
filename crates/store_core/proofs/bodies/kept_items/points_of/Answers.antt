use Rattle.std.proofs.Common.{sym, ◌∙◌}
use Rattle.store_core.proofs.PageProofs.FormedLemmas.{slots_end}
use Rattle.store_core.proofs.bodies.kept_items.points_of.Goals as goal

pub items_of_slots-requires : goal.items_of_slots-requires
items_of_slots-requires c = record { in_time = slots_end c.args.pages.now (sym c.are_slot_pages.ensures ∙ c.if-not-are_slot_pages.false) }
