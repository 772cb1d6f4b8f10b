use Rattle.std.proofs.Common.{None, List, Option, ℕ, sym, ap, ◌∙◌}
use Rattle.fixed_num.specs.declared.units.Record.{Record}
use Rattle.beat_tiers.specs.Room.{filled, has_slot}
use Rattle.beat_tiers.proofs.SlotLemmas.{filled_still, slot_found, slot_made, slot_stays}
use Rattle.beat_tiers.proofs.record_tier.reserve_slot.Goals as goal

pub returns-then-contains_key-clause-room : goal.returns-then-contains_key-clause-room
returns-then-contains_key-clause-room c = sym (slot_found c.args.series c.args.slots.now.entries) ∙ sym c.contains_key.ensures ∙ c.if-contains_key.true

pub returns-clause-kept : goal.returns-clause-kept
returns-clause-kept c = ap filled c.in_ok-insert.ensures.entries ∙ filled_still c.args.series c.args.slots.now.entries (sym c.contains_key.ensures ∙ c.if-contains_key.false)

pub returns-clause-others : goal.returns-clause-others
returns-clause-others c = λ other has.
    ap (λ (slots : List (ℕ × Option Record)). has_slot slots other) c.in_ok-insert.ensures.entries ∙ slot_stays c.args.series None other c.args.slots.now.entries has

pub returns-clause-room : goal.returns-clause-room
returns-clause-room c =
    ap (λ (slots : List (ℕ × Option Record)). has_slot slots c.args.series) c.in_ok-insert.ensures.entries ∙ slot_made c.args.series None c.args.slots.now.entries
