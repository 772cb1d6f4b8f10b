use Rattle.std.proofs.Common.{ap, rules, ◌∙◌}
use Rattle.std.specs.BTreeMap.{insert_entry}
use Rattle.std.specs.Ordering.{nat_cmp}
use Rattle.beat_tiers.specs.Room.{filled}
use Rattle.beat_tiers.proofs.SlotLemmas.{put_in, put_keys, slot_found}
use Rattle.beat_tiers.proofs.record_tier.add_value.Goals as goal

pub returns-clause-added : goal.returns-clause-added
returns-clause-added c =
    let slots = c.args.slots.now.entries in
    let there = slot_found c.args.series slots ∙ c.requires in
    put_in c.insert-before.result slots c.insert-before.new.self.entries c.args.series c.with_value-after.result c.insert-before.ensures.was_ordered there
    c.insert-before.ensures.entries c.insert-before.ensures.absent
    ∙ ap (insert_entry nat_cmp (filled slots) c.args.series) (search rules)

pub returns-clause-room : goal.returns-clause-room
returns-clause-room c =
    let slots = c.args.slots.now.entries in
    let there = slot_found c.args.series slots ∙ c.requires in
    put_keys c.insert-before.result slots c.insert-before.new.self.entries c.args.series there c.insert-before.ensures.old c.insert-before.ensures.keys_stay c.insert-before.ensures.absent
