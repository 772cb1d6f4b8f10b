use Rattle.std.proofs.Common.{ap, ◌∙◌}
use Rattle.beat_tiers.specs.Room.{filled}
use Rattle.beat_tiers.proofs.SlotLemmas.{filled_with}
use Rattle.beat_tiers.proofs.record_tier.put_record.Goals as goal

pub returns : goal.returns
returns c =
    ap filled c.in_ok-insert.ensures.entries ∙ filled_with c.args.series c.args.value c.args.slots.now.entries c.insert.ensures.was_ordered
