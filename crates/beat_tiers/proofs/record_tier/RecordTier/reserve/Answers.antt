use Rattle.std.proofs.Common.{◌≤◌, ap, sym, subst, ◌∙◌}
use Rattle.beat_tiers.specs.Room.{closes}
use Rattle.beat_tiers.proofs.SlotLemmas.{room_behind}
use Rattle.beat_tiers.proofs.record_tier.RecordTier.reserve.Goals as goal

pub returns-clause-room : goal.returns-clause-room
returns-clause-room c =
    room_behind c.reserve_slots-2.result c.args.last c.args.moment c.args.points.now (record {
      tier = c.self.inside.tier;
      slots = c.self.inside.current.entries;
      next = c.reserve_slots-2.new.slots.entries;
      segments = c.reserve.new.self;
    })
    (ap (closes c.args.last c.args.moment) c.self.view_is ∙ sym c.closes.ensures ∙ c.if-not-closes.false)
    (subst (λ n. n ≤ c.reserve.new.self.items) c.len.ensures.len c.in_ok-reserve.ensures.room.0, c.in_ok-reserve.ensures.room.1)
    c.reserve_slots-2.ensures.room
