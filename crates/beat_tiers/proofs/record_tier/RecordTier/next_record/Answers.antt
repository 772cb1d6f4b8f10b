use Rattle.std.proofs.Common.{◌≡◌, ◌≤◌, ◌/◌, ◌&&◌, cond, max, nat_le, Some, None, ap, subst, ◌∙◌}
use Rattle.std.specs.List.{find}
use Rattle.std.specs.Option.{option_map}
use Rattle.fixed_num.specs.declared.units.Record.{Record}
use Rattle.tier_settings.specs.declared.tier.Tier.{Tier}
use Rattle.beat_tiers.specs.Room.{RecordTierHeld, records_held}
use Rattle.beat_tiers.specs.Searching.{is_next}
use Rattle.beat_tiers.specs.declared.parts.KeptItems.{KeptItems}
use Rattle.beat_tiers.specs.Segments.{items_of}
use Rattle.beat_tiers.specs.State.{first_bucket, open_record}
use Rattle.beat_tiers.specs.Tiers.{AreOrdered}
use Rattle.beat_tiers.proofs.NextLemmas.{closed_first, open_next}
use Rattle.beat_tiers.proofs.record_tier.RecordTier.next_record.Goals as goal

pub returns-in-Some : goal.returns-in-Some
returns-in-Some c = λ ordered closed.
    let now = records_held c.args.self.now in
    let wide : 1 ≤ now.tier.width = subst (λ (tier : Tier). 1 ≤ tier.width) (ap (λ (s : RecordTierHeld). s.tier) c.self.view_is) c.self.invariant.0 in
    let segments : c.self.inside.segments.kept ≡ now.segments = ap (λ (s : RecordTierHeld). s.segments.kept) c.self.view_is in
    let low : c.max-low.result ≡ max c.args.from (first_bucket now) = c.max-low.ensures ∙ ap (max c.args.from) c.first_bucket.ensures in
    let found = subst (λ (s : KeptItems Record). AreOrdered (items_of s) → Some c.in-Some.item ≡ find (is_next c.args.series c.max-low.result c.args.to) (items_of s)) segments c.in-Some.ensures in
    closed_first now c.args.last c.args.series wide c.args.from c.max-low.result c.args.to c.in-Some.item low ordered closed (found ordered)

pub returns-in-None : goal.returns-in-None
returns-in-None c = λ ordered closed.
    let now = records_held c.args.self.now in
    let wide : 1 ≤ now.tier.width = subst (λ (tier : Tier). 1 ≤ tier.width) (ap (λ (s : RecordTierHeld). s.tier) c.self.view_is) c.self.invariant.0 in
    let segments : c.self.inside.segments.kept ≡ now.segments = ap (λ (s : RecordTierHeld). s.segments.kept) c.self.view_is in
    let low : c.max-low.result ≡ max c.args.from (first_bucket now) = c.max-low.ensures ∙ ap (max c.args.from) c.first_bucket.ensures in
    let found = subst (λ (s : KeptItems Record). AreOrdered (items_of s) → None ≡ find (is_next c.args.series c.max-low.result c.args.to) (items_of s)) segments c.in-None.ensures in
    open_next now c.args.last c.args.series wide c.args.from c.max-low.result c.args.to c.next_open.result low (found ordered)
    (subst (λ (tier : Tier). c.next_open.result ≡ cond (nat_le c.max-low.result (c.args.last / tier.width) && nat_le (c.args.last / tier.width) c.args.to) (option_map (λ (found : Record). (c.args.last / tier.width, found)) (open_record now c.args.series)) None)
    (ap (λ (s : RecordTierHeld). s.tier) c.self.view_is) c.next_open.ensures)
