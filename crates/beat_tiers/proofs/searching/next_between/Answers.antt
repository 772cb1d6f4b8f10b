use Rattle.std.proofs.Common.{◌≡◌, ℕ, leb, subst, ◌∙◌}
use Rattle.std.specs.List.{filter}
use Rattle.fixed_num.specs.declared.units.Record.{Record}
use Rattle.beat_tiers.specs.declared.item.Item.{Item}
use Rattle.beat_tiers.specs.Searching.{is_next, items_in}
use Rattle.beat_tiers.proofs.Halves.{find_between, next_not_before, next_not_behind}
use Rattle.beat_tiers.proofs.searching.next_between.Goals as goal

pub returns : goal.returns
returns c = λ o.
    let a = c.args in
    let all = items_in a.segments.now in
    let some = items_in c.from_segment.result.now in
    let few = items_in c.to_segment-between.result.now in
    let ordered = c.from_segment.ensures.ordered o in
    let from = subst (λ (n : ℕ). filter (λ (item : Item Record). leb n item.place) some ≡ filter (λ (item : Item Record). leb n item.place) all) c.from.ensures (c.from_segment.ensures.from o) in
    c.next_in_segments.ensures (c.to_segment-between.ensures.ordered ordered)
    ∙ find_between a.from a.to all some few from (c.to_segment-between.ensures.to ordered) (is_next a.series a.from a.to) (λ item. next_not_before a.series a.from a.to item) (λ item. next_not_behind a.series a.from a.to item)
