use Rattle.std.proofs.Common.{◌≡◌, ℕ, leb, ap, subst, ◌∙◌}
use Rattle.std.specs.List.{filter}
use Rattle.std.specs.Option.{option_map}
use Rattle.fixed_num.specs.declared.units.Record.{Record}
use Rattle.beat_tiers.specs.declared.item.Item.{Item}
use Rattle.beat_tiers.specs.Searching.{items_in}
use Rattle.beat_tiers.specs.State.{is_item}
use Rattle.beat_tiers.proofs.Halves.{find_between, not_before, not_behind}
use Rattle.beat_tiers.proofs.searching.find_between.Goals as goal

pub returns : goal.returns
returns c = λ o.
    let a = c.args in
    let all = items_in a.segments.now in
    let some = items_in c.from_segment.result.now in
    let few = items_in c.to_segment-between.result.now in
    let ordered = c.from_segment.ensures.ordered o in
    let from = subst (λ (n : ℕ). filter (λ (item : Item Record). leb n item.place) some ≡ filter (λ (item : Item Record). leb n item.place) all) c.from.ensures (c.from_segment.ensures.from o) in
    c.find_in_segments.ensures (c.to_segment-between.ensures.ordered ordered)
    ∙ ap (option_map (λ (item : Item Record). item.value))
    (find_between a.bucket a.bucket all some few from (c.to_segment-between.ensures.to ordered) (is_item a.bucket a.series) (λ item. not_before a.bucket a.series item) (λ item. not_behind a.bucket a.series item))
