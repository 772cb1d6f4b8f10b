use Rattle.std.proofs.Common.{◌≡◌, ℕ, Bool, leb, eqb, ◌&&◌, filter, ap, ◌∙◌}
use Rattle.std.specs.List.{find}
use Rattle.fixed_num.specs.declared.units.Record.{Record}
use Rattle.beat_tiers.specs.declared.item.Item.{Item}
use Rattle.beat_tiers.proofs.Searches.{find-filter}
use Rattle.beat_tiers.proofs.searching.find_next.Goals as goal

pub returns : goal.returns
returns c = λ o.
    let a = c.args in
    let of_series : Item Record → Bool = λ item. eqb item.series a.series in
    let up_to : Item Record → Bool = λ item. leb item.place a.to in
    let from : Item Record → Bool = λ item. leb a.from item.place in
    let low : c.from.result ≡ a.from = c.from.ensures in
    c.first_of.ensures
    ∙ ap (find of_series) (c.to_place.ensures (c.from_place.ensures.ordered o))
    ∙ find-filter of_series up_to c.from_place.result.now
    ∙ ap (find (λ (item : Item Record). up_to item && of_series item)) (c.from_place.ensures.from o ∙ ap (λ (n : ℕ). filter (λ (item : Item Record). leb n item.place) a.items.now) low)
    ∙ find-filter (λ (item : Item Record). up_to item && of_series item) from a.items.now
