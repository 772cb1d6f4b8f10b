use Rattle.std.proofs.Common.{◌≡◌, ℕ, ◌+◌, Bool, List, leb, filter, ap, sym, subst}
use Rattle.std.proofs.lemmas.Result.{IfOk-weaker}
use Rattle.beat_tiers.specs.declared.item.Item.{Item}
use Rattle.beat_tiers.specs.declared.item.Stepped.{Stepped}
use Rattle.beat_tiers.specs.Above.{Adds, AddsAbove, RiseFrom, item_above, least_behind}
use Rattle.beat_tiers.specs.Searching.{items_in}
use Rattle.beat_tiers.proofs.above.add_sealed.Goals as goal

pub returns-clause-added : goal.returns-clause-added
returns-clause-added c =
    let a = c.args in
    let old = a.beats.now.items in
    let new = c.add_segments.new.beats.items in
    let some = items_in c.from_segment-above.result.now in
    let all = items_in a.segments.now in
    let weaker : (going : Bool) → AddsAbove a.from a.most old some new going → AddsAbove a.from a.most old all new going =
    λ going adds ordered rises.
    let low : c.from.result + 1 ≡ a.from + 1 = ap (λ (n : ℕ). n + 1) c.from.ensures in
    let same : filter (item_above a.from) some ≡ filter (item_above a.from) all =
    subst (λ (n : ℕ). filter (λ (item : Item Stepped). leb n item.place) some ≡ filter (λ (item : Item Stepped). leb n item.place) all) low (c.from_segment-above.ensures.from ordered) in
    subst (λ (zs : List (Item Stepped)). Adds a.most old zs new going) same (adds (c.from_segment-above.ensures.ordered ordered) (subst (RiseFrom (least_behind (a.from + 1) old)) (sym same) rises)) in
    IfOk-weaker c.add_segments.result _ _ weaker c.add_segments.ensures.added
