use Rattle.std.proofs.Common.{◌≡◌, ℕ, ◌+◌, Bool, List, leb, filter, ap, sym, subst, ◌∙◌}
use Rattle.std.proofs.lemmas.Result.{IfOk-weaker}
use Rattle.beat_tiers.specs.declared.item.Item.{Item}
use Rattle.beat_tiers.specs.declared.item.Stepped.{Stepped}
use Rattle.beat_tiers.specs.Above.{Adds, AddsAbove, RiseFrom, item_above, least_behind}
use Rattle.beat_tiers.proofs.above.add_ordered.Goals as goal

pub returns-clause-added : goal.returns-clause-added
returns-clause-added c =
    let a = c.args in
    let old = a.beats.now.items in
    let new = c.add_items.new.beats.items in
    let some = c.from_place-above.result.now in
    let weaker : (going : Bool) → (RiseFrom (least_behind (a.from + 1) old) some → Adds a.most old some new going) → AddsAbove a.from a.most old a.items.now new going =
    λ going adds ordered rises.
    let low : c.from.result + 1 ≡ a.from + 1 = ap (λ (n : ℕ). n + 1) c.from.ensures in
    let same : some ≡ filter (item_above a.from) a.items.now =
    c.from_place-above.ensures.from ordered ∙ ap (λ (n : ℕ). filter (λ (item : Item Stepped). leb n item.place) a.items.now) low in
    subst (λ (zs : List (Item Stepped)). Adds a.most old zs new going) same (adds (subst (RiseFrom (least_behind (a.from + 1) old)) (sym same) rises)) in
    IfOk-weaker c.add_items.result _ _ weaker c.add_items.ensures.added
