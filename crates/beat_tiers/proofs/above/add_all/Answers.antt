use Rattle.std.proofs.Common.{◌≡◌, ℕ, ◌+◌, Bool, true, false, List, [], ◌++◌, filter, refl, sym, subst, ◌∙◌, append-nil, append_assoc}
use Rattle.std.proofs.lemmas.Result.{IfOk-weaker}
use Rattle.beat_tiers.specs.declared.item.Item.{Item}
use Rattle.beat_tiers.specs.declared.item.Stepped.{Stepped}
use Rattle.beat_tiers.specs.declared.kept.KeptBeat.{KeptBeat}
use Rattle.beat_tiers.specs.declared.parts.Segment.{Segment}
use Rattle.beat_tiers.specs.Above.{Adds, AddsAbove, RiseFrom, item_above, least_behind}
use Rattle.beat_tiers.specs.Kept.{behind_all}
use Rattle.beat_tiers.specs.Searching.{items_in}
use Rattle.beat_tiers.specs.declared.parts.KeptItems.{KeptItems}
use Rattle.beat_tiers.specs.Segments.{items_of}
use Rattle.beat_tiers.specs.Tiers.{AreOrdered}
use Rattle.beat_tiers.proofs.AboveLemmas.{adds-more, all-above-split, part-adds, part-ends, part-rises}
use Rattle.beat_tiers.proofs.Searches.{parts-ordered}
use Rattle.beat_tiers.proofs.above.add_all.Goals as goal

-- the parts of all segments, one behind the other
module _ (from most : ℕ) (old : List KeptBeat) (segments : KeptItems Stepped) (early late : List (Segment Stepped)) (split : early ++ late ≡ segments.sealed) (ordered : AreOrdered (items_of segments))
    (rises : RiseFrom (least_behind (from + 1) old) (filter (item_above from) (items_of segments))) where
  all : List (Item Stepped)
  all = filter (item_above from) (items_of segments)

  first : List (Item Stepped)
  first = filter (item_above from) (items_in early)

  second : List (Item Stepped)
  second = filter (item_above from) (items_in late)

  third : List (Item Stepped)
  third = filter (item_above from) segments.unsealed

  is_first : all ≡ ([] ++ first) ++ (second ++ third)
  unfolding all first second third
  is_first = all-above-split from segments early late split

  is_second : all ≡ (first ++ second) ++ third
  unfolding all first second third
  is_second = is_first ∙ sym (append_assoc first second third)

  module _ (new : List KeptBeat) (going : Bool) (adds : AddsAbove from most old (items_in early) new going) where
    adds_first : Adds most old first new going
    unfolding all first
    adds_first = adds (parts-ordered segments early late split ordered).0 (part-rises most (from + 1) old old new all [] first (second ++ third) is_first refl rises)

    ends_first : going ≡ false → Adds most old all new false
    ends_first off = part-ends most (from + 1) old old new all [] first (second ++ third) is_first refl going off adds_first

    goes_first : going ≡ true → new ≡ behind_all old first
    goes_first on = part-adds most (from + 1) old old new all [] first (second ++ third) is_first refl going on adds_first

  module _ (mid new : List KeptBeat) (is : mid ≡ behind_all old first) (going : Bool) (adds : AddsAbove from most mid (items_in late) new going) where
    adds_second : Adds most mid second new going
    unfolding all second
    adds_second = adds (parts-ordered segments early late split ordered).1 (part-rises most (from + 1) old mid new all first second third is_second is rises)

    ends_second : going ≡ false → Adds most old all new false
    ends_second off = part-ends most (from + 1) old mid new all first second third is_second is going off adds_second

    goes_second : going ≡ true → new ≡ behind_all old (first ++ second)
    goes_second on = part-adds most (from + 1) old mid new all first second third is_second is going on adds_second

  module _ (mid new : List KeptBeat) (is : mid ≡ behind_all old (first ++ second)) (going : Bool) (adds : AddsAbove from most mid segments.unsealed new going) where
    is_third : all ≡ ((first ++ second) ++ third) ++ []
    is_third = is_second ∙ sym (append-nil ((first ++ second) ++ third))

    adds_third : Adds most old all new going
    unfolding all third
    adds_third =
        let here : Adds most mid third new going =
        adds (parts-ordered segments early late split ordered).2 (part-rises most (from + 1) old mid new all (first ++ second) third [] is_third is rises) in
        subst (λ (zs : List (Item Stepped)). Adds most old zs new going) (sym is_second) (adds-more most old mid new (first ++ second) third going is here)

pub returns-then-not-branch-clause-added : goal.returns-then-not-branch-clause-added
unfolding all
returns-then-not-branch-clause-added c = λ ordered rises.
    let a = c.args in
    ends_first a.from a.most a.beats.now.items a.segments.now.kept c.sealed.result.0.now c.sealed.result.1.now c.sealed.ensures.all ordered rises c.add_sealed.new.beats.items c.in_ok-add_sealed.field-0 c.in_ok-add_sealed.ensures.added c.if-not-branch.true

pub returns-then-not-branch-2-clause-added : goal.returns-then-not-branch-2-clause-added
unfolding all
returns-then-not-branch-2-clause-added c = λ ordered rises.
    let a = c.args in
    let early = c.sealed.result.0.now in
    let late = c.sealed.result.1.now in
    let mid = c.add_sealed.new.beats.items in
    let is = goes_first a.from a.most a.beats.now.items a.segments.now.kept early late c.sealed.ensures.all ordered rises mid c.in_ok-add_sealed.field-0 c.in_ok-add_sealed.ensures.added c.if-not-branch.false in
    ends_second a.from a.most a.beats.now.items a.segments.now.kept early late c.sealed.ensures.all ordered rises mid c.add_sealed-2.new.beats.items is c.in_ok-add_sealed-2.field-0 c.in_ok-add_sealed-2.ensures.added c.if-not-branch-2.true

pub returns-clause-added : goal.returns-clause-added
unfolding all
returns-clause-added c =
    let a = c.args in
    let segments = a.segments.now.kept in
    let early = c.sealed.result.0.now in
    let late = c.sealed.result.1.now in
    let mid = c.add_sealed.new.beats.items in
    let last = c.add_sealed-2.new.beats.items in
    let new = c.add_ordered.new.beats.items in
    let weaker : (going : Bool) → AddsAbove a.from a.most last c.unsealed.result.now new going → AddsAbove a.from a.most a.beats.now.items (items_of segments) new going =
    λ going adds ordered rises.
    let is = goes_first a.from a.most a.beats.now.items segments early late c.sealed.ensures.all ordered rises mid c.in_ok-add_sealed.field-0 c.in_ok-add_sealed.ensures.added c.if-not-branch.false in
    let on = goes_second a.from a.most a.beats.now.items segments early late c.sealed.ensures.all ordered rises mid last is c.in_ok-add_sealed-2.field-0 c.in_ok-add_sealed-2.ensures.added c.if-not-branch-2.false in
    adds_third a.from a.most a.beats.now.items segments early late c.sealed.ensures.all ordered rises last new on going (subst (λ (zs : List (Item Stepped)). AddsAbove a.from a.most last zs new going) c.unsealed.ensures adds) in
    IfOk-weaker c.add_ordered.result _ _ weaker c.add_ordered.ensures.added
