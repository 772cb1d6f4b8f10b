use Rattle.std.proofs.Common.{List, [], filter, take, ap, sym, subst, ◌∙◌}
use Rattle.beat_tiers.specs.declared.kept.KeptBeat.{KeptBeat}
use Rattle.beat_tiers.specs.Above.{AddsAbove, item_above}
use Rattle.beat_tiers.specs.Segments.{items_of}
use Rattle.beat_tiers.proofs.AboveLemmas.{above-in, adds-all, rises-above}
use Rattle.beat_tiers.proofs.above.kept_above.Goals as goal

pub returns-clause-kept : goal.returns-clause-kept
returns-clause-kept c = λ ordered.
    let a = c.args in
    let items = items_of a.segments.now.kept in
    let new = c.add_all.new.beats.items in
    let adds : AddsAbove a.from a.most [] items new c.in_ok-_more._more =
    subst (λ (old : List KeptBeat). AddsAbove a.from a.most old items new c.in_ok-_more._more) c.new-beats.ensures.items c.in_ok-_more.ensures.added in
    c.from_vec.ensures
    ∙ adds-all a.most new (filter (item_above a.from) items) c.in_ok-_more._more c.in_ok-_more.ensures.few (adds ordered (rises-above a.from items ordered))
    ∙ ap (take a.most) (sym (above-in a.from items ordered))
