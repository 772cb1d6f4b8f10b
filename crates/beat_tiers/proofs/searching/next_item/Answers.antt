use Rattle.std.proofs.Common.{List, ap, sym, subst, ◌∙◌, ◌++◌, flat_map}
use Rattle.std.specs.List.{find}
use Rattle.fixed_num.specs.declared.units.Record.{Record}
use Rattle.beat_tiers.specs.declared.item.Item.{Item}
use Rattle.beat_tiers.specs.declared.parts.Segment.{Segment}
use Rattle.beat_tiers.specs.Searching.{is_next}
use Rattle.beat_tiers.specs.Tiers.{AreOrdered}
use Rattle.beat_tiers.proofs.Searches.{find-append, find-left, items-split, parts-ordered}
use Rattle.beat_tiers.proofs.searching.next_item.Goals as goal

abbrev items : Segment Record → List (Item Record)
items segment = segment.items

pub returns-in-Some : goal.returns-in-Some
returns-in-Some c = λ o.
    let parts = parts-ordered c.args.segments.now.kept c.sealed.result.0.now c.sealed.result.1.now c.sealed.ensures.all o in
    let test = is_next c.args.series c.args.from c.args.to in
    sym (ap (find test) (items-split c.args.segments.now.kept c.sealed.result.0.now c.sealed.result.1.now c.sealed.ensures.all)
    ∙ find-left test (flat_map items c.sealed.result.0.now) (flat_map items c.sealed.result.1.now ++ c.args.segments.now.kept.unsealed) c.in-Some.item (sym (c.in-Some.ensures parts.0)))

pub returns-in-Some-next_between : goal.returns-in-Some-next_between
returns-in-Some-next_between c = λ o.
    let parts = parts-ordered c.args.segments.now.kept c.sealed.result.0.now c.sealed.result.1.now c.sealed.ensures.all o in
    let test = is_next c.args.series c.args.from c.args.to in
    sym (ap (find test) (items-split c.args.segments.now.kept c.sealed.result.0.now c.sealed.result.1.now c.sealed.ensures.all)
    ∙ find-append test (flat_map items c.sealed.result.0.now) (flat_map items c.sealed.result.1.now ++ c.args.segments.now.kept.unsealed) (sym (c.in-None.ensures parts.0))
    ∙ find-left test (flat_map items c.sealed.result.1.now) c.args.segments.now.kept.unsealed c.in-Some-next_between.item (sym (c.in-Some-next_between.ensures parts.1)))

pub returns-in-None-next_between : goal.returns-in-None-next_between
returns-in-None-next_between c = λ o.
    let parts = parts-ordered c.args.segments.now.kept c.sealed.result.0.now c.sealed.result.1.now c.sealed.ensures.all o in
    let test = is_next c.args.series c.args.from c.args.to in
    let last : AreOrdered c.unsealed.result.now = subst (λ (zs : List (Item Record)). AreOrdered zs) (sym c.unsealed.ensures) parts.2 in
    sym (ap (find test) (items-split c.args.segments.now.kept c.sealed.result.0.now c.sealed.result.1.now c.sealed.ensures.all)
    ∙ find-append test (flat_map items c.sealed.result.0.now) (flat_map items c.sealed.result.1.now ++ c.args.segments.now.kept.unsealed) (sym (c.in-None.ensures parts.0))
    ∙ find-append test (flat_map items c.sealed.result.1.now) c.args.segments.now.kept.unsealed (sym (c.in-None-next_between.ensures parts.1))
    ∙ ap (find test) (sym c.unsealed.ensures)
    ∙ sym (c.find_next.ensures last))
