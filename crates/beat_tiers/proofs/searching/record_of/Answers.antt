use Rattle.std.proofs.Common.{List, ap, sym, subst, ◌∙◌, ◌++◌, flat_map, Some}
use Rattle.std.specs.List.{find}
use Rattle.std.specs.Option.{option_map}
use Rattle.fixed_num.specs.declared.units.Record.{Record}
use Rattle.beat_tiers.specs.declared.item.Item.{Item}
use Rattle.beat_tiers.specs.declared.parts.Segment.{Segment}
use Rattle.beat_tiers.specs.State.{is_item}
use Rattle.beat_tiers.specs.Tiers.{AreOrdered}
use Rattle.beat_tiers.proofs.Searches.{found-left, found-right, items-split, none-found, parts-ordered}
use Rattle.beat_tiers.proofs.searching.record_of.Goals as goal

pub returns-in-Some : goal.returns-in-Some
returns-in-Some c = λ o.
    let parts = parts-ordered c.args.segments.now.kept c.sealed.result.0.now c.sealed.result.1.now c.sealed.ensures.all o in
    let test = is_item c.args.bucket c.args.series in
    let value : Item Record → Record = λ item. item.value in
    let items : Segment Record → List (Item Record) = λ segment. segment.items in
    let behind = flat_map items c.sealed.result.1.now ++ c.args.segments.now.kept.unsealed in
    sym (ap (λ zs. option_map value (find test zs)) (items-split c.args.segments.now.kept c.sealed.result.0.now c.sealed.result.1.now c.sealed.ensures.all)
    ∙ found-left test value (flat_map items c.sealed.result.0.now) behind c.in-Some.record (sym (c.in-Some.ensures parts.0)))

pub returns-in-Some-find_between : goal.returns-in-Some-find_between
returns-in-Some-find_between c = λ o.
    let parts = parts-ordered c.args.segments.now.kept c.sealed.result.0.now c.sealed.result.1.now c.sealed.ensures.all o in
    let test = is_item c.args.bucket c.args.series in
    let value : Item Record → Record = λ item. item.value in
    let items : Segment Record → List (Item Record) = λ segment. segment.items in
    let early = flat_map items c.sealed.result.0.now in
    let late = flat_map items c.sealed.result.1.now in
    sym (ap (λ zs. option_map value (find test zs)) (items-split c.args.segments.now.kept c.sealed.result.0.now c.sealed.result.1.now c.sealed.ensures.all)
    ∙ found-right test value early (late ++ c.args.segments.now.kept.unsealed) (Some c.in-Some-find_between.record) (none-found test value (find test early) (sym (c.in-None.ensures parts.0)))
    (found-left test value late c.args.segments.now.kept.unsealed c.in-Some-find_between.record (sym (c.in-Some-find_between.ensures parts.1))))

pub returns-in-None-find_between : goal.returns-in-None-find_between
returns-in-None-find_between c = λ o.
    let parts = parts-ordered c.args.segments.now.kept c.sealed.result.0.now c.sealed.result.1.now c.sealed.ensures.all o in
    let test = is_item c.args.bucket c.args.series in
    let value : Item Record → Record = λ item. item.value in
    let items : Segment Record → List (Item Record) = λ segment. segment.items in
    let early = flat_map items c.sealed.result.0.now in
    let late = flat_map items c.sealed.result.1.now in
    sym (ap (λ zs. option_map value (find test zs)) (items-split c.args.segments.now.kept c.sealed.result.0.now c.sealed.result.1.now c.sealed.ensures.all)
    ∙ found-right test value early (late ++ c.args.segments.now.kept.unsealed) c.find_item.result (none-found test value (find test early) (sym (c.in-None.ensures parts.0)))
    (found-right test value late c.args.segments.now.kept.unsealed c.find_item.result (none-found test value (find test late) (sym (c.in-None-find_between.ensures parts.1)))
    (ap (λ zs. option_map value (find test zs)) (sym c.unsealed.ensures) ∙ sym (c.find_item.ensures (subst (λ (zs : List (Item Record)). AreOrdered zs) (sym c.unsealed.ensures) parts.2)))))
