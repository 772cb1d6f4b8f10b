use Rattle.std.proofs.Common.{◌≡◌, ◌++◌, map, subst, sym, ap, ◌∙◌, append-nil}
use Rattle.std.specs.List.{AllByRecursion}
use Rattle.std.specs.Vec.Iter.{into_iter_items}
use Rattle.beat_tiers.specs.Parts.{are_record_tiers, restored_tiers}
use Rattle.beat_tiers.specs.Room.{records_held}
use Rattle.beat_tiers.specs.Tiers.{IsTier}
use Rattle.beat_tiers.proofs.PartLemmas.{first-have, first-open, later-records, none-further, none-restored, restored-more}
use Rattle.beat_tiers.proofs.tiers.restored_tiers.Goals as goal

pub loop-kept-init : goal.loop-kept-init
loop-kept-init c =
    let gives = c.into_iter-kept-iterator.ensures.into_iter_gives in
    let items : into_iter_items c.into_iter-kept-iterator.result ≡ c.args.records = gives.0 ∙ c.into_vec-kept-items.ensures in
    let whole : restored_tiers c.args.settings.now (into_iter_items c.into_iter-kept-iterator.result) ≡ restored_tiers c.args.settings.now c.args.records = ap (restored_tiers c.args.settings.now) items in (
      ap (λ held. map records_held held ++ restored_tiers c.args.settings.now (into_iter_items c.into_iter-kept-iterator.result)) c.new-tiers.ensures.items ∙ whole,
      ap (are_record_tiers c.args.last c.args.settings.now) items ∙ c.requires.form,
      c.requires.settings,
    )

pub returns-in_default : goal.returns-in_default
returns-in_default c =
    sym (append-nil (map records_held c.loop-kept.tiers.items))
    ∙ ap (λ rest. map records_held c.loop-kept.tiers.items ++ rest) (sym (none-restored c.loop-kept.ahead.now (into_iter_items c.loop-kept.kept-iterator) c.in_default.ensures.cases))
    ∙ c.loop-kept.invariant.0

pub restore-requires-clause-settings : goal.restore-requires-clause-settings
restore-requires-clause-settings c = (subst (AllByRecursion IsTier) c.in-Some-split_first.ensures.cases.0 c.loop-kept.invariant.2).0

pub restore-requires-clause-sealed : goal.restore-requires-clause-sealed
restore-requires-clause-sealed c =
    first-have c.args.last c.in-Some-split_first.tier.now c.in-Some-split_first.rest.now c.loop-kept.ahead.now c.in-Some.kept (into_iter_items c.next.new.self) (into_iter_items c.loop-kept.kept-iterator)
    c.in-Some-split_first.ensures.cases.0 c.in-Some.ensures.steps.0 c.loop-kept.invariant.1

pub restore-requires-clause-records : goal.restore-requires-clause-records
restore-requires-clause-records c =
    first-open c.args.last c.in-Some-split_first.tier.now c.in-Some-split_first.rest.now c.loop-kept.ahead.now c.in-Some.kept (into_iter_items c.next.new.self) (into_iter_items c.loop-kept.kept-iterator)
    c.in-Some-split_first.ensures.cases.0 c.in-Some.ensures.steps.0 c.loop-kept.invariant.1

pub loop-kept-preserved : goal.loop-kept-preserved
loop-kept-preserved c = (
  restored-more c.loop-kept.tiers.items c.push.new.self.items c.in_ok-restore.field-0 c.in-Some-split_first.tier.now c.in-Some-split_first.rest.now c.loop-kept.ahead.now c.in-Some.kept
      (into_iter_items c.next.new.self) (into_iter_items c.loop-kept.kept-iterator) (restored_tiers c.args.settings.now c.args.records)
      c.in_ok-push.ensures.items c.in_ok-restore.ensures c.in-Some-split_first.ensures.cases.0 c.in-Some.ensures.steps.0 c.loop-kept.invariant.0,
  later-records c.args.last c.in-Some-split_first.tier.now c.in-Some-split_first.rest.now c.loop-kept.ahead.now c.in-Some.kept (into_iter_items c.next.new.self) (into_iter_items c.loop-kept.kept-iterator)
      c.in-Some-split_first.ensures.cases.0 c.in-Some.ensures.steps.0 c.loop-kept.invariant.1,
  (subst (AllByRecursion IsTier) c.in-Some-split_first.ensures.cases.0 c.loop-kept.invariant.2).1,
)

pub returns : goal.returns
returns c =
    sym (append-nil (map records_held c.loop-kept.tiers.items))
    ∙ ap (λ rest. map records_held c.loop-kept.tiers.items ++ rest)
    (sym (none-further c.loop-kept.ahead.now (into_iter_items c.loop-kept.kept-iterator) (sym c.loop-kept.kept-iterator.rest.ok.0 ∙ c.in-None.ensures.steps.0)))
    ∙ c.loop-kept.invariant.0
