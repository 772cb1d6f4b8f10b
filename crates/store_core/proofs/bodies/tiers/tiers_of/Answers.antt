use Rattle.std.proofs.Common.{◌≡◌, List, [], ◌∷◌, ◌++◌, Option, None, get_or, sym, ap, ◌∙◌, subst}
use Rattle.std.specs.Option.{option_map, IfSome}
use Rattle.std.proofs.lemmas.Result.{IfOk-weaker}
use Rattle.beat_tiers.specs.declared.parts.KeptRecords.{KeptRecords}
use Rattle.beat_tiers.specs.Parts.{restored}
use Rattle.beat_tiers.specs.Room.{tiers_held, TiersHeld}
use Rattle.beat_tiers.specs.State.{TiersState}
use Rattle.checkpoint_body.specs.declared.page.RecordPage.{RecordPage}
use Rattle.checkpoint_body.specs.declared.page.SlotPage.{SlotPage}
use Rattle.store_core.specs.disk.Opened.{contents_of}
use Rattle.tier_settings.specs.Settings.{no_tier}
use Rattle.store_core.specs.bodies.Reading.{HasPoints, HasRecords}
use Rattle.store_core.specs.bodies.Tiers.{AreTiersOfBody}
use Rattle.store_core.proofs.BodyProofs.WholeLemmas.{no-hours, no-minutes, no-points, read-first, read-found, read-hours_form, read-none, read-others, rest_of}
use Rattle.store_core.proofs.bodies.tiers.tiers_of.Goals as goal

pub returns-in_default-2-clause-none : goal.returns-in_default-2-clause-none
returns-in_default-2-clause-none c = λ _.
    no-points c.args.opened.now.body (contents_of c.args.opened.now).kept c.requires.spelt c.as_slice.result.now c.as_slice.ensures
    (λ points order has.
    sym c.in_default-2.is
    ∙ c.in_ok-points.ensures.one points order
    (subst (λ (kept : List (List SlotPage)). HasPoints c.args.opened.now.body.points kept points) (sym c.as_slice-2.ensures) has))

pub returns-in_default-3-clause-none : goal.returns-in_default-3-clause-none
returns-in_default-3-clause-none c = λ _.
    no-minutes c.args.opened.now.body (contents_of c.args.opened.now).kept c.requires.spelt c.as_slice.result.now c.as_slice.ensures
    (λ records order has.
    sym c.in_default-3.is
    ∙ c.in_ok-minutes.ensures.one records order
    (subst (λ (kept : List (List RecordPage)). HasRecords c.args.opened.now.body.last (get_or (rest_of c.as_slice.result.now) 0 no_tier) c.args.opened.now.body.minutes kept records)
    (sym c.as_slice-kept.ensures) has))

pub kept_records-requires-2-clause-form : goal.kept_records-requires-2-clause-form
kept_records-requires-2-clause-form c =
    read-hours_form c.args.opened.now.body (contents_of c.args.opened.now).kept c.requires.spelt c.as_slice.result.now c.as_slice.ensures

pub returns-in_default-4-clause-none : goal.returns-in_default-4-clause-none
returns-in_default-4-clause-none c = λ _.
    no-hours c.args.opened.now.body (contents_of c.args.opened.now).kept c.requires.spelt c.as_slice.result.now c.as_slice.ensures
    (λ records order has.
    sym c.in_default-4.is
    ∙ c.in_ok-hours.ensures.one records order
    (subst (λ (kept : List (List RecordPage)). HasRecords c.args.opened.now.body.last (get_or (rest_of c.as_slice.result.now) 1 no_tier) c.args.opened.now.body.hours kept records)
    (sym c.as_slice-kept-2.ensures) has))

pub restore-requires-clause-first : goal.restore-requires-clause-first
restore-requires-clause-first c =
    read-first c.args.opened.now.body (contents_of c.args.opened.now).kept c.requires.spelt c.as_slice.result.now c.as_slice.ensures

pub restore-requires-clause-others : goal.restore-requires-clause-others
restore-requires-clause-others c =
    read-others c.args.opened.now.body (contents_of c.args.opened.now).kept c.requires.spelt c.as_slice.result.now c.as_slice.ensures

pub returns-clause-found : goal.returns-clause-found
returns-clause-found c =
    let put : c.push-2.new.self ≡ c.in-Some-2.minutes ∷ c.in-Some-3.hours ∷ [] =
    c.in_ok-push-2.ensures.ok
    ∙ ap (λ (list : List KeptRecords). list ++ c.in-Some-3.hours ∷ [])
    (c.in_ok-push.ensures.ok ∙ ap (λ (list : List KeptRecords). list ++ c.in-Some-2.minutes ∷ []) c.new-records.ensures) in
    IfOk-weaker c.restore.result
    (λ (found : Option TiersHeld). option_map tiers_held found ≡ restored (get_or c.as_slice.result.now 0 no_tier) (rest_of c.as_slice.result.now) c.args.opened.now.body.last c.in-Some.points c.push-2.new.self)
    (λ (found : Option TiersHeld). IfSome found (λ held. AreTiersOfBody c.args.opened.now.body (contents_of c.args.opened.now).kept (tiers_held held)))
    (λ found back.
    read-found c.args.opened.now.body (contents_of c.args.opened.now).kept c.requires.spelt c.as_slice.result.now c.as_slice.ensures
    c.in-Some.points c.in-Some-2.minutes c.in-Some-3.hours c.push-2.new.self put found back
    (subst (λ (kept : List (List SlotPage)). HasPoints c.args.opened.now.body.points kept c.in-Some.points) c.as_slice-2.ensures (rw c.in-Some.is at c.in_ok-points.ensures.found))
    (subst (λ (kept : List (List RecordPage)). HasRecords c.args.opened.now.body.last (get_or (rest_of c.as_slice.result.now) 0 no_tier) c.args.opened.now.body.minutes kept c.in-Some-2.minutes)
    c.as_slice-kept.ensures (rw c.in-Some-2.is at c.in_ok-minutes.ensures.found))
    (subst (λ (kept : List (List RecordPage)). HasRecords c.args.opened.now.body.last (get_or (rest_of c.as_slice.result.now) 1 no_tier) c.args.opened.now.body.hours kept c.in-Some-3.hours)
    c.as_slice-kept-2.ensures (rw c.in-Some-3.is at c.in_ok-hours.ensures.found)))
    c.restore.ensures

pub returns-clause-none : goal.returns-clause-none
returns-clause-none c =
    let put : c.push-2.new.self ≡ c.in-Some-2.minutes ∷ c.in-Some-3.hours ∷ [] =
    c.in_ok-push-2.ensures.ok
    ∙ ap (λ (list : List KeptRecords). list ++ c.in-Some-3.hours ∷ [])
    (c.in_ok-push.ensures.ok ∙ ap (λ (list : List KeptRecords). list ++ c.in-Some-2.minutes ∷ []) c.new-records.ensures) in
    IfOk-weaker c.restore.result
    (λ (found : Option TiersHeld). option_map tiers_held found ≡ restored (get_or c.as_slice.result.now 0 no_tier) (rest_of c.as_slice.result.now) c.args.opened.now.body.last c.in-Some.points c.push-2.new.self)
    (λ (found : Option TiersHeld). found ≡ None → (state : TiersState) → AreTiersOfBody c.args.opened.now.body (contents_of c.args.opened.now).kept state → ⊥)
    (λ found back.
    read-none c.args.opened.now.body (contents_of c.args.opened.now).kept c.requires.spelt c.as_slice.result.now c.as_slice.ensures
    c.in-Some.points c.in-Some-2.minutes c.in-Some-3.hours c.push-2.new.self put found back
    (λ points order has.
    sym c.in-Some.is
    ∙ c.in_ok-points.ensures.one points order (subst (λ (kept : List (List SlotPage)). HasPoints c.args.opened.now.body.points kept points) (sym c.as_slice-2.ensures) has))
    (λ records order has.
    sym c.in-Some-2.is
    ∙ c.in_ok-minutes.ensures.one records order
    (subst (λ (kept : List (List RecordPage)). HasRecords c.args.opened.now.body.last (get_or (rest_of c.as_slice.result.now) 0 no_tier) c.args.opened.now.body.minutes kept records)
    (sym c.as_slice-kept.ensures) has))
    (λ records order has.
    sym c.in-Some-3.is
    ∙ c.in_ok-hours.ensures.one records order
    (subst (λ (kept : List (List RecordPage)). HasRecords c.args.opened.now.body.last (get_or (rest_of c.as_slice.result.now) 1 no_tier) c.args.opened.now.body.hours kept records)
    (sym c.as_slice-kept-2.ensures) has)))
    c.restore.ensures
