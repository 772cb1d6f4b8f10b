use Rattle.std.proofs.Common.{◌≡◌, List, [], ◌∷◌, ◌++◌, Some, ap, ◌∙◌}
use Rattle.std.proofs.lemmas.Result.{IfOk-weaker}
use Rattle.beat_tiers.specs.declared.parts.KeptRecords.{KeptRecords}
use Rattle.beat_tiers.specs.Parts.{restored}
use Rattle.beat_tiers.specs.Room.{tiers_held, TiersHeld}
use Rattle.beat_tiers.specs.Sound.{AreSound}
use Rattle.store_core.proofs.BodyProofs.LeftLemmas.{left-first, left-form, left-hours, left-minutes, left-others, left-sound, tier_at}
use Rattle.store_core.proofs.BodyProofs.WholeLemmas.{rest_of}
use Rattle.store_core.proofs.bodies.left.left_tiers.Goals as goal

pub left_record_tier-requires : goal.left_record_tier-requires
left_record_tier-requires c = left-minutes c.args.left.now.body c.requires.spelt c.as_slice-tiers.result.now c.as_slice-tiers.ensures

pub left_record_tier-requires-2 : goal.left_record_tier-requires-2
left_record_tier-requires-2 c = left-hours c.args.left.now.body c.requires.spelt c.as_slice-tiers.result.now c.as_slice-tiers.ensures

pub of_parts-requires-clause-first : goal.of_parts-requires-clause-first
of_parts-requires-clause-first c = left-first c.args.left.now.body c.requires.spelt c.as_slice-tiers.result.now c.as_slice-tiers.ensures

pub of_parts-requires-clause-others : goal.of_parts-requires-clause-others
of_parts-requires-clause-others c = left-others c.args.left.now.body c.requires.spelt c.as_slice-tiers.result.now c.as_slice-tiers.ensures

pub of_parts-requires-clause-form : goal.of_parts-requires-clause-form
of_parts-requires-clause-form c =
    let put : c.push-2.new.self ≡ c.in_ok-of_minutes.of_minutes ∷ c.in_ok-of_hours.of_hours ∷ [] =
    c.in_ok-push-2.ensures.ok
    ∙ ap (λ (list : List KeptRecords). list ++ c.in_ok-of_hours.of_hours ∷ [])
    (c.in_ok-push.ensures.ok ∙ ap (λ (list : List KeptRecords). list ++ c.in_ok-of_minutes.of_minutes ∷ []) c.new-records.ensures) in
    left-form c.args.left.now.body c.requires.spelt c.as_slice-tiers.result.now c.as_slice-tiers.ensures
    c.in_ok-points.points c.in_ok-of_minutes.of_minutes c.in_ok-of_hours.of_hours c.push-2.new.self put
    c.in_ok-points.ensures.form c.in_ok-of_minutes.ensures.form c.in_ok-of_hours.ensures.form

pub returns-clause-sound : goal.returns-clause-sound
returns-clause-sound c =
    let put : c.push-2.new.self ≡ c.in_ok-of_minutes.of_minutes ∷ c.in_ok-of_hours.of_hours ∷ [] =
    c.in_ok-push-2.ensures.ok
    ∙ ap (λ (list : List KeptRecords). list ++ c.in_ok-of_hours.of_hours ∷ [])
    (c.in_ok-push.ensures.ok ∙ ap (λ (list : List KeptRecords). list ++ c.in_ok-of_minutes.of_minutes ∷ []) c.new-records.ensures) in
    IfOk-weaker c.of_parts.result
    (λ (held : TiersHeld). restored (tier_at c.as_slice-tiers.result.now 0) (rest_of c.as_slice-tiers.result.now) c.args.left.now.body.last c.in_ok-points.points c.push-2.new.self ≡ Some (tiers_held held))
    (λ (held : TiersHeld). AreSound (tiers_held held))
    (λ held back.
    (left-sound c.args.left.now.body c.requires.spelt c.as_slice-tiers.result.now c.as_slice-tiers.ensures
    c.in_ok-points.points c.in_ok-of_minutes.of_minutes c.in_ok-of_hours.of_hours c.push-2.new.self put
    c.in_ok-points.ensures.each c.in_ok-of_minutes.ensures.each c.in_ok-of_hours.ensures.each (tiers_held held) back).0)
    c.of_parts.ensures

pub returns-clause-last : goal.returns-clause-last
returns-clause-last c =
    let put : c.push-2.new.self ≡ c.in_ok-of_minutes.of_minutes ∷ c.in_ok-of_hours.of_hours ∷ [] =
    c.in_ok-push-2.ensures.ok
    ∙ ap (λ (list : List KeptRecords). list ++ c.in_ok-of_hours.of_hours ∷ [])
    (c.in_ok-push.ensures.ok ∙ ap (λ (list : List KeptRecords). list ++ c.in_ok-of_minutes.of_minutes ∷ []) c.new-records.ensures) in
    IfOk-weaker c.of_parts.result
    (λ (held : TiersHeld). restored (tier_at c.as_slice-tiers.result.now 0) (rest_of c.as_slice-tiers.result.now) c.args.left.now.body.last c.in_ok-points.points c.push-2.new.self ≡ Some (tiers_held held))
    (λ (held : TiersHeld). held.last ≡ c.args.left.now.body.last)
    (λ held back.
    (left-sound c.args.left.now.body c.requires.spelt c.as_slice-tiers.result.now c.as_slice-tiers.ensures
    c.in_ok-points.points c.in_ok-of_minutes.of_minutes c.in_ok-of_hours.of_hours c.push-2.new.self put
    c.in_ok-points.ensures.each c.in_ok-of_minutes.ensures.each c.in_ok-of_hours.ensures.each (tiers_held held) back).1)
    c.of_parts.ensures
