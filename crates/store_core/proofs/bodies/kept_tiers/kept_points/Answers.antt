use Rattle.std.proofs.Common.{◌≡◌, List, length, Some, None, sym, ap, ◌∙◌, subst}
use Rattle.checkpoint_body.specs.declared.body.Extent.{Extent}
use Rattle.checkpoint_body.specs.declared.page.SlotPage.{SlotPage}
use Rattle.store_core.specs.bodies.Reading.{ArePointSegmentsIn, ArePointsOf}
use Rattle.store_core.specs.bodies.Segments.{first_number}
use Rattle.store_core.proofs.BodyProofs.TierLemmas.{points-found, points-one, points-sealed, points-unsealed, sealed-order, unsealed-order}
use Rattle.store_core.proofs.bodies.kept_tiers.kept_points.Goals as goal

pub returns-in_default-clause-one : goal.returns-in_default-clause-one
returns-in_default-clause-one c = λ points order has.
    let body = c.args.body.now in
    let first = c.first_number-serial.ensures ∙ ap (λ (extents : List Extent). first_number c.args.body.now.sealed (length extents)) c.as_slice-extents.ensures in
    let none : None ≡ Some points.sealed =
    sym c.in_default.is
    ∙ c.in_ok-sealed.ensures.one points.sealed (sealed-order points order)
    (subst (λ (extents : List Extent). ArePointSegmentsIn c.first_number-serial.result c.args.body.now.before extents c.args.kept.now points.sealed) (sym c.as_slice-extents.ensures)
    (points-sealed body c.args.kept.now c.first_number-serial.result first c.requires points has)) in
    absurd cc

pub returns-in_default-2-clause-one : goal.returns-in_default-2-clause-one
returns-in_default-2-clause-one c = λ points order has.
    let first = c.first_number-serial.ensures ∙ ap (λ (extents : List Extent). first_number c.args.body.now.sealed (length extents)) c.as_slice-extents.ensures in
    let none : None ≡ Some points.unsealed =
    sym c.in_default-2.is
    ∙ c.in_ok-unsealed.ensures.one points.unsealed (unsealed-order points order)
    (subst (λ (pages : List SlotPage). ArePointsOf pages points.unsealed) (sym c.as_slice.ensures)
    (points-unsealed c.args.body.now c.args.kept.now c.first_number-serial.result first c.requires points has)) in
    absurd cc

pub returns-clause-found : goal.returns-clause-found
returns-clause-found c =
    let first = c.first_number-serial.ensures ∙ ap (λ (extents : List Extent). first_number c.args.body.now.sealed (length extents)) c.as_slice-extents.ensures in
    points-found c.args.body.now c.args.kept.now c.first_number-serial.result first c.in-Some.sealed c.in-Some-2.unsealed
    (subst (λ (extents : List Extent). ArePointSegmentsIn c.first_number-serial.result c.args.body.now.before extents c.args.kept.now c.in-Some.sealed) c.as_slice-extents.ensures
    (rw c.in-Some.is at c.in_ok-sealed.ensures.found))
    (subst (λ (pages : List SlotPage). ArePointsOf pages c.in-Some-2.unsealed) c.as_slice.ensures (rw c.in-Some-2.is at c.in_ok-unsealed.ensures.found))

pub returns-clause-one : goal.returns-clause-one
returns-clause-one c = λ points order has.
    let first = c.first_number-serial.ensures ∙ ap (λ (extents : List Extent). first_number c.args.body.now.sealed (length extents)) c.as_slice-extents.ensures in
    points-one c.args.body.now c.args.kept.now c.first_number-serial.result first c.requires points has c.in-Some.sealed c.in-Some-2.unsealed
    (sym c.in-Some.is
    ∙ c.in_ok-sealed.ensures.one points.sealed (sealed-order points order)
    (subst (λ (extents : List Extent). ArePointSegmentsIn c.first_number-serial.result c.args.body.now.before extents c.args.kept.now points.sealed) (sym c.as_slice-extents.ensures)
    (points-sealed c.args.body.now c.args.kept.now c.first_number-serial.result first c.requires points has)))
    (sym c.in-Some-2.is
    ∙ c.in_ok-unsealed.ensures.one points.unsealed (unsealed-order points order)
    (subst (λ (pages : List SlotPage). ArePointsOf pages points.unsealed) (sym c.as_slice.ensures)
    (points-unsealed c.args.body.now c.args.kept.now c.first_number-serial.result first c.requires points has)))
