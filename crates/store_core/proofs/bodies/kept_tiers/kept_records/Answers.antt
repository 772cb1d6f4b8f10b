use Rattle.std.proofs.Common.{◌≡◌, List, length, Some, None, sym, ap, ◌∙◌, subst}
use Rattle.checkpoint_body.specs.declared.body.Extent.{Extent}
use Rattle.checkpoint_body.specs.declared.page.RecordPage.{RecordPage}
use Rattle.store_core.specs.bodies.Reading.{AreRecordSegmentsIn, AreRecordsOf}
use Rattle.store_core.specs.bodies.Segments.{first_number}
use Rattle.store_core.proofs.BodyProofs.TierLemmas.{records-found, records-one, records-sealed, records-unsealed, sealed-order, unsealed-order}
use Rattle.store_core.proofs.bodies.kept_tiers.kept_records.Goals as goal

pub returns-in_default-clause-one : goal.returns-in_default-clause-one
returns-in_default-clause-one c = λ records order has.
    let first = c.first_number-serial.ensures ∙ ap (λ (extents : List Extent). first_number c.args.body.now.sealed (length extents)) c.as_slice-extents.ensures in
    let none : None ≡ Some records.items.sealed =
    sym c.in_default.is
    ∙ c.in_ok-sealed.ensures.one records.items.sealed (sealed-order records.items order)
    (subst (λ (extents : List Extent). AreRecordSegmentsIn c.args.tier.width c.first_number-serial.result extents c.args.kept.now records.items.sealed) (sym c.as_slice-extents.ensures)
    (records-sealed c.args.last c.args.tier c.args.body.now c.args.kept.now c.first_number-serial.result first c.requires.form records has)) in
    absurd cc

pub returns-in_default-2-clause-one : goal.returns-in_default-2-clause-one
returns-in_default-2-clause-one c = λ records order has.
    let first = c.first_number-serial.ensures ∙ ap (λ (extents : List Extent). first_number c.args.body.now.sealed (length extents)) c.as_slice-extents.ensures in
    let none : None ≡ Some records.items.unsealed =
    sym c.in_default-2.is
    ∙ c.in_ok-unsealed.ensures.one records.items.unsealed (unsealed-order records.items order)
    (subst (λ (pages : List RecordPage). AreRecordsOf c.args.tier.width pages records.items.unsealed) (sym c.as_slice.ensures)
    (records-unsealed c.args.last c.args.tier c.args.body.now c.args.kept.now c.first_number-serial.result first c.requires.form records has)) in
    absurd cc

pub returns-clause-found : goal.returns-clause-found
returns-clause-found c =
    let first = c.first_number-serial.ensures ∙ ap (λ (extents : List Extent). first_number c.args.body.now.sealed (length extents)) c.as_slice-extents.ensures in
    records-found c.args.last c.args.tier c.args.body.now c.args.kept.now c.first_number-serial.result first c.in-Some.sealed c.in-Some-2.unsealed c.in-Some-3.current
    (subst (λ (extents : List Extent). AreRecordSegmentsIn c.args.tier.width c.first_number-serial.result extents c.args.kept.now c.in-Some.sealed) c.as_slice-extents.ensures
    (rw c.in-Some.is at c.in_ok-sealed.ensures.found))
    (subst (λ (pages : List RecordPage). AreRecordsOf c.args.tier.width pages c.in-Some-2.unsealed) c.as_slice.ensures (rw c.in-Some-2.is at c.in_ok-unsealed.ensures.found))
    (sym c.as_slice-open.ensures ∙ (rw c.in-Some-3.is at c.in_ok-current.ensures.found))

pub returns-clause-one : goal.returns-clause-one
returns-clause-one c = λ records order has.
    let first = c.first_number-serial.ensures ∙ ap (λ (extents : List Extent). first_number c.args.body.now.sealed (length extents)) c.as_slice-extents.ensures in
    records-one c.args.last c.args.tier c.args.body.now c.args.kept.now c.first_number-serial.result first c.requires.form records has c.in-Some.sealed c.in-Some-2.unsealed c.in-Some-3.current
    (sym c.in-Some.is
    ∙ c.in_ok-sealed.ensures.one records.items.sealed (sealed-order records.items order)
    (subst (λ (extents : List Extent). AreRecordSegmentsIn c.args.tier.width c.first_number-serial.result extents c.args.kept.now records.items.sealed) (sym c.as_slice-extents.ensures)
    (records-sealed c.args.last c.args.tier c.args.body.now c.args.kept.now c.first_number-serial.result first c.requires.form records has)))
    (sym c.in-Some-2.is
    ∙ c.in_ok-unsealed.ensures.one records.items.unsealed (unsealed-order records.items order)
    (subst (λ (pages : List RecordPage). AreRecordsOf c.args.tier.width pages records.items.unsealed) (sym c.as_slice.ensures)
    (records-unsealed c.args.last c.args.tier c.args.body.now c.args.kept.now c.first_number-serial.result first c.requires.form records has)))
    (sym c.in-Some-3.is ∙ c.in_ok-current.ensures.one records.current (c.as_slice-open.ensures ∙ has.is.open_records))
