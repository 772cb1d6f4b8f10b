use Rattle.std.proofs.Common.{ℕ, ◌+◌, List, Option, length, drop, sym, ◌∙◌, subst}
use Rattle.std.proofs.lemmas.Bool.{eqb-false, eqb-true}
use Rattle.std.proofs.lemmas.List.{drop_all}
use Rattle.checkpoint_body.specs.declared.page.RecordPage.{RecordPage}
use Rattle.store_core.specs.bodies.Reading.{AreRecordsOf, IsRecordSegmentIn, no_beats_in}
use Rattle.store_core.specs.bodies.Segments.{next_number}
use Rattle.store_core.proofs.BodyProofs.ReadLemmas.{drop-first, read-all, read-extents_left, read-more, read-no_more, HaveRead}
use Rattle.store_core.proofs.bodies.kept_segments.record_segments.Goals as goal

pub returns-in_default-found-clause-one : goal.returns-in_default-found-clause-one
returns-in_default-found-clause-one c =
    read-no_more (AreRecordsOf c.args.width) no_beats_in c.args.serial 0 c.args.extents.now c.args.kept.now c.loop-pages.segments c.loop-pages.serial 0 c.loop-pages.ahead.now
    (drop c.loop-pages.pages-index c.args.kept.now) c.loop-pages.invariant
    c.in-Some.extent.now c.in-Some.others.now c.pages-item.result (drop (c.loop-pages.pages-index + 1) c.args.kept.now)
    c.in-Some.ensures.cases.0
    (drop-first c.args.kept.now c.loop-pages.pages-index c.pages-item.result c.loop-pages-test.true c.pages-item.is)
    (λ other order are.
    sym c.in_default-found.is
    ∙ c.in_ok-found.ensures.one other order
    (subst (λ (pages : List RecordPage). IsRecordSegmentIn c.args.width c.loop-pages.serial c.in-Some.extent.now pages other) (sym c.as_slice.ensures) are))

pub loop-pages-preserved : goal.loop-pages-preserved
loop-pages-preserved c =
    let is : IsRecordSegmentIn c.args.width c.loop-pages.serial c.in-Some.extent.now c.pages-item.result c.in-Some-found.segment =
    subst (λ (pages : List RecordPage). IsRecordSegmentIn c.args.width c.loop-pages.serial c.in-Some.extent.now pages c.in-Some-found.segment) c.as_slice.ensures
    (rw c.in-Some-found.is at c.in_ok-found.ensures.found) in
    let rest = drop (c.loop-pages.pages-index + 1) c.args.kept.now in
    let more =
    read-more (AreRecordsOf c.args.width) no_beats_in c.args.serial 0 c.args.extents.now c.args.kept.now c.loop-pages.segments c.loop-pages.serial 0 c.loop-pages.ahead.now
    (drop c.loop-pages.pages-index c.args.kept.now) c.loop-pages.invariant
    c.in-Some.extent.now c.in-Some.others.now c.pages-item.result (drop (c.loop-pages.pages-index + 1) c.args.kept.now)
    c.in-Some.ensures.cases.0
    (drop-first c.args.kept.now c.loop-pages.pages-index c.pages-item.result c.loop-pages-test.true c.pages-item.is)
    c.in-Some-found.segment c.push.new.self c.in_ok-push.ensures.ok is
    (λ other order are.
    sym c.in-Some-found.is
    ∙ c.in_ok-found.ensures.one other order
    (subst (λ (pages : List RecordPage). IsRecordSegmentIn c.args.width c.loop-pages.serial c.in-Some.extent.now pages other) (sym c.as_slice.ensures) are)) in
    subst (λ (n : Option ℕ). HaveRead (AreRecordsOf c.args.width) no_beats_in c.args.serial 0 c.args.extents.now c.args.kept.now c.push.new.self n 0 c.in-Some.others.now rest)
    (sym c.next_number-serial.ensures)
    (subst (λ (n : ℕ). HaveRead (AreRecordsOf c.args.width) no_beats_in c.args.serial 0 c.args.extents.now c.args.kept.now c.push.new.self (next_number c.loop-pages.serial) n c.in-Some.others.now rest)
    is.named.beats more)

pub returns-then-not-is_empty-clause-one : goal.returns-then-not-is_empty-clause-one
returns-then-not-is_empty-clause-one c =
    read-extents_left (AreRecordsOf c.args.width) no_beats_in c.args.serial 0 c.args.extents.now c.args.kept.now c.loop-pages.segments c.loop-pages.serial 0 c.loop-pages.ahead.now
    (drop c.loop-pages.pages-index c.args.kept.now) c.loop-pages.invariant
    (eqb-false (length c.loop-pages.ahead.now) 0 (sym c.is_empty.ensures ∙ c.if-not-is_empty.true))
    (drop_all c.loop-pages.pages-index c.args.kept.now c.loop-pages-test.false)

pub returns-clause-found : goal.returns-clause-found
returns-clause-found c =
    read-all (AreRecordsOf c.args.width) no_beats_in c.args.serial 0 c.args.extents.now c.args.kept.now c.loop-pages.segments c.loop-pages.serial 0 c.loop-pages.ahead.now
    (drop c.loop-pages.pages-index c.args.kept.now) c.loop-pages.invariant
    (eqb-true (length c.loop-pages.ahead.now) 0 (sym c.is_empty.ensures ∙ c.if-not-is_empty.false))
    (drop_all c.loop-pages.pages-index c.args.kept.now c.loop-pages-test.false)
