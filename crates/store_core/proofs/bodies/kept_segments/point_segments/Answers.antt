use Rattle.std.proofs.Common.{ℕ, ◌+◌, List, Option, length, drop, sym, ◌∙◌, subst}
use Rattle.std.proofs.lemmas.Bool.{eqb-false, eqb-true}
use Rattle.std.proofs.lemmas.List.{drop_all}
use Rattle.checkpoint_body.specs.declared.page.SlotPage.{SlotPage}
use Rattle.store_core.specs.bodies.Reading.{ArePointsOf, IsPointSegmentIn}
use Rattle.store_core.specs.bodies.Segments.{beats_in}
use Rattle.store_core.proofs.BodyProofs.ReadLemmas.{drop-first, read-all, read-extents_left, read-more, HaveRead}
use Rattle.store_core.proofs.bodies.kept_segments.point_segments.Goals as goal

pub loop-pages-preserved : goal.loop-pages-preserved
loop-pages-preserved c =
    let is : IsPointSegmentIn c.loop-pages.serial c.loop-pages.before c.in-Some.extent.now c.pages-item.result c.in-Some-found.segment =
    subst (λ (pages : List SlotPage). IsPointSegmentIn c.loop-pages.serial c.loop-pages.before c.in-Some.extent.now pages c.in-Some-found.segment) c.as_slice.ensures
    (rw c.in-Some-found.is at c.in_ok-found.ensures.found) in
    let rest = drop (c.loop-pages.pages-index + 1) c.args.kept.now in
    subst (λ (n : Option ℕ). HaveRead ArePointsOf beats_in c.args.serial c.args.before c.args.extents.now c.args.kept.now c.push.new.self n c.in-Some.extent.now.beats c.in-Some.others.now rest)
    (sym c.next_number-serial.ensures)
    (read-more ArePointsOf beats_in c.args.serial c.args.before c.args.extents.now c.args.kept.now c.loop-pages.segments c.loop-pages.serial c.loop-pages.before c.loop-pages.ahead.now
    (drop c.loop-pages.pages-index c.args.kept.now) c.loop-pages.invariant
    c.in-Some.extent.now c.in-Some.others.now c.pages-item.result (drop (c.loop-pages.pages-index + 1) c.args.kept.now)
    c.in-Some.ensures.cases.0
    (drop-first c.args.kept.now c.loop-pages.pages-index c.pages-item.result c.loop-pages-test.true c.pages-item.is)
    c.in-Some-found.segment c.push.new.self c.in_ok-push.ensures.ok is
    (λ other order are.
    sym c.in-Some-found.is
    ∙ c.in_ok-found.ensures.one other order
    (subst (λ (pages : List SlotPage). IsPointSegmentIn c.loop-pages.serial c.loop-pages.before c.in-Some.extent.now pages other) (sym c.as_slice.ensures) are)))

pub returns-then-not-is_empty-clause-one : goal.returns-then-not-is_empty-clause-one
returns-then-not-is_empty-clause-one c =
    read-extents_left ArePointsOf beats_in c.args.serial c.args.before c.args.extents.now c.args.kept.now c.loop-pages.segments c.loop-pages.serial c.loop-pages.before c.loop-pages.ahead.now
    (drop c.loop-pages.pages-index c.args.kept.now) c.loop-pages.invariant
    (eqb-false (length c.loop-pages.ahead.now) 0 (sym c.is_empty.ensures ∙ c.if-not-is_empty.true))
    (drop_all c.loop-pages.pages-index c.args.kept.now c.loop-pages-test.false)

pub returns-clause-found : goal.returns-clause-found
returns-clause-found c =
    read-all ArePointsOf beats_in c.args.serial c.args.before c.args.extents.now c.args.kept.now c.loop-pages.segments c.loop-pages.serial c.loop-pages.before c.loop-pages.ahead.now
    (drop c.loop-pages.pages-index c.args.kept.now) c.loop-pages.invariant
    (eqb-true (length c.loop-pages.ahead.now) 0 (sym c.is_empty.ensures ∙ c.if-not-is_empty.false))
    (drop_all c.loop-pages.pages-index c.args.kept.now c.loop-pages-test.false)
