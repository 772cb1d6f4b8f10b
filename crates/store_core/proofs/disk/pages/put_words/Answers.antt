use Rattle.std.proofs.Common.{◌≡◌, ℕ, ◌*◌, ◌+◌, get_or, List, [], length, refl, sym, ap, ◌∙◌, subst, arith}
use Rattle.page_buffer.specs.Page.{Page, page_of}
use Rattle.store_core.proofs.DiskProofs.PageLemmas.{IsUpTo, all_words, empty_slot, no_words, pushed_word}
use Rattle.store_core.proofs.disk.pages.put_words.Goals as goal
use Rattle.store_core.proofs.disk.pages.put_words.Goals.{then-word-ne0, else-word-ne0}

pub loop-place-init : goal.loop-place-init
loop-place-init c =
    let page = c.args.page.now in
    let none : page.items ≡ [] = ap (λ (p : Page ℕ). p.items) c.requires.empty in (
      c.requires.empty ∙ ap (λ (l : List ℕ). page_of page.series c.args.first c.args.step l) (sym none),
      subst (λ (l : List ℕ). IsUpTo l c.args.words.now 0) (sym none) (no_words c.args.words.now c.requires.slots.1),
    )

pub loop-place-preserved : goal.loop-place-preserved
loop-place-preserved c =
    let words = c.args.words.now in
    let place = c.loop-place.place in
    let before = c.loop-place.invariant in
    elim c.if-word-ne0.branch [
      | then-word-ne0 w ↦
          subst (λ (page : Page ℕ). (page ≡ page_of c.args.page.now.series c.args.first c.args.step page.items) × IsUpTo page.items words (place + 1)) (sym w.page-is)
          (pushed_word c.args.page.now.series c.args.first c.args.step c.loop-place.page w.push.new.self words place (get_or words place 0) (c.args.first + place * c.args.step) w.push.result
          before.0 before.1 c.requires.slots.0 c.loop-place-test.true refl (let other = w.if-word-ne0.true in omega (arith, other)) c.requires.step refl
          w.push.ensures.succeeds w.push.ensures.ok)
      | else-word-ne0 w ↦
          subst (λ (page : Page ℕ). (page ≡ page_of c.args.page.now.series c.args.first c.args.step page.items) × IsUpTo page.items words (place + 1)) (sym w.page-is)
          (before.0, empty_slot c.loop-place.page.items words place c.loop-place-test.true w.if-word-ne0.false before.1)
    ]

pub returns : goal.returns
returns c =
    let words = c.args.words.now in
    let end : c.loop-place.place ≡ length words = omega (arith, c.loop-place-test.false, c.loop-place.auto.place-end) in
    c.loop-place.invariant.0
    ∙ ap (λ (l : List ℕ). page_of c.args.page.now.series c.args.first c.args.step l)
    (all_words c.loop-place.page.items words (subst (λ (n : ℕ). IsUpTo c.loop-place.page.items words n) end c.loop-place.invariant.1))
