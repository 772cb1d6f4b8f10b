use Rattle.std.proofs.Common.{◌+◌, ℕ, drop, sym, ap, ◌∙◌, arith}
use Rattle.page_buffer.specs.Slots.{spaced}
use Rattle.page_buffer.proofs.SlotLemmas.{empty_next, point_next, empty_ends, empty_goes_on}
use Rattle.page_buffer.proofs.slot_page.are_spaced.Goals.{then-get-ne0, else-get-ne0+then-empty-lt-MOST_EMPTY}
use Rattle.page_buffer.proofs.slot_page.are_spaced.Goals as goal

pub returns-else-empty-lt-MOST_EMPTY : goal.returns-else-empty-lt-MOST_EMPTY
returns-else-empty-lt-MOST_EMPTY c =
    let words = c.args.words.now in let place = c.loop-place.place in let empty = c.loop-place.empty in
    sym (c.loop-place.invariant.1 ∙ empty_next empty place words c.get.result c.get.ensures c.if-get-ne0.false ∙ empty_ends empty (drop (place + 1) words) c.if-empty-lt-MOST_EMPTY.false)

pub loop-place-preserved : goal.loop-place-preserved
loop-place-preserved c =
    let words = c.args.words.now in let place = c.loop-place.place in let empty = c.loop-place.empty in let rest = drop (place + 1) words in
    elim c.if-get-ne0.branch [
      | then-get-ne0 w ↦ (
        omega (arith, w.empty-is),
        c.loop-place.invariant.1 ∙ point_next empty place words c.get.result c.get.ensures w.if-get-ne0.true ∙ ap (λ (e : ℕ). spaced e rest) (sym w.empty-is),
      )
      | else-get-ne0+then-empty-lt-MOST_EMPTY w ↦ (
        omega (arith, w.empty-is, w.if-empty-lt-MOST_EMPTY.true),
        c.loop-place.invariant.1 ∙ empty_next empty place words c.get.result c.get.ensures w.if-get-ne0.false ∙ empty_goes_on empty rest w.if-empty-lt-MOST_EMPTY.true
            ∙ ap (λ (e : ℕ). spaced e rest) (sym w.empty-is),
      )
    ]
