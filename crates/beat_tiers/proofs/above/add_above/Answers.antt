use Rattle.std.proofs.Common.{◌≡◌, ℕ, ◌+◌, true, false, ltb, List, length, ◌==◌, ◌||◌, sym, ap, subst, ◌∙◌, arith}
use Rattle.std.specs.Vec.{vec_len}
use Rattle.beat_tiers.specs.declared.kept.KeptBeat.{KeptBeat}
use Rattle.beat_tiers.specs.Above.{RiseAbove, least_behind}
use Rattle.beat_tiers.specs.Kept.{behind_beats}
use Rattle.beat_tiers.proofs.AboveLemmas.{as-few-behind, few-behind, rises-behind, whole}
use Rattle.beat_tiers.proofs.above.add_above.Goals as goal
use Rattle.beat_tiers.proofs.above.add_above.Goals.{else-most-len-via-then-most-len+else-begins, else-most-len-via-else-most-len}

-- the test of the code, in the words of contracts
same : (beats slice : List KeptBeat) (least place least_is place_is : ℕ) → slice ≡ beats → least ≡ least_is → place ≡ place_is
    → (ltb least place || (length slice == 0)) ≡ (ltb least_is place_is || (length beats == 0))
same beats slice least place least_is place_is a b c =
    ap (λ (n : ℕ). ltb n place || (length slice == 0)) b
    ∙ ap (λ (n : ℕ). ltb least_is n || (length slice == 0)) c
    ∙ ap (λ (bs : List KeptBeat). ltb least_is place_is || (length bs == 0)) a

pub returns-then-begins-clause-added : goal.returns-then-begins-clause-added
returns-then-begins-clause-added c = λ le more.
    let beats = c.args.beats.now.items in
    let least : c.least_behind-least.result ≡ least_behind (c.args.from + 1) beats = c.least_behind-least.ensures ∙ ap (least_behind (c.args.from + 1)) c.as_slice.ensures.value in
    let size : length beats ≡ vec_len c.args.beats.now = sym (ap length c.as_slice.ensures.value) ∙ c.as_slice.ensures.len in
    let begins : (ltb (least_behind (c.args.from + 1) beats) c.args.item.now.place || (length beats == 0)) ≡ true =
    sym (same beats c.as_slice-then-most-len.result.now c.least_behind-least.result c.from-place.result (least_behind (c.args.from + 1) beats) c.args.item.now.place c.as_slice-then-most-len.ensures.value least c.from-place.ensures)
    ∙ sym c.begins.ensures ∙ c.if-begins.true in
    whole c.args.most (c.args.from + 1) beats c.args.item.now c.requires.few (omega (arith, c.if-most-len.true, c.len.ensures, size)) begins more

pub returns-clause-rises : goal.returns-clause-rises
returns-clause-rises c =
    let beats = c.args.beats.now.items in
    let least : c.least_behind-least.result ≡ least_behind (c.args.from + 1) beats = c.least_behind-least.ensures ∙ ap (least_behind (c.args.from + 1)) c.as_slice.ensures.value in
    let behind : RiseAbove c.args.from (behind_beats beats c.args.item.now) =
    rises-behind c.args.from beats c.args.item.now c.requires.rises (omega (arith, c.if-place-least.false, least, c.from-place.ensures)) in
    let new : c.add_item.new.beats.items ≡ behind_beats beats c.args.item.now = c.in_ok-add_item.ensures in
    subst (RiseAbove c.args.from) (sym new) behind

pub returns-clause-few : goal.returns-clause-few
returns-clause-few c =
    let beats = c.args.beats.now.items in
    let least : c.least_behind-least.result ≡ least_behind (c.args.from + 1) beats = c.least_behind-least.ensures ∙ ap (least_behind (c.args.from + 1)) c.as_slice.ensures.value in
    let size : length beats ≡ vec_len c.args.beats.now = sym (ap length c.as_slice.ensures.value) ∙ c.as_slice.ensures.len in
    let new : length c.add_item.new.beats.items ≡ length (behind_beats beats c.args.item.now) = ap length c.in_ok-add_item.ensures in
    elim c.else-most-len.branch [
      | else-most-len-via-then-most-len+else-begins w ↦
          let begins : (ltb (least_behind (c.args.from + 1) beats) c.args.item.now.place || (length beats == 0)) ≡ false =
          sym (same beats w.as_slice-then-most-len.result.now c.least_behind-least.result c.from-place.result (least_behind (c.args.from + 1) beats) c.args.item.now.place w.as_slice-then-most-len.ensures.value least c.from-place.ensures)
          ∙ sym w.begins.ensures ∙ w.if-begins.false in
          omega (arith, new, as-few-behind c.args.most (c.args.from + 1) beats c.args.item.now c.requires.few (omega (arith, c.if-place-least.false, least, c.from-place.ensures)) begins)
      | else-most-len-via-else-most-len w ↦ omega (arith, new, few-behind beats c.args.item.now, w.if-most-len.false, c.len.ensures, size)
    ]
