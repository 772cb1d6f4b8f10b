use Rattle.std.proofs.Common.{ℕ, List, Some, length, drop, sym, ap, ◌∙◌, arith, ◌<◌, ◌*◌, ◌/◌}
use Rattle.std.specs.Prelude.{slice_get}
use Rattle.std.proofs.lemmas.List.{take_rest, length-drop}
use Rattle.byteorder.specs.Endian.{little_number}
use Rattle.page_buffer.proofs.ItemLemmas.{word_within, length-words_of, slice_get-words_of}
use Rattle.page_buffer.proofs.words.Words.get.Goals as goal

pub overflow_mul-place : goal.overflow_mul-place
overflow_mul-place c = let h = word_within c.self.inside.page c.as_slice.result.now c.args.self.now c.args.place c.self.view_is c.as_slice.ensures.value c.as_slice.ensures.most c.requires in record { fits = omega (arith, h.0, h.1) }

pub slice_bounds-read_u32-count : goal.slice_bounds-read_u32-count
slice_bounds-read_u32-count c = let h = word_within c.self.inside.page c.as_slice.result.now c.args.self.now c.args.place c.self.view_is c.as_slice.ensures.value c.as_slice.ensures.most c.requires in omega (arith, h.0)

pub slice_bounds-read_u32-start : goal.slice_bounds-read_u32-start
slice_bounds-read_u32-start c = let h = word_within c.self.inside.page c.as_slice.result.now c.args.self.now c.args.place c.self.view_is c.as_slice.ensures.value c.as_slice.ensures.most c.requires in omega (arith, h.0)

pub read_u32-requires : goal.read_u32-requires
read_u32-requires c = let h = word_within c.self.inside.page c.as_slice.result.now c.args.self.now c.args.place c.self.view_is c.as_slice.ensures.value c.as_slice.ensures.most c.requires in
    let rest = ap length (take_rest c.as_slice.result.now (4 * c.args.place)) in let long = length-drop (4 * c.args.place) c.as_slice.result.now in omega (arith, h.0, rest, long)

pub returns : goal.returns
returns c =
    let page = c.self.inside.page in let bytes = c.as_slice.result.now in let place = c.args.place in
    let within : place < length page / 4 = (let count = length-words_of page in let long = ap length c.self.view_is in let r = c.requires in omega (arith, count, long, r)) in
    sym (ap (λ (ws : List ℕ). slice_get ws place) c.self.view_is) ∙ slice_get-words_of page place within
    ∙ ap Some (ap (λ (b : List ℕ). little_number 4 (drop (4 * place) b)) (sym c.as_slice.ensures.value)
    ∙ sym (ap (little_number 4) (take_rest bytes (4 * place))) ∙ sym c.read_u32.ensures)
