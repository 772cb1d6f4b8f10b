use Rattle.std.proofs.Common.{ℕ, List, Some, length, drop, sym, ap, ◌∙◌, arith, ◌<◌, ◌*◌, ◌/◌}
use Rattle.std.specs.Prelude.{slice_get}
use Rattle.std.proofs.lemmas.List.{take_rest, length-drop}
use Rattle.page_buffer.specs.Items.{record_from}
use Rattle.fixed_num.specs.declared.units.Record.{Record}
use Rattle.page_buffer.proofs.ItemLemmas.{record_within, length-records_of, slice_get-records_of}
use Rattle.page_buffer.proofs.records.Records.get.Goals as goal

pub overflow_mul-place : goal.overflow_mul-place
overflow_mul-place c = let h = record_within c.self.inside.page c.as_slice.result.now c.args.self.now c.args.place c.self.view_is c.as_slice.ensures.value c.as_slice.ensures.most c.requires in record { fits = omega (arith, h.0, h.1) }

pub slice_bounds-record_from-count : goal.slice_bounds-record_from-count
slice_bounds-record_from-count c = let h = record_within c.self.inside.page c.as_slice.result.now c.args.self.now c.args.place c.self.view_is c.as_slice.ensures.value c.as_slice.ensures.most c.requires in omega (arith, h.0)

pub slice_bounds-record_from-start : goal.slice_bounds-record_from-start
slice_bounds-record_from-start c = let h = record_within c.self.inside.page c.as_slice.result.now c.args.self.now c.args.place c.self.view_is c.as_slice.ensures.value c.as_slice.ensures.most c.requires in omega (arith, h.0)

pub record_from-requires : goal.record_from-requires
record_from-requires c = let h = record_within c.self.inside.page c.as_slice.result.now c.args.self.now c.args.place c.self.view_is c.as_slice.ensures.value c.as_slice.ensures.most c.requires in
    let rest = ap length (take_rest c.as_slice.result.now (56 * c.args.place)) in let long = length-drop (56 * c.args.place) c.as_slice.result.now in omega (arith, h.0, rest, long)

pub returns : goal.returns
returns c =
    let page = c.self.inside.page in let bytes = c.as_slice.result.now in let place = c.args.place in
    let within : place < length page / 56 = (let count = length-records_of page in let long = ap length c.self.view_is in let r = c.requires in omega (arith, count, long, r)) in
    sym (ap (λ (ws : List Record). slice_get ws place) c.self.view_is) ∙ slice_get-records_of page place within
    ∙ ap Some (ap (λ (b : List ℕ). record_from (drop (56 * place) b)) (sym c.as_slice.ensures.value)
    ∙ sym (ap (record_from) (take_rest bytes (56 * place))) ∙ sym c.record_from.ensures)
