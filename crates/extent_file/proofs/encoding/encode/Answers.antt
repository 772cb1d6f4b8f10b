use Rattle.std.proofs.Common.{ℕ, ◌+◌, ◌*◌, ◌++◌, List, length, sym, ap, ◌∙◌, subst, arith}
use Rattle.extent_file.specs.Pages.{IsExtentOf}
use Rattle.host_model.proofs.CallLemmas.{ok_part}
use Rattle.extent_file.proofs.SaysLemmas.{extent_of, whole_long, written_whole}
use Rattle.extent_file.proofs.encoding.encode.Goals as goal

pub returns-clause-extent : goal.returns-clause-extent
returns-clause-extent c more =
    let tier = c.args.tier in let pages = c.args.pages.now in
    let held = ok_part c.append_items.result (sym c.if-is_err.ensures.value) c.append_items.ensures in
    let all = ok_part c.append_all.result (sym c.if-is_err-2.ensures.value) c.append_all.ensures in
    let whole = written_whole tier (24 + 24 * length pages + c.len.result) pages c.append_all.new.out c.new-out.result c.as_slice.result.now c.append_items.new.out c.new-items.result held.0
    c.requires.pages held.2 c.new-out.ensures c.new-items.ensures held.1 c.as_slice.ensures (ap (λ (n : ℕ). 24 + 24 * length pages + n) c.len.ensures) all in
    subst (λ (l : List ℕ). IsExtentOf tier c.args.slot pages (l ++ more)) (sym whole)
    (extent_of tier c.args.slot pages held.0 more (omega arith) c.requires.pages held.2 c.requires.fits c.requires.slot)

pub returns-clause-size : goal.returns-clause-size
returns-clause-size c =
    let tier = c.args.tier in let pages = c.args.pages.now in
    let held = ok_part c.append_items.result (sym c.if-is_err.ensures.value) c.append_items.ensures in
    let all = ok_part c.append_all.result (sym c.if-is_err-2.ensures.value) c.append_all.ensures in
    let whole = written_whole tier (24 + 24 * length pages + c.len.result) pages c.append_all.new.out c.new-out.result c.as_slice.result.now c.append_items.new.out c.new-items.result held.0
    c.requires.pages held.2 c.new-out.ensures c.new-items.ensures held.1 c.as_slice.ensures (ap (λ (n : ℕ). 24 + 24 * length pages + n) c.len.ensures) all in
    ap length whole ∙ whole_long tier pages held.0 c.requires.pages held.2
