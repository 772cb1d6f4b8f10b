use Rattle.std.proofs.Common.{drop}
use Rattle.std.proofs.lemmas.List.{take_rest}
use Rattle.plugin_text.proofs.LineListLemmas.{parts_from}
use Rattle.plugin_text.proofs.SearchLemmas.{parts_none, parts_at}
use Rattle.plugin_text.proofs.line_list.line_place.Goals as goal

pub returns-in_err-len-clause-place : goal.returns-in_err-len-clause-place
returns-in_err-len-clause-place c =
    let bytes = c.args.bytes.now in
    let none = rw (take_rest bytes c.args.start) at c.in_err-len.ensures in
    rw c.from_residual.ensures (parts_none (drop c.args.start bytes) none)

pub returns-clause-place : goal.returns-clause-place
returns-clause-place c =
    let bytes = c.args.bytes.now in
    let len = c.in_ok-len.len in
    let first = rw (take_rest bytes c.args.start) at c.in_ok-len.ensures in
    parts_from bytes c.args.start len (parts_at (drop c.args.start bytes) len first.0.high first.0.before first.1)
