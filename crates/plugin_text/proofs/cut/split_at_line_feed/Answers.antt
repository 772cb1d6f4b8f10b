use Rattle.std.proofs.Common.{◌+◌, arith, length-drop}
use Rattle.std.proofs.lemmas.List.{take_rest}
use Rattle.plugin_text.proofs.SearchLemmas.{parts_none, parts_at}
use Rattle.plugin_text.proofs.cut.split_at_line_feed.Goals as goal

pub returns-in_err-at : goal.returns-in_err-at
returns-in_err-at c = rw c.from_residual.ensures (parts_none c.args.text.now c.in_err-at.ensures)

pub returns : goal.returns
returns c =
    let text = c.args.text.now in
    let first = c.in_ok-at.ensures in
    rw (take_rest text (c.in_ok-at.at + 1)) (parts_at text c.in_ok-at.at first.0.high first.0.before first.1, omega (arith, length-drop (c.in_ok-at.at + 1) text, first.0.high))
