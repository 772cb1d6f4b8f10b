use Rattle.std.proofs.Common.{◌+◌}
use Rattle.std.proofs.lemmas.List.{take_rest}
use Rattle.health_config.proofs.LinesLemmas.{parts_none, parts_at}
use Rattle.health_config.proofs.lines.split_at_line_feed.Goals as goal

pub returns-in_err-place-clause-parts : goal.returns-in_err-place-clause-parts
returns-in_err-place-clause-parts c = rw c.from_residual.ensures (parts_none c.args.text.now c.in_err-place.ensures)

pub returns-clause-parts : goal.returns-clause-parts
returns-clause-parts c = rw (take_rest c.args.text.now (c.in_ok-place.place + 1)) (parts_at c.args.text.now c.in_ok-place.place c.in_ok-place.ensures)
