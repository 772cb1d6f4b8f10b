use Rattle.std.proofs.Common.{◌+◌, sym, ◌∙◌}
use Rattle.beat_tiers.proofs.AboveLemmas.{last-is}
use Rattle.beat_tiers.proofs.above.least_behind.Goals as goal

pub returns-in-Some : goal.returns-in-Some
returns-in-Some c = c.from.ensures ∙ sym (last-is (c.args.from + 1) c.args.beats.now c.in-Some.last.now (sym c.in-Some.ensures.value))
