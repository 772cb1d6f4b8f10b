use Rattle.std.proofs.Common.{sym, ◌∙◌}
use Rattle.simple_pattern.proofs.PieceLemmas.{end_answer}
use Rattle.simple_pattern.proofs.glob.is_end_match.Goals as goal

pub returns : goal.returns
returns c = end_answer c.loop-piece.glob.now c.loop-piece.name.now c.ends_with.result c.in_default.ensures c.ends_with.ensures.cases ∙ sym c.loop-piece.invariant.same
