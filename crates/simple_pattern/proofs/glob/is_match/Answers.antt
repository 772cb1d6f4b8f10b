use Rattle.std.proofs.Common.{◌∙◌}
use Rattle.simple_pattern.proofs.PieceLemmas.{whole_answer}
use Rattle.simple_pattern.proofs.glob.is_match.Goals as goal

pub returns-in_default : goal.returns-in_default
returns-in_default c = c.eq.ensures ∙ whole_answer c.args.glob.now c.args.name.now c.in_default.ensures
