use Rattle.std.proofs.Common.{ap, ◌∙◌}
use Rattle.simple_pattern.proofs.GlobOf.{glob_of_answer}
use Rattle.simple_pattern.proofs.pattern.glob_of.Goals as goal

pub returns : goal.returns
returns c = ap (λ text. text.now) c.unwrap_or.ensures ∙ glob_of_answer c.args.word c.strip_prefix.result c.strip_prefix.ensures.cases
