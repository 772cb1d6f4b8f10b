use Rattle.simple_pattern.proofs.PieceLemmas.{split_star}
use Rattle.simple_pattern.proofs.glob.split_at_star.Goals as goal

pub returns : goal.returns
returns c = split_star c.args.glob.now c.split_once.result c.split_once.ensures.cases
