use Rattle.simple_pattern.proofs.PieceLemmas.{start_found}
use Rattle.simple_pattern.proofs.glob.after_start.Goals as goal

pub returns : goal.returns
returns c = start_found c.args.piece.now c.args.name.now c.strip_prefix.result c.requires c.strip_prefix.ensures.cases
