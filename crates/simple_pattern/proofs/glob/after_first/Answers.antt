use Rattle.simple_pattern.proofs.PieceLemmas.{first_lacking, first_found}
use Rattle.simple_pattern.proofs.glob.after_first.Goals as goal

pub returns-in_err-rest : goal.returns-in_err-rest
returns-in_err-rest c = rw c.from_residual.ensures (first_lacking c.args.piece.now c.args.name.now c.requires c.in_err-rest.ensures.cases)

pub returns : goal.returns
returns c = first_found c.args.piece.now c.args.name.now c.requires _ _ c.in_ok-rest.ensures.cases
