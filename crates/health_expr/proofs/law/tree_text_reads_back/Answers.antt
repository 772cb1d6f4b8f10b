use Rattle.health_expr.proofs.Rewords.{reads_text}
use Rattle.health_expr.proofs.law.tree_text_reads_back.Goals as goal

pub returns : goal.returns
returns c = reads_text
