use Rattle.plugin_text.proofs.LimitLemmas.{limits-of}
use Rattle.plugin_text.proofs.law.read_lines_keep_limits.Goals as goal

pub returns : goal.returns
returns c = limits-of
