use Rattle.beat_entries.proofs.LimitLemmas.{within-limits}
use Rattle.beat_entries.proofs.law.numbered_beat_keeps_limits.Goals as goal

pub returns : goal.returns
returns c = λ registry moment beat defined charts dimensions few_charts few_dimensions. within-limits registry beat defined moment charts dimensions few_charts few_dimensions
