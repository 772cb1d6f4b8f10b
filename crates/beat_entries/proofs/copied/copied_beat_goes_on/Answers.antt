use Rattle.beat_entries.proofs.CopiedLemmas.{copied-next, copied-registry}
use Rattle.beat_entries.proofs.copied.copied_beat_goes_on.Goals as goal

pub returns-clause-next : goal.returns-clause-next
returns-clause-next c = copied-next

pub returns-clause-registry : goal.returns-clause-registry
returns-clause-registry c = copied-registry
