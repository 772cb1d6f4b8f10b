use Rattle.beat_entries.proofs.DefinedLemmas.{beat-defined}
use Rattle.beat_entries.proofs.law.history_defines_its_beats.Goals as goal

pub returns : goal.returns
returns c = beat-defined
