use Rattle.replication.proofs.PrefixLaws.{data_of-take}
use Rattle.replication.proofs.laws.first_beats_answer_as_all.Goals as goal

pub returns : goal.returns
returns c = data_of-take
