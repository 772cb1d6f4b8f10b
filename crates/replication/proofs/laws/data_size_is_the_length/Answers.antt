use Rattle.replication.proofs.Sizes.{length-data_bytes}
use Rattle.replication.proofs.laws.data_size_is_the_length.Goals as goal

pub returns : goal.returns
returns c = length-data_bytes
