use Rattle.entry_codec.proofs.Lengths.{collected-length}
use Rattle.entry_codec.proofs.law.entry_length_is_limited.Goals as goal

pub returns : goal.returns
returns c = collected-length
