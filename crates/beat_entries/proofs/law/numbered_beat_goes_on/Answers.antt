use Rattle.beat_entries.proofs.FollowLemmas.{beat-goes-on}
use Rattle.beat_entries.proofs.law.numbered_beat_goes_on.Goals as goal

pub returns : goal.returns
returns c = beat-goes-on
