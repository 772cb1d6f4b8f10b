use Rattle.std.proofs.Common.{sym}
use Rattle.beat_entries.proofs.FollowLemmas.{last-is}
use Rattle.beat_entries.proofs.law.numbered_beat_defines_the_same.Goals as goal

pub returns : goal.returns
returns c = λ h moment beat owned. sym (last-is h moment beat owned)
