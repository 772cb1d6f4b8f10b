use Rattle.std.proofs.Common.{◌≡◌, map, take}
use Rattle.replication.specs.Names.{named_beat}
use Rattle.replication.proofs.meaning.named_beats.Given as goal

abbrev pub invariant-loop-beat : goal.invariant-loop-beat
invariant-loop-beat l = l.named.items ≡ map (named_beat l.names) (take l.beat-index l.beats)
