use Rattle.std.proofs.Common.{◌≡◌, map, take}
use Rattle.replication.specs.Points.{numbered_beat}
use Rattle.replication.proofs.points.numbered_beats.Given as goal

abbrev pub invariant-loop-beat : goal.invariant-loop-beat
invariant-loop-beat l = l.numbered ≡ map (numbered_beat l.names) (take l.beat-index l.beats)
