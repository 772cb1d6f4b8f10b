use Rattle.std.proofs.Common.{◌≡◌, drop}
use Rattle.replication.specs.Points.{put_all, points_of, names_in}
use Rattle.replication.proofs.points.names_in.Given as goal

abbrev pub invariant-loop-beat : goal.invariant-loop-beat
invariant-loop-beat l = put_all l.names.items (points_of (drop l.beat-index l.beats)) ≡ names_in l.beats
