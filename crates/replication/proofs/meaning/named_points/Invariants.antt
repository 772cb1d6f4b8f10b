use Rattle.std.proofs.Common.{◌≡◌, take}
use Rattle.std.specs.List.{filter_map}
use Rattle.replication.specs.Names.{named_point}
use Rattle.replication.proofs.meaning.named_points.Given as goal

abbrev pub invariant-loop-word : goal.invariant-loop-word
invariant-loop-word l = l.points ≡ filter_map (named_point l.names) (take l.word-index l.words)
