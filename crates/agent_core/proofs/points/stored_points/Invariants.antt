use Rattle.std.proofs.Common.{◌≡◌, map, take}
use Rattle.std.specs.List.{AllByRecursion}
use Rattle.store_core.specs.beats.Beats.{IsPoint}
use Rattle.agent_core.specs.Kept.{point_of}
use Rattle.agent_core.proofs.points.stored_points.Given as goal

abbrev pub invariant-loop-word : goal.invariant-loop-word
invariant-loop-word l = record {
  points : l.points.items ≡ map (point_of l.registry) (take l.word-index l.words);
  short : AllByRecursion IsPoint l.points.items;
}
