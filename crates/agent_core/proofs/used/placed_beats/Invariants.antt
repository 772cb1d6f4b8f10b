use Rattle.std.proofs.Common.{◌≡◌, map, take}
use Rattle.replication.specs.Names.{placed_beat}
use Rattle.agent_core.specs.Used.{has}
use Rattle.agent_core.proofs.used.placed_beats.Given as goal

abbrev pub invariant-loop-beat : goal.invariant-loop-beat
invariant-loop-beat l = l.placed ≡ map (placed_beat (has l.series)) (take l.beat-index l.beats)
