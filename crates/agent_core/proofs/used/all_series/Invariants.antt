use Rattle.std.proofs.Common.{◌≡◌, map, take}
use Rattle.replication.specs.Names.{words_of}
use Rattle.link_frames.specs.DataForm.{place_of}
use Rattle.agent_core.proofs.used.all_series.Given as goal

abbrev pub invariant-loop-beat : goal.invariant-loop-beat
invariant-loop-beat l = l.numbers.items ≡ map place_of (words_of (take l.beat-index l.beats))
