use Rattle.std.proofs.Common.{take}
use Rattle.host_model.specs.Entry.{past_of}
use Rattle.host_model.specs.Replay.{Replays}
use Rattle.host_model.proofs.replay.replayed.Given as goal

abbrev pub invariant-loop-entry : goal.invariant-loop-entry
invariant-loop-entry l = Replays l.fill l.file (past_of (take l.entry-index l.entries)) l.replay.now l.replay.left
