use Rattle.std.proofs.Common.{take}
use Rattle.replication.specs.Answer.{AreBeatsOf}
use Rattle.link_frames.proofs.data_form.are_beats_of.Given as goal

abbrev pub invariant-loop-beat : goal.invariant-loop-beat
invariant-loop-beat l = AreBeatsOf l.series (take l.beat-index l.beats)
