use Rattle.std.proofs.Common.{take}
use Rattle.replication.specs.Answer.{HaveWords}
use Rattle.link_frames.proofs.data_form.have_words.Given as goal

abbrev pub invariant-loop-beat : goal.invariant-loop-beat
invariant-loop-beat l = HaveWords (take l.beat-index l.beats)
