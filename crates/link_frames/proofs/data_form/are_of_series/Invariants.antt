use Rattle.std.proofs.Common.{take}
use Rattle.replication.specs.Answer.{AreOfSeries}
use Rattle.link_frames.proofs.data_form.are_of_series.Given as goal

abbrev pub invariant-loop-word : goal.invariant-loop-word
invariant-loop-word l = AreOfSeries l.series (take l.word-index l.words)
