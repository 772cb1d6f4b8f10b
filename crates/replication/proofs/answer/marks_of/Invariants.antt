use Rattle.std.proofs.Common.{take}
use Rattle.replication.specs.Marks.{AreMarksOf, IsAsLongAs}
use Rattle.replication.specs.Names.{words_of}
use Rattle.replication.proofs.answer.marks_of.Given as goal

abbrev pub invariant-loop-beat : goal.invariant-loop-beat
invariant-loop-beat l = record {
  long : IsAsLongAs l.names l.marks;
  marks : AreMarksOf l.names (words_of (take l.beat-index l.beats)) l.marks;
}
