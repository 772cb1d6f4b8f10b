use Rattle.std.proofs.Common.{List, ◌++◌, take}
use Rattle.replication.specs.declared.beats.SeriesWord.{SeriesWord}
use Rattle.replication.specs.Marks.{AreMarksOf, IsAsLongAs}
use Rattle.replication.proofs.marks.Marks.take_beat.Given as goal

abbrev pub invariant-loop-word : goal.invariant-loop-word
invariant-loop-word l = record {
  long : IsAsLongAs l.names l.self;
  marks : (words : List SeriesWord) → AreMarksOf l.names words l.fn.self → AreMarksOf l.names (words ++ take l.word-index l.beat.words) l.self;
}
