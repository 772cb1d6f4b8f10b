use Rattle.std.proofs.Common.{◌≡◌, ◌+◌, List, ◌++◌, take}
use Rattle.replication.specs.declared.beats.SeriesWord.{SeriesWord}
use Rattle.replication.specs.Marks.{AreMarksOf, IsAsLongAs, words_size}
use Rattle.replication.proofs.marks.Marks.room_after.Given as goal

abbrev pub invariant-loop-word : goal.invariant-loop-word
invariant-loop-word l = record {
  long : IsAsLongAs l.names l.self;
  marks : (words : List SeriesWord) → AreMarksOf l.names words l.fn.self → AreMarksOf l.names (words ++ take l.word-index l.beat.words) l.self;
  room : (words : List SeriesWord) → AreMarksOf l.names words l.fn.self
      → l.room + (8 + words_size l.names (words ++ take l.word-index l.beat.words)) ≡ l.fn.room + words_size l.names words;
}
