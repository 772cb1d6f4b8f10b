use Rattle.std.proofs.Common.{◌≡◌, List, ◌++◌, take, vec_len}
use Rattle.replication.specs.declared.beats.SeriesWord.{SeriesWord}
use Rattle.replication.specs.Marks.{AreMarks}
use Rattle.replication.specs.Names.{uses}
use Rattle.link_frames.proofs.used.mark_words.Given as goal

abbrev pub invariant-loop-word : goal.invariant-loop-word
invariant-loop-word l = record {
  long : vec_len l.marks ≡ vec_len l.fn.marks;
  marks : (before : List SeriesWord) → AreMarks (uses before) (vec_len l.fn.marks) l.fn.marks.items
      → AreMarks (uses (before ++ take l.word-index l.words)) (vec_len l.fn.marks) l.marks.items;
}
