use Rattle.std.proofs.Common.{◌≡◌, length, take, vec_len}
use Rattle.replication.specs.Marks.{AreMarks}
use Rattle.replication.specs.Names.{uses, words_of}
use Rattle.link_frames.proofs.used.are_dimensions_used.Given as goal

abbrev pub invariant-loop-beat : goal.invariant-loop-beat
invariant-loop-beat l = record {
  long : vec_len l.marks ≡ length l.message.names.dimensions;
  marks : AreMarks (uses (words_of (take l.beat-index l.message.beats))) (length l.message.names.dimensions) l.marks.items;
}
