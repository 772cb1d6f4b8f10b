use Rattle.std.proofs.Common.{◌≡◌, ◌+◌, ◌*◌, ◌≤◌, take}
use Rattle.replication.specs.Marks.{AreMarksOf, IsAsLongAs, words_size}
use Rattle.replication.specs.Names.{words_of}
use Rattle.replication.proofs.prefix.fitting_len.Given as goal

abbrev pub invariant-loop-beat : goal.invariant-loop-beat
invariant-loop-beat l = record {
  counted : l.count ≡ l.beat-index;
  within : l.count ≤ 64;
  long : IsAsLongAs l.names l.marks;
  marks : AreMarksOf l.names (words_of (take l.beat-index l.later)) l.marks;
  room : l.room + (37 + words_size l.names (words_of (take l.beat-index l.later)) + 8 * l.count) ≡ 1048576;
}
