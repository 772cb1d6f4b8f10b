use Rattle.std.proofs.Common.{◌≡◌, ◌++◌, drop}
use Rattle.beat_points.specs.Numbered.{words_by}
use Rattle.beat_points.proofs.giving.push_words.Given as goal

abbrev pub invariant-loop-i : goal.invariant-loop-i
invariant-loop-i l = l.points.items ++ words_by (drop l.i l.values) (drop l.i l.words) ≡ l.initial.points.items ++ words_by l.values l.words
