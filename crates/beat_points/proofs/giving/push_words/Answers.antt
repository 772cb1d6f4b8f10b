use Rattle.std.proofs.Common.{arith}
use Rattle.beat_points.proofs.NumberedLemmas.{words-more}
use Rattle.beat_points.proofs.giving.push_words.Goals as goal

pub loop-i-preserved : goal.loop-i-preserved
loop-i-preserved c =
    words-more c.loop-i.points.items c.push_word.new.points.items c.args.values.now c.args.words.now c.loop-i.i _ _ _
    c.loop-i-test.true (omega arith) c.in_ok-push_word.ensures c.loop-i.invariant
