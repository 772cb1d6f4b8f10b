use Rattle.std.proofs.Common.{take, subst, sym}
use Rattle.replication.specs.Marks.{AreMarksOf}
use Rattle.replication.specs.Names.{words_of}
use Rattle.replication.proofs.PrefixCode.{words_of-more}
use Rattle.replication.proofs.answer.marks_of.Goals as goal

pub loop-beat-preserved : goal.loop-beat-preserved
loop-beat-preserved c =
    let beats = c.args.beats.now in
    let i = c.loop-beat.beat-index in
    record {
      long = c.take_beat.ensures.long;
      marks = subst (λ words. AreMarksOf c.args.names.now words c.take_beat.new.self) (sym (words_of-more beats i c.beat-item.result c.loop-beat-test.true c.beat-item.is))
          (c.take_beat.ensures.marks (words_of (take i beats)) c.loop-beat.invariant.marks);
    }
