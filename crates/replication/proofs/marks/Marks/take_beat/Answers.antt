use Rattle.std.proofs.Common.{◌++◌, length, take, subst, ap, arith}
use Rattle.std.proofs.lemmas.List.{take_all}
use Rattle.replication.specs.Marks.{AreMarksOf}
use Rattle.replication.proofs.MarksCode.{words-more}
use Rattle.replication.proofs.marks.Marks.take_beat.Goals as goal

pub loop-word-preserved : goal.loop-word-preserved
loop-word-preserved c =
    let more = c.args.beat.now.words in
    let i = c.loop-word.word-index in
    record {
      long = c.take-size.ensures.long;
      marks = λ words are. subst (λ all. AreMarksOf c.args.names.now all c.take-size.new.self) (words-more words more _ i _ c.as_slice-word-items.ensures c.loop-word-test.true)
          (c.take-size.ensures.marks (words ++ take i more) (c.loop-word.invariant.marks words are));
    }

pub returns-clause-marks : goal.returns-clause-marks
returns-clause-marks c =
    let all = take_all c.loop-word.word-index c.args.beat.now.words (omega (arith, ap length c.as_slice-word-items.ensures, c.loop-word-test.false)) in
    λ words are. subst (λ taken. AreMarksOf c.args.names.now (words ++ taken) c.loop-word.self) all (c.loop-word.invariant.marks words are)
