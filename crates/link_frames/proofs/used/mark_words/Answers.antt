use Rattle.std.proofs.Common.{◌<◌, ◌++◌, ◌∷◌, [], arith, true, set, take, get_or, refl, subst, vec_len}
use Rattle.std.proofs.lemmas.List.{get_or_default, take_all}
use Rattle.replication.specs.declared.beats.SeriesWord.{SeriesWord}
use Rattle.replication.specs.Marks.{AreMarks}
use Rattle.replication.specs.Names.{uses}
use Rattle.replication.proofs.MarksCode.{all-index, words-more}
use Rattle.replication.proofs.MarksLaws.{mark-more, uses-more}
use Rattle.link_frames.proofs.used.mark_words.Goals as goal

pub loop-word-preserved : goal.loop-word-preserved
loop-word-preserved c =
    let words = c.args.words.now in
    let i = c.loop-word.word-index in
    let n = vec_len c.args.marks.now in
    let marks = c.loop-word.marks.items in
    let none : SeriesWord = record { series = 0; word = 0 } in
    let word = get_or words i none in
    let within : word.series < n =
    all-index (λ (w : SeriesWord). w.series < n) words i word c.requires c.loop-word-test.true (get_or_default words i none word c.loop-word-test.true) in
    record {
      long = c.loop-word.invariant.long;
      marks = λ before are.
          subst (λ all. AreMarks (uses all) n (set marks word.series true)) (words-more before words words i none refl c.loop-word-test.true)
          (mark-more (uses (before ++ take i words)) (uses ((before ++ take i words) ++ word ∷ [])) n word.series marks (λ j. uses-more (before ++ take i words) word j) within (c.loop-word.invariant.marks before are));
    }

pub returns-clause-marks : goal.returns-clause-marks
returns-clause-marks c =
    let all = take_all c.loop-word.word-index c.args.words.now (omega (arith, c.loop-word-test.false)) in
    λ before are. subst (λ taken. AreMarks (uses (before ++ taken)) (vec_len c.args.marks.now) c.loop-word.marks.items) all (c.loop-word.invariant.marks before are)
