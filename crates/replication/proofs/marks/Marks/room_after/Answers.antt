use Rattle.std.proofs.Common.{◌≡◌, ◌+◌, ◌++◌, length, take, subst, ap, arith}
use Rattle.std.proofs.lemmas.List.{take_all}
use Rattle.replication.specs.Marks.{AreMarksOf, words_size}
use Rattle.replication.proofs.MarksCode.{words-more, word-past, word-within}
use Rattle.replication.proofs.MarksLaws.{words_size-rises}
use Rattle.replication.proofs.marks.Marks.room_after.Goals as goal

pub returns-then-room-lt8-clause-room : goal.returns-then-room-lt8-clause-room
returns-then-room-lt8-clause-room c = λ words are. omega (arith, words_size-rises c.args.names.now words c.args.beat.now.words)

pub returns-then-size-room-clause-room : goal.returns-then-size-room-clause-room
returns-then-size-room-clause-room c =
    let more = c.args.beat.now.words in
    let i = c.loop-word.word-index in
    λ words are. word-past c.args.names.now words more _ i _ c.loop-word.room c.args.room c.take-size.result c.as_slice-word-items.ensures c.loop-word-test.true
    (c.loop-word.invariant.room words are) (c.take-size.ensures.size (words ++ take i more) (c.loop-word.invariant.marks words are)) c.if-size-room.true

pub loop-word-preserved : goal.loop-word-preserved
loop-word-preserved c =
    let names = c.args.names.now in
    let more = c.args.beat.now.words in
    let i = c.loop-word.word-index in
    record {
      long = c.take-size.ensures.long;
      marks = λ words are. subst (λ all. AreMarksOf names all c.take-size.new.self) (words-more words more _ i _ c.as_slice-word-items.ensures c.loop-word-test.true)
          (c.take-size.ensures.marks (words ++ take i more) (c.loop-word.invariant.marks words are));
      room = λ words are. word-within names words more _ i _ c.loop-word.room c.args.room c.take-size.result c.as_slice-word-items.ensures c.loop-word-test.true
          (c.loop-word.invariant.room words are) (c.take-size.ensures.size (words ++ take i more) (c.loop-word.invariant.marks words are)) c.if-size-room.false;
    }

pub returns-clause-marks : goal.returns-clause-marks
returns-clause-marks c =
    let more = c.args.beat.now.words in
    let all = take_all c.loop-word.word-index more (omega (arith, ap length c.as_slice-word-items.ensures, c.loop-word-test.false)) in
    λ words are. subst (λ taken. AreMarksOf c.args.names.now (words ++ taken) c.loop-word.self) all (c.loop-word.invariant.marks words are)

pub returns-clause-room : goal.returns-clause-room
returns-clause-room c =
    let more = c.args.beat.now.words in
    let all = take_all c.loop-word.word-index more (omega (arith, ap length c.as_slice-word-items.ensures, c.loop-word-test.false)) in
    λ words are. subst (λ taken. c.loop-word.room + (8 + words_size c.args.names.now (words ++ taken)) ≡ c.args.room + words_size c.args.names.now words) all (c.loop-word.invariant.room words are)
