use Rattle.std.proofs.Common.{◌≡◌, ◌+◌, ◌*◌, ◌<◌, ◌++◌, get_or, take, refl, subst, sym, ap, ◌∙◌, arith}
use Rattle.replication.specs.Marks.{AreMarksOf, words_size}
use Rattle.replication.specs.Names.{words_of}
use Rattle.replication.proofs.PrefixCode.{words_of-more, prefix-all, prefix-full, prefix-stops}
use Rattle.replication.proofs.MarksCode.{words_size-none}
use Rattle.replication.proofs.prefix.fitting_len.Goals as goal
use Rattle.replication.proofs.prefix.fitting_len.Goals.{else-loop-beat-test, then-loop-beat-test+then-count-eq-BEAT_LIMIT, then-loop-beat-test+else-count-eq-BEAT_LIMIT+in-None}

pub loop-beat-init : goal.loop-beat-init
loop-beat-init c =
    let are = c.in_ok-marks.ensures in
    record {
      counted = refl;
      within = omega arith;
      long = record { dimensions = are.dimensions.long; charts = are.charts.long };
      marks = are;
      room = omega (arith, words_size-none c.args.names.now);
    }

pub loop-beat-preserved : goal.loop-beat-preserved
loop-beat-preserved c =
    let names = c.args.names.now in
    let later = c.args.later.now in
    let i = c.loop-beat.beat-index in
    let before = words_of (take i later) in
    let more = words_of-more later i c.beat-item.result c.loop-beat-test.true c.beat-item.is in
    let left = c.in-Some.ensures.room before c.loop-beat.invariant.marks in
    record {
      counted = omega (arith, c.loop-beat.invariant.counted);
      within = omega (arith, c.loop-beat.invariant.within, c.if-count-eq-BEAT_LIMIT.false);
      long = c.room_after.ensures.long;
      marks = subst (λ words. AreMarksOf names words c.room_after.new.self) (sym more) (c.in-Some.ensures.marks before c.loop-beat.invariant.marks);
      room = omega (arith, c.loop-beat.invariant.room, left, ap (words_size names) more);
    }

pub returns-clause-prefix : goal.returns-clause-prefix
returns-clause-prefix c =
    let names = c.args.names.now in
    let later = c.args.later.now in
    let inv = c.loop-beat.invariant in
    let count = c.loop-beat.count in
    let room = c.loop-beat.room in
    let size = subst (λ i. room + (37 + words_size names (words_of (take i later)) + 8 * count) ≡ 1048576) (sym inv.counted) inv.room in
    λ child floor prev. ap (λ n. take n later) c.max.ensures ∙ elim c.loop-beat-test.branch [
      | else-loop-beat-test w ↦ prefix-all child floor prev names later count room (omega (arith, inv.counted, w.loop-beat-test.false)) inv.within size
      | then-loop-beat-test+then-count-eq-BEAT_LIMIT w ↦ prefix-full child floor prev names later count room (omega (arith, inv.counted, w.loop-beat-test.true)) (omega (arith, w.if-count-eq-BEAT_LIMIT.true)) size
      | then-loop-beat-test+else-count-eq-BEAT_LIMIT+in-None w ↦
          prefix-stops child floor prev names later count room w.beat-item.result (omega (arith, inv.counted, w.loop-beat-test.true)) inv.within
          (subst (λ i. w.beat-item.result ≡ get_or later i w.beat-item.result) (sym inv.counted) w.beat-item.is) size
          (subst (λ i. room + words_size names (words_of (take i later)) < 8 + words_size names (words_of (take i later) ++ w.beat-item.result.words)) (sym inv.counted)
          (w.in-None.ensures.room (words_of (take c.loop-beat.beat-index later)) inv.marks))
    ]
