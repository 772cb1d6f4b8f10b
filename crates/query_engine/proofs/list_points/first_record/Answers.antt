use Rattle.std.proofs.Common.{◌+◌, ◌∙◌, sym, arith}
use Rattle.query_engine.proofs.FirstLemmas.{none_more, first_here}
use Rattle.query_engine.proofs.list_points.first_record.Goals.{then-from-bucket+then-bucket-to+in_default, else-from-bucket, else-from-bucket-via-then-from-bucket+else-bucket-to, else-from-bucket-via-else-from-bucket}
use Rattle.query_engine.proofs.list_points.first_record.Goals as goal

pub returns-in-Some : goal.returns-in-Some
returns-in-Some c = λ rising.
    first_here c.args.width c.args.floor c.args.from c.args.to c.loop-point.point-index c.args.points.now (record { moment = 0; word = 0 }) c.in-Some.record
    rising c.requires c.loop-point-test.true (c.loop-point.invariant rising) c.if-from-bucket.true c.if-bucket-to.true
    (sym (c.record_at.ensures rising) ∙ c.in-Some.is)

pub loop-point-preserved : goal.loop-point-preserved
loop-point-preserved c = λ rising.
    none_more c.args.width c.args.floor c.args.from (c.args.to + 1) c.loop-point.point-index c.args.points.now (record { moment = 0; word = 0 })
    c.requires c.loop-point-test.true (c.loop-point.invariant rising)
    (λ low high. elim c.if-from-bucket.branch [
      | then-from-bucket+then-bucket-to+in_default w ↦ sym (w.record_at.ensures rising) ∙ w.in_default.is
      | else-from-bucket w ↦ elim w.else-from-bucket.branch [
        | else-from-bucket-via-then-from-bucket+else-bucket-to w' ↦ absurd (omega (arith, high, w'.if-bucket-to.false))
        | else-from-bucket-via-else-from-bucket w' ↦ absurd (omega (arith, low, w'.if-from-bucket.false))
      ]
    ])
