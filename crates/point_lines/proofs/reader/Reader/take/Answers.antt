use Rattle.std.proofs.Common.{◌∙◌, sym, string_bytes, arith}
use Rattle.std.proofs.lemmas.Result.{err_from_is_err_and}
use Rattle.point_lines.specs.Judged.{every}
use Rattle.point_lines.proofs.StepLemmas.{count-steps, counts-at, reason-is, skipped-within, stops-block}
use Rattle.point_lines.proofs.reader.Reader.take.Goals as goal

pub count-requires-clause-skips : goal.count-requires-clause-skips
count-requires-clause-skips c =
    let past = c.requires.room.0 in
    let has = c.requires.room.1 in
    omega (arith, c.requires.room.2, has.skips, skipped-within past)

pub take_step-requires : goal.take_step-requires
take_step-requires c =
    let past = c.requires.room.0 in
    let has = c.requires.room.1 in
    let reason = sym (reason-is c.args.self.now past has c.args.line) ∙ c.in_ok-step.ensures.refused every past has.feed (counts-at c.args.self.now.feed c.args.self.now.registry c.args.line has.counts) in (
      past,
      c.args.line,
      rw (c.count.ensures, c.is_skipped-skipped.ensures) (count-steps c.args.self.now past c.args.line c.in_ok-step.step c.take_line.new.self has c.requires.limits reason
          (c.in_ok-step.ensures.taken every past has.feed) (c.in_ok-step.ensures.counts has.counts) (c.in_ok-step.ensures.gives every past has.feed)),
    )

pub returns-in_err-step : goal.returns-in_err-step
returns-in_err-step c past has =
    let error = err_from_is_err_and c.from_residual.result c.from_residual.ensures.1 in
    rw (error.1, error.2)
    (stops-block past c.args.line _ c.in_err-step.field-0.0 _ (reason-is c.args.self.now past has c.args.line)
    (c.in_err-step.ensures.refused every past has.feed (counts-at c.args.self.now.feed c.args.self.now.registry c.args.line has.counts)) (string_bytes c.args.out.now))

pub returns : goal.returns
returns c past has =
    let reason = sym (reason-is c.args.self.now past has c.args.line) ∙ c.in_ok-step.ensures.refused every past has.feed (counts-at c.args.self.now.feed c.args.self.now.registry c.args.line has.counts) in
    c.take_step.ensures c.args.line past (rw (c.count.ensures, c.is_skipped-skipped.ensures) (count-steps c.args.self.now past c.args.line c.in_ok-step.step c.take_line.new.self has c.requires.limits reason
    (c.in_ok-step.ensures.taken every past has.feed) (c.in_ok-step.ensures.counts has.counts) (c.in_ok-step.ensures.gives every past has.feed)))
