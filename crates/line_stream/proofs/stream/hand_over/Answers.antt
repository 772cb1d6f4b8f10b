use Rattle.std.proofs.Common.{◌+◌, refl, sym, arith}
use Rattle.std.proofs.lemmas.Result.{err_from_is_err_and}
use Rattle.line_stream.proofs.ChainLemmas.{chain-next, broke-next}
use Rattle.line_stream.proofs.stream.hand_over.Goals as goal

pub returns-in_err-hand_line-clause-handed : goal.returns-in_err-hand_line-clause-handed
returns-in_err-hand_line-clause-handed g c start begin prefix counted chain =
    let p = err_from_is_err_and c.from_residual.result c.from_residual.ensures.1 in
    let before = c.loop-at.invariant.0 start begin prefix counted chain in
    rw (p.1, p.2) (broke-next g.T.Taker.acts start begin prefix c.args.lines.now c.loop-at.at c.line.result.now c.line.result.now (c.loop-at.count + 1) c.hand_line.result c.in_err-hand_line.field-0.0 c.loop-at.taker c.hand_line.new.taker c.loop-at.host c.hand_line.new.host
    before (omega (arith, c.loop-at-test.true, c.len-at-end.ensures)) (sym c.line.ensures) refl (omega (arith, c.loop-at.invariant.1, counted)) c.hand_line.ensures.takes c.in_err-hand_line.was)

pub loop-at-preserved : goal.loop-at-preserved
loop-at-preserved g c = (
  λ start begin prefix counted chain.
      let before = c.loop-at.invariant.0 start begin prefix counted chain in
      chain-next g.T.Taker.acts start begin prefix c.args.lines.now c.loop-at.at c.line.result.now c.line.result.now (c.loop-at.count + 1) c.hand_line.result c.loop-at.taker c.hand_line.new.taker c.loop-at.host c.hand_line.new.host
      before (omega (arith, c.loop-at-test.true, c.len-at-end.ensures)) (sym c.line.ensures) refl (omega (arith, c.loop-at.invariant.1, counted)) c.hand_line.ensures.takes c.in_ok-hand_line.was,
  omega (arith, c.in_ok-hand_line.ensures.count, c.loop-at.invariant.1),
  c.in_ok-hand_line.ensures.ready,
)
