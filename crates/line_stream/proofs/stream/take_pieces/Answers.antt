use Rattle.std.proofs.Common.{ℕ, ◌∙◌, refl, arith, length-take}
use Rattle.line_stream.specs.Stream.{HasTaken}
use Rattle.line_stream.proofs.RunLemmas.{start-taken, start-running, step-running, stop-ran, limit-ran}
use Rattle.line_stream.proofs.stream.take_pieces.Goals as goal

pub loop-budget-init : goal.loop-budget-init
loop-budget-init g c =
    let start = c.requires.start in (
      start-running g.T.Taker.acts (λ text. HasTaken g.T.Taker.acts c.args.stream.now c.args.taker.now c.args.host.now text c.args.taker.now c.args.host.now) (g.S.Source.left c.args.source.now) (start-taken g.T.Taker.acts c.args.stream.now c.args.taker.now c.args.host.now start),
      refl,
      rw start.none c.requires.ready,
    )

pub loop-budget-preserved : goal.loop-budget-preserved
loop-budget-preserved g c =
    let before = c.loop-budget.invariant.0 in (
      step-running g.T.Taker.acts _ _ c.loop-budget.budget c.in-Ok.taken _ _ _ before (c.in-Ok.ensures.goes_on c.args.taker.now c.args.host.now before.text before.held)
          (omega (arith, c.in-Ok.ensures.within, c.min-room.ensures, length-take {A = ℕ} c.min-room.result c.loop-budget.piece)),
      c.in-Ok.ensures.stays (λ e. cc) ∙ c.loop-budget.invariant.1,
      c.in-Ok.ensures.ready,
    )

pub returns-in-Err-clause-ran : goal.returns-in-Err-clause-ran
returns-in-Err-clause-ran g c =
    let before = c.loop-budget.invariant.0 in
    stop-ran g.T.Taker.acts _ c.in-Err.status c.args.taker.now c.take_next.new.taker c.args.host.now c.take_next.new.host c.loop-budget.budget _ _ _ _ _ _ before (omega (arith, c.loop-budget.invariant.1))
    (c.in-Err.ensures.stops c.args.taker.now c.args.host.now before.text before.held (omega (arith, before.spent, c.min-room.ensures, length-take {A = ℕ} c.min-room.result c.loop-budget.piece))) c.in-Err.ensures.count

pub returns-clause-ran : goal.returns-clause-ran
returns-clause-ran g c =
    limit-ran g.T.Taker.acts c.loop-budget.stream c.args.taker.now c.loop-budget.taker c.args.host.now c.loop-budget.host c.loop-budget.budget _ _ _ c.loop-budget.invariant.0 (omega (arith, c.loop-budget-test.false))
