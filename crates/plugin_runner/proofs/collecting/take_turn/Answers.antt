use Rattle.std.proofs.Common.{◌≡◌, ℕ, ◌++◌, min, List, length, take, sym, subst, arith}
use Rattle.line_stream.specs.Run.{Ended}
use Rattle.line_stream.specs.Stream.{HasTaken}
use Rattle.host_model.specs.declared.status.Status.TheVariants.{InputLimit}
use Rattle.plugin_runner.specs.declared.collecting.Halt.TheVariants.{AtEnd, Within, Failed}
use Rattle.plugin_runner.specs.declared.fault.Turn.TheVariants as turn
use Rattle.plugin_runner.specs.Collecting.{HasPut}
use Rattle.plugin_runner.proofs.CollectLemmas.{all_is, below_limit, collected, limit-ended, ok_is, put-next, size_is}
use Rattle.plugin_runner.proofs.collecting.take_turn.Goals as goal

pub returns-in-Err-clause-stops : goal.returns-in-Err-clause-stops
returns-in-Err-clause-stops g c start begin text has spent course before first put =
    let out = c.turn-answer.new.out in
    let size = c.min-taken.result in
    let is : size ≡ min c.args.budget (length out) = omega (arith, c.min-taken.ensures, c.len.ensures) in
    collected course text c.args.runner.now c.turn-answer.new.self c.turn-answer.result before (g.P.Spawner.children c.args.spawner.now) (g.P.Spawner.children c.turn-answer.new.spawner) first (g.C.Clock.readings c.args.clock.now) (g.C.Clock.readings c.turn-answer.new.clock)
    (g.P.Spawner.faults c.args.spawner.now) (g.P.Spawner.faults c.turn-answer.new.spawner) c.clear.new.self out c.clear.ensures put (c.turn-answer.ensures.goes put.course put.is)
    g.T.Taker.acts (Within c.in-Err.status) start c.take_piece.new.taker begin c.take_piece.new.host c.args.budget size c.turn-answer.ensures.turned.lasting spent is
    (λ left. subst (λ (b : List ℕ). Ended g.T.Taker.acts c.in-Err.status start begin (text ++ take size b) c.take_piece.new.taker c.take_piece.new.host left ⊥) c.as_slice.ensures (c.in-Err.ensures.stops start begin text has left))

pub returns-then-taken-budget-clause-stops : goal.returns-then-taken-budget-clause-stops
returns-then-taken-budget-clause-stops g c start begin text has spent course before first put =
    let out = c.turn-answer.new.out in
    let size = c.min-taken.result in
    let is : size ≡ min c.args.budget (length out) = omega (arith, c.min-taken.ensures, c.len.ensures) in
    let has' : HasTaken g.T.Taker.acts c.take_piece.new.self start begin (text ++ take size out) c.take_piece.new.taker c.take_piece.new.host =
    subst (λ (b : List ℕ). HasTaken g.T.Taker.acts c.take_piece.new.self start begin (text ++ take size b) c.take_piece.new.taker c.take_piece.new.host) c.as_slice.ensures (c.in_default.ensures.goes_on start begin text has) in
    collected course text c.args.runner.now c.turn-answer.new.self c.turn-answer.result before (g.P.Spawner.children c.args.spawner.now) (g.P.Spawner.children c.turn-answer.new.spawner) first (g.C.Clock.readings c.args.clock.now) (g.C.Clock.readings c.turn-answer.new.clock)
    (g.P.Spawner.faults c.args.spawner.now) (g.P.Spawner.faults c.turn-answer.new.spawner) c.clear.new.self out c.clear.ensures put (c.turn-answer.ensures.goes put.course put.is)
    g.T.Taker.acts (Within InputLimit) start c.take_piece.new.taker begin c.take_piece.new.host c.args.budget size c.turn-answer.ensures.turned.lasting spent is
    (limit-ended g.T.Taker.acts c.take_piece.new.self start c.take_piece.new.taker begin c.take_piece.new.host text out c.args.budget size spent is c.if-taken-budget.true has')

pub returns-in-Ok-More-clause-goes_on : goal.returns-in-Ok-More-clause-goes_on
returns-in-Ok-More-clause-goes_on g c start begin text has =
    let old = c.args.runner.now in
    let new = c.turn-answer.new.self in
    let out = c.turn-answer.new.out in
    let size = c.min-taken.result in
    let is : size ≡ min c.args.budget (length out) = omega (arith, c.min-taken.ensures, c.len.ensures) in
    record {
      added = take size out;
      size_is = size_is out c.args.budget size is;
      held = subst (λ (b : List ℕ). HasTaken g.T.Taker.acts c.take_piece.new.self start begin (text ++ take size b) c.take_piece.new.taker c.take_piece.new.host) c.as_slice.ensures (c.in_default.ensures.goes_on start begin text has);
      put = λ course before first put.
          subst (λ (b : List ℕ). HasPut course new (text ++ b) before (g.P.Spawner.children c.turn-answer.new.spawner) first (g.C.Clock.readings c.turn-answer.new.clock)) (sym (all_is out c.args.budget size is c.if-taken-budget.false))
          (put-next course text old new c.turn-answer.result before (g.P.Spawner.children c.args.spawner.now) (g.P.Spawner.children c.turn-answer.new.spawner) first (g.C.Clock.readings c.args.clock.now) (g.C.Clock.readings c.turn-answer.new.clock)
          (g.P.Spawner.faults c.args.spawner.now) (g.P.Spawner.faults c.turn-answer.new.spawner) c.clear.new.self out c.clear.ensures put (c.turn-answer.ensures.goes put.course put.is) (ok_is c.turn-answer.result c.in-Ok-More.field-0 turn.More c.in-Ok-More.is (rw c.in-Ok-More.is at c.in-Ok-More.field-0-is)));
    }

pub returns-in-Ok-Ended-clause-stops : goal.returns-in-Ok-Ended-clause-stops
returns-in-Ok-Ended-clause-stops g c start begin text has spent course before first put =
    let out = c.turn-answer.new.out in
    let size = c.min-taken.result in
    let is : size ≡ min c.args.budget (length out) = omega (arith, c.min-taken.ensures, c.len.ensures) in
    let has' : HasTaken g.T.Taker.acts c.take_piece.new.self start begin (text ++ take size out) c.take_piece.new.taker c.take_piece.new.host =
    subst (λ (b : List ℕ). HasTaken g.T.Taker.acts c.take_piece.new.self start begin (text ++ take size b) c.take_piece.new.taker c.take_piece.new.host) c.as_slice.ensures (c.in_default.ensures.goes_on start begin text has) in
    collected course text c.args.runner.now c.turn-answer.new.self c.turn-answer.result before (g.P.Spawner.children c.args.spawner.now) (g.P.Spawner.children c.turn-answer.new.spawner) first (g.C.Clock.readings c.args.clock.now) (g.C.Clock.readings c.turn-answer.new.clock)
    (g.P.Spawner.faults c.args.spawner.now) (g.P.Spawner.faults c.turn-answer.new.spawner) c.clear.new.self out c.clear.ensures put (c.turn-answer.ensures.goes put.course put.is)
    g.T.Taker.acts (AtEnd c.end.result) start c.end.new.taker begin c.end.new.host c.args.budget size c.turn-answer.ensures.turned.lasting spent is (
      ok_is c.turn-answer.result c.in-Ok-Ended.field-0 turn.Ended c.in-Ok-Ended.is (rw c.in-Ok-Ended.is at c.in-Ok-Ended.field-0-is),
      record {
        taker' = c.take_piece.new.taker;
        host' = c.take_piece.new.host;
        below = below_limit text out c.args.budget size spent is c.if-taken-budget.false;
        took = has'.took;
        ends = c.end.ensures.ends start begin (text ++ take size out) has';
      },
    )

pub returns-in-Err-answer-clause-stops : goal.returns-in-Err-answer-clause-stops
returns-in-Err-answer-clause-stops g c start begin text has spent course before first put =
    let out = c.turn-answer.new.out in
    let size = c.min-taken.result in
    let is : size ≡ min c.args.budget (length out) = omega (arith, c.min-taken.ensures, c.len.ensures) in
    let has' : HasTaken g.T.Taker.acts c.take_piece.new.self start begin (text ++ take size out) c.take_piece.new.taker c.take_piece.new.host =
    subst (λ (b : List ℕ). HasTaken g.T.Taker.acts c.take_piece.new.self start begin (text ++ take size b) c.take_piece.new.taker c.take_piece.new.host) c.as_slice.ensures (c.in_default.ensures.goes_on start begin text has) in
    collected course text c.args.runner.now c.turn-answer.new.self c.turn-answer.result before (g.P.Spawner.children c.args.spawner.now) (g.P.Spawner.children c.turn-answer.new.spawner) first (g.C.Clock.readings c.args.clock.now) (g.C.Clock.readings c.turn-answer.new.clock)
    (g.P.Spawner.faults c.args.spawner.now) (g.P.Spawner.faults c.turn-answer.new.spawner) c.clear.new.self out c.clear.ensures put (c.turn-answer.ensures.goes put.course put.is)
    g.T.Taker.acts (Failed c.in-Err-answer.fault) start c.take_piece.new.taker begin c.take_piece.new.host c.args.budget size c.turn-answer.ensures.turned.lasting spent is (
      c.in-Err-answer.is,
      record {
        below = below_limit text out c.args.budget size spent is c.if-taken-budget.false;
        took = has'.took;
        paused = has'.paused;
      },
    )
