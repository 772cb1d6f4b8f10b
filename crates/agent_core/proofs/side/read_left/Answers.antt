use Rattle.std.proofs.lemmas.Result.{err_from_is_err_and, IfErr-weaker, IfOk-weaker}
use Rattle.agent_core.proofs.SideLemmas.{bad-noted, fits, good-noted, if-err-both, left-read, never-bad, never-unread, none-noted}
use Rattle.agent_core.proofs.ReplayLemmas.{only-memory}
use Rattle.agent_core.proofs.side.read_left.Goals as goal

pub returns-in_err-side-clause-stands : goal.returns-in_err-side-clause-stands
returns-in_err-side-clause-stands c =
    let error = err_from_is_err_and c.from_residual.result c.from_residual.ensures.1 in
    rw (error.1, error.2) (λ set h beats are of.
    only-memory c.in_err-side.field-0.0 c.in_err-side.ensures.faults
    (λ damaged. never-unread set h beats are c.args.bytes.now of (c.in_err-side.ensures.broken damaged)))

pub returns-in_err-side-clause-broken : goal.returns-in_err-side-clause-broken
returns-in_err-side-clause-broken c =
    let error = err_from_is_err_and c.from_residual.result c.from_residual.ensures.1 in
    rw (error.1, error.2) (λ damaged. none-noted c.args.bytes.now (c.in_err-side.ensures.broken damaged))

pub returns-clause-noted : goal.returns-clause-noted
returns-clause-noted c =
    IfOk-weaker c.left_of.result _ _ (λ left is. good-noted c.in_ok-side.side left is c.args.bytes.now c.in_ok-side.ensures.found) c.left_of.ensures.read

pub returns-clause-fit : goal.returns-clause-fit
returns-clause-fit c = IfOk-weaker c.left_of.result _ _ (λ left is. fits c.in_ok-side.side left is) c.left_of.ensures.read

pub returns-clause-left : goal.returns-clause-left
returns-clause-left c =
    IfOk-weaker c.left_of.result _ _ (λ left is set h beats are of. left-read set h beats are c.args.bytes.now c.in_ok-side.side left c.in_ok-side.ensures.found is of) c.left_of.ensures.read

pub returns-clause-stands : goal.returns-clause-stands
returns-clause-stands c =
    if-err-both c.left_of.result _ _ _
    (λ fault broken faults set h beats are of.
    only-memory fault faults (λ damaged. never-bad set h beats are c.args.bytes.now c.in_ok-side.side c.in_ok-side.ensures.found of (broken damaged))) c.left_of.ensures.broken c.left_of.ensures.faults

pub returns-clause-broken : goal.returns-clause-broken
returns-clause-broken c =
    IfErr-weaker c.left_of.result _ _ (λ fault broken damaged. bad-noted c.args.bytes.now c.in_ok-side.side c.in_ok-side.ensures.found (broken damaged)) c.left_of.ensures.broken
