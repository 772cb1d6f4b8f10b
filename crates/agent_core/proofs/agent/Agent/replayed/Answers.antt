use Rattle.std.proofs.Common.{false, true, refl, sym, ap, subst, ◌∙◌}
use Rattle.std.proofs.lemmas.Result.{err_from_is_err_and}
use Rattle.agent_core.specs.Notes.{noted_in, noted_in_side}
use Rattle.agent_core.specs.Sides.{IsSideOf}
use Rattle.agent_core.proofs.NoteLemmas.{goes-by, left-is, never-good}
use Rattle.agent_core.proofs.OpeningLemmas.{opened-at, replayed-is_of}
use Rattle.agent_core.proofs.agent.Agent.replayed.Goals as goal

-- ---- a store of a history
pub returns-in_err-left-clause-stands : goal.returns-in_err-left-clause-stands
returns-in_err-left-clause-stands g c =
    let error = err_from_is_err_and c.from_residual.result c.from_residual.ensures.1 in
    rw (error.1, error.2) (λ past set h opened.
    let at = opened-at past c.args.store set h opened in
    c.in_err-left.ensures.stands set at.earlier at.beats at.were (subst (IsSideOf set at.earlier) (sym c.side.ensures) at.side))

pub returns-in_err-replay_all-clause-stands : goal.returns-in_err-replay_all-clause-stands
returns-in_err-replay_all-clause-stands g c =
    let error = err_from_is_err_and c.from_residual-in_err-replay_all.result c.from_residual-in_err-replay_all.ensures.1 in
    rw (error.1, error.2) (λ past set h opened.
    let at = opened-at past c.args.store set h opened in
    let start = c.in_ok-left.ensures.left set at.earlier at.beats at.were (subst (IsSideOf set at.earlier) (sym c.side.ensures) at.side) in
    c.in_err-replay_all.ensures.stands past set at.earlier h at.at start)

pub returns-clause-of : goal.returns-clause-of
returns-clause-of g c past set h opened =
    let at = opened-at past c.args.store set h opened in
    let start = c.in_ok-left.ensures.left set at.earlier at.beats at.were (subst (IsSideOf set at.earlier) (sym c.side.ensures) at.side) in
    replayed-is_of past _ set h (c.in_ok-replay_all.ensures.holds past set at.earlier h at.at start) (c.in_ok-replay_all.ensures.left_by past set at.earlier h at.at start) c.last.ensures c.count.ensures refl

-- ---- whatever beats wait
pub returns-in_err-left-clause-broken : goal.returns-in_err-left-clause-broken
returns-in_err-left-clause-broken g c =
    let error = err_from_is_err_and c.from_residual.result c.from_residual.ensures.1 in
    rw (error.1, error.2) (λ damaged.
    never-good c.args.store.body.side c.args.store.waiting (ap noted_in_side (sym c.side.ensures) ∙ c.in_err-left.ensures.broken damaged))

pub returns-in_err-replay_all-clause-broken : goal.returns-in_err-replay_all-clause-broken
returns-in_err-replay_all-clause-broken g c =
    let error = err_from_is_err_and c.from_residual-in_err-replay_all.result c.from_residual-in_err-replay_all.ensures.1 in
    rw (error.1, error.2) (λ damaged.
    goes-by (noted_in c.in_ok-left.left) c.args.store.body.side c.args.store.waiting false
    (ap noted_in_side (sym c.side.ensures) ∙ c.in_ok-left.ensures.noted) (c.in_err-replay_all.ensures.broken damaged))

pub returns-in_err-replay_all-clause-faults : goal.returns-in_err-replay_all-clause-faults
returns-in_err-replay_all-clause-faults g c =
    let error = err_from_is_err_and c.from_residual-in_err-replay_all.result c.from_residual-in_err-replay_all.ensures.1 in
    rw (error.1, error.2) c.in_err-replay_all.ensures.faults

pub returns-clause-notes : goal.returns-clause-notes
returns-clause-notes g c =
    goes-by (noted_in c.in_ok-left.left) c.args.store.body.side c.args.store.waiting true
    (ap noted_in_side (sym c.side.ensures) ∙ c.in_ok-left.ensures.noted) c.in_ok-replay_all.ensures.notes

pub returns-clause-left : goal.returns-clause-left
returns-clause-left g c = record {
  noted = left-is (noted_in c.in_ok-left.left) (noted_in c.replay_all.new.left) c.args.store.body.side c.args.store.waiting
      (ap noted_in_side (sym c.side.ensures) ∙ c.in_ok-left.ensures.noted) c.in_ok-replay_all.ensures.noted;
}
