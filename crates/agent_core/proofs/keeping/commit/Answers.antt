use Rattle.std.proofs.Common.{Err, ap}
use Rattle.std.proofs.lemmas.Result.{err_from_is_err_and}
use Rattle.store_core.specs.Store.{StoreState}
use Rattle.store_core.specs.Stored.{stored_with}
use Rattle.agent_core.proofs.BoundLemmas.{around-reached, commit-grows, store-reached, stored-number}
use Rattle.agent_core.proofs.KeepsLemmas.{checkpoint-failed, commit-fails, never-before}
use Rattle.agent_core.proofs.keeping.commit.Goals as goal

pub returns-clause-bound : goal.returns-clause-bound
returns-clause-bound g c true_host set h holds limit =
    let past = (g.H.Host.seen c.args.host.now).past in
    let new = (g.H.Host.seen c.commit.new.host).past in
    commit-grows past new c.args.store.now c.commit.new.self set h holds true_host limit
    (stored-number past new c.args.store.now c.commit.new.self set h holds c.args.kept.now (c.in_ok-commit.ensures.stored true_host holds.stored holds.store_of))
    (store-reached new c.commit.new.self (stored_with holds.stored c.args.kept.now) (c.in_ok-commit.ensures.stored true_host holds.stored holds.store_of)) c.commit.ensures.bound

pub returns-in_err-commit-clause-bound : goal.returns-in_err-commit-clause-bound
returns-in_err-commit-clause-bound g c true_host set h holds limit =
    let past = (g.H.Host.seen c.args.host.now).past in
    let new = (g.H.Host.seen c.commit.new.host).past in
    let same = ap (λ (s : StoreState). s.files.number) c.in_err-commit.ensures.leaves in
    commit-grows past new c.args.store.now c.commit.new.self set h holds true_host limit same
    (around-reached past new c.args.store.now c.commit.new.self set h holds c.args.kept.now same (c.commit.ensures.any_moment true_host holds.stored holds.store_of)) c.commit.ensures.bound

pub returns-in_err-commit-clause-keeps : goal.returns-in_err-commit-clause-keeps
returns-in_err-commit-clause-keeps g c =
    let did = c.in_err-commit.ensures in
    let last = c.args.store.now.tiers.last in
    let error = err_from_is_err_and c.from_residual.result c.from_residual.ensures.1 in
    let fails = commit-fails last c.in_err-commit.field-0.0 did.faults (λ order. never-before c.args.kept.now.moment last c.requires.later (did.order.0 (ap Err order)).1) in
    rw error.1
    (checkpoint-failed g.H.Host.honest (g.H.Host.seen c.args.host.now) (g.H.Host.seen c.commit.new.host) c.args.store.now c.commit.new.self c.in_err-commit.field-0.0 error.0 error.2
    fails did.reopens c.requires.going did.ready c.requires.replayed (ap (λ (s : StoreState). s.waiting) did.leaves) (ap (λ (s : StoreState). s.body.settings) did.leaves)
    did.cause did.only_here did.output)
