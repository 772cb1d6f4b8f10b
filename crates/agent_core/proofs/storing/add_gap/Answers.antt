use Rattle.std.proofs.Common.{inl}
use Rattle.host_model.specs.Moments.{begins}
use Rattle.history.specs.History.{missing, Gap}
use Rattle.agent_core.proofs.KeptLemmas.{climbs, holds-beat, stays}
use Rattle.agent_core.proofs.Outcomes.{on_ok}
use Rattle.agent_core.proofs.StoringLemmas.{gap-of}
use Rattle.agent_core.proofs.BoundLemmas.{grows-none}
use Rattle.agent_core.proofs.storing.add_gap.Goals as goal

pub returns-in_err-kept-clause-any_moment : goal.returns-in_err-kept-clause-any_moment
returns-in_err-kept-clause-any_moment g c true_host set h holds role = begins (λ disk images. inl (stays (g.H.Host.seen c.args.host.now).past c.args.store.now set h holds disk images))

pub returns-clause-any_moment : goal.returns-clause-any_moment
returns-clause-any_moment g c true_host set h holds role =
    let past = (g.H.Host.seen c.args.host.now).past in
    let gap : Gap = record { child = c.args.child; from = c.args.from; to = c.args.to } in
    let of = gap-of past c.args.store.now set h holds gap c.in_ok-kept.kept c.in_ok-kept.ensures.kept c.in_ok-kept.ensures.spelt role c.requires.begins c.requires.later in
    climbs past c.args.store.now set h holds (missing gap) c.in_ok-kept.kept of (g.H.Host.seen c.commit.new.host).past (c.commit.ensures.any_moment true_host holds.stored holds.store_of)

pub returns-clause-done : goal.returns-clause-done
returns-clause-done g c =
    on_ok _ _ c.commit.result c.commit.ensures.stored (λ stored true_host set h holds role.
    let past = (g.H.Host.seen c.args.host.now).past in
    let gap : Gap = record { child = c.args.child; from = c.args.from; to = c.args.to } in
    let of = gap-of past c.args.store.now set h holds gap c.in_ok-kept.kept c.in_ok-kept.ensures.kept c.in_ok-kept.ensures.spelt role c.requires.begins c.requires.later in
    holds-beat past c.args.store.now set h holds (missing gap) c.in_ok-kept.kept of (g.H.Host.seen c.commit.new.host).past c.commit.new.store (stored true_host holds.stored holds.store_of))

pub returns-in_err-kept-clause-bound : goal.returns-in_err-kept-clause-bound
returns-in_err-kept-clause-bound g c true_host set h holds limit = grows-none set limit (g.H.Host.seen c.args.host.now).past c.args.store.now
