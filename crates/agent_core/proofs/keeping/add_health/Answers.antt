use Rattle.std.proofs.Common.{◌∷◌, inl, ap, ◌∙◌}
use Rattle.host_model.proofs.DiskLemmas.{disks_weaker}
use Rattle.history.specs.History.{health}
use Rattle.store_core.specs.Store.{StoreState}
use Rattle.agent_core.proofs.KeepsLemmas.{keeps-both}
use Rattle.agent_core.proofs.KeptLemmas.{climbs, health-of, holds-beat, then-either}
use Rattle.agent_core.proofs.Outcomes.{on_ok}
use Rattle.agent_core.proofs.BoundLemmas.{grows-both}
use Rattle.agent_core.proofs.keeping.add_health.Goals as goal

pub returns-in_err-make_room-clause-any_moment : goal.returns-in_err-make_room-clause-any_moment
returns-in_err-make_room-clause-any_moment g c true_host set h holds by = disks_weaker (λ disk stands. inl stands) (c.make_room.ensures.any_moment true_host set h holds by)

pub returns-in_err-kept-clause-any_moment : goal.returns-in_err-kept-clause-any_moment
returns-in_err-kept-clause-any_moment g c true_host set h holds by = disks_weaker (λ disk stands. inl stands) (c.make_room.ensures.any_moment true_host set h holds by)

pub returns-clause-any_moment : goal.returns-clause-any_moment
returns-clause-any_moment g c true_host set h holds by =
    let past = (g.H.Host.seen c.args.host.now).past in
    let middle = (g.H.Host.seen c.make_room.new.host).past in
    let new = (g.H.Host.seen c.commit.new.host).past in
    let store = c.make_room.new.store in
    let room = c.in_ok-make_room.ensures.done true_host set h holds by in
    let of = health-of middle store set h room c.args.text.now c.in_ok-kept.kept c.requires.accepted c.in_ok-kept.ensures.kept c.in_ok-kept.ensures.spelt in
    then-either past middle new set h (health c.args.text.now ∷ h) (c.make_room.ensures.any_moment true_host set h holds by)
    (climbs middle store set h room (health c.args.text.now) c.in_ok-kept.kept of new (c.commit.ensures.any_moment true_host room.stored room.store_of))

pub returns-clause-done : goal.returns-clause-done
returns-clause-done g c =
    on_ok _ _ c.commit.result c.commit.ensures.stored (λ stored true_host set h holds by.
    let middle = (g.H.Host.seen c.make_room.new.host).past in
    let store = c.make_room.new.store in
    let room = c.in_ok-make_room.ensures.done true_host set h holds by in
    let of = health-of middle store set h room c.args.text.now c.in_ok-kept.kept c.requires.accepted c.in_ok-kept.ensures.kept c.in_ok-kept.ensures.spelt in
    holds-beat middle store set h room (health c.args.text.now) c.in_ok-kept.kept of (g.H.Host.seen c.commit.new.host).past c.commit.new.store (stored true_host room.stored room.store_of))

pub returns-clause-keeps : goal.returns-clause-keeps
returns-clause-keeps g c =
    keeps-both g.H.Host.honest (g.H.Host.seen c.args.host.now) (g.H.Host.seen c.make_room.new.host) (g.H.Host.seen c.commit.new.host) c.args.store.now c.make_room.new.store c.commit.new.store
    c.in_ok-make_room.field-0 c.commit.result c.in_ok-make_room.ensures.keeps c.commit.ensures.keeps

pub returns-in_err-make_room-clause-untouched : goal.returns-in_err-make_room-clause-untouched
returns-in_err-make_room-clause-untouched g c not_due = ap (λ (s : StoreState). s.body) (c.make_room.ensures.untouched not_due).0

pub returns-in_err-kept-clause-untouched : goal.returns-in_err-kept-clause-untouched
returns-in_err-kept-clause-untouched g c not_due = ap (λ (s : StoreState). s.body) (c.make_room.ensures.untouched not_due).0

pub returns-clause-untouched : goal.returns-clause-untouched
returns-clause-untouched g c not_due = c.commit.ensures.body ∙ ap (λ (s : StoreState). s.body) (c.make_room.ensures.untouched not_due).0

pub returns-clause-bound : goal.returns-clause-bound
returns-clause-bound g c true_host set h holds by limit fits =
    let room = c.in_ok-make_room.ensures.done true_host set h holds by in
    grows-both set limit (g.H.Host.seen c.args.host.now).past (g.H.Host.seen c.make_room.new.host).past (g.H.Host.seen c.commit.new.host).past c.args.store.now c.make_room.new.store c.commit.new.store
    (c.make_room.ensures.bound true_host set h holds by limit fits) (c.commit.ensures.bound true_host set h room limit)
