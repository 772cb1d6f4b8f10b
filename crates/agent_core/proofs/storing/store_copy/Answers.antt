use Rattle.std.proofs.Common.{◌∙◌, subst}
use Rattle.history.specs.History.{copied}
use Rattle.agent_core.specs.Replay.{HasSeenCopy}
use Rattle.agent_core.proofs.KeptLemmas.{climbs, copy-awaits, holds-beat}
use Rattle.agent_core.proofs.storing.store_copy.Goals as goal

pub returns-in_err-commit-clause-any_moment : goal.returns-in_err-commit-clause-any_moment
returns-in_err-commit-clause-any_moment g c true_host set h copy holds of =
    climbs (g.H.Host.seen c.args.host.now).past c.args.store.now set h holds (copied copy) c.args.kept.now of (g.H.Host.seen c.commit.new.host).past (c.commit.ensures.any_moment true_host holds.stored holds.store_of)

pub returns-in_err-make_room-clause-any_moment : goal.returns-in_err-make_room-clause-any_moment
returns-in_err-make_room-clause-any_moment g c true_host set h copy holds of =
    climbs (g.H.Host.seen c.args.host.now).past c.args.store.now set h holds (copied copy) c.args.kept.now of (g.H.Host.seen c.commit.new.host).past (c.commit.ensures.any_moment true_host holds.stored holds.store_of)

pub returns-in_err-see_copy-clause-any_moment : goal.returns-in_err-see_copy-clause-any_moment
returns-in_err-see_copy-clause-any_moment g c true_host set h copy holds of =
    climbs (g.H.Host.seen c.args.host.now).past c.args.store.now set h holds (copied copy) c.args.kept.now of (g.H.Host.seen c.commit.new.host).past (c.commit.ensures.any_moment true_host holds.stored holds.store_of)

pub returns-clause-any_moment : goal.returns-clause-any_moment
returns-clause-any_moment g c true_host set h copy holds of =
    climbs (g.H.Host.seen c.args.host.now).past c.args.store.now set h holds (copied copy) c.args.kept.now of (g.H.Host.seen c.commit.new.host).past (c.commit.ensures.any_moment true_host holds.stored holds.store_of)

pub returns-clause-done : goal.returns-clause-done
returns-clause-done g c true_host set h copy holds of =
    holds-beat (g.H.Host.seen c.args.host.now).past c.args.store.now set h holds (copied copy) c.args.kept.now of (g.H.Host.seen c.commit.new.host).past c.commit.new.store
    (c.in_ok-commit.ensures.stored true_host holds.stored holds.store_of)

pub returns-clause-awaits : goal.returns-clause-awaits
returns-clause-awaits g c past before set h copy holds was of is =
    copy-awaits past c.args.store.now set h holds before c.args.left.now was copy c.args.kept.now c.args.moment of is c.requires.moment c.make_room.new.self c.see_copy.new.left c.see_copy.ensures.only
    c.in_ok-make_room.ensures.ok (subst (HasSeenCopy c.args.left.now.registry c.args.left.now.latest c.see_copy.new.left.latest c.args.moment) c.as_slice.ensures c.in_ok-see_copy.ensures.seen)
    (c.in_ok-see_copy.ensures.before ∙ c.last-before.ensures)
