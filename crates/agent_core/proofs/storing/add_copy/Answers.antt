use Rattle.std.proofs.Common.{ℕ, ◌∷◌, ◌⊎◌, inl, Ok, Err, sym, subst, ap, ◌∙◌}
use Rattle.std.proofs.lemmas.Result.{err_from_is_err_and}
use Rattle.host_model.specs.Disks.{EveryDisk}
use Rattle.host_model.specs.Moments.{begins, Throughout}
use Rattle.host_model.specs.Seen.{Seen}
use Rattle.history.specs.History.{copied}
use Rattle.store_core.specs.Store.{StoreState}
use Rattle.agent_core.specs.declared.left.Role.TheVariants.{Copies}
use Rattle.agent_core.specs.Faults.{of_alarms}
use Rattle.agent_core.specs.Stands.{HoldsHistory, StandsForHistory}
use Rattle.agent_core.specs.Left.{AwaitsAlarms}
use Rattle.agent_core.proofs.StoredLemmas.{applied-all}
use Rattle.agent_core.proofs.PrefixLemmas.{added-one}
use Rattle.agent_core.proofs.KeepsLemmas.{keeps-after, keeps-err}
use Rattle.agent_core.proofs.KeptLemmas.{stays}
use Rattle.agent_core.proofs.StoringLemmas.{copy-of}
use Rattle.agent_core.specs.declared.left.Left.{Left}
use Rattle.agent_core.specs.Bound.{GrowsWithin}
use Rattle.agent_core.proofs.BoundLemmas.{grows-none}
use Rattle.agent_core.proofs.storing.add_copy.Goals as goal

pub returns-in_err-kept-clause-any_moment : goal.returns-in_err-kept-clause-any_moment
returns-in_err-kept-clause-any_moment g c true_host set h copy holds sent = begins (λ disk images. inl (stays (g.H.Host.seen c.args.host.now).past c.args.store.now set h holds disk images))

pub returns-in_err-store_copy-clause-any_moment : goal.returns-in_err-store_copy-clause-any_moment
returns-in_err-store_copy-clause-any_moment g c true_host set h copy holds sent =
    c.store_copy.ensures.any_moment true_host set h copy holds
    (copy-of c.args.left.now.registry c.args.message.now c.args.charts.now c.args.dimensions.now c.args.beat.now h copy sent c.in_ok-kept.kept c.in_ok-kept.ensures.kept c.in_ok-kept.ensures.spelt)

pub returns-in_err-follow-clause-any_moment : goal.returns-in_err-follow-clause-any_moment
returns-in_err-follow-clause-any_moment g c true_host set h copy holds sent =
    subst (λ (s : Seen). Throughout (EveryDisk (λ disk. StandsForHistory set h disk ⊎ StandsForHistory set (copied copy ∷ h) disk)) (g.H.Host.seen c.args.host.now).past s.past) (sym c.follow.ensures.host)
    (c.store_copy.ensures.any_moment true_host set h copy holds
    (copy-of c.args.left.now.registry c.args.message.now c.args.charts.now c.args.dimensions.now c.args.beat.now h copy sent c.in_ok-kept.kept c.in_ok-kept.ensures.kept c.in_ok-kept.ensures.spelt))

pub returns-clause-any_moment : goal.returns-clause-any_moment
returns-clause-any_moment g c true_host set h copy holds sent =
    subst (λ (s : Seen). Throughout (EveryDisk (λ disk. StandsForHistory set h disk ⊎ StandsForHistory set (copied copy ∷ h) disk)) (g.H.Host.seen c.args.host.now).past s.past) (sym c.follow.ensures.host)
    (c.store_copy.ensures.any_moment true_host set h copy holds
    (copy-of c.args.left.now.registry c.args.message.now c.args.charts.now c.args.dimensions.now c.args.beat.now h copy sent c.in_ok-kept.kept c.in_ok-kept.ensures.kept c.in_ok-kept.ensures.spelt))

pub returns-clause-done : goal.returns-clause-done
returns-clause-done g c true_host before set h copy holds was sent =
    let past = (g.H.Host.seen c.args.host.now).past in
    let now = (g.H.Host.seen c.store_copy.new.host).past in
    let of = copy-of c.args.left.now.registry c.args.message.now c.args.charts.now c.args.dimensions.now c.args.beat.now h copy sent c.in_ok-kept.kept c.in_ok-kept.ensures.kept c.in_ok-kept.ensures.spelt in
    let stored = c.in_ok-store_copy.ensures.done true_host set h copy holds of in
    let applied = applied-all now _ set (copied copy ∷ h) stored in
    let awaits = subst (λ (n : ℕ). AwaitsAlarms set h (copied copy) (record c.store_copy.new.left { role = Copies n })) sent.child (c.in_ok-store_copy.ensures.awaits past before set h copy holds was of sent.registry_is) in
    added-one (g.H.Host.seen c.follow.new.host).past c.follow.new.store c.follow.new.left set h (copied copy) c.in_ok-follow.field-0
    (subst (λ (s : Seen). HoldsHistory s.past c.follow.new.store set (copied copy ∷ h)) (sym c.follow.ensures.host) (subst (λ (s : StoreState). HoldsHistory now s set (copied copy ∷ h)) (sym c.follow.ensures.store) stored))
    (c.in_ok-follow.ensures.left_by set h (copied copy) applied awaits (sym sent.moment))
    (c.in_ok-follow.ensures.events set h (copied copy) applied awaits (sym sent.moment))

pub returns-in_err-store_copy-clause-keeps : goal.returns-in_err-store_copy-clause-keeps
returns-in_err-store_copy-clause-keeps g c =
    let p = err_from_is_err_and c.from_residual-in_err-store_copy.result c.from_residual-in_err-store_copy.ensures.1 in
    rw (p.1, p.2) (keeps-err g.H.Host.honest (g.H.Host.seen c.args.host.now) (g.H.Host.seen c.store_copy.new.host) c.args.store.now c.store_copy.new.store c.in_err-store_copy.field-0.0 c.in_err-store_copy.ensures.keeps)

pub returns-in_err-follow-clause-keeps : goal.returns-in_err-follow-clause-keeps
returns-in_err-follow-clause-keeps g c =
    let p = err_from_is_err_and c.from_residual-in_err-follow.result c.from_residual-in_err-follow.ensures.1 in
    rw (p.1, p.2)
    (keeps-after g.H.Host.honest (g.H.Host.seen c.args.host.now) (g.H.Host.seen c.store_copy.new.host) (g.H.Host.seen c.follow.new.host) c.args.store.now c.store_copy.new.store c.follow.new.store
    c.in_ok-store_copy.field-0 (Err (of_alarms c.in_err-follow.field-0.0)) c.in_ok-store_copy.ensures.keeps c.follow.ensures.host c.follow.ensures.store (ap of_alarms c.in_err-follow.ensures.memory))

pub returns-clause-keeps : goal.returns-clause-keeps
returns-clause-keeps g c =
    keeps-after g.H.Host.honest (g.H.Host.seen c.args.host.now) (g.H.Host.seen c.store_copy.new.host) (g.H.Host.seen c.follow.new.host) c.args.store.now c.store_copy.new.store c.follow.new.store
    c.in_ok-store_copy.field-0 (Ok c.in_ok-follow.field-0) c.in_ok-store_copy.ensures.keeps c.follow.ensures.host c.follow.ensures.store tt

pub returns-in_err-kept-clause-bound : goal.returns-in_err-kept-clause-bound
returns-in_err-kept-clause-bound g c true_host set h holds limit = grows-none set limit (g.H.Host.seen c.args.host.now).past c.args.store.now

pub returns-in_err-follow-clause-bound : goal.returns-in_err-follow-clause-bound
returns-in_err-follow-clause-bound g c true_host set h holds limit =
    let past = (g.H.Host.seen c.args.host.now).past in
    subst (λ (store : StoreState). GrowsWithin set limit past c.args.store.now (g.H.Host.seen c.follow.new.host).past store) (sym c.follow.ensures.store)
    (subst (λ (s : Seen). GrowsWithin set limit past c.args.store.now s.past c.store_copy.new.store) (sym c.follow.ensures.host) (c.store_copy.ensures.bound true_host set h holds limit))

pub returns-clause-bound : goal.returns-clause-bound
returns-clause-bound g c true_host set h holds limit =
    let past = (g.H.Host.seen c.args.host.now).past in
    subst (λ (store : StoreState). GrowsWithin set limit past c.args.store.now (g.H.Host.seen c.follow.new.host).past store) (sym c.follow.ensures.store)
    (subst (λ (s : Seen). GrowsWithin set limit past c.args.store.now s.past c.store_copy.new.store) (sym c.follow.ensures.host) (c.store_copy.ensures.bound true_host set h holds limit))

pub returns-in_err-follow-clause-gaps : goal.returns-in_err-follow-clause-gaps
returns-in_err-follow-clause-gaps g c = ap (λ (l : Left). l.gaps) c.follow.ensures.only ∙ c.store_copy.ensures.gaps

pub returns-clause-gaps : goal.returns-clause-gaps
returns-clause-gaps g c = ap (λ (l : Left). l.gaps) c.follow.ensures.only ∙ c.store_copy.ensures.gaps
