use Rattle.std.proofs.Common.{◌≡◌, ◌⊎◌, Err, inl, inr, refl, sym, ap, ◌∙◌}
use Rattle.std.specs.Result.{IsErrOf}
use Rattle.std.proofs.lemmas.Bool.{false≢true}
use Rattle.std.proofs.lemmas.Result.{err_from_is_err_and}
use Rattle.host_model.specs.Disks.{reads_as}
use Rattle.host_model.specs.Moments.{begins}
use Rattle.host_model.proofs.DiskLemmas.{disks_weaker}
use Rattle.checkpoint_body.specs.declared.body.Body.{Body}
use Rattle.store_core.specs.disk.Shares.{share}
use Rattle.store_core.specs.declared.fault.CreateFault.{CreateFault}
use Rattle.store_core.specs.declared.fault.CreateFault.TheVariants.{DiskFault, Exists, Memory}
use Rattle.store_core.proofs.OpenLemmas.{new-ready, new-room, new-stored, was-or-new}
use Rattle.store_core.proofs.StandLemmas.{is-made, none-made}
use Rattle.store_core.proofs.store.Store.create.Goals as goal

-- ---- nothing has happened yet

pub returns-in_default-clause-any_moment : goal.returns-in_default-clause-any_moment
returns-in_default-clause-any_moment g c h = begins (λ disk images. inl images)

pub returns-in_default-clause-made_moment : goal.returns-in_default-clause-made_moment
returns-in_default-clause-made_moment g c h made = begins (λ disk images. images)

pub returns-in_default-clause-memory_moment : goal.returns-in_default-clause-memory_moment
returns-in_default-clause-memory_moment g c is h = begins (λ disk images. images)

pub returns-in_default-clause-bound : goal.returns-in_default-clause-bound
returns-in_default-clause-bound g c most short h within = begins within

pub returns-in_default-new_tiers-clause-any_moment : goal.returns-in_default-new_tiers-clause-any_moment
returns-in_default-new_tiers-clause-any_moment g c h = begins (λ disk images. inl images)

pub returns-in_default-new_tiers-clause-made_moment : goal.returns-in_default-new_tiers-clause-made_moment
returns-in_default-new_tiers-clause-made_moment g c h made = begins (λ disk images. images)

pub returns-in_default-new_tiers-clause-memory_moment : goal.returns-in_default-new_tiers-clause-memory_moment
returns-in_default-new_tiers-clause-memory_moment g c is h = begins (λ disk images. images)

pub returns-in_default-new_tiers-clause-bound : goal.returns-in_default-new_tiers-clause-bound
returns-in_default-new_tiers-clause-bound g c most short h within = begins within

-- ---- the files were made, or not

pub returns-clause-none : goal.returns-clause-none
returns-clause-none g c h = none-made (reads_as (g.H.Host.seen c.args.host.now).past) (c.in_ok-files.ensures.none h)

pub returns-clause-made : goal.returns-clause-made
returns-clause-made g c h made =
    absurd (false≢true (sym (none-made (reads_as (g.H.Host.seen c.args.host.now).past) (c.in_ok-files.ensures.none h)) ∙ made))

pub returns-clause-made_moment : goal.returns-clause-made_moment
returns-clause-made_moment g c h made =
    c.create.ensures.made_moment h (sym (is-made (reads_as (g.H.Host.seen c.args.host.now).past)) ∙ made)

pub returns-in_err-files-clause-exists : goal.returns-in_err-files-clause-exists
returns-in_err-files-clause-exists g c is h =
    let p = err_from_is_err_and c.from_residual.result c.from_residual.ensures.1 in
    let fault : p.0 ≡ Exists = cc in
    is-made (reads_as (g.H.Host.seen c.args.host.now).past)
    ∙ c.in_err-files.ensures.exists (ap Err (sym p.2 ∙ fault)) h

-- a fault where there is a database
made_fault : {T U : Type 0} (fault other : CreateFault) → other ≡ fault
    → IsErrOf {T = T} (Err fault) Exists ⊎ IsErrOf {T = T} (Err fault) DiskFault
    → IsErrOf {T = U} (Err other) Exists ⊎ IsErrOf {T = U} (Err other) DiskFault ⊎ IsErrOf {T = U} (Err other) Memory
made_fault fault other same (inl is) = let here : fault ≡ Exists = cc in inl (ap Err (same ∙ here))
made_fault fault other same (inr is) = let here : fault ≡ DiskFault = cc in inr (inl (ap Err (same ∙ here)))

pub returns-in_err-files-clause-made : goal.returns-in_err-files-clause-made
returns-in_err-files-clause-made g c h made =
    let p = err_from_is_err_and c.from_residual.result c.from_residual.ensures.1 in
    let held = c.in_err-files.ensures.made h (sym (is-made (reads_as (g.H.Host.seen c.args.host.now).past)) ∙ made) in
    rw p.1 (made_fault c.in_err-files.field-0.0 p.0 p.2 held.0, held.1)

pub returns-in_err-files-clause-made_moment : goal.returns-in_err-files-clause-made_moment
returns-in_err-files-clause-made_moment g c h made =
    c.create.ensures.made_moment h (sym (is-made (reads_as (g.H.Host.seen c.args.host.now).past)) ∙ made)

pub returns-clause-ready : goal.returns-clause-ready
returns-clause-ready g c =
    let first = c.in-Ok.ensures in
    new-ready g.H.Host.honest (g.H.Host.seen c.create.new.host).past _ c.args.settings.now refl first.spelt first.empty first.tiers
    c.in-Ok-new_tiers.ensures c.new.ensures (sym (ap (λ (b : Body). b.count) first.body)) c.in_ok-files.ensures.ready.place (λ h. c.in_ok-files.ensures.created h)

pub returns-clause-any_moment : goal.returns-clause-any_moment
returns-clause-any_moment g c h =
    let first = c.in-Ok.ensures in
    let set = c.args.settings.now in
    disks_weaker
    (was-or-new (g.H.Host.seen c.args.host.now).past c.in-Ok.body set c.args.side (new-stored c.in-Ok.body set c.args.side first.body first.empty first.tiers))
    (c.create.ensures.any_moment h)

pub returns-clause-bound : goal.returns-clause-bound
returns-clause-bound g c most short h within =
    let first = c.in-Ok.ensures in
    let set = c.args.settings.now in
    c.create.ensures.bound (share set most) (new-room c.in-Ok.body set c.args.side most first.body first.spelt short) h within

pub returns-in_err-files-clause-any_moment : goal.returns-in_err-files-clause-any_moment
returns-in_err-files-clause-any_moment g c h =
    let first = c.in-Ok.ensures in
    let set = c.args.settings.now in
    disks_weaker
    (was-or-new (g.H.Host.seen c.args.host.now).past c.in-Ok.body set c.args.side (new-stored c.in-Ok.body set c.args.side first.body first.empty first.tiers))
    (c.create.ensures.any_moment h)

pub returns-in_err-files-clause-bound : goal.returns-in_err-files-clause-bound
returns-in_err-files-clause-bound g c most short h within =
    let first = c.in-Ok.ensures in
    let set = c.args.settings.now in
    c.create.ensures.bound (share set most) (new-room c.in-Ok.body set c.args.side most first.body first.spelt short) h within
