use Rattle.std.proofs.Common.{ℕ, List, subst}
use Rattle.std.proofs.lemmas.Result.{IfOk-weaker}
use Rattle.host_model.specs.declared.file.File.{File}
use Rattle.host_model.specs.Disks.{reads_as}
use Rattle.store_core.specs.Damaged.{HasForm, IsDamagedIn}
use Rattle.store_core.proofs.DamageLemmas.{form-undamaged}
use Rattle.store_core.proofs.DiskProofs.OpenedLemmas.{same_disk}
use Rattle.store_core.proofs.DiskProofs.ShareLemmas.{within_syncs}
use Rattle.store_core.proofs.DiskProofs.SyncLemmas.{syncs_joined}
use Rattle.store_core.proofs.OpenLemmas.{damaged-fails, each-ok, every-ok, form-made, from-form, opened-images}
use Rattle.store_core.proofs.store.Store.open.Goals as goal

-- ---- the disk holds what beats leave

pub returns-in-Ok-clause-bound : goal.returns-in-Ok-clause-bound
returns-in-Ok-clause-bound g c shares h within =
    within_syncs shares (g.H.Host.seen c.args.host.now).past (g.H.Host.seen c.open_whole.new.host).past (c.open_whole.ensures.syncs h) within

pub returns-in-Ok-clause-some : goal.returns-in-Ok-clause-some
returns-in-Ok-clause-some g c h = form-made _ _ (reads_as (g.H.Host.seen c.args.host.now).past) (c.in-Ok.ensures.form h)

pub returns-in-Ok-clause-whole : goal.returns-in-Ok-clause-whole
returns-in-Ok-clause-whole g c h = form-undamaged _ _ (reads_as (g.H.Host.seen c.args.host.now).past) (c.in-Ok.ensures.form h)

pub returns-in-Ok-clause-images : goal.returns-in-Ok-clause-images
returns-in-Ok-clause-images g c h stored stands =
    opened-images (g.H.Host.seen c.open_whole.new.host).past _ stored (c.in-Ok.ensures.opened h stored stands)

-- ---- it does not

pub returns-in-Err-Damaged-clause-any_moment : goal.returns-in-Err-Damaged-clause-any_moment
returns-in-Err-Damaged-clause-any_moment g c h =
    let old = (g.H.Host.seen c.args.host.now).past in
    let middle = (g.H.Host.seen c.open_whole.new.host).past in
    let new = (g.H.Host.seen c.open_left.new.host).past in
    (syncs_joined old middle new (c.open_whole.ensures.syncs h) (c.open_left.ensures.syncs h)).any_moment

pub returns-in-Err-Damaged-clause-bound : goal.returns-in-Err-Damaged-clause-bound
returns-in-Err-Damaged-clause-bound g c shares h within =
    let old = (g.H.Host.seen c.args.host.now).past in
    let middle = (g.H.Host.seen c.open_whole.new.host).past in
    let new = (g.H.Host.seen c.open_left.new.host).past in
    within_syncs shares old new (syncs_joined old middle new (c.open_whole.ensures.syncs h) (c.open_left.ensures.syncs h)) within

pub returns-in-Err-Damaged-clause-form : goal.returns-in-Err-Damaged-clause-form
returns-in-Err-Damaged-clause-form g c =
    let old = (g.H.Host.seen c.args.host.now).past in
    let middle = (g.H.Host.seen c.open_whole.new.host).past in
    IfOk-weaker c.open_left.result _ _
    (λ store held h. subst (λ (disk : File → List ℕ). HasForm store.body store.waiting disk) (same_disk (reads_as middle) (reads_as old) (c.open_whole.ensures.syncs h).same) (held h))
    c.open_left.ensures.form

pub returns-in-Err-Damaged-clause-some : goal.returns-in-Err-Damaged-clause-some
returns-in-Err-Damaged-clause-some g c =
    let disk = reads_as (g.H.Host.seen c.args.host.now).past in
    from-form g.H.Host.honest _ c.open_left.result (λ store. HasForm store.body store.waiting disk) (returns-in-Err-Damaged-clause-form g c) (λ store form. form-made store.body store.waiting disk form)

pub returns-in-Err-Damaged-clause-whole : goal.returns-in-Err-Damaged-clause-whole
returns-in-Err-Damaged-clause-whole g c =
    let disk = reads_as (g.H.Host.seen c.args.host.now).past in
    from-form g.H.Host.honest _ c.open_left.result (λ store. HasForm store.body store.waiting disk) (returns-in-Err-Damaged-clause-form g c) (λ store form. form-undamaged store.body store.waiting disk form)

pub returns-in-Err-Damaged-clause-damaged : goal.returns-in-Err-Damaged-clause-damaged
returns-in-Err-Damaged-clause-damaged g c part is h =
    let old = (g.H.Host.seen c.args.host.now).past in
    let middle = (g.H.Host.seen c.open_whole.new.host).past in
    subst (λ (disk : File → List ℕ). IsDamagedIn part disk) (same_disk (reads_as middle) (reads_as old) (c.open_whole.ensures.syncs h).same) (c.open_left.ensures.damaged part is h)

-- where the disk holds a database of beats, it was opened before
pub returns-in-Err-Damaged-clause-opened : goal.returns-in-Err-Damaged-clause-opened
returns-in-Err-Damaged-clause-opened g c =
    every-ok c.open_left.result
    (λ store h stored stands. absurd (damaged-fails c.in-Err-Damaged.field-0 c.in-Err-Damaged.field-0-0 c.in-Err-Damaged.field-0-is (c.in-Err-Damaged.ensures.complete h stored stands)))

pub returns-in-Err-Damaged-clause-images : goal.returns-in-Err-Damaged-clause-images
returns-in-Err-Damaged-clause-images g c =
    each-ok c.open_left.result
    (λ h stored stands. absurd (damaged-fails c.in-Err-Damaged.field-0 c.in-Err-Damaged.field-0-0 c.in-Err-Damaged.field-0-is (c.in-Err-Damaged.ensures.complete h stored stands)))

pub returns-in-Err-Damaged-clause-complete : goal.returns-in-Err-Damaged-clause-complete
returns-in-Err-Damaged-clause-complete g c h stored stands =
    absurd (damaged-fails c.in-Err-Damaged.field-0 c.in-Err-Damaged.field-0-0 c.in-Err-Damaged.field-0-is (c.in-Err-Damaged.ensures.complete h stored stands))

-- ---- the disk or memory failed

pub returns-in-Err-clause-bound : goal.returns-in-Err-clause-bound
returns-in-Err-clause-bound g c shares h within =
    within_syncs shares (g.H.Host.seen c.args.host.now).past (g.H.Host.seen c.open_whole.new.host).past (c.open_whole.ensures.syncs h) within
