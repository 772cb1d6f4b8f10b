use Rattle.std.proofs.Common.{List, ◌∷◌, ap, ◌∙◌}
use Rattle.std.proofs.lemmas.Result.{on_ok_weaker}
use Rattle.host_model.specs.declared.file.File.TheVariants.{CheckA, CheckB}
use Rattle.host_model.specs.Images.{Synced}
use Rattle.host_model.specs.Past.{Event, On, IsDisk}
use Rattle.host_model.proofs.MomentLemmas.{at_end, joined}
use Rattle.host_model.proofs.DiskLemmas.{disk_in_sync}
use Rattle.checkpoint.proofs.SlotLemmas.{both_synced}
use Rattle.checkpoint.proofs.loading.sync_both.Goals as goal

pub returns-in_err-sync-clause-any_moment : goal.returns-in_err-sync-clause-any_moment
returns-in_err-sync-clause-any_moment g c h =
    let old = (g.H.Host.seen c.args.host.now).past in
    disk_in_sync (IsDisk old) g.H.Host.honest c.sync.result CheckA old (g.H.Host.seen c.sync.new.self).past h c.sync.ensures.done c.sync.ensures.torn
    (g.met.H.Host.reads_an_image c.args.host.now CheckA h) (λ disk images. images)

pub returns-clause-any_moment : goal.returns-clause-any_moment
returns-clause-any_moment g c h =
    let old = (g.H.Host.seen c.args.host.now).past in
    let middle = (g.H.Host.seen c.sync.new.self).past in
    let first =
    disk_in_sync (IsDisk old) g.H.Host.honest c.sync.result CheckA old middle h c.sync.ensures.done c.sync.ensures.torn
    (g.met.H.Host.reads_an_image c.args.host.now CheckA h) (λ disk images. images) in
    joined first
    (disk_in_sync (IsDisk old) g.H.Host.honest c.sync-2.result CheckB middle (g.H.Host.seen c.sync-2.new.self).past h c.sync-2.ensures.done c.sync-2.ensures.torn
    (g.met.H.Host.reads_an_image c.sync.new.self CheckB h) (at_end first))

pub returns-clause-every_disk : goal.returns-clause-every_disk
returns-clause-every_disk g c =
    let old = (g.H.Host.seen c.args.host.now).past in
    let new = (g.H.Host.seen c.sync-2.new.self).past in
    on_ok_weaker c.sync-2.result
    (λ synced h. both_synced old new (synced h ∙ ap (λ (past : List Event). On CheckB Synced ∷ past) (c.in_ok-sync.ensures.done h)))
    c.sync-2.ensures.done
