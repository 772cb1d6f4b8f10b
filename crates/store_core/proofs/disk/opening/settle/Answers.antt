use Rattle.store_core.proofs.DiskProofs.SyncLemmas.{syncs_settled, sync_stays, sync_synced}
use Rattle.store_core.proofs.disk.opening.settle.Goals as goal

pub returns-clause-synced : goal.returns-clause-synced
returns-clause-synced g c h =
    sync_synced c.args.file (g.H.Host.seen c.args.host.now).past (g.H.Host.seen c.sync.new.self).past (c.in_ok-sync.ensures.done h)

pub returns-clause-stays : goal.returns-clause-stays
returns-clause-stays g c h =
    sync_stays c.args.file (g.H.Host.seen c.args.host.now).past (g.H.Host.seen c.sync.new.self).past (c.in_ok-sync.ensures.done h)

pub returns-clause-syncs : goal.returns-clause-syncs
returns-clause-syncs g c h =
    syncs_settled g.H.Host.honest c.sync.result c.args.file (g.H.Host.seen c.args.host.now).past (g.H.Host.seen c.sync.new.self).past h c.requires
    c.sync.ensures.done c.sync.ensures.torn (g.met.H.Host.reads_an_image c.args.host.now c.args.file h)

pub returns-in_err-sync-clause-syncs : goal.returns-in_err-sync-clause-syncs
returns-in_err-sync-clause-syncs g c h =
    syncs_settled g.H.Host.honest c.sync.result c.args.file (g.H.Host.seen c.args.host.now).past (g.H.Host.seen c.sync.new.self).past h c.requires
    c.sync.ensures.done c.sync.ensures.torn (g.met.H.Host.reads_an_image c.args.host.now c.args.file h)
