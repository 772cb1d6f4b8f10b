use Rattle.host_model.specs.declared.file.File.TheVariants.{Tier0, Tier1}
use Rattle.store_core.proofs.DiskProofs.SyncLemmas.{syncs_joined}
use Rattle.store_core.proofs.disk.opening.settle_tiers.Goals as goal

pub returns-in_err-settle-2-clause-syncs : goal.returns-in_err-settle-2-clause-syncs
returns-in_err-settle-2-clause-syncs g c h =
    syncs_joined (g.H.Host.seen c.args.host.now).past (g.H.Host.seen c.settle.new.host).past (g.H.Host.seen c.settle-2.new.host).past
    (c.settle.ensures.syncs h) (c.settle-2.ensures.syncs h)

pub returns-in_err-settle-3-clause-syncs : goal.returns-in_err-settle-3-clause-syncs
returns-in_err-settle-3-clause-syncs g c h =
    syncs_joined (g.H.Host.seen c.args.host.now).past (g.H.Host.seen c.settle.new.host).past (g.H.Host.seen c.settle-3.new.host).past
    (c.settle.ensures.syncs h)
    (syncs_joined (g.H.Host.seen c.settle.new.host).past (g.H.Host.seen c.settle-2.new.host).past (g.H.Host.seen c.settle-3.new.host).past
    (c.settle-2.ensures.syncs h) (c.settle-3.ensures.syncs h))

pub returns-clause-syncs : goal.returns-clause-syncs
returns-clause-syncs g c h =
    syncs_joined (g.H.Host.seen c.args.host.now).past (g.H.Host.seen c.settle.new.host).past (g.H.Host.seen c.settle-3.new.host).past
    (c.settle.ensures.syncs h)
    (syncs_joined (g.H.Host.seen c.settle.new.host).past (g.H.Host.seen c.settle-2.new.host).past (g.H.Host.seen c.settle-3.new.host).past
    (c.settle-2.ensures.syncs h) (c.settle-3.ensures.syncs h))

pub returns-clause-stays : goal.returns-clause-stays
returns-clause-stays g c h file stable =
    c.in_ok-settle-3.ensures.stays h file (c.in_ok-settle-2.ensures.stays h file (c.in_ok-settle.ensures.stays h file stable))

pub returns-clause-synced : goal.returns-clause-synced
returns-clause-synced g c h = (
  c.in_ok-settle-3.ensures.stays h Tier0 (c.in_ok-settle-2.ensures.stays h Tier0 (c.in_ok-settle.ensures.synced h)),
  c.in_ok-settle-3.ensures.stays h Tier1 (c.in_ok-settle-2.ensures.synced h),
  c.in_ok-settle-3.ensures.synced h,
)
