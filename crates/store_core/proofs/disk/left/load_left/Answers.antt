use Rattle.std.proofs.Common.{◌≡◌, ℕ, List, Err, rules, sym, ap, ◌∙◌, subst}
use Rattle.std.proofs.lemmas.Result.{err_from_is_err_and}
use Rattle.host_model.specs.declared.file.File.{File}
use Rattle.host_model.specs.Disks.{reads_as}
use Rattle.store_core.specs.declared.fault.OpenFault.TheVariants.{Damaged}
use Rattle.store_core.specs.disk.Formed.{AreFormed}
use Rattle.store_core.proofs.DiskProofs.LeftLemmas.{directory_part, early_part}
use Rattle.store_core.proofs.DiskProofs.OpenedLemmas.{same_disk, extent_fault}
use Rattle.store_core.proofs.DiskProofs.SyncLemmas.{syncs_joined, syncs_same}
use Rattle.store_core.proofs.disk.left.load_left.Goals as goal

pub returns-in_err-settle_tiers-clause-syncs : goal.returns-in_err-settle_tiers-clause-syncs
returns-in_err-settle_tiers-clause-syncs g c h =
    syncs_joined (g.H.Host.seen c.args.host.now).past (g.H.Host.seen c.load_checkpoint.new.host).past (g.H.Host.seen c.settle_tiers.new.host).past
    (c.load_checkpoint.ensures.syncs h) (c.settle_tiers.ensures.syncs h)

pub returns-in_err-kept-clause-syncs : goal.returns-in_err-kept-clause-syncs
returns-in_err-kept-clause-syncs g c h =
    let old = (g.H.Host.seen c.args.host.now).past in
    let loaded = (g.H.Host.seen c.load_checkpoint.new.host).past in
    let settled = (g.H.Host.seen c.settle_tiers.new.host).past in
    let new = (g.H.Host.seen c.read_left.new.host).past in
    syncs_joined old settled new
    (syncs_joined old loaded settled (c.load_checkpoint.ensures.syncs h) (c.settle_tiers.ensures.syncs h))
    (syncs_same settled new (c.read_left.ensures.past h))

pub returns-clause-syncs : goal.returns-clause-syncs
returns-clause-syncs g c h =
    let old = (g.H.Host.seen c.args.host.now).past in
    let loaded = (g.H.Host.seen c.load_checkpoint.new.host).past in
    let settled = (g.H.Host.seen c.settle_tiers.new.host).past in
    let new = (g.H.Host.seen c.read_left.new.host).past in
    syncs_joined old settled new
    (syncs_joined old loaded settled (c.load_checkpoint.ensures.syncs h) (c.settle_tiers.ensures.syncs h))
    (syncs_same settled new (c.read_left.ensures.past h))

pub returns-in_err-checkpoint-clause-damaged : goal.returns-in_err-checkpoint-clause-damaged
returns-in_err-checkpoint-clause-damaged g c part is h =
    let fault : c.in_err-checkpoint.field-0.0 ≡ Damaged part = search (rules, is) in
    early_part part (reads_as (g.H.Host.seen c.args.host.now).past) (c.in_err-checkpoint.ensures.early part (ap Err fault)) (c.in_err-checkpoint.ensures.damaged part (ap Err fault) h)

pub returns-in_err-kept-clause-damaged : goal.returns-in_err-kept-clause-damaged
returns-in_err-kept-clause-damaged g c part is h =
    let old = (g.H.Host.seen c.args.host.now).past in
    let settled = (g.H.Host.seen c.settle_tiers.new.host).past in
    let same = same_disk (reads_as settled) (reads_as old)
    (λ file. (c.settle_tiers.ensures.syncs h).same file ∙ (c.load_checkpoint.ensures.syncs h).same file) in
    let fault : c.in_err-kept.field-0.0 ≡ _ = search (rules, is) in
    directory_part part c.in_err-kept.field-0.0 (reads_as old) c.in_ok-checkpoint.checkpoint.number c.in_ok-checkpoint.checkpoint.body fault c.in_err-kept.ensures.faults
    (c.in_ok-checkpoint.ensures.loaded h)
    (λ same_fault are. c.in_err-kept.ensures.damaged (ap Err same_fault) h (subst (λ (disk : File → List ℕ). AreFormed c.in_ok-checkpoint.checkpoint.body disk) (sym same) are))

pub returns-in_err-kept-clause-faults : goal.returns-in_err-kept-clause-faults
returns-in_err-kept-clause-faults g c =
    let p = err_from_is_err_and c.from_residual-in_err-kept.result c.from_residual-in_err-kept.ensures.1 in
    rw (p.1, p.2) (extent_fault c.in_err-kept.field-0.0 c.in_err-kept.ensures.faults)

pub returns-clause-formed : goal.returns-clause-formed
returns-clause-formed g c h =
    let old = (g.H.Host.seen c.args.host.now).past in
    let settled = (g.H.Host.seen c.settle_tiers.new.host).past in
    subst (λ (disk : File → List ℕ). AreFormed c.in_ok-checkpoint.checkpoint.body disk)
    (same_disk (reads_as settled) (reads_as old)
    (λ file. (c.settle_tiers.ensures.syncs h).same file ∙ (c.load_checkpoint.ensures.syncs h).same file))
    (c.in_ok-kept.ensures.formed h)
