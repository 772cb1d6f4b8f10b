use Rattle.std.proofs.Common.{◌+◌, length, sym, arith, ◌≤◌, subst}
use Rattle.host_model.specs.Images.{greatest}
use Rattle.host_model.specs.Past.{of}
use Rattle.host_model.proofs.MomentLemmas.{at_end, joined}
use Rattle.checkpoint.specs.Files.{slot_file}
use Rattle.host_model.specs.declared.file.File.{File}
use Rattle.store_core.proofs.DiskProofs.ShareLemmas.{within_on}
use Rattle.store_core.proofs.DiskProofs.BeginLemmas.{begun_disks, checkpoint_stays, journal_empty, not_yet, only_check, only_journal, switches}
use Rattle.store_core.proofs.disk.beginning.begin.Goals as goal

pub returns-in_err-prepare-clause-any_moment : goal.returns-in_err-prepare-clause-any_moment
returns-in_err-prepare-clause-any_moment g c h slot held next =
    let old = (g.H.Host.seen c.args.host.now).past in let new = (g.H.Host.seen c.prepare.new.host).past in
    not_yet c.args.number c.args.body.now slot old new
    (checkpoint_stays c.args.number c.journal_file_of.result slot old new c.journal_file_of.ensures (g.met.H.Host.reads_an_image c.args.host.now c.journal_file_of.result h) held (c.prepare.ensures.any_moment h))

pub returns-in_err-prepare-clause-only_here : goal.returns-in_err-prepare-clause-only_here
returns-in_err-prepare-clause-only_here g c h =
    only_journal c.args.number c.journal_file_of.result (g.H.Host.seen c.args.host.now).past (g.H.Host.seen c.prepare.new.host).past c.journal_file_of.ensures (c.prepare.ensures.any_moment h)

pub returns-in_err-switch-clause-any_moment : goal.returns-in_err-switch-clause-any_moment
returns-in_err-switch-clause-any_moment g c h slot held next =
    let number = c.args.number in let body = c.args.body.now in let file = c.journal_file_of.result in
    let old = (g.H.Host.seen c.args.host.now).past in let middle = (g.H.Host.seen c.prepare.new.host).past in let new = (g.H.Host.seen c.switch.new.host).past in
    let first = checkpoint_stays number file slot old middle c.journal_file_of.ensures (g.met.H.Host.reads_an_image c.args.host.now file h) held (c.prepare.ensures.any_moment h) in
    joined (not_yet number body slot old middle first)
    (switches number body slot middle new (g.met.H.Host.reads_an_image c.prepare.new.host (slot_file number) h) (c.switch.ensures.only_here h)
    (journal_empty number file middle c.journal_file_of.ensures (c.in_ok-prepare.ensures.synced h) (c.in_ok-prepare.ensures.empty h))
    (c.switch.ensures.any_moment h slot (at_end first) next))

pub returns-in_err-switch-clause-only_here : goal.returns-in_err-switch-clause-only_here
returns-in_err-switch-clause-only_here g c h =
    let number = c.args.number in let file = c.journal_file_of.result in
    let old = (g.H.Host.seen c.args.host.now).past in let middle = (g.H.Host.seen c.prepare.new.host).past in let new = (g.H.Host.seen c.switch.new.host).past in
    joined (only_journal number file old middle c.journal_file_of.ensures (c.prepare.ensures.any_moment h))
    (only_check number file old middle new c.journal_file_of.ensures (at_end (c.prepare.ensures.any_moment h)) (c.switch.ensures.only_here h)
    (c.switch.ensures.bound (17 + length c.args.body.now + greatest (of (slot_file number) middle)) (omega arith) h (omega arith)))

pub returns-clause-any_moment : goal.returns-clause-any_moment
returns-clause-any_moment g c h slot held next =
    let number = c.args.number in let body = c.args.body.now in let file = c.journal_file_of.result in
    let old = (g.H.Host.seen c.args.host.now).past in let middle = (g.H.Host.seen c.prepare.new.host).past in let new = (g.H.Host.seen c.switch.new.host).past in
    let first = checkpoint_stays number file slot old middle c.journal_file_of.ensures (g.met.H.Host.reads_an_image c.args.host.now file h) held (c.prepare.ensures.any_moment h) in
    joined (not_yet number body slot old middle first)
    (switches number body slot middle new (g.met.H.Host.reads_an_image c.prepare.new.host (slot_file number) h) (c.switch.ensures.only_here h)
    (journal_empty number file middle c.journal_file_of.ensures (c.in_ok-prepare.ensures.synced h) (c.in_ok-prepare.ensures.empty h))
    (c.switch.ensures.any_moment h slot (at_end first) next))

pub returns-clause-only_here : goal.returns-clause-only_here
returns-clause-only_here g c h =
    let number = c.args.number in let file = c.journal_file_of.result in
    let old = (g.H.Host.seen c.args.host.now).past in let middle = (g.H.Host.seen c.prepare.new.host).past in let new = (g.H.Host.seen c.switch.new.host).past in
    joined (only_journal number file old middle c.journal_file_of.ensures (c.prepare.ensures.any_moment h))
    (only_check number file old middle new c.journal_file_of.ensures (at_end (c.prepare.ensures.any_moment h)) (c.switch.ensures.only_here h)
    (c.switch.ensures.bound (17 + length c.args.body.now + greatest (of (slot_file number) middle)) (omega arith) h (omega arith)))

pub returns-clause-begun : goal.returns-clause-begun
returns-clause-begun g c h slot held next =
    let number = c.args.number in let body = c.args.body.now in let file = c.journal_file_of.result in
    let old = (g.H.Host.seen c.args.host.now).past in let middle = (g.H.Host.seen c.prepare.new.host).past in let new = (g.H.Host.seen c.switch.new.host).past in
    let first = checkpoint_stays number file slot old middle c.journal_file_of.ensures (g.met.H.Host.reads_an_image c.args.host.now file h) held (c.prepare.ensures.any_moment h) in
    begun_disks number file body middle new c.journal_file_of.ensures (c.switch.ensures.only_here h)
    (c.in_ok-prepare.ensures.synced h) (c.in_ok-prepare.ensures.empty h)
    (c.in_ok-switch.ensures.switched h slot (at_end first) next)

pub returns-in_err-prepare-clause-bound : goal.returns-in_err-prepare-clause-bound
returns-in_err-prepare-clause-bound g c shares room h before =
    let file = c.journal_file_of.result in
    let room17 : 17 ≤ shares file = subst (λ (f : File). 17 ≤ shares f) (sym c.journal_file_of.ensures) room.journal in
    within_on shares file (g.H.Host.seen c.args.host.now).past (g.H.Host.seen c.prepare.new.host).past (at_end (c.prepare.ensures.any_moment h)) before
    (c.prepare.ensures.bound (shares file) room17 h (before file))

pub returns-in_err-switch-clause-bound : goal.returns-in_err-switch-clause-bound
returns-in_err-switch-clause-bound g c shares room h before =
    let number = c.args.number in let file = c.journal_file_of.result in
    let old = (g.H.Host.seen c.args.host.now).past in let middle = (g.H.Host.seen c.prepare.new.host).past in let new = (g.H.Host.seen c.switch.new.host).past in
    let room17 : 17 ≤ shares file = subst (λ (f : File). 17 ≤ shares f) (sym c.journal_file_of.ensures) room.journal in
    let first = within_on shares file old middle (at_end (c.prepare.ensures.any_moment h)) before (c.prepare.ensures.bound (shares file) room17 h (before file)) in
    let there = at_end first in
    joined first
    (within_on shares (slot_file number) middle new (c.switch.ensures.only_here h) there
    (c.switch.ensures.bound (shares (slot_file number)) (omega (arith, room.checkpoint)) h (there (slot_file number))))

pub returns-clause-bound : goal.returns-clause-bound
returns-clause-bound g c shares room h before =
    let number = c.args.number in let file = c.journal_file_of.result in
    let old = (g.H.Host.seen c.args.host.now).past in let middle = (g.H.Host.seen c.prepare.new.host).past in let new = (g.H.Host.seen c.switch.new.host).past in
    let room17 : 17 ≤ shares file = subst (λ (f : File). 17 ≤ shares f) (sym c.journal_file_of.ensures) room.journal in
    let first = within_on shares file old middle (at_end (c.prepare.ensures.any_moment h)) before (c.prepare.ensures.bound (shares file) room17 h (before file)) in
    let there = at_end first in
    joined first
    (within_on shares (slot_file number) middle new (c.switch.ensures.only_here h) there
    (c.switch.ensures.bound (shares (slot_file number)) (omega (arith, room.checkpoint)) h (there (slot_file number))))
