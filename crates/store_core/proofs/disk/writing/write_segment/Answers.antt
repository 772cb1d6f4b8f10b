use Rattle.host_model.specs.Moments.{begins}
use Rattle.std.proofs.Common.{◌≡◌, ℕ, ◌+◌, ◌≤◌, sym, subst}
use Rattle.std.proofs.lemmas.Result.{err_from_is_err_and}
use Rattle.host_model.specs.declared.file.File.{File}
use Rattle.extent_file.specs.Slot.{slot_size, slot_start, tier_of}
use Rattle.store_core.proofs.DiskProofs.FaultLemmas.{write_cause}
use Rattle.store_core.proofs.DiskProofs.WriteLemmas.{others_stay, stand_at_start}
use Rattle.store_core.proofs.disk.writing.write_segment.Goals as goal

pub returns-in_err-pages-clause-stays : goal.returns-in_err-pages-clause-stays
returns-in_err-pages-clause-stays g c h others apart stand =
    begins (stand_at_start c.args.file c.args.items (g.H.Host.seen c.args.host.now).past others (c.requires.stable h) stand)

pub returns-clause-stays : goal.returns-clause-stays
returns-clause-stays g c h others apart stand =
    others_stay c.args.file c.args.items (g.S.Segment.written c.args.segment.now).slot c.slot.result (g.H.Host.seen c.args.host.now).past (g.H.Host.seen c.write_extent.new.host).past others
    c.slot.ensures (c.requires.stable h) (λ other lies other_slot fits held. c.write_extent.ensures.others other lies other_slot fits h held) apart stand

pub returns-in_err-write_extent-clause-stays : goal.returns-in_err-write_extent-clause-stays
returns-in_err-write_extent-clause-stays g c h others apart stand =
    others_stay c.args.file c.args.items (g.S.Segment.written c.args.segment.now).slot c.slot.result (g.H.Host.seen c.args.host.now).past (g.H.Host.seen c.write_extent.new.host).past others
    c.slot.ensures (c.requires.stable h) (λ other lies other_slot fits held. c.write_extent.ensures.others other lies other_slot fits h held) apart stand

pub returns-in_err-pages-clause-bound : goal.returns-in_err-pages-clause-bound
returns-in_err-pages-clause-bound g c size fits h before = begins before

-- the slot that is written ends where that of the segment does
slot_end : (file : File) (items size slot same : ℕ) → same ≡ slot → slot_start (tier_of file) items slot + slot_size (tier_of file) items ≤ size
    → slot_start (tier_of file) items same + slot_size (tier_of file) items ≤ size
slot_end file items size slot same is fits = subst (λ (n : ℕ). slot_start (tier_of file) items n + slot_size (tier_of file) items ≤ size) (sym is) fits

pub returns-clause-bound : goal.returns-clause-bound
returns-clause-bound g c size fits h before =
    c.write_extent.ensures.bound size (slot_end c.args.file c.args.items size (g.S.Segment.written c.args.segment.now).slot c.slot.result c.slot.ensures fits) h before

pub returns-in_err-write_extent-clause-bound : goal.returns-in_err-write_extent-clause-bound
returns-in_err-write_extent-clause-bound g c size fits h before =
    c.write_extent.ensures.bound size (slot_end c.args.file c.args.items size (g.S.Segment.written c.args.segment.now).slot c.slot.result c.slot.ensures fits) h before

pub returns-in_err-write_extent-clause-cause : goal.returns-in_err-write_extent-clause-cause
returns-in_err-write_extent-clause-cause g c =
    let p = err_from_is_err_and c.from_residual-in_err-write_extent.result c.from_residual-in_err-write_extent.ensures.1 in
    rw (p.1, p.2) (write_cause _ _ c.in_err-write_extent.field-0.0 c.in_err-write_extent.ensures.cause)
