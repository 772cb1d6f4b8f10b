use Rattle.std.proofs.Common.{arith}
use Rattle.host_model.specs.Past.{of}
use Rattle.host_model.proofs.SizeLemmas.{within_when_synced, within_images}
use Rattle.journal_core.proofs.start.prepare.Goals as goal

pub returns-clause-short : goal.returns-clause-short
returns-clause-short g c h stable short =
    let file = c.args.file in
    let old = (g.H.Host.seen c.args.host.now).past in
    within_images 17 file old (g.H.Host.seen c.put_down.new.host).past (c.put_down.ensures.bound 17 (omega arith) h (within_when_synced 17 (of file old) stable short))
