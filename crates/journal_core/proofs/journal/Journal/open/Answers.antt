use Rattle.std.proofs.Common.{sym, subst}
use Rattle.host_model.specs.Images.{IsImage}
use Rattle.host_model.specs.Past.{of}
use Rattle.host_model.specs.Moments.{Throughout, EveryImage}
use Rattle.host_model.proofs.RunLemmas.{images_in_sync}
use Rattle.journal_core.proofs.journal.Journal.open.Goals as goal

pub returns-then-is_err-clause-any_moment : goal.returns-then-is_err-clause-any_moment
returns-then-is_err-clause-any_moment g c h =
    let file = c.args.file in
    let old = (g.H.Host.seen c.args.host.now).past in
    images_in_sync (IsImage (of file old)) g.H.Host.honest c.sync.result file old (g.H.Host.seen c.sync.new.self).past h c.sync.ensures.done c.sync.ensures.torn
    (g.met.H.Host.reads_an_image c.args.host.now file h) (λ bytes image. image)

pub returns-in_err-gate-clause-any_moment : goal.returns-in_err-gate-clause-any_moment
returns-in_err-gate-clause-any_moment g c h =
    let file = c.args.file in
    let old = (g.H.Host.seen c.args.host.now).past in
    subst (Throughout (EveryImage file (IsImage (of file old))) old) (sym (c.read_journal.ensures.past h))
    (images_in_sync (IsImage (of file old)) g.H.Host.honest c.sync.result file old (g.H.Host.seen c.sync.new.self).past h c.sync.ensures.done c.sync.ensures.torn
    (g.met.H.Host.reads_an_image c.args.host.now file h) (λ bytes image. image))

pub returns-clause-any_moment : goal.returns-clause-any_moment
returns-clause-any_moment g c h =
    let file = c.args.file in
    let old = (g.H.Host.seen c.args.host.now).past in
    subst (Throughout (EveryImage file (IsImage (of file old))) old) (sym (c.read_journal.ensures.past h))
    (images_in_sync (IsImage (of file old)) g.H.Host.honest c.sync.result file old (g.H.Host.seen c.sync.new.self).past h c.sync.ensures.done c.sync.ensures.torn
    (g.met.H.Host.reads_an_image c.args.host.now file h) (λ bytes image. image))
