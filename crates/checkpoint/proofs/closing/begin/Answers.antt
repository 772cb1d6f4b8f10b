use Rattle.std.proofs.Common.{[], ◌∷◌, take, arith}
use Rattle.host_model.specs.Images.{contents, written}
use Rattle.host_model.specs.Past.{of}
use Rattle.host_model.specs.Moments.{begins}
use Rattle.host_model.proofs.SizeLemmas.{within_write, within_cut, within_sync}
use Rattle.checkpoint.proofs.closing.begin.Goals as goal

pub returns-in_err-cut-clause-bound : goal.returns-in_err-cut-clause-bound
returns-in_err-cut-clause-bound g c size fits h short =
    let file = c.args.file in
    let old = (g.H.Host.seen c.args.host.now).past in
    within_cut g.H.Host.honest c.cut.result size file 0 (take 0 (contents (of file old))) old old (g.H.Host.seen c.cut.new.self).past h c.cut.ensures.done c.cut.ensures.torn
    (begins short)

pub returns-in_err-write_at-clause-bound : goal.returns-in_err-write_at-clause-bound
returns-in_err-write_at-clause-bound g c size fits h short =
    let file = c.args.file in
    let old = (g.H.Host.seen c.args.host.now).past in
    let cut = (g.H.Host.seen c.cut.new.self).past in
    within_write g.H.Host.honest c.write_at.result size file 0 1 (written (contents (of file cut)) 0 (0 ∷ [])) old cut (g.H.Host.seen c.write_at.new.self).past h (omega arith) c.write_at.ensures.done c.write_at.ensures.torn
    (within_cut g.H.Host.honest c.cut.result size file 0 (take 0 (contents (of file old))) old old cut h c.cut.ensures.done c.cut.ensures.torn
    (begins short))

pub returns-clause-bound : goal.returns-clause-bound
returns-clause-bound g c size fits h short =
    let file = c.args.file in
    let old = (g.H.Host.seen c.args.host.now).past in
    let cut = (g.H.Host.seen c.cut.new.self).past in
    let gated = (g.H.Host.seen c.write_at.new.self).past in
    within_sync g.H.Host.honest c.sync.result size file old gated (g.H.Host.seen c.sync.new.self).past h c.sync.ensures.done c.sync.ensures.torn
    (g.met.H.Host.reads_an_image c.write_at.new.self file h)
    (within_write g.H.Host.honest c.write_at.result size file 0 1 (written (contents (of file cut)) 0 (0 ∷ [])) old cut gated h (omega arith) c.write_at.ensures.done c.write_at.ensures.torn
    (within_cut g.H.Host.honest c.cut.result size file 0 (take 0 (contents (of file old))) old old cut h c.cut.ensures.done c.cut.ensures.torn
    (begins short)))
