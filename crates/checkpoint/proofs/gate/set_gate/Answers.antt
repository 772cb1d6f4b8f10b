use Rattle.std.proofs.Common.{[], ◌∷◌, arith}
use Rattle.host_model.specs.Images.{contents, written}
use Rattle.host_model.specs.Past.{of}
use Rattle.host_model.specs.Moments.{begins}
use Rattle.host_model.proofs.RunLemmas.{RunsWithin-start, write_within, then_sync}
use Rattle.host_model.proofs.SizeLemmas.{within_write, within_sync}
use Rattle.checkpoint.specs.Switching.{KeepsBehindGate}
use Rattle.checkpoint.proofs.MomentLemmas.{behind_moments}
use Rattle.checkpoint.proofs.gate.set_gate.Goals as goal

pub returns-in_err-write_at-clause-any_moment : goal.returns-in_err-write_at-clause-any_moment
returns-in_err-write_at-clause-any_moment g c h =
    let file = c.args.file in
    let bytes = c.args.gate ∷ [] in
    let old = (g.H.Host.seen c.args.host.now).past in
    let new = (g.H.Host.seen c.write_at.new.self).past in
    behind_moments file old new (c.requires.inside h)
    (write_within g.H.Host.honest c.write_at.result file 0 1 0 bytes (written (contents (of file old)) 0 bytes) old old new h (omega arith) (omega arith)
    c.write_at.ensures.done c.write_at.ensures.torn
    (RunsWithin-start file 0 1 old (c.requires.stable h)))

pub returns-clause-any_moment : goal.returns-clause-any_moment
returns-clause-any_moment g c h =
    let file = c.args.file in
    let bytes = c.args.gate ∷ [] in
    let old = (g.H.Host.seen c.args.host.now).past in
    let set = (g.H.Host.seen c.write_at.new.self).past in
    then_sync (KeepsBehindGate (contents (of file old))) g.H.Host.honest c.sync.result file old set (g.H.Host.seen c.sync.new.self).past h c.sync.ensures.done c.sync.ensures.torn
    (g.met.H.Host.reads_an_image c.write_at.new.self file h)
    (behind_moments file old set (c.requires.inside h)
    (write_within g.H.Host.honest c.write_at.result file 0 1 0 bytes (written (contents (of file old)) 0 bytes) old old set h (omega arith) (omega arith)
    c.write_at.ensures.done c.write_at.ensures.torn
    (RunsWithin-start file 0 1 old (c.requires.stable h))))

pub returns-in_err-write_at-clause-bound : goal.returns-in_err-write_at-clause-bound
returns-in_err-write_at-clause-bound g c size fits h short =
    let file = c.args.file in
    let bytes = c.args.gate ∷ [] in
    let old = (g.H.Host.seen c.args.host.now).past in
    within_write g.H.Host.honest c.write_at.result size file 0 1 (written (contents (of file old)) 0 bytes) old old (g.H.Host.seen c.write_at.new.self).past h (omega arith) c.write_at.ensures.done c.write_at.ensures.torn
    (begins short)

pub returns-clause-bound : goal.returns-clause-bound
returns-clause-bound g c size fits h short =
    let file = c.args.file in
    let bytes = c.args.gate ∷ [] in
    let old = (g.H.Host.seen c.args.host.now).past in
    let set = (g.H.Host.seen c.write_at.new.self).past in
    within_sync g.H.Host.honest c.sync.result size file old set (g.H.Host.seen c.sync.new.self).past h c.sync.ensures.done c.sync.ensures.torn
    (g.met.H.Host.reads_an_image c.write_at.new.self file h)
    (within_write g.H.Host.honest c.write_at.result size file 0 1 (written (contents (of file old)) 0 bytes) old old set h (omega arith) c.write_at.ensures.done c.write_at.ensures.torn
    (begins short))
