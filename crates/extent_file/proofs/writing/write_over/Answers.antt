use Rattle.std.proofs.Common.{◌+◌, length, arith}
use Rattle.host_model.specs.Images.{contents, written}
use Rattle.host_model.specs.Past.{of}
use Rattle.host_model.specs.Moments.{begins}
use Rattle.host_model.proofs.RunLemmas.{RunsWithin-start, then_within, then_sync}
use Rattle.host_model.proofs.SizeLemmas.{within_write, within_sync}
use Rattle.extent_file.specs.Writing.{KeepsBeside}
use Rattle.extent_file.proofs.WriteLemmas.{beside_moments}
use Rattle.extent_file.proofs.writing.write_over.Goals as goal

pub returns-in_err-write_at-clause-any_moment : goal.returns-in_err-write_at-clause-any_moment
returns-in_err-write_at-clause-any_moment g c h =
    let file = c.args.file in let at = c.args.at in let bytes = c.args.bytes.now in
    let old = (g.H.Host.seen c.args.host.now).past in let first = (g.H.Host.seen c.write_at.new.self).past in
    beside_moments file at (at + length bytes) old first (c.requires.inside h)
    (then_within g.H.Host.honest c.write_at.result file at (at + length bytes) at bytes (written (contents (of file old)) at bytes) old old first h (omega arith) (omega arith)
    c.write_at.ensures.done c.write_at.ensures.torn (begins (RunsWithin-start file at (at + length bytes) old (c.requires.stable h))))

pub returns-clause-any_moment : goal.returns-clause-any_moment
returns-clause-any_moment g c h =
    let file = c.args.file in let at = c.args.at in let bytes = c.args.bytes.now in
    let old = (g.H.Host.seen c.args.host.now).past in let first = (g.H.Host.seen c.write_at.new.self).past in
    then_sync (KeepsBeside at (at + length bytes) (contents (of file old))) g.H.Host.honest c.sync.result file old first (g.H.Host.seen c.sync.new.self).past h c.sync.ensures.done c.sync.ensures.torn
    (g.met.H.Host.reads_an_image c.write_at.new.self file h)
    (beside_moments file at (at + length bytes) old first (c.requires.inside h)
    (then_within g.H.Host.honest c.write_at.result file at (at + length bytes) at bytes (written (contents (of file old)) at bytes) old old first h (omega arith) (omega arith)
    c.write_at.ensures.done c.write_at.ensures.torn (begins (RunsWithin-start file at (at + length bytes) old (c.requires.stable h)))))

pub returns-in_err-write_at-clause-bound : goal.returns-in_err-write_at-clause-bound
returns-in_err-write_at-clause-bound g c size fits h short =
    let file = c.args.file in let at = c.args.at in let bytes = c.args.bytes.now in
    let old = (g.H.Host.seen c.args.host.now).past in let first = (g.H.Host.seen c.write_at.new.self).past in
    let one = within_write g.H.Host.honest c.write_at.result size file at (length bytes) (written (contents (of file old)) at bytes) old old first h (omega (arith, fits)) c.write_at.ensures.done c.write_at.ensures.torn (begins short) in
    one

pub returns-clause-bound : goal.returns-clause-bound
returns-clause-bound g c size fits h short =
    let file = c.args.file in let at = c.args.at in let bytes = c.args.bytes.now in
    let old = (g.H.Host.seen c.args.host.now).past in let first = (g.H.Host.seen c.write_at.new.self).past in
    let one = within_write g.H.Host.honest c.write_at.result size file at (length bytes) (written (contents (of file old)) at bytes) old old first h (omega (arith, fits)) c.write_at.ensures.done c.write_at.ensures.torn (begins short) in
    within_sync g.H.Host.honest c.sync.result size file old first (g.H.Host.seen c.sync.new.self).past h c.sync.ensures.done c.sync.ensures.torn
    (g.met.H.Host.reads_an_image c.write_at.new.self file h) one
