use Rattle.std.proofs.Common.{◌+◌, [], ◌∷◌, arith}
use Rattle.host_model.specs.Images.{contents, written}
use Rattle.host_model.specs.Past.{of}
use Rattle.host_model.specs.Moments.{begins}
use Rattle.host_model.proofs.RunLemmas.{RunsWithin-start, write_within, then_sync}
use Rattle.host_model.proofs.SizeLemmas.{within_write, within_sync}
use Rattle.journal_core.specs.Store.{KeepsBeside}
use Rattle.journal_core.proofs.StoreLemmas.{beside_moments}
use Rattle.journal_core.proofs.gate.open_gate.Goals as goal

pub returns-in_err-write_at-clause-any_moment : goal.returns-in_err-write_at-clause-any_moment
returns-in_err-write_at-clause-any_moment g c h =
    let file = c.args.file in
    let gate = c.args.gate in
    let old = (g.H.Host.seen c.args.host.now).past in
    let new = (g.H.Host.seen c.write_at.new.self).past in
    beside_moments file gate old new (c.requires.inside h)
    (write_within g.H.Host.honest c.write_at.result file gate (gate + 1) gate (1 ∷ []) (written (contents (of file old)) gate (1 ∷ [])) old old new h (omega arith) (omega arith)
    c.write_at.ensures.done c.write_at.ensures.torn
    (RunsWithin-start file gate (gate + 1) old (c.requires.stable h)))

pub returns-clause-any_moment : goal.returns-clause-any_moment
returns-clause-any_moment g c h =
    let file = c.args.file in
    let gate = c.args.gate in
    let old = (g.H.Host.seen c.args.host.now).past in
    let set_open = (g.H.Host.seen c.write_at.new.self).past in
    then_sync (KeepsBeside gate (contents (of file old))) g.H.Host.honest c.sync.result file old set_open (g.H.Host.seen c.sync.new.self).past h c.sync.ensures.done c.sync.ensures.torn
    (g.met.H.Host.reads_an_image c.write_at.new.self file h)
    (beside_moments file gate old set_open (c.requires.inside h)
    (write_within g.H.Host.honest c.write_at.result file gate (gate + 1) gate (1 ∷ []) (written (contents (of file old)) gate (1 ∷ [])) old old set_open h (omega arith) (omega arith)
    c.write_at.ensures.done c.write_at.ensures.torn
    (RunsWithin-start file gate (gate + 1) old (c.requires.stable h))))

pub returns-in_err-write_at-clause-bound : goal.returns-in_err-write_at-clause-bound
returns-in_err-write_at-clause-bound g c size fits h short =
    let file = c.args.file in
    let gate = c.args.gate in
    let old = (g.H.Host.seen c.args.host.now).past in
    within_write g.H.Host.honest c.write_at.result size file gate 1 (written (contents (of file old)) gate (1 ∷ [])) old old (g.H.Host.seen c.write_at.new.self).past h (omega arith) c.write_at.ensures.done c.write_at.ensures.torn
    (begins short)

pub returns-clause-bound : goal.returns-clause-bound
returns-clause-bound g c size fits h short =
    let file = c.args.file in
    let gate = c.args.gate in
    let old = (g.H.Host.seen c.args.host.now).past in
    let set_open = (g.H.Host.seen c.write_at.new.self).past in
    within_sync g.H.Host.honest c.sync.result size file old set_open (g.H.Host.seen c.sync.new.self).past h c.sync.ensures.done c.sync.ensures.torn
    (g.met.H.Host.reads_an_image c.write_at.new.self file h)
    (within_write g.H.Host.honest c.write_at.result size file gate 1 (written (contents (of file old)) gate (1 ∷ [])) old old set_open h (omega arith) c.write_at.ensures.done c.write_at.ensures.torn
    (begins short))
