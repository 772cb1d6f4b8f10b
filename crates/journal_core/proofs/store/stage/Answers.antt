use Rattle.std.proofs.Common.{◌≡◌, ℕ, ◌+◌, ◌≤◌, List, [], ◌∷◌, length, sym, ap, ◌∙◌, subst, arith}
use Rattle.std.proofs.lemmas.Result.{on_ok_weaker}
use Rattle.host_model.specs.Images.{Wrote, Synced, contents, written}
use Rattle.host_model.specs.Past.{of}
use Rattle.host_model.specs.Moments.{begins}
use Rattle.host_model.proofs.RunLemmas.{RunsFrom-start, then_from, then_sync}
use Rattle.host_model.proofs.SizeLemmas.{within_write, within_sync}
use Rattle.journal_core.specs.Form.{length_field, record_size}
use Rattle.journal_core.specs.Store.{KeepsThrough, Stages}
use Rattle.host_model.proofs.CallLemmas.{reads_after}
use Rattle.journal_core.proofs.FormLemmas.{length-length_field}
use Rattle.journal_core.proofs.StoreLemmas.{through_moments, staged}
use Rattle.journal_core.proofs.store.stage.Goals as goal

pub returns-in_err-write_at-clause-any_moment : goal.returns-in_err-write_at-clause-any_moment
returns-in_err-write_at-clause-any_moment g c h =
    let file = c.args.file in
    let gate = c.args.gate in
    let field = c.length_bytes.result in
    let old = (g.H.Host.seen c.args.host.now).past in
    let first = (g.H.Host.seen c.write_at.new.self).past in
    through_moments file gate old first (c.requires.inside h)
    (then_from g.H.Host.honest c.write_at.result file (gate + 1) (gate + 1) field (written (contents (of file old)) (gate + 1) field) old old first h (omega arith) c.write_at.ensures.done c.write_at.ensures.torn
    (begins (RunsFrom-start file (gate + 1) old (c.requires.stable h))))

pub returns-in_err-write_at-2-clause-any_moment : goal.returns-in_err-write_at-2-clause-any_moment
returns-in_err-write_at-2-clause-any_moment g c h =
    let file = c.args.file in
    let gate = c.args.gate in
    let field = c.length_bytes.result in
    let body = c.args.body.now in
    let old = (g.H.Host.seen c.args.host.now).past in
    let first = (g.H.Host.seen c.write_at.new.self).past in
    let second = (g.H.Host.seen c.write_at-2.new.self).past in
    through_moments file gate old second (c.requires.inside h)
    (then_from g.H.Host.honest c.write_at-2.result file (gate + 1) (gate + 5) body (written (contents (of file first)) (gate + 5) body) old first second h (omega arith) c.write_at-2.ensures.done c.write_at-2.ensures.torn
    (then_from g.H.Host.honest c.write_at.result file (gate + 1) (gate + 1) field (written (contents (of file old)) (gate + 1) field) old old first h (omega arith) c.write_at.ensures.done c.write_at.ensures.torn
    (begins (RunsFrom-start file (gate + 1) old (c.requires.stable h)))))

pub returns-in_err-write_at-3-clause-any_moment : goal.returns-in_err-write_at-3-clause-any_moment
returns-in_err-write_at-3-clause-any_moment g c h =
    let file = c.args.file in
    let gate = c.args.gate in
    let field = c.length_bytes.result in
    let body = c.args.body.now in
    let end = gate + 5 + length body in
    let old = (g.H.Host.seen c.args.host.now).past in
    let first = (g.H.Host.seen c.write_at.new.self).past in
    let second = (g.H.Host.seen c.write_at-2.new.self).past in
    let third = (g.H.Host.seen c.write_at-3.new.self).past in
    through_moments file gate old third (c.requires.inside h)
    (then_from g.H.Host.honest c.write_at-3.result file (gate + 1) end (0 ∷ []) (written (contents (of file second)) end (0 ∷ [])) old second third h (omega arith) c.write_at-3.ensures.done c.write_at-3.ensures.torn
    (then_from g.H.Host.honest c.write_at-2.result file (gate + 1) (gate + 5) body (written (contents (of file first)) (gate + 5) body) old first second h (omega arith) c.write_at-2.ensures.done c.write_at-2.ensures.torn
    (then_from g.H.Host.honest c.write_at.result file (gate + 1) (gate + 1) field (written (contents (of file old)) (gate + 1) field) old old first h (omega arith) c.write_at.ensures.done c.write_at.ensures.torn
    (begins (RunsFrom-start file (gate + 1) old (c.requires.stable h))))))

pub returns-clause-any_moment : goal.returns-clause-any_moment
returns-clause-any_moment g c h =
    let file = c.args.file in
    let gate = c.args.gate in
    let field = c.length_bytes.result in
    let body = c.args.body.now in
    let end = gate + 5 + length body in
    let old = (g.H.Host.seen c.args.host.now).past in
    let first = (g.H.Host.seen c.write_at.new.self).past in
    let second = (g.H.Host.seen c.write_at-2.new.self).past in
    let third = (g.H.Host.seen c.write_at-3.new.self).past in
    then_sync (KeepsThrough gate (contents (of file old))) g.H.Host.honest c.sync.result file old third (g.H.Host.seen c.sync.new.self).past h c.sync.ensures.done c.sync.ensures.torn
    (g.met.H.Host.reads_an_image c.write_at-3.new.self file h)
    (through_moments file gate old third (c.requires.inside h)
    (then_from g.H.Host.honest c.write_at-3.result file (gate + 1) end (0 ∷ []) (written (contents (of file second)) end (0 ∷ [])) old second third h (omega arith) c.write_at-3.ensures.done c.write_at-3.ensures.torn
    (then_from g.H.Host.honest c.write_at-2.result file (gate + 1) (gate + 5) body (written (contents (of file first)) (gate + 5) body) old first second h (omega arith) c.write_at-2.ensures.done c.write_at-2.ensures.torn
    (then_from g.H.Host.honest c.write_at.result file (gate + 1) (gate + 1) field (written (contents (of file old)) (gate + 1) field) old old first h (omega arith) c.write_at.ensures.done c.write_at.ensures.torn
    (begins (RunsFrom-start file (gate + 1) old (c.requires.stable h)))))))

pub returns-clause-staged : goal.returns-clause-staged
returns-clause-staged g c =
    let file = c.args.file in
    let gate = c.args.gate in
    let field = c.length_bytes.result in
    let body = c.args.body.now in
    let end = gate + 5 + length body in
    let old = (g.H.Host.seen c.args.host.now).past in
    let first = (g.H.Host.seen c.write_at.new.self).past in
    let second = (g.H.Host.seen c.write_at-2.new.self).past in
    let third = (g.H.Host.seen c.write_at-3.new.self).past in
    on_ok_weaker c.sync.result
    (λ synced h.
    subst (λ (new : List ℕ). Stages gate body (contents (of file old)) new) (sym (reads_after file Synced third (g.H.Host.seen c.sync.new.self).past (synced h)))
    (staged gate field body (contents (of file old)) (contents (of file first)) (contents (of file second)) (contents (of file third))
    c.length_bytes.ensures (c.requires.inside h)
    (reads_after file (Wrote (gate + 1) (length field) (written (contents (of file old)) (gate + 1) field)) old first (c.in_ok-write_at.ensures.done h))
    (reads_after file (Wrote (gate + 5) (length body) (written (contents (of file first)) (gate + 5) body)) first second (c.in_ok-write_at-2.ensures.done h))
    (reads_after file (Wrote end 1 (written (contents (of file second)) end (0 ∷ []))) second third (c.in_ok-write_at-3.ensures.done h))))
    c.sync.ensures.done

-- the length of a record ends before the record does
field_fits : (gate size : ℕ) (field body : List ℕ) → field ≡ length_field (length body) → gate + 1 + record_size body ≤ size → gate + 1 + length field ≤ size
field_fits gate size field body is_field fits = omega (arith, ap length is_field ∙ length-length_field (length body))

pub returns-in_err-write_at-clause-bound : goal.returns-in_err-write_at-clause-bound
returns-in_err-write_at-clause-bound g c size fits h short =
    let file = c.args.file in
    let gate = c.args.gate in
    let field = c.length_bytes.result in
    let body = c.args.body.now in
    let old = (g.H.Host.seen c.args.host.now).past in
    let first = (g.H.Host.seen c.write_at.new.self).past in
    within_write g.H.Host.honest c.write_at.result size file (gate + 1) (length field) (written (contents (of file old)) (gate + 1) field) old old first h (field_fits gate size field body c.length_bytes.ensures fits) c.write_at.ensures.done c.write_at.ensures.torn
    (begins short)

pub returns-in_err-write_at-2-clause-bound : goal.returns-in_err-write_at-2-clause-bound
returns-in_err-write_at-2-clause-bound g c size fits h short =
    let file = c.args.file in
    let gate = c.args.gate in
    let field = c.length_bytes.result in
    let body = c.args.body.now in
    let old = (g.H.Host.seen c.args.host.now).past in
    let first = (g.H.Host.seen c.write_at.new.self).past in
    let second = (g.H.Host.seen c.write_at-2.new.self).past in
    within_write g.H.Host.honest c.write_at-2.result size file (gate + 5) (length body) (written (contents (of file first)) (gate + 5) body) old first second h (omega arith) c.write_at-2.ensures.done c.write_at-2.ensures.torn
    (within_write g.H.Host.honest c.write_at.result size file (gate + 1) (length field) (written (contents (of file old)) (gate + 1) field) old old first h (field_fits gate size field body c.length_bytes.ensures fits) c.write_at.ensures.done c.write_at.ensures.torn
    (begins short))

pub returns-in_err-write_at-3-clause-bound : goal.returns-in_err-write_at-3-clause-bound
returns-in_err-write_at-3-clause-bound g c size fits h short =
    let file = c.args.file in
    let gate = c.args.gate in
    let field = c.length_bytes.result in
    let body = c.args.body.now in
    let end = gate + 5 + length body in
    let old = (g.H.Host.seen c.args.host.now).past in
    let first = (g.H.Host.seen c.write_at.new.self).past in
    let second = (g.H.Host.seen c.write_at-2.new.self).past in
    let third = (g.H.Host.seen c.write_at-3.new.self).past in
    within_write g.H.Host.honest c.write_at-3.result size file end 1 (written (contents (of file second)) end (0 ∷ [])) old second third h (omega arith) c.write_at-3.ensures.done c.write_at-3.ensures.torn
    (within_write g.H.Host.honest c.write_at-2.result size file (gate + 5) (length body) (written (contents (of file first)) (gate + 5) body) old first second h (omega arith) c.write_at-2.ensures.done c.write_at-2.ensures.torn
    (within_write g.H.Host.honest c.write_at.result size file (gate + 1) (length field) (written (contents (of file old)) (gate + 1) field) old old first h (field_fits gate size field body c.length_bytes.ensures fits) c.write_at.ensures.done c.write_at.ensures.torn
    (begins short)))

pub returns-clause-bound : goal.returns-clause-bound
returns-clause-bound g c size fits h short =
    let file = c.args.file in
    let gate = c.args.gate in
    let field = c.length_bytes.result in
    let body = c.args.body.now in
    let end = gate + 5 + length body in
    let old = (g.H.Host.seen c.args.host.now).past in
    let first = (g.H.Host.seen c.write_at.new.self).past in
    let second = (g.H.Host.seen c.write_at-2.new.self).past in
    let third = (g.H.Host.seen c.write_at-3.new.self).past in
    within_sync g.H.Host.honest c.sync.result size file old third (g.H.Host.seen c.sync.new.self).past h c.sync.ensures.done c.sync.ensures.torn
    (g.met.H.Host.reads_an_image c.write_at-3.new.self file h)
    (within_write g.H.Host.honest c.write_at-3.result size file end 1 (written (contents (of file second)) end (0 ∷ [])) old second third h (omega arith) c.write_at-3.ensures.done c.write_at-3.ensures.torn
    (within_write g.H.Host.honest c.write_at-2.result size file (gate + 5) (length body) (written (contents (of file first)) (gate + 5) body) old first second h (omega arith) c.write_at-2.ensures.done c.write_at-2.ensures.torn
    (within_write g.H.Host.honest c.write_at.result size file (gate + 1) (length field) (written (contents (of file old)) (gate + 1) field) old old first h (field_fits gate size field body c.length_bytes.ensures fits) c.write_at.ensures.done c.write_at.ensures.torn
    (begins short))))
