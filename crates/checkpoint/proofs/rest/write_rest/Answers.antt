use Rattle.std.proofs.Common.{◌≡◌, ◌+◌, length, take, ◌∙◌, arith, rules}
use Rattle.std.proofs.lemmas.Result.{on_ok_weaker}
use Rattle.host_model.specs.Images.{Wrote, Cut, Synced, contents, written}
use Rattle.host_model.specs.Past.{of}
use Rattle.host_model.specs.Moments.{begins}
use Rattle.host_model.proofs.CallLemmas.{reads_after}
use Rattle.host_model.proofs.RunLemmas.{RunsFrom-start, then_from, then_cut, then_sync}
use Rattle.host_model.proofs.SizeLemmas.{within_write, within_cut, within_sync}
use Rattle.checkpoint.specs.Switching.{KeepsGate}
use Rattle.checkpoint.proofs.MomentLemmas.{gate_moments, rest_reaches, rested}
use Rattle.checkpoint.proofs.rest.write_rest.Goals as goal

pub returns-in_err-write_at-clause-any_moment : goal.returns-in_err-write_at-clause-any_moment
returns-in_err-write_at-clause-any_moment g c h =
    let file = c.args.file in
    let head = c.args.head in
    let old = (g.H.Host.seen c.args.host.now).past in
    let first = (g.H.Host.seen c.write_at.new.self).past in
    gate_moments file old first (c.requires.inside h)
    (then_from g.H.Host.honest c.write_at.result file 1 1 head (written (contents (of file old)) 1 head) old old first h (omega arith) c.write_at.ensures.done c.write_at.ensures.torn
    (begins (RunsFrom-start file 1 old (c.requires.stable h))))

pub returns-in_err-write_at-2-clause-any_moment : goal.returns-in_err-write_at-2-clause-any_moment
returns-in_err-write_at-2-clause-any_moment g c h =
    let file = c.args.file in
    let head = c.args.head in
    let body = c.args.body.now in
    let old = (g.H.Host.seen c.args.host.now).past in
    let first = (g.H.Host.seen c.write_at.new.self).past in
    let second = (g.H.Host.seen c.write_at-2.new.self).past in
    gate_moments file old second (c.requires.inside h)
    (then_from g.H.Host.honest c.write_at-2.result file 1 17 body (written (contents (of file first)) 17 body) old first second h (omega arith) c.write_at-2.ensures.done c.write_at-2.ensures.torn
    (then_from g.H.Host.honest c.write_at.result file 1 1 head (written (contents (of file old)) 1 head) old old first h (omega arith) c.write_at.ensures.done c.write_at.ensures.torn
    (begins (RunsFrom-start file 1 old (c.requires.stable h)))))

pub cut-requires : goal.cut-requires
cut-requires g c h =
    let file = c.args.file in
    let head = c.args.head in
    let body = c.args.body.now in
    let old = (g.H.Host.seen c.args.host.now).past in
    let first = (g.H.Host.seen c.write_at.new.self).past in
    let second = (g.H.Host.seen c.write_at-2.new.self).past in
    rest_reaches head body (contents (of file old)) (contents (of file first)) (contents (of file second)) (search rules) (c.requires.inside h)
    (reads_after file (Wrote 1 (length head) (written (contents (of file old)) 1 head)) old first (c.in_ok-write_at.ensures.done h))
    (reads_after file (Wrote 17 (length body) (written (contents (of file first)) 17 body)) first second (c.in_ok-write_at-2.ensures.done h))

pub returns-in_err-cut-clause-any_moment : goal.returns-in_err-cut-clause-any_moment
returns-in_err-cut-clause-any_moment g c h =
    let file = c.args.file in
    let head = c.args.head in
    let body = c.args.body.now in
    let old = (g.H.Host.seen c.args.host.now).past in
    let first = (g.H.Host.seen c.write_at.new.self).past in
    let second = (g.H.Host.seen c.write_at-2.new.self).past in
    let third = (g.H.Host.seen c.cut.new.self).past in
    gate_moments file old third (c.requires.inside h)
    (then_cut g.H.Host.honest c.cut.result file 1 (17 + length body) (take (17 + length body) (contents (of file second))) old second third h (omega arith) c.cut.ensures.done c.cut.ensures.torn
    (then_from g.H.Host.honest c.write_at-2.result file 1 17 body (written (contents (of file first)) 17 body) old first second h (omega arith) c.write_at-2.ensures.done c.write_at-2.ensures.torn
    (then_from g.H.Host.honest c.write_at.result file 1 1 head (written (contents (of file old)) 1 head) old old first h (omega arith) c.write_at.ensures.done c.write_at.ensures.torn
    (begins (RunsFrom-start file 1 old (c.requires.stable h))))))

pub returns-clause-any_moment : goal.returns-clause-any_moment
returns-clause-any_moment g c h =
    let file = c.args.file in
    let head = c.args.head in
    let body = c.args.body.now in
    let old = (g.H.Host.seen c.args.host.now).past in
    let first = (g.H.Host.seen c.write_at.new.self).past in
    let second = (g.H.Host.seen c.write_at-2.new.self).past in
    let third = (g.H.Host.seen c.cut.new.self).past in
    then_sync (KeepsGate (contents (of file old))) g.H.Host.honest c.sync.result file old third (g.H.Host.seen c.sync.new.self).past h c.sync.ensures.done c.sync.ensures.torn
    (g.met.H.Host.reads_an_image c.cut.new.self file h)
    (gate_moments file old third (c.requires.inside h)
    (then_cut g.H.Host.honest c.cut.result file 1 (17 + length body) (take (17 + length body) (contents (of file second))) old second third h (omega arith) c.cut.ensures.done c.cut.ensures.torn
    (then_from g.H.Host.honest c.write_at-2.result file 1 17 body (written (contents (of file first)) 17 body) old first second h (omega arith) c.write_at-2.ensures.done c.write_at-2.ensures.torn
    (then_from g.H.Host.honest c.write_at.result file 1 1 head (written (contents (of file old)) 1 head) old old first h (omega arith) c.write_at.ensures.done c.write_at.ensures.torn
    (begins (RunsFrom-start file 1 old (c.requires.stable h)))))))

pub returns-clause-whole : goal.returns-clause-whole
returns-clause-whole g c =
    let file = c.args.file in
    let head = c.args.head in
    let body = c.args.body.now in
    let old = (g.H.Host.seen c.args.host.now).past in
    let first = (g.H.Host.seen c.write_at.new.self).past in
    let second = (g.H.Host.seen c.write_at-2.new.self).past in
    let third = (g.H.Host.seen c.cut.new.self).past in
    on_ok_weaker c.sync.result
    (λ synced h.
    reads_after file Synced third (g.H.Host.seen c.sync.new.self).past (synced h)
    ∙ rested head body (contents (of file old)) (contents (of file first)) (contents (of file second)) (contents (of file third))
    (search rules) (c.requires.inside h)
    (reads_after file (Wrote 1 (length head) (written (contents (of file old)) 1 head)) old first (c.in_ok-write_at.ensures.done h))
    (reads_after file (Wrote 17 (length body) (written (contents (of file first)) 17 body)) first second (c.in_ok-write_at-2.ensures.done h))
    (reads_after file (Cut (17 + length body) (take (17 + length body) (contents (of file second)))) second third (c.in_ok-cut.ensures.done h)))
    c.sync.ensures.done

pub returns-in_err-write_at-clause-bound : goal.returns-in_err-write_at-clause-bound
returns-in_err-write_at-clause-bound g c size fits h short =
    let file = c.args.file in
    let head = c.args.head in
    let body = c.args.body.now in
    let head_size : length head ≡ 16 = search rules in
    let old = (g.H.Host.seen c.args.host.now).past in
    let first = (g.H.Host.seen c.write_at.new.self).past in
    within_write g.H.Host.honest c.write_at.result size file 1 (length head) (written (contents (of file old)) 1 head) old old first h (omega arith) c.write_at.ensures.done c.write_at.ensures.torn
    (begins short)

pub returns-in_err-write_at-2-clause-bound : goal.returns-in_err-write_at-2-clause-bound
returns-in_err-write_at-2-clause-bound g c size fits h short =
    let file = c.args.file in
    let head = c.args.head in
    let body = c.args.body.now in
    let head_size : length head ≡ 16 = search rules in
    let old = (g.H.Host.seen c.args.host.now).past in
    let first = (g.H.Host.seen c.write_at.new.self).past in
    let second = (g.H.Host.seen c.write_at-2.new.self).past in
    within_write g.H.Host.honest c.write_at-2.result size file 17 (length body) (written (contents (of file first)) 17 body) old first second h (omega arith) c.write_at-2.ensures.done c.write_at-2.ensures.torn
    (within_write g.H.Host.honest c.write_at.result size file 1 (length head) (written (contents (of file old)) 1 head) old old first h (omega arith) c.write_at.ensures.done c.write_at.ensures.torn
    (begins short))

pub returns-in_err-cut-clause-bound : goal.returns-in_err-cut-clause-bound
returns-in_err-cut-clause-bound g c size fits h short =
    let file = c.args.file in
    let head = c.args.head in
    let body = c.args.body.now in
    let head_size : length head ≡ 16 = search rules in
    let old = (g.H.Host.seen c.args.host.now).past in
    let first = (g.H.Host.seen c.write_at.new.self).past in
    let second = (g.H.Host.seen c.write_at-2.new.self).past in
    let third = (g.H.Host.seen c.cut.new.self).past in
    within_cut g.H.Host.honest c.cut.result size file (17 + length body) (take (17 + length body) (contents (of file second))) old second third h c.cut.ensures.done c.cut.ensures.torn
    (within_write g.H.Host.honest c.write_at-2.result size file 17 (length body) (written (contents (of file first)) 17 body) old first second h (omega arith) c.write_at-2.ensures.done c.write_at-2.ensures.torn
    (within_write g.H.Host.honest c.write_at.result size file 1 (length head) (written (contents (of file old)) 1 head) old old first h (omega arith) c.write_at.ensures.done c.write_at.ensures.torn
    (begins short)))

pub returns-clause-bound : goal.returns-clause-bound
returns-clause-bound g c size fits h short =
    let file = c.args.file in
    let head = c.args.head in
    let body = c.args.body.now in
    let head_size : length head ≡ 16 = search rules in
    let old = (g.H.Host.seen c.args.host.now).past in
    let first = (g.H.Host.seen c.write_at.new.self).past in
    let second = (g.H.Host.seen c.write_at-2.new.self).past in
    let third = (g.H.Host.seen c.cut.new.self).past in
    within_sync g.H.Host.honest c.sync.result size file old third (g.H.Host.seen c.sync.new.self).past h c.sync.ensures.done c.sync.ensures.torn
    (g.met.H.Host.reads_an_image c.cut.new.self file h)
    (within_cut g.H.Host.honest c.cut.result size file (17 + length body) (take (17 + length body) (contents (of file second))) old second third h c.cut.ensures.done c.cut.ensures.torn
    (within_write g.H.Host.honest c.write_at-2.result size file 17 (length body) (written (contents (of file first)) 17 body) old first second h (omega arith) c.write_at-2.ensures.done c.write_at-2.ensures.torn
    (within_write g.H.Host.honest c.write_at.result size file 1 (length head) (written (contents (of file old)) 1 head) old old first h (omega arith) c.write_at.ensures.done c.write_at.ensures.torn
    (begins short))))
