use Rattle.std.proofs.Common.{inl, refl, sym, ◌∙◌, arith}
use Rattle.host_model.specs.Images.{contents}
use Rattle.host_model.specs.Past.{of}
use Rattle.checkpoint.proofs.FormLemmas.{head_in-shut, head_in-read}
use Rattle.checkpoint.proofs.loading.read_head.Goals as goal

pub returns-then-branch-lt-HEAD-clause-head : goal.returns-then-branch-lt-HEAD-clause-head
returns-then-branch-lt-HEAD-clause-head g c h =
    let end = c.in_ok-read.ensures.end h in
    sym (head_in-shut c.args.odd (contents (of c.args.file (g.H.Host.seen c.args.host.now).past)) (inl (omega (arith, end, c.if-branch-lt-HEAD.true))))

pub returns-clause-head : goal.returns-clause-head
returns-clause-head g c h =
    let end = c.in_ok-read.ensures.end h in
    c.head_of.ensures
    ∙ head_in-read c.args.odd c.in_ok-read.field-0 (contents (of c.args.file (g.H.Host.seen c.args.host.now).past)) c.read.new.into _
    (omega (arith, end, c.if-branch-lt-HEAD.false)) (omega (arith, end, c.if-branch-lt-HEAD.false)) refl (c.in_ok-read.ensures.bytes h)
