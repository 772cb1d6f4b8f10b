use Rattle.std.proofs.Common.{List, get_or, inl, sym, ap, ◌∙◌, arith}
use Rattle.std.proofs.lemmas.Bool.{false≢true}
use Rattle.std.proofs.lemmas.Result.{on_ok_weaker}
use Rattle.host_model.specs.Images.{contents}
use Rattle.host_model.specs.Past.{Event, of}
use Rattle.host_model.specs.Moments.{EveryImage}
use Rattle.host_model.proofs.SizeLemmas.{StaysWithin}
use Rattle.host_model.proofs.CallLemmas.{unmoved}
use Rattle.checkpoint.specs.Switching.{IsSameOrShut}
use Rattle.checkpoint.proofs.MomentLemmas.{close_moments, from_same, closed_now, reaches_now}
use Rattle.checkpoint.proofs.closing.close_open.Goals as goal

pub returns-in_err-is_open-clause-any_moment : goal.returns-in_err-is_open-clause-any_moment
returns-in_err-is_open-clause-any_moment g c h =
    let old = (g.H.Host.seen c.args.host.now).past in
    unmoved (EveryImage c.args.file (IsSameOrShut (of c.args.file old))) old (g.H.Host.seen c.is_gate_open.new.host).past (c.is_gate_open.ensures.past h) (λ bytes image. inl image)

pub returns-then-is_open-clause-any_moment : goal.returns-then-is_open-clause-any_moment
returns-then-is_open-clause-any_moment g c h =
    let old = (g.H.Host.seen c.args.host.now).past in
    let inside = c.requires.inside h in
    close_moments c.args.file old (g.H.Host.seen c.is_gate_open.new.host).past (g.H.Host.seen c.set_gate.new.host).past (c.is_gate_open.ensures.past h)
    (c.requires.stable h) (omega (arith, inside)) ((c.in_ok-is_open.ensures.value h).0 c.if-is_open.true) (c.set_gate.ensures.any_moment h)

pub returns-clause-any_moment : goal.returns-clause-any_moment
returns-clause-any_moment g c h =
    let old = (g.H.Host.seen c.args.host.now).past in
    unmoved (EveryImage c.args.file (IsSameOrShut (of c.args.file old))) old (g.H.Host.seen c.is_gate_open.new.host).past (c.is_gate_open.ensures.past h) (λ bytes image. inl image)

pub returns-then-is_open-clause-closed : goal.returns-then-is_open-clause-closed
returns-then-is_open-clause-closed g c =
    on_ok_weaker c.set_gate.result
    (λ set h. closed_now (contents (of c.args.file (g.H.Host.seen c.is_gate_open.new.host).past)) (contents (of c.args.file (g.H.Host.seen c.set_gate.new.host).past)) (set h))
    c.set_gate.ensures.set

pub returns-then-is_open-clause-reaches : goal.returns-then-is_open-clause-reaches
returns-then-is_open-clause-reaches g c =
    on_ok_weaker c.set_gate.result
    (λ set h. reaches_now (contents (of c.args.file (g.H.Host.seen c.is_gate_open.new.host).past)) (contents (of c.args.file (g.H.Host.seen c.set_gate.new.host).past)) 0 (set h))
    c.set_gate.ensures.set

pub returns-clause-closed : goal.returns-clause-closed
returns-clause-closed g c h e =
    let gate = ap (λ (past : List Event). get_or (contents (of c.args.file past)) 0 0) (sym (c.is_gate_open.ensures.past h)) ∙ e in
    absurd (false≢true (sym c.if-is_open.false ∙ (c.in_ok-is_open.ensures.value h).1 gate))

pub returns-in_err-is_open-clause-bound : goal.returns-in_err-is_open-clause-bound
returns-in_err-is_open-clause-bound g c size fits h short =
    unmoved (StaysWithin size c.args.file) (g.H.Host.seen c.args.host.now).past (g.H.Host.seen c.is_gate_open.new.host).past (c.is_gate_open.ensures.past h) short

pub returns-then-is_open-clause-bound : goal.returns-then-is_open-clause-bound
returns-then-is_open-clause-bound g c size fits h short =
    from_same (StaysWithin size c.args.file) (g.H.Host.seen c.args.host.now).past (g.H.Host.seen c.is_gate_open.new.host).past (g.H.Host.seen c.set_gate.new.host).past (c.is_gate_open.ensures.past h)
    short (c.set_gate.ensures.bound size fits h)

pub returns-clause-bound : goal.returns-clause-bound
returns-clause-bound g c size fits h short =
    unmoved (StaysWithin size c.args.file) (g.H.Host.seen c.args.host.now).past (g.H.Host.seen c.is_gate_open.new.host).past (c.is_gate_open.ensures.past h) short
