use Rattle.std.proofs.Common.{◌∷◌, ◌++◌, inl, inr, arith}
use Rattle.std.proofs.lemmas.Result.{on_ok_weaker}
use Rattle.host_model.specs.Images.{contents}
use Rattle.host_model.specs.Past.{of}
use Rattle.host_model.proofs.MomentLemmas.{at_end, joined, weakened}
use Rattle.checkpoint.proofs.MomentLemmas.{closing_replaced, closed_still, half_open, whole_open}
use Rattle.checkpoint.proofs.switching.replace.Goals as goal

pub returns-in_err-close_gate-clause-any_moment : goal.returns-in_err-close_gate-clause-any_moment
returns-in_err-close_gate-clause-any_moment g c h =
    let past = of c.args.file (g.H.Host.seen c.args.host.now).past in
    weakened (λ _ held bytes image. closing_replaced past (1 ∷ (c.args.head ++ c.args.body.now)) bytes (held bytes image)) (c.close_gate.ensures.any_moment h)

pub returns-in_err-write_rest-clause-any_moment : goal.returns-in_err-write_rest-clause-any_moment
returns-in_err-write_rest-clause-any_moment g c h =
    let file = c.args.file in
    let past = of file (g.H.Host.seen c.args.host.now).past in
    let closed = contents (of file (g.H.Host.seen c.close_gate.new.host).past) in
    joined
    (weakened (λ _ held bytes image. closing_replaced past (1 ∷ (c.args.head ++ c.args.body.now)) bytes (held bytes image)) (c.close_gate.ensures.any_moment h))
    (weakened (λ _ held bytes image. inr (inl (closed_still closed bytes (c.in_ok-close_gate.ensures.closed h) (held bytes image)))) (c.write_rest.ensures.any_moment h))

pub returns-clause-any_moment : goal.returns-clause-any_moment
returns-clause-any_moment g c h =
    let file = c.args.file in
    let rest = c.args.head ++ c.args.body.now in
    let past = of file (g.H.Host.seen c.args.host.now).past in
    let closed = contents (of file (g.H.Host.seen c.close_gate.new.host).past) in
    let behind = contents (of file (g.H.Host.seen c.write_rest.new.host).past) in
    joined
    (joined
    (weakened (λ _ held bytes image. closing_replaced past (1 ∷ rest) bytes (held bytes image)) (c.close_gate.ensures.any_moment h))
    (weakened (λ _ held bytes image. inr (inl (closed_still closed bytes (c.in_ok-close_gate.ensures.closed h) (held bytes image)))) (c.write_rest.ensures.any_moment h)))
    (weakened (λ _ held bytes image. inr (half_open rest closed behind bytes (c.in_ok-close_gate.ensures.reaches h) (c.in_ok-write_rest.ensures.whole h) (held bytes image))) (c.set_gate.ensures.any_moment h))

pub returns-clause-whole : goal.returns-clause-whole
returns-clause-whole g c =
    let file = c.args.file in
    let closed = contents (of file (g.H.Host.seen c.close_gate.new.host).past) in
    let behind = contents (of file (g.H.Host.seen c.write_rest.new.host).past) in
    on_ok_weaker c.set_gate.result
    (λ set h. whole_open (c.args.head ++ c.args.body.now) closed behind (contents (of file (g.H.Host.seen c.set_gate.new.host).past)) (c.in_ok-close_gate.ensures.reaches h) (c.in_ok-write_rest.ensures.whole h) (set h))
    c.set_gate.ensures.set

pub returns-in_err-close_gate-clause-bound : goal.returns-in_err-close_gate-clause-bound
returns-in_err-close_gate-clause-bound g c size fits h short = c.close_gate.ensures.bound size (omega arith) h short

pub returns-in_err-write_rest-clause-bound : goal.returns-in_err-write_rest-clause-bound
returns-in_err-write_rest-clause-bound g c size fits h short =
    let first = c.close_gate.ensures.bound size (omega arith) h short in
    joined first (c.write_rest.ensures.bound size fits h (at_end first))

pub returns-clause-bound : goal.returns-clause-bound
returns-clause-bound g c size fits h short =
    let first = c.close_gate.ensures.bound size (omega arith) h short in
    let second = joined first (c.write_rest.ensures.bound size fits h (at_end first)) in
    joined second (c.set_gate.ensures.bound size (omega arith) h (at_end second))
