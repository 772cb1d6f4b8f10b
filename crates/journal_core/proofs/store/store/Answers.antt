use Rattle.std.proofs.Common.{inl, arith}
use Rattle.std.proofs.lemmas.Result.{on_ok_weaker}
use Rattle.host_model.specs.Images.{contents}
use Rattle.host_model.specs.Past.{of}
use Rattle.host_model.proofs.MomentLemmas.{at_end, joined, weakened}
use Rattle.journal_core.proofs.StoreLemmas.{through_stands, beside_stands, written_stands}
use Rattle.journal_core.proofs.store.store.Goals as goal

pub returns-in_err-stage-clause-any_moment : goal.returns-in_err-stage-clause-any_moment
returns-in_err-stage-clause-any_moment g c h generation records stands here =
    let file = c.args.file in
    let old = contents (of file (g.H.Host.seen c.args.host.now).past) in
    weakened (λ past kept bytes image. inl (through_stands generation c.args.gate records old bytes stands here (kept bytes image))) (c.stage.ensures.any_moment h)

pub returns-clause-any_moment : goal.returns-clause-any_moment
returns-clause-any_moment g c h generation records stands here =
    let file = c.args.file in
    let gate = c.args.gate in
    let old = contents (of file (g.H.Host.seen c.args.host.now).past) in
    let middle = contents (of file (g.H.Host.seen c.stage.new.host).past) in
    joined
    (weakened (λ past kept bytes image. inl (through_stands generation gate records old bytes stands here (kept bytes image))) (c.stage.ensures.any_moment h))
    (weakened (λ past kept bytes image. beside_stands generation gate records c.args.body.now old middle bytes stands here c.requires.size (c.in_ok-stage.ensures.staged h) (kept bytes image)) (c.open_gate.ensures.any_moment h))

pub returns-clause-stored : goal.returns-clause-stored
returns-clause-stored g c =
    let file = c.args.file in
    let gate = c.args.gate in
    let old = contents (of file (g.H.Host.seen c.args.host.now).past) in
    let middle = contents (of file (g.H.Host.seen c.stage.new.host).past) in
    let new = contents (of file (g.H.Host.seen c.open_gate.new.host).past) in
    on_ok_weaker c.open_gate.result
    (λ opened h generation records stands here.
    written_stands generation gate records c.args.body.now old middle new stands here c.requires.size (c.in_ok-stage.ensures.staged h) (opened h))
    c.open_gate.ensures.opened

pub returns-in_err-stage-clause-bound : goal.returns-in_err-stage-clause-bound
returns-in_err-stage-clause-bound g c size fits h short = c.stage.ensures.bound size fits h short

pub returns-clause-bound : goal.returns-clause-bound
returns-clause-bound g c size fits h short =
    let first = c.stage.ensures.bound size fits h short in
    joined first (c.open_gate.ensures.bound size (omega arith) h (at_end first))
