use Rattle.std.proofs.Common.{arith, rules}
use Rattle.std.proofs.lemmas.Result.{err_from_is_err_and}
use Rattle.link_frames.proofs.FramesLaw.{refused_as, followed, formless, spells}
use Rattle.link_frames.proofs.reading.read_body.Goals as goal

pub returns-in_err-frame-clause-bad : goal.returns-in_err-frame-clause-bad
returns-in_err-frame-clause-bad c =
    let p = err_from_is_err_and c.from_residual.result c.from_residual.ensures.1 in
    rw (p.1, p.2) (refused_as c.args.body.now c.new-reader.result c.in_err-frame.field-0.0 c.new-reader.ensures c.in_err-frame.ensures.fault)

pub returns-then-not-done-clause-bad : goal.returns-then-not-done-clause-bad
returns-then-not-done-clause-bad c = λ _. followed c.args.body.now c.new-reader.result c.in_ok-frame.frame c.take_body.new.reader c.new-reader.ensures c.in_ok-frame.ensures.taken (search rules)

pub returns-then-not-branch-clause-bad : goal.returns-then-not-branch-clause-bad
returns-then-not-branch-clause-bad c = λ _. formless c.args.body.now c.new-reader.result c.in_ok-frame.frame c.take_body.new.reader c.new-reader.ensures c.in_ok-frame.ensures.taken (search rules)

pub returns-clause-spelling : goal.returns-clause-spelling
returns-clause-spelling c =
    (spells c.args.body.now c.new-reader.result c.in_ok-frame.frame c.take_body.new.reader (λ place. omega (arith, c.type_inv.body place)) c.new-reader.ensures c.in_ok-frame.ensures.taken (search rules) (search rules) c.requires).0

pub returns-clause-spelt : goal.returns-clause-spelt
returns-clause-spelt c =
    (spells c.args.body.now c.new-reader.result c.in_ok-frame.frame c.take_body.new.reader (λ place. omega (arith, c.type_inv.body place)) c.new-reader.ensures c.in_ok-frame.ensures.taken (search rules) (search rules) c.requires).1
