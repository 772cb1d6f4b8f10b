use Rattle.std.proofs.Common.{length, ap, length-append, arith}
use Rattle.plugin_runner.specs.Text.{meaning, put, with_due_moment, with_line_put}
use Rattle.plugin_runner.proofs.StepLemmas.{on_err, grows-put, grows-line, Puts-then, PutsPrefix-then, PutsPrefix-more, PutsPrefix-nothing}
use Rattle.plugin_runner.proofs.follower.Follower.take_line.Goals as goal

pub returns-in_err-said-clause-err : goal.returns-in_err-said-clause-err
returns-in_err-said-clause-err g c = on_err _ _ (PutsPrefix-nothing (put c.args.bytes.now) c.args.self.now _ c.args.out.now (grows-put c.args.bytes.now))

pub returns-in_err-put_due_moment-clause-err : goal.returns-in_err-put_due_moment-clause-err
returns-in_err-put_due_moment-clause-err g c =
    let due = rw c.in_ok-said.ensures at c.in_err-put_due_moment.ensures.err in
    on_err _ _
    (PutsPrefix-more (with_due_moment (meaning c.args.bytes.now)) (with_line_put c.args.bytes.now) c.args.self.now _ _ c.args.out.now c.put_due_moment.new.out (grows-line c.args.bytes.now) due)

pub returns-in_err-put-clause-err : goal.returns-in_err-put-clause-err
returns-in_err-put-clause-err g c =
    let due = rw c.in_ok-said.ensures at c.in_ok-put_due_moment.ensures.ok in
    on_err _ _
    (PutsPrefix-then (with_due_moment (meaning c.args.bytes.now)) (with_line_put c.args.bytes.now) c.args.self.now c.put_due_moment.new.self _ _ _ c.args.out.now c.put_due_moment.new.out c.put.new.out due c.in_err-put.ensures.err)

pub returns-clause-ok : goal.returns-clause-ok
returns-clause-ok g c =
    let due = rw c.in_ok-said.ensures at c.in_ok-put_due_moment.ensures.ok in
    Puts-then (with_due_moment (meaning c.args.bytes.now)) (with_line_put c.args.bytes.now) c.args.self.now c.put_due_moment.new.self _ _ _ c.args.out.now c.put_due_moment.new.out c.put.new.out due c.put.new.self c.in_ok-put.ensures.ok

pub returns-clause-grows : goal.returns-clause-grows
returns-clause-grows g c =
    let due = c.in_ok-put_due_moment.ensures.ok in
    omega (arith, ap length due.wrote, length-append c.args.out.now due.added, c.in_ok-put.ensures.grows)
