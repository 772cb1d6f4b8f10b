use Rattle.plugin_runner.specs.Text.{with_moment, with_due_moment}
use Rattle.plugin_runner.proofs.StepLemmas.{ok-with, err-with, nothing, due-yes, due-no, Puts-as, PutsPrefix-as, Puts-nothing}
use Rattle.plugin_runner.proofs.follower.Follower.put_due_moment.Goals as goal

pub returns-then-is_due-clause-ok : goal.returns-then-is_due-clause-ok
returns-then-is_due-clause-ok g c =
    ok-with c.put_moment.result _ _ c.put_moment.ensures.ok
    (λ puts. Puts-as with_moment (with_due_moment c.args.next.now) c.args.self.now c.put_moment.new.self _ _ c.args.out.now c.put_moment.new.out
    (due-yes c.args.self.now c.args.next.now c.is_due.result c.is_due.ensures c.if-is_due.true) puts)

pub returns-then-is_due-clause-err : goal.returns-then-is_due-clause-err
returns-then-is_due-clause-err g c =
    err-with c.put_moment.result _ _ c.put_moment.ensures.err
    (λ puts. PutsPrefix-as with_moment (with_due_moment c.args.next.now) c.args.self.now _ _ c.args.out.now c.put_moment.new.out
    (due-yes c.args.self.now c.args.next.now c.is_due.result c.is_due.ensures c.if-is_due.true) puts)

pub returns-else-is_due-clause-ok : goal.returns-else-is_due-clause-ok
returns-else-is_due-clause-ok g c =
    Puts-as nothing (with_due_moment c.args.next.now) c.args.self.now c.args.self.now _ _ _ _
    (due-no c.args.self.now c.args.next.now c.is_due.result c.is_due.ensures c.if-is_due.false) (Puts-nothing c.args.self.now _ c.args.out.now)
