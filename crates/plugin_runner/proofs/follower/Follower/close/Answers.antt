use Rattle.plugin_runner.specs.Text.{with_flush, with_last_moment}
use Rattle.plugin_runner.proofs.StepLemmas.{ok-with, err-with, on_err, grows-last, Puts-then, PutsPrefix-then, PutsPrefix-more}
use Rattle.plugin_runner.proofs.follower.Follower.close.Goals as goal

pub returns-in_err-put_flush-clause-err : goal.returns-in_err-put_flush-clause-err
returns-in_err-put_flush-clause-err g c =
    on_err _ _ (PutsPrefix-more with_flush with_last_moment c.args.self.now _ _ c.args.out.now c.put_flush.new.out grows-last c.in_err-put_flush.ensures.err)

pub returns-clause-ok : goal.returns-clause-ok
returns-clause-ok g c =
    ok-with c.put_last_moment.result _ _ c.put_last_moment.ensures.ok
    (λ puts. Puts-then with_flush with_last_moment c.args.self.now c.put_flush.new.self _ _ _ c.args.out.now c.put_flush.new.out c.put_last_moment.new.out c.in_ok-put_flush.ensures.ok c.put_last_moment.new.self puts)

pub returns-clause-err : goal.returns-clause-err
returns-clause-err g c =
    err-with c.put_last_moment.result _ _ c.put_last_moment.ensures.err
    (λ puts. PutsPrefix-then with_flush with_last_moment c.args.self.now c.put_flush.new.self _ _ _ c.args.out.now c.put_flush.new.out c.put_last_moment.new.out c.in_ok-put_flush.ensures.ok puts)
