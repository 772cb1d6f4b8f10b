use Rattle.std.proofs.Common.{◌≡◌, true, false, is_some, not, ap, ◌∙◌}
use Rattle.plugin_runner.specs.Text.{flush_line, with_flush, with_line_put}
use Rattle.plugin_runner.proofs.StepLemmas.{ok-with, err-with, on_err, nothing, grows-flush, flush-none, flush-some, Puts-as, PutsPrefix-as, Puts-nothing, PutsPrefix-nothing}
use Rattle.plugin_runner.proofs.follower.Follower.put_flush.Goals as goal

pub returns-then-is_none-clause-ok : goal.returns-then-is_none-clause-ok
returns-then-is_none-clause-ok g c =
    let none : is_some c.args.self.now.block ≡ false = c.is_none.ensures ∙ ap not c.if-is_none.true in
    Puts-as nothing with_flush c.args.self.now c.args.self.now _ _ _ _ (flush-none c.args.self.now none) (Puts-nothing c.args.self.now _ c.args.out.now)

pub returns-in_err-said-clause-err : goal.returns-in_err-said-clause-err
returns-in_err-said-clause-err g c = on_err _ _ (PutsPrefix-nothing with_flush c.args.self.now _ c.args.out.now grows-flush)

pub returns-clause-ok : goal.returns-clause-ok
returns-clause-ok g c =
    let some : is_some c.args.self.now.block ≡ true = c.is_none.ensures ∙ ap not c.if-is_none.false in
    ok-with c.put.result _ _ c.put.ensures.ok
    (λ puts. Puts-as (with_line_put flush_line) with_flush c.args.self.now c.put.new.self _ _ c.args.out.now c.put.new.out (flush-some c.args.self.now some) puts)

pub returns-clause-err : goal.returns-clause-err
returns-clause-err g c =
    let some : is_some c.args.self.now.block ≡ true = c.is_none.ensures ∙ ap not c.if-is_none.false in
    err-with c.put.result _ _ c.put.ensures.err
    (λ puts. PutsPrefix-as (with_line_put flush_line) with_flush c.args.self.now _ _ c.args.out.now c.put.new.out (flush-some c.args.self.now some) puts)
