use Rattle.std.proofs.Common.{◌≡◌, ◌==◌, true, false, length, sym, ap, ◌∙◌, List, ℕ}
use Rattle.plugin_runner.specs.Text.{with_moment, with_last_moment}
use Rattle.plugin_runner.proofs.StepLemmas.{ok-with, err-with, nothing, last-none, last-some, Puts-as, PutsPrefix-as, Puts-nothing}
use Rattle.plugin_runner.proofs.follower.Follower.put_last_moment.Goals as goal

pub returns-then-is_empty-clause-ok : goal.returns-then-is_empty-clause-ok
returns-then-is_empty-clause-ok g c =
    let none : (length c.args.self.now.rows == 0) ≡ true = ap (λ (l : List (List ℕ)). length l == 0) (sym c.as_slice.ensures) ∙ sym c.is_empty.ensures ∙ c.if-is_empty.true in
    Puts-as nothing with_last_moment c.args.self.now c.args.self.now _ _ _ _ (last-none c.args.self.now none) (Puts-nothing c.args.self.now _ c.args.out.now)

pub returns-else-is_empty-clause-ok : goal.returns-else-is_empty-clause-ok
returns-else-is_empty-clause-ok g c =
    let some : (length c.args.self.now.rows == 0) ≡ false = ap (λ (l : List (List ℕ)). length l == 0) (sym c.as_slice.ensures) ∙ sym c.is_empty.ensures ∙ c.if-is_empty.false in
    ok-with c.put_moment.result _ _ c.put_moment.ensures.ok
    (λ puts. Puts-as with_moment with_last_moment c.args.self.now c.put_moment.new.self _ _ c.args.out.now c.put_moment.new.out (last-some c.args.self.now some) puts)

pub returns-else-is_empty-clause-err : goal.returns-else-is_empty-clause-err
returns-else-is_empty-clause-err g c =
    let some : (length c.args.self.now.rows == 0) ≡ false = ap (λ (l : List (List ℕ)). length l == 0) (sym c.as_slice.ensures) ∙ sym c.is_empty.ensures ∙ c.if-is_empty.false in
    err-with c.put_moment.result _ _ c.put_moment.ensures.err
    (λ puts. PutsPrefix-as with_moment with_last_moment c.args.self.now _ _ c.args.out.now c.put_moment.new.out (last-some c.args.self.now some) puts)
