use Rattle.std.proofs.Common.{◌≡◌, ◌++◌, codes, sym, ap, subst, ◌∙◌}
use Rattle.std.specs.Prelude.{decimal}
use Rattle.plugin_runner.specs.Text.{moment, with_moment, with_line_put}
use Rattle.plugin_runner.proofs.StepLemmas.{ok-with, err-with, on_err, grows-moment, same-moment, IsSame, Puts-as, PutsPrefix-as, PutsPrefix-nothing}
use Rattle.plugin_runner.proofs.follower.Follower.put_moment.Goals as goal

pub returns-in_err-line-clause-err : goal.returns-in_err-line-clause-err
returns-in_err-line-clause-err g c = on_err _ _ (PutsPrefix-nothing with_moment c.args.self.now _ c.args.out.now grows-moment)

pub returns-in_err-said-clause-err : goal.returns-in_err-said-clause-err
returns-in_err-said-clause-err g c = on_err _ _ (PutsPrefix-nothing with_moment c.args.self.now _ c.args.out.now grows-moment)

pub returns-clause-ok : goal.returns-clause-ok
returns-clause-ok g c =
    let old = c.args.self.now in
    let text : c.as_slice-2.result.now ≡ codes "MOMENT " ++ decimal (moment old.every old.last old.reading) =
    c.as_slice-2.ensures ∙ c.in_ok-line.ensures ∙ ap (λ m. codes "MOMENT " ++ decimal m) c.moment.ensures.value in
    let same = subst (λ l. IsSame old (with_line_put l) with_moment) (sym text) (same-moment old) in
    ok-with c.put.result _ _ c.put.ensures.ok
    (λ puts. Puts-as (with_line_put c.as_slice-2.result.now) with_moment old c.put.new.self _ _ c.args.out.now c.put.new.out same puts)

pub returns-clause-err : goal.returns-clause-err
returns-clause-err g c =
    let old = c.args.self.now in
    let text : c.as_slice-2.result.now ≡ codes "MOMENT " ++ decimal (moment old.every old.last old.reading) =
    c.as_slice-2.ensures ∙ c.in_ok-line.ensures ∙ ap (λ m. codes "MOMENT " ++ decimal m) c.moment.ensures.value in
    let same = subst (λ l. IsSame old (with_line_put l) with_moment) (sym text) (same-moment old) in
    err-with c.put.result _ _ c.put.ensures.err
    (λ puts. PutsPrefix-as (with_line_put c.as_slice-2.result.now) with_moment old _ _ c.args.out.now c.put.new.out same puts)
