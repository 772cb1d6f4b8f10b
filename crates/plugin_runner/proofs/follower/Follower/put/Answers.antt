use Rattle.std.proofs.Common.{[], ◌∷◌, ◌++◌, length, sym, refl, ap, ◌∙◌, length-append, arith}
use Rattle.plugin_runner.proofs.StepLemmas.{ok-with, err-with, on_ok, on_err, prefix-all, Puts-line, Puts-refused, PutsPrefix-line}
use Rattle.plugin_runner.proofs.follower.Follower.put.Goals as goal

pub returns-in_err-append_line-clause-err : goal.returns-in_err-append_line-clause-err
returns-in_err-append_line-clause-err g c =
    let e = c.in_err-append_line.ensures.err in
    on_err _ _ (PutsPrefix-line c.args.bytes.now c.args.self.now _ _ c.args.out.now c.append_line.new.out e.0 refl e.1 e.2)

pub returns-in-Some-clause-ok : goal.returns-in-Some-clause-ok
returns-in-Some-clause-ok g c =
    ok-with c.note.result _ _ c.note.ensures.ok
    (λ notes. Puts-line c.args.bytes.now c.in-Some.line c.args.self.now c.note.new.self _ _ c.args.out.now c.append_line.new.out (sym c.requires ∙ c.in-Some.is) c.in_ok-append_line.ensures.ok notes)

pub returns-in-None-clause-ok : goal.returns-in-None-clause-ok
returns-in-None-clause-ok g c =
    Puts-refused c.args.bytes.now c.args.self.now _ c.args.out.now c.append_line.new.out (sym c.requires ∙ c.in-None.is) c.in_ok-append_line.ensures.ok

pub returns-in-Some-clause-err : goal.returns-in-Some-clause-err
returns-in-Some-clause-err g c =
    let line = c.args.bytes.now in
    err-with c.note.result _ _ c.note.ensures.err
    (λ same. PutsPrefix-line line c.args.self.now _ _ c.args.out.now c.append_line.new.out (line ++ 10 ∷ []) same c.in_ok-append_line.ensures.ok (prefix-all (line ++ 10 ∷ []) (line ++ 10 ∷ []) refl))

pub returns-in-Some-clause-grows : goal.returns-in-Some-clause-grows
returns-in-Some-clause-grows g c =
    on_ok c.note.result _ (omega (arith, ap length c.in_ok-append_line.ensures.ok, length-append c.args.out.now (c.args.bytes.now ++ 10 ∷ []), length-append c.args.bytes.now (10 ∷ [])))

pub returns-in-None-clause-grows : goal.returns-in-None-clause-grows
returns-in-None-clause-grows g c = omega (arith, ap length c.in_ok-append_line.ensures.ok, length-append c.args.out.now (c.args.bytes.now ++ 10 ∷ []), length-append c.args.bytes.now (10 ∷ []))
