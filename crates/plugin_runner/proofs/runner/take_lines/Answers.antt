use Rattle.std.proofs.Common.{◌≡◌, ◌<◌, ◌+◌, ℕ, suc, List, [], ◌∷◌, ◌++◌, add-one, length, take, drop, get_or, sym, ap, subst, ◌∙◌, arith, drop-cons}
use Rattle.std.proofs.lemmas.List.{take_more, take-append-drop}
use Rattle.plugin_runner.specs.Steps.{PutsAll, PutsSome}
use Rattle.plugin_runner.proofs.LinesLemmas.{IsPlain-snoc, Puts-next, PutsPrefix-next}
use Rattle.plugin_runner.proofs.StepLemmas.{Puts-nothing, on_err}
use Rattle.plugin_runner.proofs.runner.take_lines.Goals as goal

whole : (lines : List (List ℕ)) (at : ℕ) (line : List ℕ) → at < length lines → line ≡ get_or lines at line → lines ≡ take at lines ++ line ∷ drop (at + 1) lines
whole lines at line within is =
    sym (take-append-drop at lines) ∙ ap (λ (l : List (List ℕ)). take at lines ++ l) (rw (add-one) (drop-cons lines at line within ∙ ap (λ (x : List ℕ). x ∷ drop (suc at) lines) (sym is)))

pub loop-at-init : goal.loop-at-init
loop-at-init g c = (record { plain = tt; puts = Puts-nothing c.args.follower.now _ c.args.out.now }, omega arith)

pub returns-in_err-take_line-clause-err : goal.returns-in_err-take_line-clause-err
returns-in_err-take_line-clause-err g c =
    let lines = c.args.lines.now in
    let at = c.loop-at.at in
    let line = c.line.result.now in
    let within : at < length lines = omega arith in
    let some : PutsSome lines c.args.follower.now (g.C.Clock.readings c.args.clock.now) (g.C.Clock.readings c.take_line.new.clock) c.args.out.now c.take_line.new.out = record {
      prefix = take at lines;
      last = line;
      more = drop (at + 1) lines;
      whole = whole lines at line within c.line.ensures;
      plain = c.loop-at.invariant.0.plain;
      puts = PutsPrefix-next (take at lines) line c.args.follower.now c.loop-at.follower _ _ _ c.args.out.now c.loop-at.out c.take_line.new.out c.loop-at.invariant.0.puts [] c.in_err-take_line.ensures.err;
    } in
    on_err _ _ some

pub returns-then-branch-clause-ok : goal.returns-then-branch-clause-ok
returns-then-branch-clause-ok g c =
    let lines = c.args.lines.now in
    let at = c.loop-at.at in
    let line = c.line.result.now in
    let within : at < length lines = omega arith in
    record {
      prefix = take at lines;
      last = line;
      more = drop (at + 1) lines;
      whole = whole lines at line within c.line.ensures;
      plain = c.loop-at.invariant.0.plain;
      says = sym c.in_ok-take_line.ensures.disables ∙ c.if-branch.true;
      puts = Puts-next (take at lines) line c.args.follower.now c.loop-at.follower _ _ _ c.args.out.now c.loop-at.out c.take_line.new.out c.loop-at.invariant.0.puts c.take_line.new.self c.in_ok-take_line.ensures.ok;
    }

pub loop-at-preserved : goal.loop-at-preserved
loop-at-preserved g c =
    let lines = c.args.lines.now in
    let at = c.loop-at.at in
    let line = c.line.result.now in
    let within : at < length lines = omega arith in
    let next : take (at + 1) lines ≡ take at lines ++ line ∷ [] = take_more lines at line within ∙ ap (λ (x : List ℕ). take at lines ++ x ∷ []) (sym c.line.ensures) in (
      subst (λ all. PutsAll all c.args.follower.now c.take_line.new.self (g.C.Clock.readings c.args.clock.now) (g.C.Clock.readings c.take_line.new.clock) c.args.out.now c.take_line.new.out) (sym next)
          (record {
            plain = IsPlain-snoc (take at lines) line c.loop-at.invariant.0.plain (sym c.in_ok-take_line.ensures.disables ∙ c.if-branch.false);
            puts = Puts-next (take at lines) line c.args.follower.now c.loop-at.follower _ _ _ c.args.out.now c.loop-at.out c.take_line.new.out c.loop-at.invariant.0.puts c.take_line.new.self c.in_ok-take_line.ensures.ok;
          }),
      omega (arith, c.loop-at.invariant.1, c.in_ok-take_line.ensures.grows),
    )

pub returns-clause-grows : goal.returns-clause-grows
returns-clause-grows g c = omega (arith, c.loop-at.invariant.1, c.len-at-end.ensures, c.loop-at-test.false)
