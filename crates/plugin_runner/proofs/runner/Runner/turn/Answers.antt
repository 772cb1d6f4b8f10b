use Rattle.std.proofs.Common.{◌≡◌, None, Some, refl, sym, ap, subst, ◌∙◌, arith}
use Rattle.plugin_runner.specs.Runner.{IsFault, answer_of, answer_in}
use Rattle.plugin_runner.proofs.CourseLemmas.{Advances-nothing, not_more, not_fault, not_spawn, not_pipe}
use Rattle.plugin_runner.proofs.runner.Runner.turn.Goals as goal

pub returns-in-Over-clause-goes : goal.returns-in-Over-clause-goes
returns-in-Over-clause-goes g c = λ course r. record {
  event = None;
  hears = refl;
  more = λ is none. not_more c.in-Over.ending (sym c.answer.ensures ∙ is);
  spawn = not_spawn c.answer.result _ (λ is. not_fault c.in-Over.ending (subst IsFault c.answer.ensures is));
  pipe = not_pipe c.answer.result _ (λ is. not_fault c.in-Over.ending (subst IsFault c.answer.ensures is));
  last = λ runs goes ends none.
      let never : None ≡ Some (answer_of c.in-Over.ending) = sym goes ∙ ap answer_in c.in-Over.is in
      cc never;
  advances = Advances-nothing c.args.self.now course _ c.args.out.now r;
}

pub returns-in-Over-clause-patience : goal.returns-in-Over-clause-patience
returns-in-Over-clause-patience g c = λ is. absurd (not_more c.in-Over.ending (sym c.answer.ensures ∙ is))

pub returns-in-Ready-clause-patience : goal.returns-in-Ready-clause-patience
returns-in-Ready-clause-patience g c = λ is. omega (arith, c.start.ensures.patience is)
