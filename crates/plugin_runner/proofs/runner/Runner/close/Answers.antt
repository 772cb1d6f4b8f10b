use Rattle.std.proofs.Common.{◌≡◌, ◌≢◌, ◌+◌, ℤ, pos, Some, refl, sym, ap, ◌∙◌, of_z, to_z, to_z-of_z, w32, arith}
use Rattle.plugin_runner.specs.declared.runner.Ending.TheVariants as ending
use Rattle.plugin_runner.specs.declared.runner.Phase.TheVariants.{Ready, Over}
use Rattle.plugin_runner.specs.declared.runner.Runner.{Runner}
use Rattle.plugin_runner.specs.Course.{End, course_after}
use Rattle.plugin_runner.proofs.CourseLemmas.{err_is, ok_is, over-runner, tells-some_close, tells-status, tells-ended, waits-again, not_more}
use Rattle.plugin_runner.proofs.runner.Runner.close.Goals as goal

pub returns-then-is_err-clause-goes : goal.returns-then-is_err-clause-goes
returns-then-is_err-clause-goes g c = λ course l.
    let p = err_is c.close.result _ (sym c.is_err.ensures.value ∙ c.if-is_err.true) c.close.ensures.err in
    record {
      taken = p.taken;
      reads = p.reads;
      added = p.added;
      wrote = p.wrote;
      next = over-runner c.end.new.self (course_after (Some (End c.args.status)) p.taken p.added course) ending.Memory c.end.ensures.phase
          (tells-some_close c.args.self.now course c.args.status l _ _ c.args.out.now c.close.new.out p);
    }

pub returns-then-status-ne0-clause-goes : goal.returns-then-status-ne0-clause-goes
returns-then-status-ne0-clause-goes g c = λ course l.
    let p = ok_is c.close.result _ (sym c.is_err.ensures.value ∙ c.if-is_err.false) c.close.ensures.ok in
    let other : c.args.status ≢ pos 0 = λ is. c.if-status-ne0.true (ap (of_z w32) is) in
    record {
      taken = p.taken;
      reads = p.reads;
      added = p.added;
      wrote = p.wrote;
      next = over-runner c.end-then-status-ne0.new.self (course_after (Some (End c.args.status)) p.taken p.added course) (ending.Disabled (Some c.args.status)) (c.end-then-status-ne0.ensures.phase ∙ ap (λ (z : ℤ). Over (ending.Disabled (Some z))) (to_z-of_z c.ranges.status))
          (tells-status c.args.self.now course c.args.status l c.close.new.self _ _ c.args.out.now c.close.new.out p other);
    }

pub returns-in-None-clause-goes : goal.returns-in-None-clause-goes
returns-in-None-clause-goes g c = λ course l.
    let p = ok_is c.close.result _ (sym c.is_err.ensures.value ∙ c.if-is_err.false) c.close.ensures.ok in
    let zero : c.args.status ≡ pos 0 = sym (to_z-of_z c.ranges.status) ∙ ap (to_z w32) c.if-status-ne0.false in
    let none : c.args.self.now.restarts ≡ 0 = omega (arith, c.in-None.ensures) in
    record {
      taken = p.taken;
      reads = p.reads;
      added = p.added;
      wrote = p.wrote;
      next = over-runner c.end-in-None.new.self (course_after (Some (End c.args.status)) p.taken p.added course) ending.Ended c.end-in-None.ensures.phase
          (tells-ended c.args.self.now course c.args.status l c.close.new.self _ _ c.args.out.now c.close.new.out p zero none);
    }

pub returns-in-Some-clause-goes : goal.returns-in-Some-clause-goes
returns-in-Some-clause-goes g c = λ course l.
    let p = ok_is c.close.result _ (sym c.is_err.ensures.value ∙ c.if-is_err.false) c.close.ensures.ok in
    let zero : c.args.status ≡ pos 0 = sym (to_z-of_z c.ranges.status) ∙ ap (to_z w32) c.if-status-ne0.false in
    let new : Runner = record c.args.self.now { restarts = c.in-Some.restarts; follower = c.close.new.self; splitter = c.new.result; phase = Ready } in
    let less : c.args.self.now.restarts ≡ c.in-Some.restarts + 1 = omega (arith, c.in-Some.ensures) in
    record {
      taken = p.taken;
      reads = p.reads;
      added = p.added;
      wrote = p.wrote;
      next = waits-again c.args.self.now course c.args.status l c.close.new.self _ _ c.args.out.now c.close.new.out p zero new refl refl less refl c.new.ensures.empty c.new.ensures.open;
    }

pub returns-then-is_err-clause-again : goal.returns-then-is_err-clause-again
returns-then-is_err-clause-again g c = λ is. absurd (not_more ending.Memory (sym c.end.ensures.answer ∙ is))

pub returns-then-status-ne0-clause-again : goal.returns-then-status-ne0-clause-again
returns-then-status-ne0-clause-again g c = λ is. absurd (not_more (ending.Disabled (Some (to_z w32 (of_z w32 c.args.status)))) (sym c.end-then-status-ne0.ensures.answer ∙ is))

pub returns-in-None-clause-again : goal.returns-in-None-clause-again
returns-in-None-clause-again g c = λ is. absurd (not_more ending.Ended (sym c.end-in-None.ensures.answer ∙ is))

pub returns-in-Some-clause-again : goal.returns-in-Some-clause-again
returns-in-Some-clause-again g c = λ is. (refl, omega (arith, c.in-Some.ensures))
