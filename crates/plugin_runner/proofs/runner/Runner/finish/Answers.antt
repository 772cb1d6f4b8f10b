use Rattle.std.proofs.Common.{None, refl}
use Rattle.plugin_runner.proofs.CourseLemmas.{Advances-nothing, runner-listens}
use Rattle.plugin_runner.specs.Patience.{room}
use Rattle.plugin_runner.proofs.PatienceLemmas.{end-spends}
use Rattle.plugin_runner.proofs.runner.Runner.finish.Goals as goal

pub returns-in-Err-clause-goes : goal.returns-in-Err-clause-goes
returns-in-Err-clause-goes g c = λ course r. record {
  event = None;
  hears = c.in-Err.ensures.kept;
  more = λ is none. cc is;
  spawn = λ is. absurd (cc is);
  pipe = λ is. (runner-listens c.args.self.now course c.requires.phase r).running;
  last = λ runs goes ends none. ends refl;
  advances = Advances-nothing c.args.self.now course _ c.args.out.now r;
}

pub returns-in-Ok-clause-patience : goal.returns-in-Ok-clause-patience
returns-in-Ok-clause-patience g c = λ is.
    let old = c.args.self.now in
    let new = c.close.new.self in
    let again = c.close.ensures.again is in
    end-spends old.phase new.phase old.restarts new.restarts (room old.splitter.rest) (room new.splitter.rest) c.args.out.now c.close.new.out c.close.ensures.out.0 c.requires.phase again.0 again.1 c.close.ensures.out.1
