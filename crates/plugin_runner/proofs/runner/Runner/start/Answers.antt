use Rattle.std.proofs.Common.{◌≡◌, ℕ, List, Some, None, refl, sym, ap, ◌∙◌}
use Rattle.std.specs.Option.{option_map}
use Rattle.host_model.specs.Spawner.{after_start}
use Rattle.plugin_runner.specs.declared.runner.Ending.TheVariants as ending
use Rattle.plugin_runner.specs.Course.{Start}
use Rattle.plugin_runner.specs.Words.{start_words}
use Rattle.plugin_runner.proofs.CourseLemmas.{Advances-memory, Advances-nothing, Advances-start, runner-waits, waits-start, not_both, not_more}
use Rattle.plugin_runner.proofs.PatienceLemmas.{room-within, start-spends}
use Rattle.plugin_runner.proofs.runner.Runner.start.Goals as goal

pub returns-in_default-clause-goes : goal.returns-in_default-clause-goes
returns-in_default-clause-goes g c = λ course ahead out r. let w = runner-waits c.args.self.now course c.requires r in record {
  event = None;
  hears = refl;
  more = λ is none. cc (is, c.end.ensures.answer);
  spawn = λ is. waits-start c.args.self.now course w;
  pipe = λ is. absurd (cc (is, c.end.ensures.answer));
  last = λ runs. absurd (not_both course.children w.ended runs);
  advances = Advances-memory c.args.self.now c.end.new.self course ahead out w c.end.ensures.phase;
}

pub returns-in-Err-clause-goes : goal.returns-in-Err-clause-goes
returns-in-Err-clause-goes g c = λ course ahead out r. let w = runner-waits c.args.self.now course c.requires r in record {
  event = None;
  hears = c.in-Err.ensures.kept;
  more = λ is none. cc is;
  spawn = λ is. waits-start c.args.self.now course w;
  pipe = λ is. absurd (cc is);
  last = λ runs. absurd (not_both course.children w.ended runs);
  advances = Advances-nothing c.args.self.now course ahead out r;
}

pub returns-clause-goes : goal.returns-clause-goes
returns-clause-goes g c = λ course ahead out r.
    let w = runner-waits c.args.self.now course c.requires r in
    let every = c.args.self.now.follower.every in
    let same : c.in-Ok.words ≡ start_words course.words course.origin.every = c.in-Ok.ensures ∙ ap (λ (ws : List (List ℕ)). start_words ws every) w.words ∙ ap (start_words course.words) w.follows.every in
    record {
      event = Some Start;
      hears = (waits-start c.args.self.now course w, record { came = c.in-Ok-start.ensures.came; started = c.in-Ok-start.ensures.started ∙ ap (λ (ws : List (List ℕ)). option_map (after_start ws) (g.P.Spawner.children c.args.spawner.now)) same });
      more = λ is none. cc none;
      spawn = λ is. waits-start c.args.self.now course w;
      pipe = λ is. absurd (cc is);
      last = λ runs goes ends none. cc none;
      advances = Advances-start c.args.self.now course ahead out w;
    }

pub returns-in_default-clause-patience : goal.returns-in_default-clause-patience
returns-in_default-clause-patience g c = λ is. absurd (not_more ending.Memory (sym c.end.ensures.answer ∙ is))

pub returns-clause-patience : goal.returns-clause-patience
returns-clause-patience g c = λ is.
    let held = c.args.self.now.splitter.rest in
    start-spends c.args.self.now.phase c.args.self.now.restarts _ _ c.requires (room-within held)
