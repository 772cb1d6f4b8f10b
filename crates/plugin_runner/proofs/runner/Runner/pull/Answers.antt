use Rattle.std.proofs.Common.{◌≡◌, ℕ, List, take, Some, None, refl, sym, ap, subst, ◌∙◌}
use Rattle.std.specs.Option.{option_map}
use Rattle.std.proofs.lemmas.List.{take-append-le}
use Rattle.host_model.specs.Spawner.{before_bytes}
use Rattle.plugin_runner.specs.Course.{Bytes}
use Rattle.plugin_runner.specs.Goes.{Advances, IsLeft}
use Rattle.plugin_runner.specs.Runner.{if_lasting}
use Rattle.plugin_runner.proofs.CourseLemmas.{Advances-nothing, Goes-from, runner-listens, not_spawn}
use Rattle.plugin_runner.proofs.SpawnerLemmas.{before_nothing, some_bytes}
use Rattle.plugin_runner.proofs.runner.Runner.pull.Goals as goal

pub returns-in_default-clause-goes : goal.returns-in_default-clause-goes
returns-in_default-clause-goes g c = λ course r. record {
  event = None;
  hears = c.in_default.ensures.kept;
  more = λ is none. cc is;
  spawn = λ is. absurd (cc is);
  pipe = λ is. (runner-listens c.args.self.now course c.requires r).running;
  last = λ runs goes ends none. ends refl;
  advances = Advances-nothing c.args.self.now course _ c.args.out.now r;
}

pub returns-then-taken-eq0-clause-goes : goal.returns-then-taken-eq0-clause-goes
returns-then-taken-eq0-clause-goes g c = λ course r.
    let between = g.P.Spawner.children c.pull.new.self in
    let same : g.P.Spawner.children c.args.spawner.now ≡ between =
    c.in-Ok.ensures.bytes ∙ ap (λ (n : ℕ). option_map (before_bytes (take n c.pull.new.into)) between) c.if-taken-eq0.true ∙ before_nothing between in
    let kept : g.P.Spawner.faults c.pull.new.self ≡ g.P.Spawner.faults c.args.spawner.now = c.in-Ok.ensures.cause.stays (λ e. cc) in
    Goes-from c.finish.result course c.args.self.now c.finish.new.self between (g.P.Spawner.children c.args.spawner.now) (g.P.Spawner.children c.finish.new.spawner) (g.P.Spawner.faults c.pull.new.self) (g.P.Spawner.faults c.args.spawner.now) (g.P.Spawner.faults c.finish.new.spawner)
    _ _ c.args.out.now c.finish.new.out same (sym kept) (c.finish.ensures.goes course r)

pub returns-clause-goes : goal.returns-clause-goes
returns-clause-goes g c = λ course r.
    let l = runner-listens c.args.self.now course c.requires r in
    let between = g.P.Spawner.children c.pull.new.self in
    let kept : g.P.Spawner.faults c.pull.new.self ≡ g.P.Spawner.faults c.args.spawner.now = c.in-Ok.ensures.cause.stays (λ e. cc) in
    record {
      event = Some (Bytes (take c.in-Ok.taken c.pull.new.into));
      hears = (
        l.running,
        record {
          some = some_bytes c.in-Ok.taken c.pull.new.into c.in-Ok.ensures.within c.if-taken-eq0.false;
          between = between;
          took = c.in-Ok.ensures.bytes;
          left = subst (λ (n : ℕ). IsLeft (if_lasting c.take_piece.result) between (g.P.Spawner.children c.take_piece.new.spawner) n (g.P.Spawner.faults c.take_piece.new.spawner)) kept c.take_piece.ensures.left;
        },
      );
      more = λ is none. cc none;
      spawn = not_spawn c.take_piece.result _ c.take_piece.ensures.no_fault;
      pipe = λ is. l.running;
      last = λ runs goes ends none. cc none;
      advances = subst (λ (b : List ℕ). Advances (Some (Bytes b)) course c.take_piece.new.self (g.C.Clock.readings c.args.clock.now) (g.C.Clock.readings c.take_piece.new.clock) c.args.out.now c.take_piece.new.out)
          (take-append-le c.in-Ok.taken c.pull.new.into _ c.in-Ok.ensures.within) (c.take_piece.ensures.goes course l);
    }
