use Rattle.std.proofs.Common.{ℕ, [], ◌++◌, refl, sym, subst, length-append, arith}
use Rattle.line_stream.proofs.RunLemmas.{start-taken, rose-later}
use Rattle.plugin_runner.specs.Collected.{no_turn}
use Rattle.plugin_runner.specs.Course.{new_course}
use Rattle.plugin_runner.proofs.collecting.take_collected.Goals as goal

pub loop-taken-init : goal.loop-taken-init
loop-taken-init g c = (
  record {
    text = [];
    held = start-taken g.T.Taker.acts c.new-stream.result c.args.taker.now c.args.host.now c.new-stream.ensures.fresh;
    spent = refl;
    put = λ words every starts last is. record { course = new_course words every starts last; turns = no_turn; told = refl; reads = refl; is = is };
  },
  omega arith,
  subst (λ (n : ℕ). g.T.Taker.ready c.args.taker.now c.args.host.now n) (sym c.new-stream.ensures.first) c.requires.ready,
)

pub take_turn-requires-clause-room : goal.take_turn-requires-clause-room
take_turn-requires-clause-room g c =
    let before = c.loop-taken.invariant.0 in
    (c.args.taker.now, c.args.host.now, before.text, before.held, before.spent)

pub loop-taken-preserved : goal.loop-taken-preserved
loop-taken-preserved g c =
    let before = c.loop-taken.invariant.0 in
    let next = c.in-Ok.ensures.goes_on c.args.taker.now c.args.host.now before.text before.held in (
      record {
        text = before.text ++ next.added;
        held = next.held;
        spent = omega (arith, length-append before.text next.added, next.size_is, before.spent, c.in-Ok.ensures.within);
        put = λ words every starts last is.
            next.put (new_course words every starts last) (g.P.Spawner.children c.args.spawner.now) (g.C.Clock.readings c.args.clock.now) (before.put words every starts last is);
      },
      omega (arith, c.loop-taken.invariant.1, c.in-Ok.ensures.faults),
      c.in-Ok.ensures.ready,
    )

pub returns-in-Err-clause-collected : goal.returns-in-Err-clause-collected
returns-in-Err-clause-collected g c words every starts last is =
    let before = c.loop-taken.invariant.0 in
    c.in-Err.ensures.stops c.args.taker.now c.args.host.now before.text before.held before.spent (new_course words every starts last) (g.P.Spawner.children c.args.spawner.now) (g.C.Clock.readings c.args.clock.now) (before.put words every starts last is)

pub returns-in-Err-clause-cause : goal.returns-in-Err-clause-cause
returns-in-Err-clause-cause g c fails =
    rose-later (g.P.Spawner.faults c.args.spawner.now) (g.P.Spawner.faults c.loop-taken.spawner) (g.P.Spawner.faults c.take_turn.new.spawner) c.loop-taken.invariant.1 c.in-Err.ensures.faults (c.in-Err.ensures.cause fails)
