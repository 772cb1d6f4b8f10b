use Rattle.std.proofs.Common.{◌+◌, ◌%◌, ◌^◌, ◌<◌, ◌≤◌, arith, refl, ap, ◌∙◌}
use Rattle.query_engine.proofs.WindowLemmas.{empty_span, end_whole, window_more, window_done}
use Rattle.query_engine.proofs.window.read_window.Goals as goal

pub loop-from-init : goal.loop-from-init
loop-from-init g c = record {
  low = omega arith;
  high = omega arith;
  on_grid = λ not. (c.requires.buckets not).0;
  some = omega arith;
  same = refl;
  still = λ told tells. tells;
  record_so_far = λ told tells high. empty_span c.args.start (told c.args.series);
  holds = refl;
  unfailed = refl;
}

pub read_part-requires-clause-seconds : goal.read_part-requires-clause-seconds
read_part-requires-clause-seconds g c = c.loop-from.invariant.some

pub read_part-requires-clause-buckets : goal.read_part-requires-clause-buckets
read_part-requires-clause-buckets g c = λ not.
    let grid = c.requires.buckets not in
    (c.loop-from.invariant.on_grid not, ap (λ n. (c.args.start + n) % c.args.plan.width) c.from.ensures ∙ end_whole c.args.start c.args.window c.args.plan.width grid.0 grid.1)

pub next_seconds-seconds-requires : goal.next_seconds-seconds-requires
next_seconds-seconds-requires g c = c.loop-from.invariant.some

pub loop-from-preserved : goal.loop-from-preserved
loop-from-preserved g c =
    let to = c.in_ok-part.part.end in
    let part = c.in_ok-part.ensures.part in
    let forward : c.loop-from.from ≤ to = omega (arith, part.later) in
    let inside : to ≤ c.args.start + c.from.result = part.inside in
    let low : c.args.start ≤ c.loop-from.from = c.loop-from.invariant.low in
    record {
      low = omega (arith, low, forward);
      high = inside;
      on_grid = part.whole;
      some = c.next_seconds-seconds.ensures;
      same = c.read_part.ensures.tiers ∙ c.loop-from.invariant.same;
      still = λ told tells. c.read_part.ensures.told told (c.loop-from.invariant.still told tells);
      record_so_far = λ told tells high.
          let rising = g.met.P.Points.rising_series c.args.points.now told tells c.args.series in
          let above : c.args.plan.floor ≤ c.loop-from.from = omega (arith, high, low) in
          let short : to < c.args.start + 2 ^ 32 = omega (arith, inside, c.from.ensures, c.ranges.window.fits) in
          window_more c.args.start c.loop-from.from to (told c.args.series) c.loop-from.record c.in_ok-part.part.found c.joined-record.result
          rising low forward short
          (c.loop-from.invariant.record_so_far told tells high) (c.in_ok-part.ensures.found told (c.loop-from.invariant.still told tells) above) c.joined-record.ensures;
      holds = c.read_part.ensures.held ∙ c.loop-from.invariant.holds;
      unfailed = c.in_ok-part.ensures.cause.stays (λ e. absurd cc) ∙ c.loop-from.invariant.unfailed;
    }

pub returns-else-from-lt-MOMENTS-clause-found : goal.returns-else-from-lt-MOMENTS-clause-found
returns-else-from-lt-MOMENTS-clause-found g c = λ told tells high.
    let rising = g.met.P.Points.rising_series c.args.points.now told tells c.args.series in
    let end : c.loop-from.from ≤ c.args.start + c.args.window = omega (arith, c.loop-from.invariant.high, c.from.ensures) in
    c.loop-from.invariant.record_so_far told tells high
    ∙ window_done c.args.start c.loop-from.from (c.args.start + c.args.window) (told c.args.series) rising c.loop-from.invariant.low end
    (omega (arith, c.if-from-lt-MOMENTS.false))
