use Rattle.std.proofs.Common.{arith, ap, length, ◌∷◌, []}
use Rattle.std.proofs.lemmas.List.{length-append}
use Rattle.beat_points.specs.Numbered.{cell_by}
use Rattle.beat_points.proofs.NumberedLemmas.{cells-more}
use Rattle.beat_points.proofs.samples.sample_row.Goals as goal

pub loop-value-preserved : goal.loop-value-preserved
loop-value-preserved c = (
  cells-more (cell_by c.args.registry.now c.args.last.now c.args.chart.now c.args.moment) c.args.values.now c.loop-value.value-index _
      c.loop-value.samples.items c.push.new.self.items c.sample_at.result c.loop-value-test.true c.in_ok-push.ensures.items c.sample_at.ensures c.loop-value.invariant.0,
  omega (arith, ap length c.in_ok-push.ensures.items, length-append c.loop-value.samples.items (c.sample_at.result ∷ []), c.loop-value.invariant.1),
)
