use Rattle.std.proofs.Common.{length, List, ℕ, ap, ◌∙◌, arith, slice_get, refl}
use Rattle.alarm_core.proofs.TableLemmas.{series_before, length_range, table_none, table_step, table_done}
use Rattle.alarm_core.proofs.series.all_series.Goals as goal

pub loop-series-init : goal.loop-series-init
loop-series-init c = record {
  so_far = c.in_ok-lists.ensures.lists ∙ table_none c.args.registry.now (length c.args.registry.now.charts);
  known = c.in_ok-lists.ensures.known;
}

pub add_series-requires : goal.add_series-requires
add_series-requires c =
    omega (
      arith,
      ap (λ (lists : List (List ℕ)). length lists) c.loop-series.invariant.so_far,
      length_range (series_before c.args.registry.now c.loop-series.series) 0 (length c.args.registry.now.charts),
      c.owner-chart.ensures.within,
    )

pub loop-series-preserved : goal.loop-series-preserved
loop-series-preserved c = record {
  so_far =
      table_step c.args.registry.now (length c.args.registry.now.charts) c.loop-series.series c.owner-chart.result (slice_get c.args.registry.now.dimensions c.loop-series.series)
      c.loop-series.lists.items c.add_series.new.lists.items c.loop-series.invariant.known c.owner-chart.ensures.within refl c.owner-chart.ensures.id
      c.loop-series.invariant.so_far c.in_ok-add_series.ensures;
  known = c.loop-series.invariant.known;
}

pub returns : goal.returns
returns c =
    table_done c.args.registry.now c.loop-series.series c.loop-series.lists.items
    (omega (arith, c.loop-series-test.false, c.dimensions-series-end.ensures.value)) c.loop-series.invariant.so_far
