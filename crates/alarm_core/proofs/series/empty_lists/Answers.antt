use Rattle.std.proofs.Common.{below_more, ◌≡◌, ℕ, ◌++◌, ◌∷◌, [], List, Some, ap, ◌∙◌}
use Rattle.history.specs.Registry.{chart_of}
use Rattle.chart_registry.specs.Defining.{chart_id}
use Rattle.alarm_core.proofs.TableLemmas.{none_more}
use Rattle.alarm_core.proofs.series.empty_lists.Goals as goal

pub loop-chart-preserved : goal.loop-chart-preserved
loop-chart-preserved c = record {
  empty = none_more c.loop-chart.chart c.loop-chart.lists.items c.push_list.new.lists.items c.loop-chart.invariant.empty (c.in_ok-push_list.ensures ∙ ap (λ (l : List ℕ). c.loop-chart.lists.items ++ l ∷ []) c.new.ensures);
  known = below_more (λ (chart : ℕ). chart_of c.args.registry.now (chart_id c.args.registry.now chart) ≡ Some chart) c.loop-chart.chart c.loop-chart.invariant.known
      (ap (chart_of c.args.registry.now) c.chart-known.ensures.id ∙ c.chart-known.ensures.number);
}
