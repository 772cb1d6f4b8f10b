use Rattle.std.proofs.Common.{sym, ap, ◌∙◌}
use Rattle.history.specs.Put.{put}
use Rattle.history.specs.Refusal.{is_new_chart}
use Rattle.history.specs.Registry.{same_chart}
use Rattle.beat_entries.proofs.DefinedLemmas.{chart-alike, chart-itself}
use Rattle.beat_entries.proofs.FreshLemmas.{none-next, put-next_passing}
use Rattle.beat_entries.proofs.fresh.fresh_charts.Goals as goal
use Rattle.beat_entries.proofs.fresh.fresh_charts.Goals.{then-is_new_chart+in_ok-clone+in_ok-define, else-is_new_chart}

pub loop-def-preserved : goal.loop-def-preserved
loop-def-preserved c =
    let charts = c.args.charts.now in
    let def = c.def-item.result in
    let index = c.loop-def.def-index in
    let test = is_new_chart c.args.registry.now in
    elim c.if-is_new_chart.branch [
      | then-is_new_chart+in_ok-clone+in_ok-define w ↦
          w.table-is ∙ w.in_ok-define.ensures.ok
          ∙ ap (put same_chart c.loop-def.table) w.in_ok-clone.ensures.cases
          ∙ ap (λ table. put same_chart table def) c.loop-def.invariant
          ∙ put-next_passing same_chart chart-itself chart-alike charts index def c.requires c.loop-def-test.true (sym c.def-item.is) test
          (sym c.is_new_chart.ensures ∙ w.if-is_new_chart.true)
      | else-is_new_chart w ↦
          w.table-is ∙ c.loop-def.invariant
          ∙ none-next test charts index def c.loop-def-test.true (sym c.def-item.is) (sym c.is_new_chart.ensures ∙ w.if-is_new_chart.false)
    ]
