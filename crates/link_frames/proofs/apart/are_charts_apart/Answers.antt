use Rattle.std.proofs.Common.{◌≡◌, true, false, rules, arith}
use Rattle.std.proofs.lemmas.Grind.{common_steps}
use Rattle.link_frames.specs.DataForm.{same_chart}
use Rattle.link_frames.proofs.ApartLaw.{none-apart, ids-none, ids-next, ids-new, ids-twice}
use Rattle.link_frames.proofs.apart.are_charts_apart.Goals as goal

pub loop-chart-init : goal.loop-chart-init
loop-chart-init c = record { apart = none-apart same_chart; seen = ids-none c.new-seen.result c.new-seen.ensures.empty }

pub returns-then-not-branch : goal.returns-then-not-branch
returns-then-not-branch c =
    let old : c.in_ok-insert.field-0 ≡ false = first_of (search rules, grind (arith, common_steps)) in (
      λ is. absurd cc,
      λ apart. absurd (ids-twice c.loop-chart.seen c.as_str.result c.args.charts.now c.loop-chart.chart-index c.chart-item.result c.loop-chart-test.true c.chart-item.is c.loop-chart.invariant.seen
          c.in_ok-insert.field-0 c.as_str.ensures c.in_ok-insert.ensures.added old apart),
    )

pub loop-chart-preserved : goal.loop-chart-preserved
loop-chart-preserved c =
    let new : c.in_ok-insert.field-0 ≡ true = first_of (search rules, grind (arith, common_steps)) in
    record {
      apart = ids-new c.loop-chart.seen c.as_str.result c.args.charts.now c.loop-chart.chart-index c.chart-item.result c.loop-chart-test.true c.chart-item.is c.loop-chart.invariant.seen
          c.in_ok-insert.field-0 c.as_str.ensures c.loop-chart.invariant.apart c.in_ok-insert.ensures.added new;
      seen = ids-next c.loop-chart.seen c.as_str.result c.args.charts.now c.loop-chart.chart-index c.chart-item.result c.loop-chart-test.true c.chart-item.is c.loop-chart.invariant.seen
          c.insert.new.self c.as_str.ensures c.in_ok-insert.ensures.updates;
    }
