use Rattle.std.proofs.Common.{◌≡◌, ℕ, ◌≤◌, ◌++◌, false, length, List, Option, filter, map, arith, sym, ap, subst, append-nil, ◌∙◌}
use Rattle.health_config.specs.Entity.{alarm_of}
use Rattle.std.specs.List.{range_with_len}
use Rattle.std.specs.Option.{option_map_or}
use Rattle.history.specs.declared.chart.ChartDef.{ChartDef}
use Rattle.alarm_core.specs.declared.pairs.Pair.{Pair}
use Rattle.alarm_core.specs.Pairs.{is_pair, is_computed, first_pairs, most_pairs}
use Rattle.alarm_core.proofs.PairLemmas.{first_few, first_short, chart_more}
use Rattle.alarm_core.proofs.pairs.push_pairs.Goals as goal

pub loop-chart-init : goal.loop-chart-init
loop-chart-init c = first_short c.args.pairs.now c.requires ∙ ap first_pairs (sym (append-nil c.args.pairs.now))

pub keep-requires : goal.keep-requires
keep-requires c = subst (λ (pairs : List Pair). length pairs ≤ most_pairs) (sym c.loop-chart.invariant) (first_few _)

pub loop-chart-preserved : goal.loop-chart-preserved
loop-chart-preserved c =
    let entities = map alarm_of c.args.entities.now in
    let charts = c.args.registry.now.charts in
    let wanted : c.is_computed-wanted.result ≡ is_pair entities charts c.args.alarm c.loop-chart.chart =
    c.is_computed-wanted.ensures ∙ sym (ap (λ (found : Option ChartDef). option_map_or (λ def. is_computed entities def c.args.alarm) found false) c.chart.ensures.value) in
    chart_more (is_pair entities charts c.args.alarm) (λ chart. record { alarm = c.args.alarm; chart = chart }) c.args.pairs.now c.loop-chart.pairs c.keep.new.pairs
    c.loop-chart.chart c.is_computed-wanted.result wanted c.loop-chart.invariant c.in_ok-keep.ensures

pub returns : goal.returns
returns c =
    let end : c.loop-chart.chart ≡ length c.args.registry.now.charts = omega (arith, c.loop-chart-test.false, c.loop-chart.auto.chart-end, c.charts-chart-end.ensures.value) in
    c.loop-chart.invariant
    ∙ ap (λ (n : ℕ). first_pairs (c.args.pairs.now ++ map (λ chart. record { alarm = c.args.alarm; chart = chart }) (filter (is_pair (map alarm_of c.args.entities.now) c.args.registry.now.charts c.args.alarm) (range_with_len 0 n)))) end
