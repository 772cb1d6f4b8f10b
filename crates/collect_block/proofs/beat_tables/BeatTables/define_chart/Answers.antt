use Rattle.std.proofs.Common.{◌≡◌, ℕ, ◌+◌, min, List, length, true, sym, ap, subst, ◌∙◌}
use Rattle.history.specs.Refusal.{has_chart}
use Rattle.history.specs.declared.chart.ChartDef.{ChartDef}
use Rattle.collect_block.specs.BeatTables.{beat_of, CountsNew}
use Rattle.collect_block.proofs.CountLemmas.{chart-old, chart-new}
use Rattle.collect_block.proofs.beat_tables.BeatTables.define_chart.Goals as goal

pub returns-then-is_new-clause-counts : goal.returns-then-is_new-clause-counts
returns-then-is_new-clause-counts c = λ counts.
    let tables = c.args.self.now in
    let raised : c.raised-self.result ≡ min (tables.counted_charts + 1) (length c.define.new.self)
    = c.raised-self.ensures ∙ ap (λ (charts : List ChartDef). min (tables.counted_charts + 1) (length charts)) c.as_slice.ensures in
    subst (λ (n : ℕ). CountsNew (record tables { charts = c.define.new.self; counted_charts = n }) c.args.registry.now) (sym raised)
    (chart-new c.args.registry.now tables counts c.args.def c.define.new.self c.in_ok-define.ensures.ok)

pub returns-else-is_new-clause-counts : goal.returns-else-is_new-clause-counts
returns-else-is_new-clause-counts c = λ counts.
    let there : has_chart c.args.registry.now (beat_of c.args.self.now) c.args.def.id ≡ true
    = ap (has_chart c.args.registry.now (beat_of c.args.self.now)) (sym c.as_str.ensures) ∙ sym c.if-is_new.ensures in
    chart-old c.args.registry.now c.args.self.now counts c.args.def c.define.new.self c.in_ok-define.ensures.ok there
