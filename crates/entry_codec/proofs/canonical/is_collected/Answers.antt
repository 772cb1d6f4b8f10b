use Rattle.std.proofs.Common.{◌≡◌, true, map, sym, ap, ◌∙◌}
use Rattle.std.specs.List.{list_all}
use Rattle.history.specs.declared.numbered.NumberedChart.{NumberedChart}
use Rattle.history.specs.declared.numbered.NumberedDimension.{NumberedDimension}
use Rattle.history.specs.declared.row.Row.{Row}
use Rattle.entry_codec.specs.Entries.{is_collected_canonical, are_values_ascending}
use Rattle.entry_codec.specs.Lists.{is_ascending}
use Rattle.entry_codec.proofs.canonical.is_collected.Goals as goal

pub returns : goal.returns
unfolding is_collected_canonical
returns c =
    let charts : is_ascending (map (λ (d : NumberedChart). d.number) c.args.collected.now.charts) ≡ true =
    rw (← c.as_slice.ensures) (sym c.is_ascending.ensures ∙ c.if-not-is_ascending.false) in
    let dimensions : is_ascending (map (λ (d : NumberedDimension). d.series) c.args.collected.now.dimensions) ≡ true =
    rw (← c.as_slice-2.ensures) (sym c.is_ascending-2.ensures ∙ c.if-not-is_ascending-2.false) in
    let rows : is_ascending (map (λ (r : Row). r.chart) c.args.collected.now.rows) ≡ true =
    rw (← c.as_slice-3.ensures) (sym c.is_ascending-3.ensures ∙ c.if-not-is_ascending-3.false) in
    rw (charts, dimensions, rows) (c.are_values_ascending.ensures ∙ ap (list_all are_values_ascending) c.as_slice-4.ensures)
