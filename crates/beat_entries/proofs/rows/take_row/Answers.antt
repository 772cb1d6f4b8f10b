use Rattle.std.proofs.Common.{sym, ap, ◌∙◌}
use Rattle.std.specs.List.{filter_map}
use Rattle.history.specs.Registry.{chart_of}
use Rattle.beat_entries.specs.Gathered.{value_at}
use Rattle.beat_entries.specs.Rules.{with_beat}
use Rattle.beat_entries.proofs.AfterLemmas.{dimensions-apart}
use Rattle.beat_entries.proofs.RowLemmas.{row-kept}
use Rattle.beat_entries.proofs.rows.take_row.Goals as goal

pub returns-clause-rows : goal.returns-clause-rows
returns-clause-rows c there can whole =
    let registry = with_beat c.args.coming.now.registry.now c.args.coming.now.beat.now in
    let values = c.find_values-values.result.values in
    row-kept registry c.args.row.now c.in-Some.place.number (sym (c.in-Some.ensures.number can ∙ ap (chart_of registry) c.as_str.ensures))
    (dimensions-apart c.args.coming.now.registry.now c.args.coming.now.beat.now can.own_dimensions) c.requires
    values.whole values.items.items c.numbered_row.result c.args.found.now.rows.items.items c.keep.new.self.items.items
    (λ all. c.find_values-values.ensures.values can all ∙ (λ i. filter_map (value_at registry (c.as_str-2.ensures i)) (c.as_slice-2.ensures i)))
    c.numbered_row.ensures.whole c.numbered_row.ensures.chart c.numbered_row.ensures.same c.numbered_row.ensures.rises (c.keep.ensures.items whole)
