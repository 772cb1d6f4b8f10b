use Rattle.std.proofs.Common.{ap, ◌∙◌}
use Rattle.std.specs.List.{list_any}
use Rattle.std.specs.Str.{bytes_eq}
use Rattle.history.specs.declared.beat.OpenRow.{OpenRow}
use Rattle.collect_block.proofs.row_table.RowTable.has.Goals as goal

pub returns : goal.returns
returns c =
    c.contains_key.ensures ∙ c.self.invariant c.args.chart.now ∙ ap (list_any (λ (row : OpenRow). bytes_eq c.args.chart.now row.chart)) c.self.view_is
