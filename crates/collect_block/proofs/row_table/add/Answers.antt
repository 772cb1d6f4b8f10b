use Rattle.std.proofs.Common.{arith, ◌≡◌, [], ◌∷◌, ◌++◌, ◌||◌, is_some, sym, ap, subst, ◌∙◌}
use Rattle.std.specs.Str.{bytes_eq}
use Rattle.collect_block.specs.Block.{row_of}
use Rattle.chart_registry.specs.Places.{place_in, FindsRows}
use Rattle.chart_registry.proofs.TablesLemmas.{row-added}
use Rattle.collect_block.proofs.row_table.add.Goals as goal

pub returns-in-Ok-clause-found : goal.returns-in-Ok-clause-found
returns-in-Ok-clause-found c =
    let row = row_of c.args.block in
    let pushed : c.push.new.self.items ≡ c.args.rows.now.items ++ row ∷ [] = grind arith in
    subst (FindsRows c.make_room.new.charts.entries) (sym pushed)
    (row-added c.args.rows.now.items row c.args.charts.now.entries c.make_room.new.charts.entries c.requires.found
    (λ other. c.in-Ok.ensures.ok other ∙ ap (λ text. bytes_eq text other || is_some (place_in c.args.charts.now.entries other)) c.as_str.ensures))
