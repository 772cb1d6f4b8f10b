use Rattle.std.proofs.Common.{◌%◌, ap, ◌∙◌}
use Rattle.query_engine.proofs.LawLemmas.{start_whole}
use Rattle.query_engine.proofs.TableLemmas.{row_made}
use Rattle.query_engine.proofs.answers.read_row.Goals as goal

pub read_cells-requires-clause-buckets : goal.read_cells-requires-clause-buckets
read_cells-requires-clause-buckets g c = λ not.
    let grid = c.requires.buckets not in
    (ap (λ n. n % c.args.plan.width) c.start_of-start.ensures.start ∙ start_whole c.args.request.now c.args.i c.args.plan.width grid.0 grid.1, grid.1)

pub returns-clause-row : goal.returns-clause-row
returns-clause-row g c = λ told tells.
    row_made c.args.plan.floor told c.args.request.now c.args.i c.start_of-start.result c.in_ok-cells.cells c.as_slice.result.now
    c.start_of-start.ensures.start c.as_slice.ensures (c.in_ok-cells.ensures.cells told tells)
