use Rattle.std.proofs.Common.{◌≡◌, length, map, arith, ap, rules}
use Rattle.algorithms.specs.Cells.{cells}
use Rattle.algorithms.specs.Samples.{cell_at}
use Rattle.algorithms.proofs.RowLemmas.{length-cells, length-samples, words_counted}
use Rattle.algorithms.proofs.row.row_points.Goals as goal

pub sample_words-requires : goal.sample_words-requires
sample_words-requires c =
    let same : map cell_at c.in_ok-samples.samples.items ≡ cells c.args.update_every c.args.store_first c.args.moment c.args.now.now c.args.last.now c.args.dims.now = search rules in
    let counted : length c.in_ok-samples.samples.items ≡ length c.args.now.now =
    length-samples _ c.args.update_every c.args.store_first c.args.moment c.args.now.now c.args.last.now c.args.dims.now
    same c.requires.lasts c.requires.defs in
    omega (arith, ap length c.as_slice-4.ensures.value, c.requires.limit)

pub returns-clause-count : goal.returns-clause-count
returns-clause-count c =
    words_counted (cells c.args.update_every c.args.store_first c.args.moment c.args.now.now c.args.last.now c.args.dims.now) _ _ (search rules)
    (length-cells c.args.update_every c.args.store_first c.args.moment c.args.now.now c.args.last.now c.args.dims.now c.requires.lasts c.requires.defs)
