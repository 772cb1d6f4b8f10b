use Rattle.std.proofs.Common.{◌≡◌, ◌∙◌, rules, map, to_z, of_z, ap, length}
use Rattle.std.specs.Int.{w128}
use Rattle.std.proofs.lemmas.List.{length-map}
use Rattle.history.specs.Points.{total, total_difference}
use Rattle.algorithms.specs.Samples.{cell_at}
use Rattle.algorithms.proofs.RowLemmas.{words_are}
use Rattle.algorithms.proofs.row.sample_words.Goals as goal

pub returns-clause-words : goal.returns-clause-words
returns-clause-words c =
    let values : to_z w128 (of_z w128 c.total-values.result) ≡ total (map cell_at c.args.samples.now) = search rules in
    let rises : to_z w128 (of_z w128 c.total_difference-rises.result) ≡ total_difference (map cell_at c.args.samples.now) = search rules in
    c.from_vec.ensures ∙ words_are c.args.samples.now c.loop-sample.sample-index _ _ _ c.loop-sample-test.false c.loop-sample.invariant values rises

pub returns-clause-count : goal.returns-clause-count
returns-clause-count c =
    ap length (returns-clause-words c) ∙ length-map (map cell_at c.args.samples.now) _ ∙ length-map c.args.samples.now cell_at
