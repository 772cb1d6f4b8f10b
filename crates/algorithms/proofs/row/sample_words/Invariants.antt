use Rattle.std.proofs.Common.{◌≡◌, take, map}
use Rattle.history.specs.Points.{word_by}
use Rattle.algorithms.specs.declared.sample.Sample.{Sample}
use Rattle.algorithms.specs.Samples.{cell_at}
use Rattle.algorithms.specs.Words.{packed}
use Rattle.algorithms.proofs.row.sample_words.Given as goal

abbrev pub invariant-loop-sample : goal.invariant-loop-sample
invariant-loop-sample l =
    l.words.items ≡ map (λ (sample : Sample). word_by packed sample.algorithm l.values l.rises (cell_at sample)) (take l.sample-index l.samples)
