use Rattle.std.proofs.Common.{List, subst, ap, ◌∙◌}
use Rattle.std.specs.List.{filter_map}
use Rattle.std.specs.List.Sorted.{IsPermutation}
use Rattle.std.proofs.lemmas.Result.{IfOk-weaker}
use Rattle.beat_points.specs.declared.series_word.SeriesWord.{SeriesWord}
use Rattle.agent_core.specs.Storing.{series_word}
use Rattle.agent_core.proofs.copying.numbered_words.Goals as goal

pub returns-clause-same : goal.returns-clause-same
returns-clause-same c =
    IfOk-weaker c.sort_words.result _ _ (λ words same.
    subst (λ (gathered : List SeriesWord). IsPermutation gathered words.items) (c.in_ok-gather_words.ensures ∙ ap (filter_map (series_word c.args.series.now)) c.as_slice.ensures) same) c.sort_words.ensures.same
