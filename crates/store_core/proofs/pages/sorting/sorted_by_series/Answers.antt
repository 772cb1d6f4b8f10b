use Rattle.std.proofs.Common.{rules, ap, ◌∙◌}
use Rattle.std.specs.List.{filter}
use Rattle.std.proofs.lemmas.List.Sorted.{IsNonDecreasingBy-from_sort_by_key, answers_always, length_permutation}
use Rattle.beat_tiers.specs.Searching.{is_of}
use Rattle.beat_tiers.proofs.SeriesLemmas.{stable_same}
use Rattle.store_core.proofs.pages.sorting.sorted_by_series.Goals as goal

pub returns-clause-by_series : goal.returns-clause-by_series
returns-clause-by_series g c = record {
  same = λ series.
      stable_same c.in_ok-sorted.sorted.items c.sort_by_key.new.self.items (length_permutation _ _ c.sort_by_key.ensures.permutation)
      (c.sort_by_key.ensures.stable (λ item. item.series) (answers_always _ _ _ (λ f a r q h. search rules))) series
      ∙ ap (filter (is_of series)) c.in_ok-sorted.ensures.items;
  rises = IsNonDecreasingBy-from_sort_by_key (λ item. item.series) _ c.in_ok-sort_by_key.ensures.sorted (λ a r q k. search rules);
}
