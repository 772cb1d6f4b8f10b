use Rattle.std.proofs.Common.{List, rules, sym, subst}
use Rattle.std.specs.List.Sorted.{IsNonDecreasingBy}
use Rattle.std.proofs.lemmas.List.Sorted.{IsNonDecreasingBy-from_sort_by_key}
use Rattle.history.specs.declared.numbered.NumberedDimension.{NumberedDimension}
use Rattle.beat_entries.proofs.definitions.sort_dimensions.Goals as goal

pub returns-clause-rises : goal.returns-clause-rises
returns-clause-rises c =
    subst (λ (list : List NumberedDimension). IsNonDecreasingBy (λ (item : NumberedDimension). item.series) list) (sym c.from_vec.ensures)
    (IsNonDecreasingBy-from_sort_by_key (λ (item : NumberedDimension). item.series) c.sort_by_key.new.self.items c.in_ok-sort_by_key.ensures.sorted (λ a r q k. search rules))
