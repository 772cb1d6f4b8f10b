use Rattle.std.proofs.Common.{rules, subst, sym}
use Rattle.std.proofs.lemmas.List.Sorted.{answers_always}
use Rattle.store_core.specs.pages.Sorting.{IsByPlace}
use Rattle.store_core.proofs.PageProofs.PlaceOrder.{by_place_from}
use Rattle.store_core.proofs.pages.sorting.sorted_by_place.Goals as goal

pub returns-clause-by_place : goal.returns-clause-by_place
returns-clause-by_place g c =
    subst IsByPlace (sym c.from_vec.ensures)
    (by_place_from c.sort_by_key.new.self.items
    (c.in_ok-sort_by_key.ensures.sorted (λ item. (item.place, item.series)) (answers_always _ _ _ (λ f a r q h. search rules))))
