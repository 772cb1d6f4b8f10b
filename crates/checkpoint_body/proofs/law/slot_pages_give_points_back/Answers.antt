use Rattle.std.proofs.Common.{◌≢◌}
use Rattle.std.proofs.lemmas.List.Elements.{recursion_from_All}
use Rattle.checkpoint_body.specs.declared.item.Point.{Point}
use Rattle.checkpoint_body.specs.Slots.{points_in, slot_page_of, slot_page_size, with_point}
use Rattle.checkpoint_body.proofs.PageLaws.{items-pages_of, size-pages_of}
use Rattle.checkpoint_body.proofs.SlotLemmas.{of_added, of_begun, size_added, size_begun}
use Rattle.checkpoint_body.proofs.law.slot_pages_give_points_back.Goals as goal

pub returns-clause-back : goal.returns-clause-back
returns-clause-back c = λ points are.
    items-pages_of with_point slot_page_of points_in (λ (point : Point). point.word ≢ 0) of_begun of_added points
    (recursion_from_All (λ (point : Point). point.word ≢ 0) points are)

pub returns-clause-size : goal.returns-clause-size
returns-clause-size c = λ points. size-pages_of with_point slot_page_of slot_page_size 28 size_begun size_added points
