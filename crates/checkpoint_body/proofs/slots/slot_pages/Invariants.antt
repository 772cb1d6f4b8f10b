use Rattle.std.proofs.Common.{◌≡◌, ◌++◌, drop}
use Rattle.checkpoint_body.specs.Pages.{pages_from}
use Rattle.checkpoint_body.specs.Slots.{slot_page_of, with_point}
use Rattle.checkpoint_body.proofs.slots.slot_pages.Given as goal

abbrev pub invariant-loop-point : goal.invariant-loop-point
invariant-loop-point l =
    l.pages ++ pages_from with_point slot_page_of l.page (drop l.point-index l.others) ≡ pages_from with_point slot_page_of l.initial.page l.others
