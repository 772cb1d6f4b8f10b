use Rattle.std.proofs.Common.{◌≡◌, map, take}
use Rattle.store_core.specs.disk.Holds.{page_of_slots}
use Rattle.store_core.proofs.disk.pages.slot_pages.Given as goal

abbrev pub invariant-loop-page : goal.invariant-loop-page
invariant-loop-page l = l.made ≡ map page_of_slots (take l.page-index l.pages)
