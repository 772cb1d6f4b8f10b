use Rattle.std.proofs.Common.{◌≡◌, map, take}
use Rattle.store_core.specs.disk.Holds.{page_of_records}
use Rattle.store_core.proofs.disk.pages.record_pages.Given as goal

abbrev pub invariant-loop-page : goal.invariant-loop-page
invariant-loop-page l = l.made ≡ map page_of_records (take l.page-index l.pages)
