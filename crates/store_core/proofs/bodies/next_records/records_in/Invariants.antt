use Rattle.std.proofs.Common.{◌≡◌, map, take}
use Rattle.store_core.specs.disk.Holds.{page_of_records}
use Rattle.extent_file.specs.Pages.{items_of}
use Rattle.store_core.proofs.bodies.next_records.records_in.Given as goal

abbrev pub invariant-loop-page : goal.invariant-loop-page
invariant-loop-page l = l.count ≡ items_of (map page_of_records (take l.page-index l.pages))
