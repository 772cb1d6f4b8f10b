use Rattle.store_core.specs.disk.Holds.{page_of_slots}
use Rattle.store_core.specs.disk.Next.{IsFormed}
use Rattle.store_core.proofs.DiskProofs.ListLemmas.{item_of_map}
use Rattle.store_core.proofs.disk.pages.slot_pages.Goals as goal

pub slot_page-requires : goal.slot_page-requires
slot_page-requires c = item_of_map page_of_slots IsFormed c.args.pages.now c.loop-page.page-index c.page-item.result c.requires c.loop-page-test.true c.page-item.is
