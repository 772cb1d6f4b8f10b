use Rattle.store_core.specs.disk.Holds.{page_of_records}
use Rattle.store_core.specs.disk.Next.{IsFormed}
use Rattle.store_core.proofs.DiskProofs.ListLemmas.{item_of_map}
use Rattle.store_core.proofs.disk.pages.record_pages.Goals as goal

pub record_page-requires : goal.record_page-requires
record_page-requires c = item_of_map page_of_records IsFormed c.args.pages.now c.loop-page.page-index c.page-item.result c.requires c.loop-page-test.true c.page-item.is
