use Rattle.std.proofs.Common.{◌≡◌, take}
use Rattle.page_buffer.specs.Page.{page_of}
use Rattle.store_core.proofs.disk.pages.put_records.Given as goal

abbrev pub invariant-loop-place : goal.invariant-loop-place
invariant-loop-place l = l.page ≡ page_of l.fn.page.series l.first l.step (take l.place l.records)
