use Rattle.std.proofs.Common.{◌≡◌}
use Rattle.page_buffer.specs.Page.{page_of}
use Rattle.store_core.proofs.DiskProofs.PageLemmas.{IsUpTo}
use Rattle.store_core.proofs.disk.pages.put_words.Given as goal

abbrev pub invariant-loop-place : goal.invariant-loop-place
invariant-loop-place l = (l.page ≡ page_of l.fn.page.series l.first l.step l.page.items) × IsUpTo l.page.items l.words l.place
