use Rattle.std.proofs.Common.{◌≡◌, ◌+◌, ◌*◌, ◌++◌, drop}
use Rattle.extent_file.specs.Slot.{item_size}
use Rattle.extent_file.specs.Pages.{entries_of, items_of}
use Rattle.extent_file.specs.Writing.{directory_bytes}
use Rattle.extent_file.proofs.encoding.append_directory.Given as goal

-- what is written so far, and what is left, are the whole directory
abbrev pub invariant-loop-page : goal.invariant-loop-page
invariant-loop-page l = record {
  place : l.place + items_of (drop l.page-index l.pages) * item_size l.tier ≡ l.fn.first + items_of l.pages * item_size l.tier;
  bytes : l.out ++ directory_bytes (entries_of l.tier l.place (drop l.page-index l.pages)) ≡ l.initial.out ++ directory_bytes (entries_of l.tier l.fn.first l.pages);
}
