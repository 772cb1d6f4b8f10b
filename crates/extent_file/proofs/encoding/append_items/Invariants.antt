use Rattle.std.proofs.Common.{◌≡◌, ℕ, ◌++◌, List, take}
use Rattle.extent_file.specs.Writing.{AreItems}
use Rattle.extent_file.proofs.encoding.append_items.Given as goal

abbrev pub invariant-loop-page : goal.invariant-loop-page
invariant-loop-page l = (bytes : List ℕ) × (l.out ≡ l.initial.out ++ bytes) × AreItems (take l.page-index l.pages) bytes
