use Rattle.std.proofs.Common.{◌≡◌, take}
use Rattle.store_core.proofs.disk.items.words_in.Given as goal

-- the words up to the place
abbrev pub invariant-loop-place : goal.invariant-loop-place
invariant-loop-place l = l.words ≡ take l.place l.page.items
