use Rattle.std.proofs.Common.{◌≡◌, take}
use Rattle.store_core.proofs.disk.items.records_in.Given as goal

-- the records up to the place
abbrev pub invariant-loop-place : goal.invariant-loop-place
invariant-loop-place l = l.records ≡ take l.place l.page.items
