use Rattle.std.proofs.Common.{◌≡◌, ◌+◌, length}
use Rattle.page_pool.proofs.pool.PagePool.drop.Given as goal

-- as many pages are left as are still to be taken
abbrev pub invariant-loop : goal.invariant-loop
invariant-loop l = length l.free.nodes + l.counter ≡ l.spare
