use Rattle.std.proofs.Common.{◌-◌, ◌≤◌, max}
use Rattle.page_pool.proofs.pool.PagePool.reserve.Given as goal

abbrev pub invariant-missing : goal.invariant-missing
invariant-missing l = (l.initial.self ≤ l.self) × (l.self ≤ max l.initial.self l.n)

abbrev pub decreases-missing : goal.decreases-missing
decreases-missing l = l.n - l.self
