use Rattle.std.specs.Cmp.{unsigned_ties}
use Rattle.std.proofs.lemmas.Cmp.{nat_cmp_total}
use Rattle.std.proofs.lemmas.List.Filters.{dedup_is}
use Rattle.std.proofs.lemmas.List.Kept.{IsStrictlySortedBy-dedup}
use Rattle.agent_core.proofs.UsedNumbers.{has-sorted}
use Rattle.agent_core.proofs.used.in_order.Goals as goal

pub returns-clause-rise : goal.returns-clause-rise
returns-clause-rise c = rw (dedup_is _ _ _ c.dedup.ensures.filtered) (IsStrictlySortedBy-dedup nat_cmp_total unsigned_ties _ c.in_ok-sort.ensures.sorted)

pub returns-clause-same : goal.returns-clause-same
returns-clause-same c = has-sorted c.args.numbers.items c.sort.new.self.items c.dedup.new.self.items c.sort.ensures.permutation (dedup_is _ _ _ c.dedup.ensures.filtered)
