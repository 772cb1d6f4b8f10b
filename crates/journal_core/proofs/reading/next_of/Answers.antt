use Rattle.std.proofs.Common.{drop, arith}
use Rattle.journal_core.proofs.NextLemmas.{begins_nowhere, begins_short, begins_long, begins_record}
use Rattle.journal_core.proofs.reading.next_of.Goals as goal

pub returns-then-count-eq0-clause-begins : goal.returns-then-count-eq0-clause-begins
returns-then-count-eq0-clause-begins c bytes is_seen = begins_nowhere c.args.seen.now bytes (omega arith) is_seen

pub returns-then-count-lt5-clause-begins : goal.returns-then-count-lt5-clause-begins
returns-then-count-lt5-clause-begins c bytes is_seen =
    begins_short c.args.seen.now bytes (λ i. omega (arith, c.type_inv.seen i)) (omega arith) (omega arith) (omega arith) is_seen

pub returns-then-size-gt-RECORD_LIMIT-clause-begins : goal.returns-then-size-gt-RECORD_LIMIT-clause-begins
returns-then-size-gt-RECORD_LIMIT-clause-begins c bytes is_seen =
    begins_long c.args.seen.now bytes c.from_le_bytes-size.result (λ i. omega (arith, c.type_inv.seen i)) (omega arith) (omega arith) c.from_le_bytes-size.ensures (omega arith) is_seen

pub returns-clause-begins : goal.returns-clause-begins
returns-clause-begins c bytes is_seen = (
  drop 5 bytes,
  begins_record c.args.seen.now bytes c.from_le_bytes-size.result (λ i. omega (arith, c.type_inv.seen i)) (omega arith) (omega arith) c.from_le_bytes-size.ensures is_seen,
  (omega arith),
)
