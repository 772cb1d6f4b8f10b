use Rattle.std.proofs.Common.{rules}
use Rattle.checkpoint.proofs.FormLemmas.{head_in-closed, head_in-other, head_in-open, number_in-seen, size_in-seen}
use Rattle.checkpoint.proofs.head.head_of.Goals as goal

pub returns-then-seen-ne1 : goal.returns-then-seen-ne1
returns-then-seen-ne1 c = head_in-closed c.args.odd c.args.seen.now c.if-seen-ne1.true

pub returns-then-number-odd : goal.returns-then-number-odd
returns-then-number-odd c =
    head_in-other c.args.odd c.read_u64-number.result c.args.seen.now
    (number_in-seen c.read_u64-number.result c.args.seen.now c.read_u64-number.ensures) c.if-number-odd.true

pub returns : goal.returns
returns c =
    head_in-open c.args.odd c.read_u64-number.result c.read_u64-size.result c.args.seen.now (search rules) c.if-seen-ne1.false
    (number_in-seen c.read_u64-number.result c.args.seen.now c.read_u64-number.ensures) c.if-number-odd.false
    (size_in-seen c.read_u64-size.result c.args.seen.now c.read_u64-size.ensures)
