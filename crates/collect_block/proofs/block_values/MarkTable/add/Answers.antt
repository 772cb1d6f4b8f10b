use Rattle.std.proofs.Common.{arith, ◌≡◌, ◌-◌, ◌<◌, true, bit_and, length, set, sym, ap, subst, ◌∙◌}
use Rattle.collect_block.specs.Marks.{has_bit}
use Rattle.collect_block.proofs.MarksLemmas.{bit-set, bit-kept}
use Rattle.collect_block.proofs.block_values.MarkTable.add.Goals as goal

pub returns-clause-own : goal.returns-clause-own
returns-clause-own c =
    let bits = c.self.inside.bits.items in
    let mark = c.args.mark in
    let own : c.bit_of-bit.result ≡ bit_and mark (length bits - 1)
    = c.bit_of-bit.ensures.bit ∙ ap (λ bits. bit_and mark (length bits - 1)) c.as_slice.ensures.value in
    let some : 0 < length bits = omega (arith, ap length c.as_slice.ensures.value) in
    subst (λ bit. has_bit (set bits bit true) mark ≡ true) (sym own) (bit-set bits mark some)

pub returns-clause-others : goal.returns-clause-others
returns-clause-others c = λ other was.
    bit-kept c.self.inside.bits.items other c.bit_of-bit.result (subst (λ bits. has_bit bits other ≡ true) (sym c.self.view_is) was)
