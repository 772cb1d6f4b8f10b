use Rattle.std.proofs.Common.{sym, ◌∙◌, arith}
use Rattle.store_core.proofs.DiskProofs.UsedLemmas.{never_unused, unused, used_more, used_most}
use Rattle.store_core.proofs.disk.free_slot.lowest_free.Goals as goal

pub overflow_add-slot : goal.overflow_add-slot
overflow_add-slot c =
    let more = used_more c.args.extents.now c.loop-slot.slot c.loop-slot.invariant (sym c.is_used.ensures ∙ c.loop-slot-test.true) in
    let few = c.requires.few in omega (arith, more, few)

pub loop-slot-smaller : goal.loop-slot-smaller
loop-slot-smaller c =
    let more = used_more c.args.extents.now c.loop-slot.slot c.loop-slot.invariant (sym c.is_used.ensures ∙ c.loop-slot-test.true) in
    omega (arith, more)

pub returns-clause-lowest : goal.returns-clause-lowest
returns-clause-lowest c slot below = never_unused c.args.extents.now slot (c.loop-slot.invariant slot below)

pub returns-clause-most : goal.returns-clause-most
returns-clause-most c = used_most c.args.extents.now c.loop-slot.slot c.loop-slot.invariant

pub returns-clause-unused : goal.returns-clause-unused
returns-clause-unused c = unused c.args.extents.now c.loop-slot.slot (sym c.is_used.ensures ∙ c.loop-slot-test.false)
