use Rattle.std.proofs.Common.{◌+◌, arith}
use Rattle.store_core.specs.disk.Holds.{page_of_slots}
use Rattle.store_core.proofs.BodyProofs.CountLemmas.{count-more, count-within}
use Rattle.store_core.proofs.bodies.next_points.slots_in.Goals as goal

pub overflow_add-count : goal.overflow_add-count
overflow_add-count c =
    let more = count-more page_of_slots c.args.pages.now c.loop-page.page-index c.page-item.result c.loop-page-test.true c.page-item.is in
    let within = count-within page_of_slots c.args.pages.now (c.loop-page.page-index + 1) in
    omega (arith, more, within, c.loop-page.invariant)

pub loop-page-preserved : goal.loop-page-preserved
loop-page-preserved c =
    let more = count-more page_of_slots c.args.pages.now c.loop-page.page-index c.page-item.result c.loop-page-test.true c.page-item.is in omega (arith, more, c.loop-page.invariant)
