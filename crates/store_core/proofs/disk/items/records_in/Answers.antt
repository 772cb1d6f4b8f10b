use Rattle.store_core.proofs.DiskProofs.ItemLemmas.{taken_more}
use Rattle.store_core.proofs.disk.items.records_in.Goals as goal

pub loop-place-preserved : goal.loop-place-preserved
loop-place-preserved c =
    taken_more c.args.page.now.items c.loop-place.records c.push.new.self c.loop-place.place c.record.result c.loop-place.invariant c.record.ensures
    c.in_ok-push.ensures.ok
