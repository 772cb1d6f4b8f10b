use Rattle.std.proofs.Common.{map}
use Rattle.std.proofs.lemmas.Result.{IfOk-weaker}
use Rattle.host_model.specs.declared.file.File.TheVariants.{Tier0}
use Rattle.store_core.specs.disk.Holds.{page_of_slots}
use Rattle.store_core.proofs.DiskProofs.NamedLemmas.{opened_lie, lie_opened}
use Rattle.store_core.proofs.disk.reading.read_slots.Goals as goal

pub returns-clause-lies : goal.returns-clause-lies
returns-clause-lies g c =
    let before = (g.H.Host.seen c.args.host.now).past in
    let after = (g.H.Host.seen c.open_extent.new.host).past in
    IfOk-weaker c.read_slot_pages.result _ _
    (λ pages named h. opened_lie Tier0 c.args.items c.args.extent.now c.in_ok-opened.opened before after (c.in_ok-opened.ensures.past h) c.in_ok-opened.ensures.place.0 c.in_ok-opened.ensures.place.1 (c.in_ok-opened.ensures.says h) (map page_of_slots pages) (named h))
    c.read_slot_pages.ensures.named

pub returns-clause-damaged : goal.returns-clause-damaged
returns-clause-damaged g c is h pages lies =
    let before = (g.H.Host.seen c.args.host.now).past in
    let after = (g.H.Host.seen c.open_extent.new.host).past in
    c.read_slot_pages.ensures.damaged is h pages
    (lie_opened Tier0 c.args.items c.args.extent.now c.in_ok-opened.opened before after (c.in_ok-opened.ensures.past h) c.in_ok-opened.ensures.place.0 c.in_ok-opened.ensures.place.1 (c.in_ok-opened.ensures.says h) (map page_of_slots pages) lies)
