use Rattle.std.proofs.Common.{map}
use Rattle.std.proofs.lemmas.Result.{IfOk-weaker}
use Rattle.store_core.specs.disk.Holds.{page_of_records}
use Rattle.store_core.proofs.DiskProofs.NamedLemmas.{opened_lie, lie_opened}
use Rattle.store_core.proofs.disk.reading.read_records.Goals as goal

pub returns-clause-lies : goal.returns-clause-lies
returns-clause-lies g c =
    let before = (g.H.Host.seen c.args.host.now).past in
    let after = (g.H.Host.seen c.open_extent.new.host).past in
    IfOk-weaker c.read_record_pages.result _ _
    (λ pages named h. opened_lie c.args.file c.args.items c.args.extent.now c.in_ok-opened.opened before after (c.in_ok-opened.ensures.past h) c.in_ok-opened.ensures.place.0 c.in_ok-opened.ensures.place.1 (c.in_ok-opened.ensures.says h) (map page_of_records pages) (named h))
    c.read_record_pages.ensures.named

pub returns-clause-damaged : goal.returns-clause-damaged
returns-clause-damaged g c is h pages lies =
    let before = (g.H.Host.seen c.args.host.now).past in
    let after = (g.H.Host.seen c.open_extent.new.host).past in
    c.read_record_pages.ensures.damaged is h pages
    (lie_opened c.args.file c.args.items c.args.extent.now c.in_ok-opened.opened before after (c.in_ok-opened.ensures.past h) c.in_ok-opened.ensures.place.0 c.in_ok-opened.ensures.place.1 (c.in_ok-opened.ensures.says h) (map page_of_records pages) lies)
