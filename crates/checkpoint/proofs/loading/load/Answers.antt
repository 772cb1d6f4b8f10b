use Rattle.std.proofs.Common.{List, drop, inr, sym, ap, ◌∙◌, rules}
use Rattle.host_model.specs.Images.{contents}
use Rattle.host_model.specs.Past.{Event, of}
use Rattle.host_model.specs.Disks.{reads_as}
use Rattle.checkpoint.specs.Form.{body_in}
use Rattle.host_model.proofs.CallLemmas.{ok_part}
use Rattle.checkpoint.proofs.SlotLemmas.{held_of, loaded_disks}
use Rattle.checkpoint.proofs.loading.load.Goals as goal

pub returns-in_default-found-clause-every_disk : goal.returns-in_default-found-clause-every_disk
returns-in_default-found-clause-every_disk g c h =
    inr (loaded_disks (g.H.Host.seen c.args.host.now).past (g.H.Host.seen c.sync_both.new.host).past (g.H.Host.seen c.find.new.host).past (c.find.ensures.past h)
    (ok_part c.sync_both.result (sym c.if-is_err.ensures.value) c.sync_both.ensures.every_disk h))

pub returns-in_err-body-clause-every_disk : goal.returns-in_err-body-clause-every_disk
returns-in_err-body-clause-every_disk g c h =
    inr (loaded_disks (g.H.Host.seen c.args.host.now).past (g.H.Host.seen c.sync_both.new.host).past (g.H.Host.seen c.read_body.new.host).past (c.read_body.ensures.past h ∙ c.find.ensures.past h)
    (ok_part c.sync_both.result (sym c.if-is_err.ensures.value) c.sync_both.ensures.every_disk h))

pub returns-clause-every_disk : goal.returns-clause-every_disk
returns-clause-every_disk g c h =
    inr (loaded_disks (g.H.Host.seen c.args.host.now).past (g.H.Host.seen c.sync_both.new.host).past (g.H.Host.seen c.read_body.new.host).past (c.read_body.ensures.past h ∙ c.find.ensures.past h)
    (ok_part c.sync_both.result (sym c.if-is_err.ensures.value) c.sync_both.ensures.every_disk h))

pub returns-in_err-body-clause-memory : goal.returns-in_err-body-clause-memory
returns-in_err-body-clause-memory g c failed h =
    let old = (g.H.Host.seen c.args.host.now).past in
    let synced = (g.H.Host.seen c.sync_both.new.host).past in
    let held = c.in_err-body.ensures.memory (search (rules, failed)) h in
    held_of (reads_as old) (reads_as synced) c.in-Ok.found c.in-Some.head c.slot_file_of.result
    (c.sync_both.ensures.same_bytes h) (c.in-Ok.ensures.found h) c.in-Some.is c.slot_file_of.ensures
    (held.0, ap (λ (past : List Event). body_in c.in-Some.head.size (drop 17 (contents (of c.slot_file_of.result past)))) (sym (c.find.ensures.past h)) ∙ held.1)
