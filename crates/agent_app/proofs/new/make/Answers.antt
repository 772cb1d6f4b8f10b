use Rattle.std.proofs.Common.{Err, subst}
use Rattle.host_model.specs.Seen.{Seen}
use Rattle.store_core.specs.declared.fault.CreateFault.{CreateFault}
use Rattle.agent_core.specs.Calls.{Creates}
use Rattle.agent_app.proofs.NewLemmas.{exists-new, failed-new, made-new, want-new}
use Rattle.agent_app.proofs.new.make.Goals as goal

pub returns-in-Ok : goal.returns-in-Ok
returns-in-Ok g c =
    let host : Seen = g.H.Host.seen c.args.host.now in
    let host' : Seen = g.H.Host.seen c.create.new.host in
    made-new g.H.Host.honest c.args.settings.now host host' c.in-Ok._agent c.in-Ok.ensures

pub returns-in-Err-DiskFault : goal.returns-in-Err-DiskFault
returns-in-Err-DiskFault g c =
    let host : Seen = g.H.Host.seen c.args.host.now in
    let host' : Seen = g.H.Host.seen c.create.new.host in
    failed-new g.H.Host.honest c.args.settings.now host host'
    (subst (λ (f : CreateFault). Creates g.H.Host.honest host c.args.settings.now (Err f) host') c.in-Err-DiskFault.field-0-is c.in-Err-DiskFault.ensures)

pub returns-in-Err-Exists : goal.returns-in-Err-Exists
returns-in-Err-Exists g c =
    let host : Seen = g.H.Host.seen c.args.host.now in
    let host' : Seen = g.H.Host.seen c.create.new.host in
    exists-new g.H.Host.honest c.args.settings.now host host'
    (subst (λ (f : CreateFault). Creates g.H.Host.honest host c.args.settings.now (Err f) host') c.in-Err-Exists.field-0-is c.in-Err-Exists.ensures)

pub returns-in-Err-Memory : goal.returns-in-Err-Memory
returns-in-Err-Memory g c =
    let host : Seen = g.H.Host.seen c.args.host.now in
    let host' : Seen = g.H.Host.seen c.create.new.host in
    want-new g.H.Host.honest c.args.settings.now host host'
    (subst (λ (f : CreateFault). Creates g.H.Host.honest host c.args.settings.now (Err f) host') c.in-Err-Memory.field-0-is c.in-Err-Memory.ensures)
