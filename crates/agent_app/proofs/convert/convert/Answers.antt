use Rattle.host_model.specs.Seen.{Seen}
use Rattle.agent_app.proofs.ConvertLemmas.{run-by, run-leaves, Converts-told, EndsAsText-told}
use Rattle.agent_app.proofs.ConvertingLemmas.{converted-start}
use Rattle.agent_app.proofs.LeavesLemmas.{leaves-both}
use Rattle.agent_app.proofs.convert.convert.Goals as goal

pub returns-clause-converts : goal.returns-clause-converts
returns-clause-converts g c =
    let ran = c.take_text-status.ensures.ran in
    let fresh = converted-start c.new-converting.result g.H.Host.honest (g.H.Host.seen c.args.host.now).past (g.H.Host.seen c.args.host.now).tell_faults c.new-converting.ensures.reader c.new-converting.ensures.out in
    let run = run-by g.H.Host.honest g.H.Host.seen _ c.args.host.now fresh c.new-converting.ensures.out _ _ c.take_text-status.new.host _ _ _ _ ran.text ran.takes ran.within ran.ended in
    Converts-told c.tell_last.result c.take_text-status.result g.H.Host.honest _ _ _ _ _ _ _ _ _ _ _ run c.tell_last.ensures.tells c.take_text-status.ensures.count c.take_text-status.ensures.stays

pub returns-clause-complete : goal.returns-clause-complete
returns-clause-complete g c =
    let ran = c.take_text-status.ensures.ran in
    let fresh = converted-start c.new-converting.result g.H.Host.honest (g.H.Host.seen c.args.host.now).past (g.H.Host.seen c.args.host.now).tell_faults c.new-converting.ensures.reader c.new-converting.ensures.out in
    let run = run-by g.H.Host.honest g.H.Host.seen _ c.args.host.now fresh c.new-converting.ensures.out _ _ c.take_text-status.new.host _ _ _ _ ran.text ran.takes ran.within ran.ended in
    EndsAsText-told c.tell_last.result c.take_text-status.result g.H.Host.honest _ _ _ _ _ _ _ _ _ _ _ run c.tell_last.ensures.tells

pub returns-clause-leaves_disk : goal.returns-clause-leaves_disk
returns-clause-leaves_disk g c =
    let host : Seen = g.H.Host.seen c.args.host.now in
    let middle : Seen = g.H.Host.seen c.take_text-status.new.host in
    let host' : Seen = g.H.Host.seen c.tell_last.new.host in
    leaves-both g.H.Host.honest host middle host'
    (run-leaves g.H.Host.honest g.H.Host.seen c.take_text-status.result c.new-converting.result c.args.host.now
    c.take_text-status.ensures.ran.text c.take_text-status.new.taker c.take_text-status.new.host _ _ c.take_text-status.ensures.ran.ended)
    c.tell_last.ensures.disk
