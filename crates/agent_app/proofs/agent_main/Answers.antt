use Rattle.std.proofs.Common.{◌≡◌, ℕ, List, Ok, Option, Some, inr, refl, arith}
use Rattle.host_model.specs.Seen.{Seen}
use Rattle.link_session.specs.Session.{link_seen, LinkSeen}
use Rattle.agent_app.specs.declared.command.Command.TheVariants.{Collect, Convert, Health, Log, New, Query, Receive, Run, Send}
use Rattle.agent_app.specs.Collect.{collector_of, outside_of, Outside}
use Rattle.agent_app.specs.Command.{command_of, settings_for}
use Rattle.agent_app.specs.Query.{question_of, reply_for}
use Rattle.agent_app.specs.Log.{log_for}
use Rattle.agent_app.proofs.BoundLemmas.{found-within, leaves-within, stays-as, stays-still, unopened-stays}
use Rattle.agent_app.proofs.CommandLemmas.{has-word}
use Rattle.agent_app.proofs.WantLemmas.{no-usage, want-asks, want-collects, want-complete, want-configures, want-converts, want-leaves, want-makes, want-receives, want-runs, want-sends}
use Rattle.agent_app.proofs.agent_main.Goals as goal

pub returns-in-Err : goal.returns-in-Err
returns-in-Err g c =
    let host : Seen = g.H.Host.seen c.args.host.now in
    let left : Option (List ℕ) = g.S.Source.left c.args.source.now in
    let faults : ℕ = g.S.Source.faults c.args.source.now in
    let outside : Outside = outside_of (g.P.Spawner.children c.args.spawner.now) (g.P.Spawner.faults c.args.spawner.now) (g.C.Clock.readings c.args.clock.now) in
    let link : LinkSeen = link_seen (g.L.Link.sent c.args.link.now) (g.L.Link.left c.args.link.now) (g.L.Link.faults c.args.link.now) in
    record {
      usage = λ is. absurd (no-usage is);
      no_form = λ none. inr refl;
      untouched = λ none. (refl, refl, refl);
      converts = λ is. want-converts g.H.Host.honest left host.past faults host.tell_faults;
      leaves_disk = λ is. want-leaves g.H.Host.honest host;
      complete = λ is. want-complete left faults host.tell_faults;
      makes = λ plan is. want-makes g.H.Host.honest host (λ h file. g.met.H.Host.reads_an_image c.args.host.now file h) (settings_for plan);
      new_takes_nothing = λ plan is. refl;
      runs = λ is. want-runs g.H.Host.honest host (λ h file. g.met.H.Host.reads_an_image c.args.host.now file h) left faults;
      collects = λ every starts is. want-collects g.H.Host.honest host (λ h file. g.met.H.Host.reads_an_image c.args.host.now file h) (collector_of every starts c.args.words.now) outside;
      collect_takes_nothing = λ every starts is. refl;
      uncollected = λ other. (refl, refl);
      sends = λ is. want-sends g.H.Host.honest host (λ h file. g.met.H.Host.reads_an_image c.args.host.now file h) link;
      send_takes_nothing = λ is. refl;
      receives = λ is. want-receives g.H.Host.honest host (λ h file. g.met.H.Host.reads_an_image c.args.host.now file h) link;
      receive_takes_nothing = λ is. refl;
      unlinked = λ other other'. refl;
      asks = λ is. want-asks g.H.Host.honest host (λ h file. g.met.H.Host.reads_an_image c.args.host.now file h) (reply_for (question_of c.args.words.now));
      query_takes_nothing = λ is. refl;
      configures = λ is. want-configures g.H.Host.honest host (λ h file. g.met.H.Host.reads_an_image c.args.host.now file h) left faults;
      logs = λ form is. want-asks g.H.Host.honest host (λ h file. g.met.H.Host.reads_an_image c.args.host.now file h) (log_for form);
      log_takes_nothing = λ form is. refl;
      bound = λ h. stays-still host.past (command_of c.args.words.now);
    }

pub returns-in-Ok-None-clause-bound : goal.returns-in-Ok-None-clause-bound
returns-in-Ok-None-clause-bound g c h = stays-still (g.H.Host.seen c.args.host.now).past (command_of c.args.words.now)

pub returns-in-Ok-Some-Collect-clause-bound : goal.returns-in-Ok-Some-Collect-clause-bound
returns-in-Ok-Some-Collect-clause-bound g c h =
    let host : Seen = g.H.Host.seen c.args.host.now in
    let host' : Seen = g.H.Host.seen c.collect_words.new.host in
    let is : c.read.result ≡ Ok (Some (Collect c.in-Ok-Some-Collect.every c.in-Ok-Some-Collect.starts)) = cc in
    stays-as c.read.result c.args.words.now (Some (Collect c.in-Ok-Some-Collect.every c.in-Ok-Some-Collect.starts)) host.past host'.past is c.read.ensures.command
    (c.collect_words.ensures.bound h, unopened-stays g.H.Host.honest host host' h (λ none. (c.collect_words.ensures.untaken h none).1))

pub returns-in-Ok-Some-Convert-clause-bound : goal.returns-in-Ok-Some-Convert-clause-bound
returns-in-Ok-Some-Convert-clause-bound g c h =
    let host : Seen = g.H.Host.seen c.args.host.now in
    let host' : Seen = g.H.Host.seen c.convert.new.host in
    let is : c.read.result ≡ Ok (Some Convert) = cc in
    stays-as c.read.result c.args.words.now (Some Convert) host.past host'.past is c.read.ensures.command
    (λ shares. leaves-within shares host.past host'.past (c.convert.ensures.leaves_disk.any_moment h))

pub returns-in-Ok-Some-Health-clause-bound : goal.returns-in-Ok-Some-Health-clause-bound
returns-in-Ok-Some-Health-clause-bound g c h =
    let host : Seen = g.H.Host.seen c.args.host.now in
    let host' : Seen = g.H.Host.seen c.health.new.host in
    let is : c.read.result ≡ Ok (Some Health) = cc in
    stays-as c.read.result c.args.words.now (Some Health) host.past host'.past is c.read.ensures.command
    (c.health.ensures.bound h, unopened-stays g.H.Host.honest host host' h (λ none. (c.health.ensures.untaken h none).host_is))

pub returns-in-Ok-Some-Log-clause-bound : goal.returns-in-Ok-Some-Log-clause-bound
returns-in-Ok-Some-Log-clause-bound g c h =
    let host : Seen = g.H.Host.seen c.args.host.now in
    let host' : Seen = g.H.Host.seen c.log.new.host in
    let is : c.read.result ≡ Ok (Some (Log c.in-Ok-Some-Log.form)) = cc in
    stays-as c.read.result c.args.words.now (Some (Log c.in-Ok-Some-Log.form)) host.past host'.past is c.read.ensures.command
    (λ shares. found-within shares host.past host'.past (c.log.ensures.any_moment h))

pub returns-in-Ok-Some-New-clause-bound : goal.returns-in-Ok-Some-New-clause-bound
returns-in-Ok-Some-New-clause-bound g c h =
    let host : Seen = g.H.Host.seen c.args.host.now in
    let host' : Seen = g.H.Host.seen c.new.new.host in
    let is : c.read.result ≡ Ok (Some (New c.in-Ok-Some-New.plan)) = cc in
    stays-as c.read.result c.args.words.now (Some (New c.in-Ok-Some-New.plan)) host.past host'.past is c.read.ensures.command
    (λ limit fits. c.new.ensures.bound limit (omega (arith, fits)) h)

pub query-requires : goal.query-requires
query-requires g c =
    let is : c.read.result ≡ Ok (Some Query) = cc in
    has-word c.read.result c.args.words.now Query is c.read.ensures.command

pub returns-in-Ok-Some-Query-clause-bound : goal.returns-in-Ok-Some-Query-clause-bound
returns-in-Ok-Some-Query-clause-bound g c h =
    let host : Seen = g.H.Host.seen c.args.host.now in
    let host' : Seen = g.H.Host.seen c.query.new.host in
    let is : c.read.result ≡ Ok (Some Query) = cc in
    stays-as c.read.result c.args.words.now (Some Query) host.past host'.past is c.read.ensures.command
    (λ shares. found-within shares host.past host'.past (c.query.ensures.any_moment h))

pub returns-in-Ok-Some-Receive-clause-bound : goal.returns-in-Ok-Some-Receive-clause-bound
returns-in-Ok-Some-Receive-clause-bound g c h =
    let host : Seen = g.H.Host.seen c.args.host.now in
    let host' : Seen = g.H.Host.seen c.receive.new.host in
    let is : c.read.result ≡ Ok (Some Receive) = cc in
    stays-as c.read.result c.args.words.now (Some Receive) host.past host'.past is c.read.ensures.command
    (c.receive.ensures.bound h, unopened-stays g.H.Host.honest host host' h (λ none. (c.receive.ensures.untaken h none).1))

pub returns-in-Ok-Some-Run-clause-bound : goal.returns-in-Ok-Some-Run-clause-bound
returns-in-Ok-Some-Run-clause-bound g c h =
    let host : Seen = g.H.Host.seen c.args.host.now in
    let host' : Seen = g.H.Host.seen c.run.new.host in
    let is : c.read.result ≡ Ok (Some Run) = cc in
    stays-as c.read.result c.args.words.now (Some Run) host.past host'.past is c.read.ensures.command
    (c.run.ensures.bound h, unopened-stays g.H.Host.honest host host' h (λ none. (c.run.ensures.untaken h none).host_is))

pub returns-in-Ok-Some-Send-clause-bound : goal.returns-in-Ok-Some-Send-clause-bound
returns-in-Ok-Some-Send-clause-bound g c h =
    let host : Seen = g.H.Host.seen c.args.host.now in
    let host' : Seen = g.H.Host.seen c.send.new.host in
    let is : c.read.result ≡ Ok (Some Send) = cc in
    stays-as c.read.result c.args.words.now (Some Send) host.past host'.past is c.read.ensures.command
    (λ shares. found-within shares host.past host'.past (c.send.ensures.host_is.any_moment h))
