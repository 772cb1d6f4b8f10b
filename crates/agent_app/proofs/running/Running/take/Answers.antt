use Rattle.std.proofs.Common.{◌≡◌, ap, subst, sym, Result, Ok, Err, ◌∙◌, arith}
use Rattle.host_model.specs.declared.status.Status.{Status}
use Rattle.agent_core.specs.declared.fault.AgentFault.{AgentFault}
use Rattle.agent_core.specs.declared.reply.Said.{Said}
use Rattle.agent_core.specs.declared.reply.Said.TheVariants.{Disabled, Nothing, Stored, Table}
use Rattle.agent_core.specs.Calls.{Lines}
use Rattle.agent_core.specs.Said.{IsSaid}
use Rattle.host_model.specs.Seen.{Seen}
use Rattle.agent_app.specs.Running.{TakesLine}
use Rattle.agent_app.proofs.FitLemmas.{fit-taken, fit-told}
use Rattle.agent_app.proofs.TakeLemmas.{answer-line, block-line, disabled-said, failed-line, last-line, nothing-said, quiet-line, stored-line, stored-said, table-said}
use Rattle.agent_app.proofs.running.Running.take.Goals as goal

abbrev answered : Said → Result Said AgentFault
answered said = Ok said

as_ok : {a b : Said} → a ≡ b → answered a ≡ answered b
as_ok same = ap answered same

pub returns-in-Ok-Nothing-clause-takes : goal.returns-in-Ok-Nothing-clause-takes
returns-in-Ok-Nothing-clause-takes g c bytes is short =
    let host : Seen = g.H.Host.seen c.args.host.now in
    let middle : Seen = g.H.Host.seen c.take_line.new.host in
    quiet-line g.H.Host.honest c.args.self.now host c.args.number bytes short c.args.said is c.take_line.result middle c.take_line.new.self c.take_line.new.feed c.take_line.ensures Nothing (c.in-Ok-Nothing.is ∙ as_ok c.in-Ok-Nothing.field-0-is)
    (nothing-said c.take_line.new.self.count c.args.said (subst (λ (s : Said). IsSaid c.take_line.new.self.count c.args.said s) c.in-Ok-Nothing.field-0-is c.in-Ok-Nothing.ensures.said))

pub returns-in-Ok-Stored-clause-takes : goal.returns-in-Ok-Stored-clause-takes
returns-in-Ok-Stored-clause-takes g c bytes is short =
    let host : Seen = g.H.Host.seen c.args.host.now in
    let middle : Seen = g.H.Host.seen c.take_line.new.host in
    let host' : Seen = g.H.Host.seen c.tell_stored.new.host in
    let said = stored-said c.take_line.new.self.count c.args.said c.in-Ok-Stored.reply (subst (λ (s : Said). IsSaid c.take_line.new.self.count c.args.said s) c.in-Ok-Stored.field-0-is c.in-Ok-Stored.ensures.said) in
    stored-line g.H.Host.honest c.args.self.now host c.args.number bytes short c.args.said is c.take_line.result middle c.take_line.new.self c.take_line.new.feed c.take_line.ensures said.moment said.is c.in-Ok-Stored.reply (c.in-Ok-Stored.is ∙ as_ok c.in-Ok-Stored.field-0-is) said.reply_count
    c.tell_stored.result host' c.tell_stored.ensures.done c.tell_stored.ensures.torn c.tell_stored.ensures.cause c.tell_stored.ensures.disk

pub returns-in-Ok-Table-clause-takes : goal.returns-in-Ok-Table-clause-takes
returns-in-Ok-Table-clause-takes g c bytes is short =
    let host : Seen = g.H.Host.seen c.args.host.now in
    let middle : Seen = g.H.Host.seen c.take_line.new.host in
    let host' : Seen = g.H.Host.seen c.tell_whole.new.host in
    let said = table-said c.take_line.new.self.count c.args.said c.in-Ok-Table.reply (subst (λ (s : Said). IsSaid c.take_line.new.self.count c.args.said s) c.in-Ok-Table.field-0-is c.in-Ok-Table.ensures.said) in
    answer-line g.H.Host.honest c.args.self.now host c.args.number bytes short c.args.said is c.take_line.result middle c.take_line.new.self c.take_line.new.feed c.take_line.ensures said.asked said.is c.in-Ok-Table.reply (c.in-Ok-Table.is ∙ as_ok c.in-Ok-Table.field-0-is)
    c.as_str.result.now c.as_str.ensures c.tell_whole.result host' c.tell_whole.ensures.done c.tell_whole.ensures.torn c.tell_whole.ensures.cause c.tell_whole.ensures.disk

pub returns-in-Ok-Disabled-clause-takes : goal.returns-in-Ok-Disabled-clause-takes
returns-in-Ok-Disabled-clause-takes g c bytes is short =
    let host : Seen = g.H.Host.seen c.args.host.now in
    let middle : Seen = g.H.Host.seen c.take_line.new.host in
    last-line g.H.Host.honest c.args.self.now host c.args.number bytes short c.args.said is c.take_line.result middle c.take_line.new.self c.take_line.new.feed c.take_line.ensures Disabled (c.in-Ok-Disabled.is ∙ as_ok c.in-Ok-Disabled.field-0-is)
    (disabled-said c.take_line.new.self.count c.args.said (subst (λ (s : Said). IsSaid c.take_line.new.self.count c.args.said s) c.in-Ok-Disabled.field-0-is c.in-Ok-Disabled.ensures.said))

pub returns-in-Err-Refused-clause-takes : goal.returns-in-Err-Refused-clause-takes
returns-in-Err-Refused-clause-takes g c bytes is short =
    let host : Seen = g.H.Host.seen c.args.host.now in
    let middle : Seen = g.H.Host.seen c.take_line.new.host in
    let host' : Seen = g.H.Host.seen c.tell_refusal.new.host in
    block-line g.H.Host.honest c.args.self.now host c.args.number bytes short c.args.said is c.take_line.result middle c.take_line.new.self c.take_line.new.feed c.take_line.ensures c.in-Err-Refused.fault (c.in-Err-Refused.is ∙ ap (λ (f : AgentFault). Err f) c.in-Err-Refused.field-0-is)
    c.tell_refusal.result host' c.tell_refusal.ensures.tells c.tell_refusal.ensures.cause c.tell_refusal.ensures.disk

pub returns-in-Err : goal.returns-in-Err
returns-in-Err g c = record {
  takes = λ bytes is short.
      let host : Seen = g.H.Host.seen c.args.host.now in
      let middle : Seen = g.H.Host.seen c.take_line.new.host in
      subst (λ (s : Status). TakesLine g.H.Host.honest c.args.self.now host c.args.number bytes (Err s) (record c.args.self.now { agent = c.take_line.new.self; feed = c.take_line.new.feed }) middle) (sym c.agent_status.ensures)
      (failed-line g.H.Host.honest c.args.self.now host c.args.number bytes short c.args.said is c.take_line.result middle c.take_line.new.self c.take_line.new.feed c.take_line.ensures c.requires.ready.going
      c.in-Err.fault c.in-Err.is (λ fault e. grind (arith, e)));
  ready = tt;
}

pub returns-in-Ok-Stored-clause-ready : goal.returns-in-Ok-Stored-clause-ready
returns-in-Ok-Stored-clause-ready g c =
    fit-told g.H.Host.honest _ (g.H.Host.seen c.take_line.new.host) (g.H.Host.seen c.tell_stored.new.host) _ c.tell_stored.result (fit-taken g.H.Host.honest c.args.self.now (g.H.Host.seen c.args.host.now) c.args.said (Stored c.in-Ok-Stored.reply) (g.H.Host.seen c.take_line.new.host) c.take_line.new.self c.take_line.new.feed
    (subst (λ (r : Result Said AgentFault). Lines g.H.Host.honest (g.H.Host.seen c.args.host.now) c.args.self.now.agent c.args.self.now.feed c.args.said r (g.H.Host.seen c.take_line.new.host) c.take_line.new.self c.take_line.new.feed)
    (c.in-Ok-Stored.is ∙ as_ok c.in-Ok-Stored.field-0-is) c.take_line.ensures) c.requires.ready) c.tell_stored.ensures.done

pub returns-in-Ok-Table-clause-ready : goal.returns-in-Ok-Table-clause-ready
returns-in-Ok-Table-clause-ready g c =
    fit-told g.H.Host.honest _ (g.H.Host.seen c.take_line.new.host) (g.H.Host.seen c.tell_whole.new.host) _ c.tell_whole.result (fit-taken g.H.Host.honest c.args.self.now (g.H.Host.seen c.args.host.now) c.args.said (Table c.in-Ok-Table.reply) (g.H.Host.seen c.take_line.new.host) c.take_line.new.self c.take_line.new.feed
    (subst (λ (r : Result Said AgentFault). Lines g.H.Host.honest (g.H.Host.seen c.args.host.now) c.args.self.now.agent c.args.self.now.feed c.args.said r (g.H.Host.seen c.take_line.new.host) c.take_line.new.self c.take_line.new.feed)
    (c.in-Ok-Table.is ∙ as_ok c.in-Ok-Table.field-0-is) c.take_line.ensures) c.requires.ready) c.tell_whole.ensures.done
