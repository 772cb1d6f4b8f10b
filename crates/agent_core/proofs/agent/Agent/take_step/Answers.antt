use Rattle.std.proofs.Common.{ℕ, List, Result, Ok, Err, sym, subst}
use Rattle.std.proofs.lemmas.Result.{err_from_is_err_and}
use Rattle.collect_block.specs.declared.step.Step.{Step}
use Rattle.agent_core.specs.declared.fault.AgentFault.{AgentFault}
use Rattle.agent_core.specs.declared.reply.Said.TheVariants as said
use Rattle.host_model.specs.Seen.{Seen}
use Rattle.agent_core.specs.Calls.{Queries}
use Rattle.agent_core.specs.Steps.{Takes}
use Rattle.agent_core.proofs.StepLemmas.{beat-stored, query-answered, query-failed, step-disabled, step-nothing}
use Rattle.agent_core.proofs.agent.Agent.take_step.Goals as goal

pub returns-in-Nothing : goal.returns-in-Nothing
returns-in-Nothing g c =
    let host : Seen = g.H.Host.seen c.args.host.now in
    let agent = c.args.self.now in
    subst (λ (s : Step). Takes g.H.Host.honest host agent s (Ok said.Nothing) host agent) (sym c.in-Nothing.is)
    (step-nothing g.H.Host.honest host agent c.requires.going c.requires.ready)

pub returns-in-Disabled : goal.returns-in-Disabled
returns-in-Disabled g c =
    let host : Seen = g.H.Host.seen c.args.host.now in
    let agent = c.args.self.now in
    subst (λ (s : Step). Takes g.H.Host.honest host agent s (Ok said.Disabled) host agent) (sym c.in-Disabled.is)
    (step-disabled g.H.Host.honest host agent c.requires.going c.requires.ready)

pub returns-in_ok-beat-in-Beat : goal.returns-in_ok-beat-in-Beat
returns-in_ok-beat-in-Beat g c =
    let host : Seen = g.H.Host.seen c.args.host.now in
    let host' : Seen = g.H.Host.seen c.beat.new.host in
    let agent = c.args.self.now in
    subst (λ (s : Step). Takes g.H.Host.honest host agent s (Ok (said.Stored c.in_ok-beat-in-Beat.field-0)) host' c.beat.new.self) (sym c.in-Beat.is)
    (beat-stored g.H.Host.honest host host' agent c.beat.new.self c.in-Beat.beat c.in-Beat.moment c.in_ok-beat-in-Beat.field-0 c.requires.going c.in_ok-beat-in-Beat.ensures)

abbrev replied : List ℕ → Result (List ℕ) AgentFault
replied reply = Ok reply

abbrev unreplied : AgentFault → Result (List ℕ) AgentFault
unreplied fault = Err fault

pub returns-in_ok-query-in-Query : goal.returns-in_ok-query-in-Query
returns-in_ok-query-in-Query g c =
    let host : Seen = g.H.Host.seen c.args.host.now in
    let host' : Seen = g.H.Host.seen c.query.new.host in
    let agent = c.args.self.now in
    let did = subst (λ (text : List ℕ). Queries g.H.Host.honest host agent text (replied c.in_ok-query-in-Query.field-0) host' c.query.new.self) c.as_str.ensures c.in_ok-query-in-Query.ensures in
    subst (λ (s : Step). Takes g.H.Host.honest host agent s (Ok (said.Table c.in_ok-query-in-Query.field-0)) host' c.query.new.self) (sym c.in-Query.is)
    (query-answered g.H.Host.honest host host' agent c.query.new.self c.in-Query.text c.requires.going c.in_ok-query-in-Query.field-0 did)

pub returns-in_err-query-in-Query : goal.returns-in_err-query-in-Query
returns-in_err-query-in-Query g c =
    let host : Seen = g.H.Host.seen c.args.host.now in
    let host' : Seen = g.H.Host.seen c.query.new.host in
    let agent = c.args.self.now in
    let did = subst (λ (text : List ℕ). Queries g.H.Host.honest host agent text (unreplied c.in_err-query-in-Query.field-0.0) host' c.query.new.self) c.as_str.ensures c.in_err-query-in-Query.ensures in
    let error = err_from_is_err_and c.from_residual-in_err-query-in-Query.result c.from_residual-in_err-query-in-Query.ensures.1 in
    rw (error.1, error.2)
    (subst (λ (s : Step). Takes g.H.Host.honest host agent s (Err c.in_err-query-in-Query.field-0.0) host' c.query.new.self) (sym c.in-Query.is)
    (query-failed g.H.Host.honest host host' agent c.query.new.self c.in-Query.text c.requires.going c.in_err-query-in-Query.field-0.0 did))
