use Rattle.std.proofs.Common.{◌≡◌, Bool, None, Result, OnOk, sym, ap, subst, ◌∙◌}
use Rattle.std.proofs.lemmas.Result.{IfOk-weaker}
use Rattle.history.specs.declared.fault.BlockFault.{BlockFault}
use Rattle.collect_block.specs.declared.step.Step.{Step}
use Rattle.collect_block.specs.Feed.{CountsFor, CountsPast}
use Rattle.agent_core.specs.Agent.{AgentState}
use Rattle.agent_core.specs.Roles.{copies}
use Rattle.agent_core.proofs.FedLemmas.{fed-step}
use Rattle.agent_core.proofs.LineCalls.{line-fed, Refuses}
use Rattle.agent_core.proofs.agent.Agent.take_line.Goals as goal

pub take_fed-requires-clause-is_open : goal.take_fed-requires-clause-is_open
take_fed-requires-clause-is_open g c = IfOk-weaker c.take_line-fed.result _ _ (λ step gives. fed-step c.args.feed.now c.args.line step c.requires.fed gives) c.take_line-fed.ensures.gives

pub returns : goal.returns
returns g c =
    let agent : AgentState = c.args.self.now in
    let feed = c.args.feed.now in
    let line = c.args.line in
    let made : Result Step BlockFault = c.take_line-fed.result in
    let refuses = subst (λ (a : AgentState). Refuses a.registry (copies a.role) a.last feed line made) c.self.view_is
    (subst (λ (b : Bool). Refuses c.self.inside.left.registry b c.self.inside.last feed line made) c.copies-copies.ensures c.take_line-fed.ensures.refused) in
    let counts = subst (λ (a : AgentState). OnOk made (CountsFor feed a.registry → CountsPast line c.take_line-fed.new.self a.registry)) c.self.view_is c.take_line-fed.ensures.counts in
    let going : agent.fault ≡ None = ap (λ (a : AgentState). a.fault) (sym c.self.view_is) ∙ c.in_default.is in
    let did = c.take_fed.ensures in
    line-fed g.H.Host.honest (g.H.Host.seen c.args.host.now) (g.H.Host.seen c.take_fed.new.host) agent c.take_fed.new.self feed c.take_line-fed.new.self line c.take_fed.result c.requires.fed c.requires.limits going c.requires.ready
    made refuses c.take_line-fed.ensures.short c.take_line-fed.ensures.gives c.take_line-fed.ensures.taken counts c.take_line-fed.ensures.err did.took did.told did.spent did.host
