use Rattle.std.proofs.Common.{◌≡◌, ◌∷◌, ◌∙◌, List, Option, None, ap, sym, subst, refl}
use Rattle.std.proofs.lemmas.Result.{IfOk-weaker}
use Rattle.host_model.specs.Disks.{EveryDisk}
use Rattle.host_model.specs.Moments.{Throughout}
use Rattle.host_model.specs.Seen.{Seen}
use Rattle.history.specs.History.{Beat as HistoryBeat, health}
use Rattle.health_config.specs.declared.fault.ConfigFault.{ConfigFault}
use Rattle.tier_settings.specs.declared.settings.Settings.{Settings}
use Rattle.store_core.specs.declared.fault.Why.{Why}
use Rattle.store_core.specs.disk.Holds.{OnlyOwn}
use Rattle.store_core.specs.Store.{StoreState}
use Rattle.agent_core.specs.declared.reply.Reply.{Reply}
use Rattle.agent_core.specs.Agent.{AgentIsReady, AgentState, Fits, IsAgentOf}
use Rattle.agent_core.specs.Alarms.{IsReadOf}
use Rattle.agent_core.specs.Bound.{GrowsWithin}
use Rattle.agent_core.specs.Calls.{SetsHealth}
use Rattle.agent_core.specs.Faults.{fault_after, IsHealthRefusal}
use Rattle.agent_core.specs.Health.{health_refusal}
use Rattle.agent_core.specs.Stands.{StandsForHealth}
use Rattle.agent_core.proofs.BeatCalls.{unstored}
use Rattle.agent_core.proofs.HealthCalls.{health-unread}
use Rattle.agent_core.proofs.HealthLemmas.{read-accepted, read-short}
use Rattle.agent_core.proofs.KeepsLemmas.{keeps-err, kept-faults, spent-never, told-ready}
use Rattle.agent_core.proofs.KeptLemmas.{agent-more, health-awaits, health-moments}
use Rattle.agent_core.proofs.Outcomes.{either_way, on_both, on_err, on_ok, short-disk, spending-changes, spending-health, spending-reopens, told-changes, told-health, told-reopens}
use Rattle.agent_core.proofs.agent.Agent.set_health.Goals as goal

pub add_health-requires-clause-short : goal.add_health-requires-clause-short
add_health-requires-clause-short g c = read-short c.args.text.now _ c.in-Ok.ensures.config

-- ---- nothing is stored
pub returns-in-Err : goal.returns-in-Err
returns-in-Err g c =
    let inside : AgentState = record {
      store = c.self.inside.store;
      registry = c.self.inside.left.registry;
      last_rows = c.self.inside.left.last_rows;
      latest = c.self.inside.left.latest;
      gaps = c.self.inside.left.gaps;
      alarms = c.self.inside.left.alarms;
      last = c.self.inside.last;
      count = c.self.inside.count;
      role = c.self.inside.left.role;
      fault = c.self.inside.fault;
    } in
    let host : Seen = g.H.Host.seen c.args.host.now in
    let ready = subst (AgentIsReady g.H.Host.honest host.past) (sym c.self.view_is) c.requires.ready in
    rw (c.cause-self-inside.ensures, c.from-fault.ensures, ← c.self.view_is) (health-unread g.H.Host.honest host inside c.args.text.now c.in_default.is c.in-Err.fault ready c.in-Err.ensures.refused)

-- ---- it is stored, and the alarms follow it
pub returns-in-Ok-add_health : goal.returns-in-Ok-add_health
returns-in-Ok-add_health g c =
    let inside : AgentState = record {
      store = c.self.inside.store;
      registry = c.self.inside.left.registry;
      last_rows = c.self.inside.left.last_rows;
      latest = c.self.inside.left.latest;
      gaps = c.self.inside.left.gaps;
      alarms = c.self.inside.left.alarms;
      last = c.self.inside.last;
      count = c.self.inside.count;
      role = c.self.inside.left.role;
      fault = c.self.inside.fault;
    } in
    let parts : AgentState = record inside { latest = record inside.latest { before = inside.last } } in
    let host : Seen = g.H.Host.seen c.args.host.now in
    let middle : Seen = g.H.Host.seen c.add_health.new.host in
    let told : Seen = g.H.Host.seen c.tell.new.host in
    let text = c.args.text.now in
    let after : AgentState = record parts { store = c.add_health.new.store } in
    let accepted = read-accepted text _ c.in-Ok.ensures.config in
    let did = c.in-Ok-add_health.ensures in
    let does = c.tell.ensures in
    let read : IsReadOf text c.in-Ok.config = record { says = c.in-Ok.ensures.config; text_is = c.in-Ok.ensures.text } in
    let awaits = λ (set : Settings) (h : List HistoryBeat) (is_of : IsAgentOf host.past inside set h). health-awaits set h c.self.inside.left text inside.last is_of.left_by is_of.last_is in
    subst (λ (a : AgentState). SetsHealth g.H.Host.honest host a text c.tell.result told c.tell.new.self) c.self.view_is (record {
      any_moment = λ true_host set h is_of.
          subst (λ (s : Seen). Throughout (EveryDisk (StandsForHealth set h text)) host.past s.past) (sym does.host)
          (health-moments host.past middle.past set h text accepted (c.add_health.ensures.any_moment true_host set h is_of.holds is_of.left_by));
      done = on_both _ _ _ c.tell.result does.told does.left_by (λ is followed true_host set h is_of.
          let kept = did.done true_host set h is_of.holds is_of.left_by in
          subst (λ (s : Seen). IsAgentOf s.past c.tell.new.self set (health text ∷ h)) (sym does.host)
          (agent-more host.past middle.past inside after c.tell.new.self set h (health text) inside.last is_of kept refl is_of.going is (awaits set h is_of).before (followed middle.past set h (health text) kept (awaits set h is_of) read)));
      number = does.number;
      events = IfOk-weaker c.tell.result _ _ (λ reply tells true_host set h is_of.
          tells middle.past set h (health text) (did.done true_host set h is_of.holds is_of.left_by) (awaits set h is_of) read) does.events;
      counts = on_ok _ _ c.tell.result does.told (λ is. ap (λ (a : AgentState). a.count) is);
      last = either_way _ c.tell.result (on_ok _ _ c.tell.result does.told (λ is. ap (λ (a : AgentState). a.last) is)) (on_err _ _ c.tell.result does.spent (λ is. ap (λ (a : AgentState). a.last) is));
      registry = either_way _ c.tell.result (on_ok _ _ c.tell.result does.told (λ is. ap (λ (a : AgentState). a.registry) is)) (on_err _ _ c.tell.result does.spent (λ is. ap (λ (a : AgentState). a.registry) is));
      refused = λ again. told-health (health_refusal text) c.tell.result accepted does.memory;
      untouched = λ not_due. ap (λ (s : StoreState). s.body) does.store ∙ c.add_health.ensures.untouched not_due;
      unchanged = told-changes _ c.tell.result does.memory;
      fault = does.fault;
      reopens = told-reopens inside.fault c.tell.result c.in_default.is does.memory;
      stays = on_err _ _ c.tell.result does.spent (λ is. ap (λ (a : AgentState). a.count) is);
      id = ap (λ (s : StoreState). s.body.settings.id) does.store ∙ ap (λ (s : Settings). s.id) did.keeps.settings;
      ready =
          let going : c.args.self.now.fault ≡ None = ap (λ (a : AgentState). a.fault) (sym c.self.view_is) ∙ c.in_default.is in
          let fits = subst (Fits g.H.Host.honest host.past) (sym c.self.view_is) (c.requires.ready going) in
          subst (λ (s : Seen). AgentIsReady g.H.Host.honest s.past c.tell.new.self) (sym does.host)
          (told-ready c.tell.result g.H.Host.honest middle.past after c.tell.new.self inside.last did.keeps.ready did.keeps.replayed did.keeps.going (did.last ∙ fits.same_last) fits.charts fits.dimensions fits.limits
          does.told does.up_to c.in_default.is does.fault does.memory);
      cause = short-disk c.tell.result host.disk_faults told.disk_faults (ap (λ (s : Seen). s.disk_faults) does.host ∙ kept-faults g.H.Host.honest host middle inside.store c.add_health.new.store _ did.keeps) does.memory;
      bound = λ true_host set h is_of limit fits.
          subst (λ (store : StoreState). GrowsWithin set limit host.past inside.store told.past store) (sym does.store)
          (subst (λ (s : Seen). GrowsWithin set limit host.past inside.store s.past c.add_health.new.store) (sym does.host) (c.add_health.ensures.bound true_host set h is_of.holds is_of.left_by limit fits));
      gaps = does.gaps;
      only_here = subst (λ (s : Seen). g.H.Host.honest → OnlyOwn host.past s.past) (sym does.host) did.keeps.only_here;
      tells = ap (λ (s : Seen). s.tell_faults) does.host ∙ did.keeps.tells;
    })

-- ---- the disk or memory failed it
pub returns-in-Err-add_health : goal.returns-in-Err-add_health
returns-in-Err-add_health g c =
    let inside : AgentState = record {
      store = c.self.inside.store;
      registry = c.self.inside.left.registry;
      last_rows = c.self.inside.left.last_rows;
      latest = c.self.inside.left.latest;
      gaps = c.self.inside.left.gaps;
      alarms = c.self.inside.left.alarms;
      last = c.self.inside.last;
      count = c.self.inside.count;
      role = c.self.inside.left.role;
      fault = c.self.inside.fault;
    } in
    let host : Seen = g.H.Host.seen c.args.host.now in
    let middle : Seen = g.H.Host.seen c.add_health.new.host in
    let text = c.args.text.now in
    let accepted = read-accepted text _ c.in-Ok.ensures.config in
    let fault = c.in-Err-add_health.fault in
    let keeps = c.in-Err-add_health.ensures.keeps in
    let spent : AgentState = record inside { store = c.add_health.new.store; fault = c.cause-self-inside-in-Err-add_health.result } in
    subst (λ (a : AgentState). SetsHealth g.H.Host.honest host a text (unstored fault) middle spent) c.self.view_is (record {
      any_moment = λ true_host set h is_of. health-moments host.past middle.past set h text accepted (c.add_health.ensures.any_moment true_host set h is_of.holds is_of.left_by);
      done = tt;
      number = tt;
      events = tt;
      counts = tt;
      last = refl;
      registry = refl;
      refused = λ again. subst (λ (r : Option ConfigFault). IsHealthRefusal r fault) (sym accepted) (spending-health fault keeps.faults);
      untouched = c.add_health.ensures.untouched;
      unchanged = λ leaves. absurd (spending-changes fault keeps.faults leaves);
      fault = c.cause-self-inside-in-Err-add_health.ensures ∙ sym (ap (λ (f : Option Why). fault_after f (unstored fault)) c.in_default.is);
      reopens = spending-reopens inside.fault fault keeps.faults c.in_default.is;
      stays = refl;
      id = ap (λ (s : Settings). s.id) keeps.settings;
      ready = λ none. absurd (spent-never fault keeps.faults (sym c.cause-self-inside-in-Err-add_health.ensures ∙ none));
      cause = (keeps-err {U = Reply} g.H.Host.honest host middle inside.store c.add_health.new.store fault keeps).cause;
      bound = λ true_host set h is_of limit fits. c.add_health.ensures.bound true_host set h is_of.holds is_of.left_by limit fits;
      gaps = refl;
      only_here = keeps.only_here;
      tells = keeps.tells;
    })
