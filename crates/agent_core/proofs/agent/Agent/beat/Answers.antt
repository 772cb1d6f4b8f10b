use Rattle.std.proofs.Common.{◌≡◌, ◌∷◌, ◌∙◌, ◌<◌, ℕ, Bool, List, Option, None, Err, ap, refl, sym, subst}
use Rattle.std.proofs.lemmas.Result.{IfOk-weaker}
use Rattle.beat_entries.specs.Taking.{IsFaultOf}
use Rattle.host_model.specs.Disks.{EveryDisk}
use Rattle.host_model.specs.Moments.{Throughout}
use Rattle.host_model.specs.Seen.{Seen}
use Rattle.history.specs.History.{Beat as HistoryBeat, collected}
use Rattle.history.specs.Registry.{Registry, with_definitions}
use Rattle.alarm_core.specs.declared.alarms.Alarms.{Alarms}
use Rattle.alarm_core.specs.UpTo.{IsUpTo}
use Rattle.tier_settings.specs.declared.settings.Settings.{Settings}
use Rattle.store_core.specs.declared.fault.Why.{Why}
use Rattle.store_core.specs.disk.Holds.{OnlyOwn}
use Rattle.store_core.specs.Counts.{raised}
use Rattle.store_core.specs.Store.{StoreState}
use Rattle.agent_core.specs.declared.reply.Reply.{Reply}
use Rattle.agent_core.specs.Agent.{AgentIsReady, AgentState, IsAgentOf}
use Rattle.agent_core.specs.Bound.{GrowsWithin}
use Rattle.agent_core.specs.Calls.{Beats}
use Rattle.agent_core.specs.Faults.{fault_after}
use Rattle.agent_core.specs.Roles.{copies}
use Rattle.agent_core.specs.Kept.{IsJudgedAt}
use Rattle.agent_core.specs.Rules.{beat_refusal}
use Rattle.agent_core.specs.Stands.{StandsForOneOf}
use Rattle.agent_core.proofs.BeatCalls.{beat-unjudged, unstored}
use Rattle.agent_core.proofs.HistoryLemmas.{passes}
use Rattle.agent_core.proofs.KeepsLemmas.{keeps-err, kept-faults, spent-never, told-ready}
use Rattle.agent_core.proofs.KeptLemmas.{agent-more, follows-of, judged-at, one_of}
use Rattle.agent_core.proofs.Outcomes.{on_both, on_err, on_ok, short-disk, spending-changes, spending-refusal, spending-reopens, told-changes, told-refusal, told-reopens}
use Rattle.agent_core.proofs.agent.Agent.beat.Goals as goal

pub add_beat-requires-clause-later : goal.add_beat-requires-clause-later
add_beat-requires-clause-later g c =
    let agent : AgentState = c.args.self.now in
    let moment = c.args.moment in
    let beat = c.args.beat.now in
    let inside = c.self.inside in
    let free : beat_refusal agent.registry (copies agent.role) agent.last moment beat ≡ None =
    ap (λ (a : AgentState). beat_refusal a.registry (copies a.role) a.last moment beat) (sym c.self.view_is)
    ∙ (ap (λ (b : Bool). beat_refusal inside.left.registry b inside.last moment beat) (sym c.copies.ensures) ∙ c.in-Ok.ensures.judged) in
    let numbered = c.in-Ok.numbered in
    let at : IsJudgedAt c.args.self.now.registry c.args.moment c.args.beat.now numbered =
    subst (λ (a : AgentState). IsJudgedAt a.registry c.args.moment c.args.beat.now numbered) c.self.view_is
    (judged-at c.self.inside.left.registry c.args.moment c.args.beat.now numbered c.requires.is_open c.in-Ok.ensures.content c.in-Ok.ensures.numbered) in
    subst (λ (m : ℕ). agent.last < m) (sym at.moment_is) (passes agent.registry (copies agent.role) agent.last moment beat free).later

pub add_beat-requires-clause-judged : goal.add_beat-requires-clause-judged
add_beat-requires-clause-judged g c =
    let numbered = c.in-Ok.numbered in
    let at : IsJudgedAt c.args.self.now.registry c.args.moment c.args.beat.now numbered =
    subst (λ (a : AgentState). IsJudgedAt a.registry c.args.moment c.args.beat.now numbered) c.self.view_is
    (judged-at c.self.inside.left.registry c.args.moment c.args.beat.now numbered c.requires.is_open c.in-Ok.ensures.content c.in-Ok.ensures.numbered) in
    (c.args.beat.now, at.judged)

pub tell-requires-clause-same : goal.tell-requires-clause-same
tell-requires-clause-same g c none =
    let going : c.args.self.now.fault ≡ None = ap (λ (a : AgentState). a.fault) (sym c.self.view_is) ∙ c.in_default.is in
    let old = c.args.self.now in
    let new = c.add_beat.new.self in
    let empty = c.defines_some.ensures.0 none in
    let numbered = c.in-Ok.numbered in
    let at : IsJudgedAt c.args.self.now.registry c.args.moment c.args.beat.now numbered =
    subst (λ (a : AgentState). IsJudgedAt a.registry c.args.moment c.args.beat.now numbered) c.self.view_is
    (judged-at c.self.inside.left.registry c.args.moment c.args.beat.now numbered c.requires.is_open c.in-Ok.ensures.content c.in-Ok.ensures.numbered) in
    let registry_is : new.registry ≡ old.registry = c.in-Ok-add_beat.ensures.registry c.args.beat.now at.judged ∙ (λ i. with_definitions old.registry (empty.0 i) (empty.1 i)) in
    let alarms_are : new.alarms ≡ old.alarms = ap (λ (a : AgentState). a.alarms) c.add_beat.ensures.stays in
    subst (λ (r : Registry). IsUpTo new.alarms r) (sym registry_is) (subst (λ (alarms : Alarms). IsUpTo alarms old.registry) (sym alarms_are) (c.requires.ready going).up_to)

-- ---- nothing is stored
pub returns-in-Err : goal.returns-in-Err
returns-in-Err g c =
    let inside : AgentState = record {
      store = c.self.inside.store;
      registry = c.self.inside.left.registry;
      last_rows = c.self.inside.left.last_rows;
      latest = c.self.inside.left.latest;
      gaps = c.self.inside.left.gaps;
      alarms = c.self.inside.left.alarms;
      last = c.self.inside.last;
      count = c.self.inside.count;
      role = c.self.inside.left.role;
      fault = c.self.inside.fault;
    } in
    let host : Seen = g.H.Host.seen c.args.host.now in
    let moment = c.args.moment in
    let beat = c.args.beat.now in
    let ready = subst (AgentIsReady g.H.Host.honest host.past) (sym c.self.view_is) c.requires.ready in
    let judged = subst (λ (b : Bool). IsFaultOf (beat_refusal inside.registry b inside.last moment beat) c.in-Err.fault) c.copies.ensures c.in-Err.ensures.judged in
    rw (c.cause-self-inside.ensures, c.from-fault.ensures, ← c.self.view_is) (beat-unjudged g.H.Host.honest host inside beat moment c.in_default.is c.in-Err.fault ready judged)

-- ---- it is stored, and the alarms follow it
pub returns-in-Ok-add_beat : goal.returns-in-Ok-add_beat
returns-in-Ok-add_beat g c =
    let agent : AgentState = c.args.self.now in
    let moment = c.args.moment in
    let beat = c.args.beat.now in
    let inside = c.self.inside in
    let free : beat_refusal agent.registry (copies agent.role) agent.last moment beat ≡ None =
    ap (λ (a : AgentState). beat_refusal a.registry (copies a.role) a.last moment beat) (sym c.self.view_is)
    ∙ (ap (λ (b : Bool). beat_refusal inside.left.registry b inside.last moment beat) (sym c.copies.ensures) ∙ c.in-Ok.ensures.judged) in
    let host : Seen = g.H.Host.seen c.args.host.now in
    let middle : Seen = g.H.Host.seen c.add_beat.new.host in
    let told : Seen = g.H.Host.seen c.tell.new.host in
    let after = c.add_beat.new.self in
    let reason = beat_refusal agent.registry (copies agent.role) agent.last moment beat in
    let going : agent.fault ≡ None = ap (λ (a : AgentState). a.fault) (sym c.self.view_is) ∙ c.in_default.is in
    let did = c.in-Ok-add_beat.ensures in
    let does = c.tell.ensures in
    let same = c.add_beat.ensures.stays in
    let numbered = c.in-Ok.numbered in
    let at : IsJudgedAt c.args.self.now.registry c.args.moment c.args.beat.now numbered =
    subst (λ (a : AgentState). IsJudgedAt a.registry c.args.moment c.args.beat.now numbered) c.self.view_is
    (judged-at c.self.inside.left.registry c.args.moment c.args.beat.now numbered c.requires.is_open c.in-Ok.ensures.content c.in-Ok.ensures.numbered) in
    let follows = λ (set : Settings) (h : List HistoryBeat) (is_of : IsAgentOf host.past agent set h). follows-of host.past agent set h is_of moment beat c.requires.is_open free in
    record {
      any_moment = λ true_host set h is_of.
          subst (λ (s : Seen). Throughout (EveryDisk (StandsForOneOf set h reason (collected moment beat ∷ h))) host.past s.past) (sym does.host)
          (one_of host.past agent set h is_of reason (collected moment beat ∷ h) middle.past free (c.add_beat.ensures.any_moment true_host moment beat set h at is_of.holds is_of.left_by (follows set h is_of)));
      done = on_both _ _ _ c.tell.result does.told does.left_by (λ is followed true_host set h is_of.
          let stored = did.done true_host moment beat set h at is_of.holds is_of.left_by (follows set h is_of) in
          subst (λ (s : Seen). IsAgentOf s.past c.tell.new.self set (collected moment beat ∷ h)) (sym does.host)
          (agent-more host.past middle.past agent after c.tell.new.self set h (collected moment beat) moment is_of stored.0 (ap (λ (a : AgentState). a.count) same) (ap (λ (a : AgentState). a.fault) same ∙ is_of.going) is refl
          (followed middle.past set h (collected moment beat) stored.0 stored.1 refl)));
      number = does.number;
      events = IfOk-weaker c.tell.result _ _ (λ reply tells true_host set h is_of.
          let stored = did.done true_host moment beat set h at is_of.holds is_of.left_by (follows set h is_of) in
          tells middle.past set h (collected moment beat) stored.0 stored.1 refl) does.events;
      counts = on_ok _ _ c.tell.result does.told (λ is. ap (λ (a : AgentState). a.count) is ∙ ap (λ (a : AgentState). raised a.count) same);
      last = on_ok _ _ c.tell.result does.told (λ is. ap (λ (a : AgentState). a.last) is);
      refused = λ again. told-refusal reason c.tell.result free does.memory;
      untouched = λ not_due. ap (λ (s : StoreState). s.body) does.store ∙ c.add_beat.ensures.untouched not_due;
      unchanged = told-changes _ c.tell.result does.memory;
      fault = does.fault ∙ ap (λ (a : AgentState). fault_after a.fault c.tell.result) same;
      reopens = told-reopens agent.fault c.tell.result going does.memory;
      stays = on_err _ _ c.tell.result does.spent (λ is. (ap (λ (a : AgentState). a.count) is ∙ ap (λ (a : AgentState). a.count) same, ap (λ (a : AgentState). a.last) is ∙ ap (λ (a : AgentState). a.last) same));
      id = ap (λ (s : StoreState). s.body.settings.id) does.store ∙ ap (λ (s : Settings). s.id) did.keeps.settings;
      ready = subst (λ (s : Seen). AgentIsReady g.H.Host.honest s.past c.tell.new.self) (sym does.host)
          (told-ready c.tell.result g.H.Host.honest middle.past after c.tell.new.self moment did.keeps.ready did.keeps.replayed did.keeps.going (did.stored ∙ at.moment_is) did.charts did.dimensions did.limits
          does.told does.up_to (ap (λ (a : AgentState). a.fault) did.stays ∙ going) does.fault does.memory);
      cause = short-disk c.tell.result host.disk_faults told.disk_faults (ap (λ (s : Seen). s.disk_faults) does.host ∙ kept-faults g.H.Host.honest host middle agent.store after.store _ did.keeps) does.memory;
      bound = λ true_host set h is_of limit fits.
          subst (λ (store : StoreState). GrowsWithin set limit host.past agent.store told.past store) (sym does.store)
          (subst (λ (s : Seen). GrowsWithin set limit host.past agent.store s.past after.store) (sym does.host) (c.add_beat.ensures.bound true_host set h is_of.holds is_of.left_by limit fits));
      gaps = does.gaps ∙ c.add_beat.ensures.gaps;
      only_here = subst (λ (s : Seen). g.H.Host.honest → OnlyOwn host.past s.past) (sym does.host) did.keeps.only_here;
      tells = ap (λ (s : Seen). s.tell_faults) does.host ∙ did.keeps.tells;
    }

-- ---- the disk or memory failed it
pub returns : goal.returns
returns g c =
    let agent : AgentState = c.args.self.now in
    let moment = c.args.moment in
    let beat = c.args.beat.now in
    let inside = c.self.inside in
    let free : beat_refusal agent.registry (copies agent.role) agent.last moment beat ≡ None =
    ap (λ (a : AgentState). beat_refusal a.registry (copies a.role) a.last moment beat) (sym c.self.view_is)
    ∙ (ap (λ (b : Bool). beat_refusal inside.left.registry b inside.last moment beat) (sym c.copies.ensures) ∙ c.in-Ok.ensures.judged) in
    let host : Seen = g.H.Host.seen c.args.host.now in
    let middle : Seen = g.H.Host.seen c.add_beat.new.host in
    let reason = beat_refusal agent.registry (copies agent.role) agent.last moment beat in
    let going : agent.fault ≡ None = ap (λ (a : AgentState). a.fault) (sym c.self.view_is) ∙ c.in_default.is in
    let numbered = c.in-Ok.numbered in
    let at : IsJudgedAt c.args.self.now.registry c.args.moment c.args.beat.now numbered =
    subst (λ (a : AgentState). IsJudgedAt a.registry c.args.moment c.args.beat.now numbered) c.self.view_is
    (judged-at c.self.inside.left.registry c.args.moment c.args.beat.now numbered c.requires.is_open c.in-Ok.ensures.content c.in-Ok.ensures.numbered) in
    let fault = c.in-Err-add_beat.fault in
    let keeps = c.in-Err-add_beat.ensures.keeps in
    let same = c.add_beat.ensures.stays in
    let spent = λ (after : AgentState). record after { fault = c.cause-self-inside-in-Err-add_beat.result } in
    subst (λ (after : AgentState). Beats g.H.Host.honest host agent beat moment (Err fault) middle (spent after)) (sym c.self-in-Err-add_beat.view_is) (record {
      any_moment = λ true_host set h is_of.
          one_of host.past agent set h is_of reason (collected moment beat ∷ h) middle.past free
          (c.add_beat.ensures.any_moment true_host moment beat set h at is_of.holds is_of.left_by (follows-of host.past agent set h is_of moment beat c.requires.is_open free));
      done = tt;
      number = tt;
      events = tt;
      counts = tt;
      last = tt;
      refused = λ again. spending-refusal reason fault free keeps.faults;
      untouched = c.add_beat.ensures.untouched;
      unchanged = λ leaves. absurd (spending-changes fault keeps.faults leaves);
      fault = c.cause-self-inside-in-Err-add_beat.ensures ∙ sym (ap (λ (f : Option Why). fault_after f (unstored fault)) going);
      reopens = spending-reopens agent.fault fault keeps.faults going;
      stays = (ap (λ (a : AgentState). a.count) same, ap (λ (a : AgentState). a.last) same);
      id = ap (λ (s : Settings). s.id) keeps.settings;
      ready = λ none. absurd (spent-never fault keeps.faults (sym c.cause-self-inside-in-Err-add_beat.ensures ∙ none));
      cause = (keeps-err {U = Reply} g.H.Host.honest host middle agent.store c.add_beat.new.self.store fault keeps).cause;
      bound = λ true_host set h is_of limit fits. c.add_beat.ensures.bound true_host set h is_of.holds is_of.left_by limit fits;
      gaps = c.add_beat.ensures.gaps;
      only_here = keeps.only_here;
      tells = keeps.tells;
    })
