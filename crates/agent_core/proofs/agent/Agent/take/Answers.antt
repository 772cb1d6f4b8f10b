use Rattle.std.proofs.Common.{arith, rules, ◌≡◌, ◌+◌, List, [], Option, length, None, Some, true, false, Bool, Result, Ok, Err, subst, sym, ap, ◌∙◌, if◌then◌else◌, refl, true≢false}
use Rattle.std.proofs.lemmas.Result.{err_from_is_err_and}
use Rattle.host_model.specs.Disks.{EveryDisk}
use Rattle.host_model.specs.Moments.{Throughout}
use Rattle.host_model.specs.Seen.{Seen}
use Rattle.history.specs.History.{Beat as HistoryBeat}
use Rattle.replication.specs.declared.verdict.Verdict.{Verdict}
use Rattle.replication.specs.Verdict.{is_stored}
use Rattle.store_core.specs.Counts.{counted}
use Rattle.store_core.specs.declared.fault.Why.{Why}
use Rattle.agent_core.specs.declared.fault.AgentFault.{AgentFault}
use Rattle.agent_core.specs.declared.fault.AgentFault.TheVariants.{DiskFault}
use Rattle.agent_core.specs.declared.left.Role.TheVariants.{Copies}
use Rattle.agent_core.specs.declared.reply.Reply.{Reply}
use Rattle.agent_core.specs.Agent.{AgentState, IsAgentOf}
use Rattle.agent_core.specs.Calls.{agent_verdict}
use Rattle.agent_core.specs.Copying.{copy_refusal, events_onto, refusal_by}
use Rattle.agent_core.specs.Faults.{fault_after}
use Rattle.agent_core.specs.Kept.{onto}
use Rattle.agent_core.specs.Stands.{StandsForPrefix}
use Rattle.agent_core.proofs.BeatCalls.{unstored}
use Rattle.agent_core.proofs.CopyCalls.{message-left, message-refused, stored-adds}
use Rattle.agent_core.proofs.OpenFaults.{told-cause}
use Rattle.agent_core.proofs.Outcomes.{spending-changes, spending-refusal, spending-reopens}
use Rattle.agent_core.proofs.agent.Agent.take.Goals as goal

pub add_copies-requires-clause-free : goal.add_copies-requires-clause-free
add_copies-requires-clause-free g c =
    ap (λ (a : AgentState). copy_refusal a.registry a.role c.args.message.now) (sym c.self.view_is) ∙ sym c.copy_refusal.ensures ∙ c.in_default-copy_refusal.is

-- ---- nothing is stored
pub returns-then-not-is_stored : goal.returns-then-not-is_stored
returns-then-not-is_stored g c =
    let agent = c.args.self.now in
    let message = c.args.message.now in
    let left : is_stored (agent_verdict agent message) ≡ false = search rules in
    let going : agent.fault ≡ None = ap (λ (a : AgentState). a.fault) (sym c.self.view_is) ∙ c.in_default.is in
    let count = ap (λ (a : AgentState). a.count) c.self.view_is in
    message-left g.H.Host.honest (g.H.Host.seen c.args.host.now) agent message going c.requires.ready left (omega (arith, c.nothing_stored.ensures.within, count)) _ c.nothing_stored.result c.verdict-verdict.ensures (c.nothing_stored.ensures.reply ∙ (λ i. record { count = count i; events = [] }))

pub returns-in-Some-copy_refusal : goal.returns-in-Some-copy_refusal
returns-in-Some-copy_refusal g c =
    let agent = c.args.self.now in
    let message = c.args.message.now in
    let stored : is_stored (agent_verdict agent message) ≡ true = search rules in
    let going : agent.fault ≡ None = ap (λ (a : AgentState). a.fault) (sym c.self.view_is) ∙ c.in_default.is in
    let against : copy_refusal agent.registry agent.role message ≡ Some c.in-Some-copy_refusal.reason
    = ap (λ (a : AgentState). copy_refusal a.registry a.role message) (sym c.self.view_is) ∙ sym c.copy_refusal.ensures ∙ c.in-Some-copy_refusal.is in
    message-refused g.H.Host.honest (g.H.Host.seen c.args.host.now) agent message going c.requires.ready stored c.in-Some-copy_refusal.reason against

-- ---- it is stored
abbrev taken : Verdict → Reply → Result (Verdict × Reply) AgentFault
taken verdict reply = Ok (verdict, reply)

abbrev replied : Reply → Result Reply AgentFault
replied reply = Ok reply

pub returns : goal.returns
returns g c =
    let agent = c.args.self.now in
    let message = c.args.message.now in
    let stored : is_stored (agent_verdict agent message) ≡ true = search rules in
    let free : copy_refusal agent.registry agent.role message ≡ None
    = ap (λ (a : AgentState). copy_refusal a.registry a.role message) (sym c.self.view_is) ∙ sym c.copy_refusal.ensures ∙ c.in_default-copy_refusal.is in
    let host : Seen = g.H.Host.seen c.args.host.now in
    let host' : Seen = g.H.Host.seen c.add_copies.new.host in
    let going : agent.fault ≡ None = ap (λ (a : AgentState). a.fault) (sym c.self.view_is) ∙ c.in_default.is in
    let adds = stored-adds agent message stored free in
    let did = c.in_ok-reply.ensures in
    record {
      verdict = c.verdict-verdict.ensures;
      any_moment = λ true_host set h is_of. subst (λ (more : List HistoryBeat). Throughout (EveryDisk (StandsForPrefix set h more)) host.past host'.past) adds (did.any_moment true_host set h is_of);
      done = λ true_host set h is_of. subst (λ (more : List HistoryBeat). IsAgentOf host'.past c.add_copies.new.self set (onto h more)) adds (did.done true_host set h is_of);
      number = did.number;
      events = λ true_host set h is_of. did.events true_host set h is_of ∙ ap (events_onto set h) adds;
      counts = did.counts ∙ ap (λ (more : List HistoryBeat). counted (agent.count + length more)) adds;
      last = did.last ∙ ap (λ (b : Bool). if b then message.upto else agent.last) (sym stored);
      role = did.role ∙ ap (λ (b : Bool). if b then Copies message.child else agent.role) (sym stored);
      refused = λ again. ap (λ (b : Bool). if b then copy_refusal agent.registry agent.role message else None) stored ∙ free;
      left = λ not. absurd (true≢false (sym stored ∙ not));
      quiet = λ not. absurd (true≢false (sym stored ∙ not));
      fails = λ failed. stored;
      unchanged = tt;
      fault = did.fault ∙ ap (λ (f : Option Why). fault_after f (replied c.in_ok-reply.reply)) going ∙ sym (ap (λ (f : Option Why). fault_after f (taken c.verdict-verdict.result c.in_ok-reply.reply)) going);
      reopens = going;
      stays = tt;
      id = did.id;
      ready = did.ready;
      cause = record { later = did.cause.later; failed = λ e. absurd cc; stays = λ other. did.cause.stays (λ e. cc) };
      bound = did.bound;
      only_here = did.only_here;
      tells = did.tells;
    }

-- ---- the disk or memory failed it
abbrev untaken : AgentFault → Result (Verdict × Reply) AgentFault
untaken fault = Err fault

pub returns-in_err-reply : goal.returns-in_err-reply
returns-in_err-reply g c =
    let agent = c.args.self.now in
    let message = c.args.message.now in
    let stored : is_stored (agent_verdict agent message) ≡ true = search rules in
    let free : copy_refusal agent.registry agent.role message ≡ None
    = ap (λ (a : AgentState). copy_refusal a.registry a.role message) (sym c.self.view_is) ∙ sym c.copy_refusal.ensures ∙ c.in_default-copy_refusal.is in
    let host : Seen = g.H.Host.seen c.args.host.now in
    let host' : Seen = g.H.Host.seen c.add_copies.new.host in
    let going : agent.fault ≡ None = ap (λ (a : AgentState). a.fault) (sym c.self.view_is) ∙ c.in_default.is in
    let fault = c.in_err-reply.field-0.0 in
    let did = c.in_err-reply.ensures in
    let error = err_from_is_err_and c.from_residual.result c.from_residual.ensures.1 in
    rw (error.1, error.2) (record {
      verdict = tt;
      any_moment = λ true_host set h is_of.
          subst (λ (more : List HistoryBeat). Throughout (EveryDisk (StandsForPrefix set h more)) host.past host'.past) (stored-adds agent message stored free) (did.any_moment true_host set h is_of);
      done = tt;
      number = tt;
      events = tt;
      counts = tt;
      last = tt;
      role = tt;
      refused = λ again.
          spending-refusal (refusal_by (agent_verdict agent message) agent.registry agent.role message) fault
          (ap (λ (b : Bool). if b then copy_refusal agent.registry agent.role message else None) stored ∙ free) did.faults;
      left = tt;
      quiet = λ not. absurd (true≢false (sym stored ∙ not));
      fails = λ failed. stored;
      unchanged = λ leaves. absurd (spending-changes fault did.faults leaves);
      fault = did.fault ∙ ap (λ (f : Option Why). fault_after f (unstored fault)) going ∙ sym (ap (λ (f : Option Why). fault_after f (untaken fault)) going);
      reopens = spending-reopens agent.fault fault did.faults going;
      stays = did.stays;
      id = did.id;
      ready = did.ready;
      cause = told-cause host.disk_faults host'.disk_faults DiskFault (unstored fault) fault refl did.cause;
      bound = did.bound;
      only_here = did.only_here;
      tells = did.tells;
    })
