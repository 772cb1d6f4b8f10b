-- A call that reads, of an agent that was going: it was answered, or memory ran out.
use Rattle.std.proofs.Common.{◌≡◌, Option, None, Ok, Err, refl, sym, ap, ◌∙◌, le_refl}
use Rattle.std.proofs.lemmas.Option.{none-some}
use Rattle.host_model.specs.Seen.{Seen}
use Rattle.store_core.specs.declared.fault.Why.{Why}
use Rattle.store_core.specs.declared.fault.Why.TheVariants as why
use Rattle.agent_core.specs.declared.fault.AgentFault.TheVariants.{Memory}
use Rattle.agent_core.specs.Agent.{AgentIsReady, AgentState}
use Rattle.agent_core.specs.Calls.{Reads}
use Rattle.agent_core.specs.Faults.{fault_after}
use Rattle.agent_core.proofs.StepLemmas.{short_of}

module _ {T : Type 0} (honest : Type 0) (host : Seen) (agent : AgentState) (going : agent.fault ≡ None) where
  pub read-done : (value : T) → AgentIsReady honest host.past agent → Reads {T = T} honest host agent (Ok value) host agent
  read-done value ready = record {
    quiet = λ true_host. refl;
    done = λ true_host set h is_of. is_of;
    unchanged = tt;
    faults = tt;
    fault = going ∙ sym (ap (λ (f : Option Why). fault_after {T = T} f (Ok value)) going);
    reopens = going;
    stays = (refl, refl);
    id = refl;
    registry = refl;
    store = refl;
    gaps = refl;
    ready = ready;
    cause = record { later = le_refl host.disk_faults; failed = λ e. absurd cc; stays = λ other. refl };
    tells = refl;
  }

  pub read-short : Reads {T = T} honest host agent (Err Memory) host (short_of agent)
  read-short = record {
    quiet = λ true_host. refl;
    done = tt;
    unchanged = λ leaves. absurd leaves;
    faults = tt;
    fault = sym (ap (λ (f : Option Why). fault_after {T = T} f (Err Memory)) going);
    reopens = going;
    stays = (refl, refl);
    id = refl;
    registry = refl;
    store = refl;
    gaps = refl;
    ready = λ none. absurd (none-some why.Memory (sym none));
    cause = record { later = le_refl host.disk_faults; failed = λ e. absurd cc; stays = λ other. refl };
    tells = refl;
  }
