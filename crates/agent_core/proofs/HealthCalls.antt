-- A health text that an agent does not store: it is refused, or memory ran out before.
use Rattle.std.proofs.Common.{◌≡◌, ℕ, List, Option, Some, None, refl, sym, ap, subst, ◌∙◌, le_refl}
use Rattle.std.proofs.lemmas.Option.{none-some}
use Rattle.host_model.specs.Moments.{begins}
use Rattle.host_model.specs.Seen.{Seen}
use Rattle.health_config.specs.declared.fault.ConfigFault.{ConfigFault}
use Rattle.health_config.specs.declared.fault.ConfigFault.TheVariants as config
use Rattle.health_config.specs.Config.{config_read}
use Rattle.health_config.specs.Fault.{IsRefusalFor}
use Rattle.store_core.specs.declared.fault.Why.{Why}
use Rattle.store_core.specs.declared.fault.Why.TheVariants as why
use Rattle.agent_core.specs.declared.fault.AgentFault.TheVariants.{Health, Memory}
use Rattle.agent_core.specs.Agent.{AgentIsReady, AgentState}
use Rattle.agent_core.specs.Calls.{SetsHealth}
use Rattle.agent_core.specs.Faults.{cause_of, fault_after, of_config}
use Rattle.agent_core.specs.Health.{fault_in, health_refusal}
use Rattle.agent_core.proofs.BeatCalls.{unstored}
use Rattle.agent_core.proofs.BoundLemmas.{grows-none}
use Rattle.agent_core.proofs.KeptLemmas.{health-nothing}
use Rattle.agent_core.proofs.StepLemmas.{going-on, short_of}

module _ (honest : Type 0) (host : Seen) (agent : AgentState) (text : List ℕ) (going : agent.fault ≡ None) where
  health-refused : (reason : ConfigFault) → AgentIsReady honest host.past agent → health_refusal text ≡ Some reason → SetsHealth honest host agent text (unstored (Health reason)) host agent
  health-refused reason ready is = record {
    any_moment = λ true_host set h is_of. begins (health-nothing host.past agent set h text is_of);
    done = tt;
    number = tt;
    events = tt;
    counts = tt;
    last = refl;
    registry = refl;
    refused = λ again. is;
    untouched = λ not_due. refl;
    unchanged = λ leaves. (refl, refl);
    fault = going ∙ sym (ap (λ (f : Option Why). fault_after f (unstored (Health reason))) going);
    reopens = going;
    stays = refl;
    id = refl;
    ready = ready;
    cause = record { later = le_refl host.disk_faults; failed = λ e. absurd cc; stays = λ other. refl };
    bound = λ true_host set h is_of limit fits. grows-none set limit host.past agent.store;
    gaps = refl;
    only_here = λ true_host. record { others = λ file far. refl; output = refl };
    tells = refl;
  }

  health-short : SetsHealth honest host agent text (unstored Memory) host (short_of agent)
  health-short = record {
    any_moment = λ true_host set h is_of. begins (health-nothing host.past agent set h text is_of);
    done = tt;
    number = tt;
    events = tt;
    counts = tt;
    last = refl;
    registry = refl;
    refused = λ again. tt;
    untouched = λ not_due. refl;
    unchanged = λ leaves. absurd leaves;
    fault = sym (ap (λ (f : Option Why). fault_after f (unstored Memory)) going);
    reopens = going;
    stays = refl;
    id = refl;
    ready = λ none. absurd (none-some why.Memory (sym none));
    cause = record { later = le_refl host.disk_faults; failed = λ e. absurd cc; stays = λ other. refl };
    bound = λ true_host set h is_of limit fits. grows-none set limit host.past agent.store;
    gaps = refl;
    only_here = λ true_host. record { others = λ file far. refl; output = refl };
    tells = refl;
  }

  -- why it was not read: it is refused, or memory ran out
  pub health-unread : (fault : ConfigFault) → AgentIsReady honest host.past agent → IsRefusalFor (config_read text) fault
      → SetsHealth honest host agent text (unstored (of_config fault)) host (record agent { fault = cause_of (of_config fault) })
  health-unread config.Memory ready why = health-short
  health-unread fault ready why = subst (SetsHealth honest host agent text (unstored (Health fault)) host) (going-on agent going) (health-refused fault ready (ap fault_in why))
