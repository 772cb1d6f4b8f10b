-- A beat that an agent does not store: the history refuses it, or memory ran out before.
use Rattle.std.proofs.Common.{◌≡◌, ℕ, Option, Some, None, Result, Err, refl, sym, ap, subst, ◌∙◌, le_refl}
use Rattle.std.proofs.lemmas.Option.{none-some}
use Rattle.host_model.specs.Moments.{begins}
use Rattle.host_model.specs.Seen.{Seen}
use Rattle.beat_entries.specs.declared.beat_fault.BeatFault.{BeatFault}
use Rattle.beat_entries.specs.declared.beat_fault.BeatFault.TheVariants as beat
use Rattle.beat_entries.specs.Taking.{IsFaultOf}
use Rattle.history.specs.declared.beat.OpenBeat.{OpenBeat}
use Rattle.history.specs.declared.fault.BlockFault.{BlockFault}
use Rattle.store_core.specs.declared.fault.Why.{Why}
use Rattle.store_core.specs.declared.fault.Why.TheVariants as why
use Rattle.agent_core.specs.declared.fault.AgentFault.{AgentFault}
use Rattle.agent_core.specs.declared.fault.AgentFault.TheVariants.{Refused, Memory}
use Rattle.agent_core.specs.declared.reply.Reply.{Reply}
use Rattle.agent_core.specs.Agent.{AgentIsReady, AgentState}
use Rattle.agent_core.specs.Calls.{Beats}
use Rattle.agent_core.specs.Faults.{cause_of, fault_after, of_beat}
use Rattle.agent_core.specs.Roles.{copies}
use Rattle.agent_core.specs.Rules.{beat_refusal}
use Rattle.agent_core.proofs.BoundLemmas.{grows-none}
use Rattle.agent_core.proofs.KeptLemmas.{nothing_done}
use Rattle.agent_core.proofs.StepLemmas.{going-on, short_of}

-- it failed so
abbrev pub unstored : AgentFault → Result Reply AgentFault
unstored fault = Err fault

module _ (honest : Type 0) (host : Seen) (agent : AgentState) (opened : OpenBeat) (moment : ℕ) (going : agent.fault ≡ None) where
  abbrev against : Option BlockFault
  against = beat_refusal agent.registry (copies agent.role) agent.last moment opened

  beat-refused : (reason : BlockFault) → AgentIsReady honest host.past agent → against ≡ Some reason → Beats honest host agent opened moment (unstored (Refused reason)) host agent
  beat-refused reason ready is = record {
    any_moment = λ true_host set h is_of. begins (nothing_done host.past agent set h is_of _ _);
    done = tt;
    number = tt;
    events = tt;
    counts = tt;
    last = tt;
    refused = λ again. is;
    untouched = λ not_due. refl;
    unchanged = λ leaves. (refl, refl);
    fault = going ∙ sym (ap (λ (f : Option Why). fault_after f (unstored (Refused reason))) going);
    reopens = going;
    stays = (refl, refl);
    id = refl;
    ready = ready;
    cause = record { later = le_refl host.disk_faults; failed = λ e. absurd cc; stays = λ other. refl };
    bound = λ true_host set h is_of limit fits. grows-none set limit host.past agent.store;
    gaps = refl;
    only_here = λ true_host. record { others = λ file far. refl; output = refl };
    tells = refl;
  }

  beat-short : against ≡ None → Beats honest host agent opened moment (unstored Memory) host (short_of agent)
  beat-short free = record {
    any_moment = λ true_host set h is_of. begins (nothing_done host.past agent set h is_of _ _);
    done = tt;
    number = tt;
    events = tt;
    counts = tt;
    last = tt;
    refused = λ again. free;
    untouched = λ not_due. refl;
    unchanged = λ leaves. absurd leaves;
    fault = sym (ap (λ (f : Option Why). fault_after f (unstored Memory)) going);
    reopens = going;
    stays = (refl, refl);
    id = refl;
    ready = λ none. absurd (none-some why.Memory (sym none));
    cause = record { later = le_refl host.disk_faults; failed = λ e. absurd cc; stays = λ other. refl };
    bound = λ true_host set h is_of limit fits. grows-none set limit host.past agent.store;
    gaps = refl;
    only_here = λ true_host. record { others = λ file far. refl; output = refl };
    tells = refl;
  }

  -- why it was not judged: it is refused, or memory ran out
  pub beat-unjudged : (fault : BeatFault) → AgentIsReady honest host.past agent → IsFaultOf against fault
      → Beats honest host agent opened moment (unstored (of_beat fault)) host (record agent { fault = cause_of (of_beat fault) })
  beat-unjudged (beat.Refused reason) ready is =
      subst (Beats honest host agent opened moment (unstored (Refused reason)) host) (going-on agent going) (beat-refused reason ready is)
  beat-unjudged beat.Memory ready is = beat-short is
