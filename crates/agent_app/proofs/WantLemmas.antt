-- What holds of each command where there was no memory to read its words: nothing was touched.
use Rattle.std.proofs.Common.{◌≡◌, ℕ, false, List, [], Option, Some, None, inl, inr, refl, sym, arith, append-nil, true≢false}
use Rattle.host_model.specs.declared.status.Status.TheVariants as status
use Rattle.host_model.specs.Disks.{reads_as}
use Rattle.host_model.specs.Moments.{begins}
use Rattle.host_model.specs.Past.{Event, IsDisk}
use Rattle.host_model.specs.Seen.{Seen}
use Rattle.agent_core.specs.declared.fault.OpenFault.TheVariants as fault
use Rattle.agent_core.specs.Calls.{Opens, ReadsAsBefore}
use Rattle.history.specs.History.{Beat}
use Rattle.tier_settings.specs.declared.settings.Settings.{Settings}
use Rattle.link_session.specs.Session.{LinkSeen}
use Rattle.line_stream.proofs.RunLemmas.{Takes-none}
use Rattle.agent_app.specs.declared.collect.Collector.{Collector}
use Rattle.agent_app.specs.Collect.{CollectsAll, Outside}
use Rattle.agent_app.specs.Convert.{output_of, Converts, EndsAsText, LeavesDisk}
use Rattle.agent_app.specs.Health.{ConfiguresAll}
use Rattle.agent_app.specs.New.{Makes}
use Rattle.agent_app.specs.Query.{Asks}
use Rattle.agent_app.specs.Receive.{ReceivesAll}
use Rattle.agent_app.specs.Run.{RunsAll}
use Rattle.agent_app.specs.Send.{SendsAll}
use Rattle.agent_app.proofs.AskLemmas.{unopened-asked}
use Rattle.agent_app.proofs.CauseLemmas.{stayed}
use Rattle.agent_app.proofs.CollectLemmas.{uncollected}
use Rattle.agent_app.proofs.ConfigureLemmas.{unopened-configured}
use Rattle.agent_app.proofs.OpeningLemmas.{failed_by, fault-is, unopened}
use Rattle.agent_app.proofs.ReceiveLemmas.{unopened-receives}
use Rattle.agent_app.proofs.SendLemmas.{unopened-sends}

pub no-usage : status.Memory ≡ status.Usage → ⊥
no-usage e = cc

no-read : status.Memory ≡ status.ReadFault → ⊥
no-read e = cc

no-tell : status.Memory ≡ status.TellFault → ⊥
no-tell e = cc

no-done : status.Memory ≡ status.Ok → ⊥
no-done e = cc

no-exists : status.Memory ≡ status.Exists → ⊥
no-exists e = cc

no-failed : status.Memory ≡ status.DiskFault → ⊥
no-failed e = cc

no-none : fault.Memory ≡ fault.NotADatabase → ⊥
no-none e = cc

no-disk : fault.Memory ≡ fault.DiskFault → ⊥
no-disk e = cc

no-part : (part : ℕ) → fault.Memory ≡ fault.Damaged part → ⊥
no-part part e = cc

module _ (honest : Type 0) (host : Seen) (first : honest → IsDisk host.past (reads_as host.past)) where
  -- as an opening that finds no memory at once
  unopened-want : Opens honest host (failed_by fault.Memory) host
  unopened-want = record {
    opened = tt;
    ready = tt;
    going = tt;
    left = tt;
    any_moment = λ h. begins (λ disk is. is);
    same = λ h file. refl;
    images = tt;
    stands = λ h set g here. inr refl;
    none = λ e h. absurd (no-none (fault-is fault.Memory fault.NotADatabase e));
    some = tt;
    damaged = λ part low e h. absurd (no-part part (fault-is fault.Memory (fault.Damaged part) e));
    parts = λ part low e h. absurd (no-part part (fault-is fault.Memory (fault.Damaged part) e));
    whole = tt;
    made = λ part e h. absurd (no-part part (fault-is fault.Memory (fault.Damaged part) e));
    notes = tt;
    first = λ part other e h. absurd (no-part part (fault-is fault.Memory (fault.Damaged part) e));
    damaged_notes = λ e h. absurd (no-part 5 (fault-is fault.Memory (fault.Damaged 5) e));
    faults = tt;
    cause = stayed host.disk_faults host.disk_faults (failed_by fault.Memory ≡ failed_by fault.DiskFault) refl (λ e. no-disk (fault-is fault.Memory fault.DiskFault e));
    bound = λ shares h within. begins within;
    only_here = λ h. record { others = λ other apart. refl; output = refl };
    tells = refl;
  }

  pub want-runs : (left : Option (List ℕ)) (faults : ℕ) → RunsAll honest status.Memory left left faults faults host host
  want-runs left faults = unopened honest host host first fault.Memory unopened-want left faults

  pub want-collects : (asked : Collector) (outside : Outside) → CollectsAll honest asked status.Memory outside outside host host
  want-collects asked outside = uncollected honest host host first fault.Memory unopened-want asked outside

  pub want-configures : (left : Option (List ℕ)) (faults : ℕ) → ConfiguresAll honest status.Memory left left faults faults host host
  want-configures left faults = unopened-configured honest host host first fault.Memory unopened-want left faults

  reads-same : ReadsAsBefore host.past host.past
  reads-same = record { same = λ file. refl; disks = λ disk is. is }

  pub want-makes : (set : Settings) → Makes honest set status.Memory host host
  want-makes set = record {
    any_moment = λ h. begins (λ disk is. inl is);
    created = λ e. absurd (no-done e);
    none = λ e. absurd (no-done e);
    memory = λ e h. reads-same;
    memory_moment = λ e h. begins (λ disk is. is);
    exists = λ e. absurd (no-exists e);
    made = λ h made. (inr (inr refl), reads-same);
    made_moment = λ h made. begins (λ disk is. is);
    statuses = inr (inr (inr refl));
    disk_cause = stayed host.disk_faults host.disk_faults (status.Memory ≡ status.DiskFault) refl no-failed;
    bound = λ limit fits h within. begins within;
    only_here = λ h. record { others = λ other apart. refl; output = refl };
    tells = refl;
  }

  pub want-asks : (answer : Settings → List Beat → List ℕ) → Asks honest answer status.Memory host host
  want-asks answer = unopened-asked honest answer host host first fault.Memory unopened-want

  pub want-sends : (link : LinkSeen) → SendsAll honest status.Memory link link host host
  want-sends link = unopened-sends honest host host first fault.Memory unopened-want link

  pub want-receives : (link : LinkSeen) → ReceivesAll honest status.Memory link link host host
  want-receives link = unopened-receives honest host host first fault.Memory unopened-want link

pub want-converts : (honest : Type 0) (left : Option (List ℕ)) (past : List Event) (source_faults tell_faults : ℕ) → Converts status.Memory honest left left past past source_faults source_faults tell_faults tell_faults
want-converts honest left past source_faults tell_faults = record {
  taken = [];
  ended = false;
  takes = Takes-none left;
  within = omega arith;
  at_end = λ e. absurd (true≢false (sym e));
  output = λ h. record { said = []; unsaid = output_of false []; whole = refl; tells = sym (append-nil _); complete = λ all. absurd (true≢false (sym all)) };
  silent = λ none. (refl, refl);
  cause = tt;
  read = λ e. absurd (no-read e);
  read_cause = stayed source_faults source_faults (status.Memory ≡ status.ReadFault) refl no-read;
  tell_cause = stayed tell_faults tell_faults (status.Memory ≡ status.TellFault) refl no-tell;
}

pub want-leaves : (honest : Type 0) (host : Seen) → LeavesDisk honest host host
want-leaves honest host = record { any_moment = λ h. begins (λ file. refl); faults = refl }

pub want-complete : (left : Option (List ℕ)) (source_faults tell_faults : ℕ) → EndsAsText status.Memory left source_faults source_faults tell_faults tell_faults
want-complete None source_faults tell_faults = tt
want-complete (Some text) source_faults tell_faults = λ no_read no_tell. inr refl
