-- What `collect` promises: where the database was opened, and where it was not.
use Rattle.std.proofs.Common.{◌≡◌, ◌⊎◌, inl, inr, ℕ, ◌<◌, ◌≤◌, Bool, true, false, List, [], ◌∷◌, length, take, Option, Some, None, Result, Ok, Err, refl, sym, ap, subst, ◌∙◌, arith, true≢false}
use Rattle.std.proofs.lemmas.List.{length-take, take_all}
use Rattle.host_model.specs.Cause.{Rose}
use Rattle.host_model.specs.declared.status.Status.{Status}
use Rattle.host_model.specs.declared.status.Status.TheVariants as status
use Rattle.host_model.specs.Disks.{EveryDisk, reads_as}
use Rattle.host_model.specs.Past.{Event, IsDisk}
use Rattle.host_model.specs.Seen.{Seen}
use Rattle.history.specs.History.{Beat, last}
use Rattle.history.specs.Registry.{Registry}
use Rattle.collect_block.specs.Feed.{CountsFor, IsFeedOf}
use Rattle.plugin_text.specs.declared.refusal.Refusal.{Refusal}
use Rattle.tier_settings.specs.declared.settings.Settings.{Settings}
use Rattle.line_stream.specs.Run.{input_limit, Ended, at_end, at_fault}
use Rattle.plugin_runner.specs.declared.collecting.Halt.{Halt}
use Rattle.plugin_runner.specs.declared.collecting.Halt.TheVariants.{AtEnd, Within, Failed}
use Rattle.plugin_runner.specs.declared.fault.RunFault.{RunFault}
use Rattle.plugin_runner.specs.declared.fault.RunFault.TheVariants as run_fault
use Rattle.plugin_runner.specs.declared.fault.Turn.{Turn}
use Rattle.plugin_runner.specs.declared.fault.Turn.TheVariants as turn
use Rattle.plugin_runner.specs.Collected.{no_turn, Collected, FailsBySpawner, Halts, HasTurned}
use Rattle.plugin_runner.specs.Course.{Course, new_course}
use Rattle.plugin_runner.specs.Runner.{IsFault}
use Rattle.agent_core.specs.declared.fault.OpenFault.{OpenFault}
use Rattle.agent_core.specs.declared.fault.OpenFault.TheVariants as fault
use Rattle.agent_core.specs.Agent.{AgentState}
use Rattle.agent_core.specs.Calls.{Opens}
use Rattle.agent_core.specs.Stands.{StandsForHistory}
use Rattle.agent_app.specs.declared.collect.Collector.{Collector}
use Rattle.agent_app.specs.declared.running.Running.{Running}
use Rattle.agent_app.specs.Collect.{ends_a_collect, halt_status, Collects, CollectsAll, HasCollectCause, HasHeard, HasMadeAll, IsDisabling, Outside}
use Rattle.agent_app.specs.Reading.{Ending}
use Rattle.agent_app.specs.Run.{ends_a_run, finds_none, is_whole, run_reading, HasRunCause, Stores}
use Rattle.agent_app.specs.Running.{run_acts, DiskRose, TellRose}
use Rattle.agent_app.specs.Statuses.{opening_status}
use Rattle.agent_app.proofs.BoundLemmas.{unopened-grows}
use Rattle.agent_app.proofs.CauseLemmas.{cause-as, stayed}
use Rattle.agent_app.proofs.ChildrenLemmas.{ends-as-children}
use Rattle.agent_app.proofs.MadeLemmas.{made-all}
use Rattle.agent_app.proofs.OpeningLemmas.{by-fault, disk-failed, failed_by, fault-is, found-finds, ran-since, unopened-finds, unopened-host, unopened-stores, untold-yet, Since}
use Rattle.agent_app.proofs.RunLemmas.{is-by-end, Over}

-- ---- the database was not opened

-- no turn was taken
pub heard-nothing : (asked : Collector) (last : ℕ) (outside : Outside) → HasHeard asked last outside outside []
heard-nothing asked last outside =
    let first : Course = new_course asked.words asked.every asked.starts last in
    record {
      course = first;
      answer = Ok turn.More;
      turned = record {
        earlier = first;
        now = outside.children;
        turns = no_turn;
        event = None;
        taken = [];
        added = [];
        faults = 0;
        faults' = 0;
        last = refl;
        is = refl;
        reads = refl;
        tells = λ later. (refl, refl, refl);
      };
      takes = sym (take_all input_limit [] (omega arith));
    }

opening-collects : (why : OpenFault) → (ends_a_collect (opening_status why) ≡ true) ⊎ (finds_none (opening_status why) ≡ true)
opening-collects fault.NotADatabase = inr refl
opening-collects fault.DiskFault = inl refl
opening-collects (fault.Damaged part) = inr refl
opening-collects fault.Memory = inl refl

unstarted : (why : OpenFault) → opening_status why ≡ status.SpawnFault → ⊥
unstarted fault.NotADatabase e = cc
unstarted fault.DiskFault e = cc
unstarted (fault.Damaged part) e = cc
unstarted fault.Memory e = cc

module _ (honest : Type 0) (host host' : Seen) (first : honest → IsDisk host.past (reads_as host.past)) (why : OpenFault) (opens : Opens honest host (Err why) host') (asked : Collector) (outside : Outside) where
  collects-unopened : honest → (set : Settings) (h0 : List Beat) → EveryDisk (StandsForHistory set h0) host.past
      → Collects (opening_status why) asked set h0 outside outside host.past host'.past (TellRose host host') (DiskRose host host')
  collects-unopened h set h0 stands = record {
    taken = [];
    heard = heard-nothing asked (last h0) outside;
    ended = false;
    at_end = λ e. absurd (true≢false (sym e));
    stores = unopened-stores honest host host' first why opens h asked.every set h0 stands;
    cause =
        by-fault honest host host' first
        (λ (f : OpenFault). why ≡ f
        → HasCollectCause (opening_status f) (heard-nothing asked (last h0) outside).answer false (run_reading asked.every set h0 false []).ending [] (Rose outside.spawn_faults outside.spawn_faults) (TellRose host host') (DiskRose host host'))
        why (opens.stands h set h0 (stands (reads_as host.past) (first h))) (λ is. opens.cause.failed (ap (λ (f : OpenFault). Err f) is)) (λ is. tt) refl;
  }

  pub uncollected : CollectsAll honest asked (opening_status why) outside outside host host'
  uncollected = record {
    collects = collects-unopened;
    resumes = λ h set h0 here. record {
      read = host'.past;
      before = opens.any_moment h;
      silent = (opens.only_here h).output;
      after =
          inr (by-fault honest host host' first (λ (f : OpenFault). (opening_status f ≡ status.DiskFault) ⊎ (opening_status f ≡ status.Memory)) why (opens.stands h set h0 here) (inl refl) (inr refl), refl, refl);
    };
    complete = λ h set h0 stands begun coming told.
        ends-as-children (opening_status why) asked set h0 outside outside host.past host'.past (TellRose host host') (DiskRose host host') (collects-unopened h set h0 stands) begun coming told;
    finds = unopened-finds honest host host' first why opens;
    statuses = opening-collects why;
    leaves = λ _. (refl, unopened-host honest host host' first why opens);
    untaken = λ h none. (refl, unopened-host honest host host' first why opens);
    others = λ h. (opens.only_here h).others;
    bound = unopened-grows honest host host' why opens;
    spawns = omega arith;
    spawn_cause = λ is. absurd (unstarted why is);
    tell_cause = stayed host.tell_faults host'.tell_faults (opening_status why ≡ status.TellFault) opens.tells (untold-yet honest host host' first why);
    disk_cause =
        cause-as host.disk_faults host'.disk_faults (failed_by why ≡ failed_by fault.DiskFault) (opening_status why ≡ status.DiskFault)
        (disk-failed honest host host' first why) (λ e. ap opening_status (fault-is why fault.DiskFault e)) opens.cause;
  }

-- ---- the database was opened

-- A run over a text that ended with the first status is one of a collector that ended with the second.
record EndsAs (s0 s : Status) (answer : Result Turn RunFault) (ended : Bool) (taken : List ℕ) (source_rose spawn_rose tell_rose disk_rose : Type 0) : Type 0 where
  pub whole : is_whole s ≡ true → is_whole s0 ≡ true
  pub told : s ≡ status.TellFault → s0 ≡ status.TellFault
  pub told_back : s0 ≡ status.TellFault → s ≡ status.TellFault
  pub stored : s ≡ status.DiskFault → s0 ≡ status.DiskFault
  pub stored_back : s0 ≡ status.DiskFault → s ≡ status.DiskFault
  pub cause : (ending : Ending Refusal) → HasRunCause s0 ended ending taken source_rose tell_rose disk_rose → HasCollectCause s answer ended ending taken spawn_rose tell_rose disk_rose
  pub ends : ends_a_collect s ≡ true
  pub spawned : s ≡ status.SpawnFault → spawn_rose

abbrev is_done : Status → Bool
is_done status.Ok = true
is_done s = false

module _ (answer : Result Turn RunFault) (taken : List ℕ) (spawn_rose tell_rose disk_rose : Type 0) where
  cause-from : (s : Status) (ended : Bool) (ending : Ending Refusal) → (is_done s ≡ true → ended ≡ true) → HasRunCause s ended ending taken ⊥ tell_rose disk_rose → HasCollectCause s answer ended ending taken spawn_rose tell_rose disk_rose
  cause-from status.Ok ended ending at has = (at refl, has)
  cause-from status.SpawnFault ended ending at has = absurd has
  cause-from status.Disabled ended ending at has = absurd has
  cause-from s ended ending at has = has

  collect-ends : (s : Status) → ends_a_run s ≡ true → (s ≡ status.ReadFault → ⊥) → ends_a_collect s ≡ true
  collect-ends status.ReadFault ends read = absurd (read refl)
  collect-ends status.SpawnFault ends read = absurd (true≢false (sym ends))
  collect-ends status.Disabled ends read = absurd (true≢false (sym ends))
  collect-ends s ends read = ends

  unspawned : (s : Status) → ends_a_run s ≡ true → s ≡ status.SpawnFault → ⊥
  unspawned s ends is = true≢false (sym ends ∙ ap ends_a_run is)

  -- with the same status
  same-as : (s : Status) (ended : Bool) → ends_a_run s ≡ true → (s ≡ status.ReadFault → ⊥) → (is_done s ≡ true → ended ≡ true) → EndsAs s s answer ended taken ⊥ spawn_rose tell_rose disk_rose
  same-as s ended ends read at = record {
    whole = λ all. all;
    told = λ is. is;
    told_back = λ is. is;
    stored = λ is. is;
    stored_back = λ is. is;
    cause = λ ending has. cause-from s ended ending at has;
    ends = collect-ends s ends read;
    spawned = λ is. absurd (unspawned s ends is);
  }

  -- a line of the text disabled the program
  disabled-as : (ended : Bool) → ended ≡ false → EndsAs status.Ok status.Disabled answer ended taken ⊥ spawn_rose tell_rose disk_rose
  disabled-as ended not = record {
    whole = λ _. refl;
    told = λ e. cc;
    told_back = λ e. cc;
    stored = λ e. cc;
    stored_back = λ e. cc;
    cause = λ ending has. (not, inl has);
    ends = refl;
    spawned = λ e. cc;
  }

  -- a turn failed
  failed-as : (why : RunFault) → answer ≡ Err why → length taken < input_limit → (IsFault (Err why) → spawn_rose) → EndsAs status.ReadFault (halt_status (Failed why)) answer false taken (Unit {0}) spawn_rose tell_rose disk_rose
  failed-as run_fault.SpawnFault is below rose = record {
    whole = λ _. refl;
    told = λ e. cc;
    told_back = λ e. cc;
    stored = λ e. cc;
    stored_back = λ e. cc;
    cause = λ ending has. (refl, has.1, subst IsFault (sym is) tt, below, rose tt);
    ends = refl;
    spawned = λ _. rose tt;
  }
  failed-as run_fault.PipeFault is below rose = record {
    whole = λ _. refl;
    told = λ e. cc;
    told_back = λ e. cc;
    stored = λ e. cc;
    stored_back = λ e. cc;
    cause = λ ending has. (refl, has.1, subst IsFault (sym is) tt, below, rose tt);
    ends = refl;
    spawned = λ _. rose tt;
  }
  failed-as (run_fault.Disabled exit) is below rose = record {
    whole = λ _. refl;
    told = λ e. cc;
    told_back = λ e. cc;
    stored = λ e. cc;
    stored_back = λ e. cc;
    cause = λ ending has. (refl, inr (has.1, subst IsDisabling (sym is) tt, below));
    ends = refl;
    spawned = λ e. cc;
  }
  failed-as run_fault.Memory is below rose = record {
    whole = λ _. refl;
    told = λ e. cc;
    told_back = λ e. cc;
    stored = λ e. cc;
    stored_back = λ e. cc;
    cause = λ ending has. tt;
    ends = refl;
    spawned = λ e. cc;
  }

-- no status of a collector's run is one of a run that found no database
found-collect : (s : Status) → ends_a_collect s ≡ true → finds_none s ≡ true → ⊥
found-collect status.NotADatabase ends none = true≢false (sym ends)
found-collect (status.Damaged part) ends none = true≢false (sym ends)
found-collect s ends none = true≢false (sym none)

module _ {H : Type 0} (honest : Type 0) (seen : H → Seen) (host : Seen) (agent : AgentState) (middle : H) (opens : Opens honest host (Ok agent) (seen middle)) (first : honest → IsDisk host.past (reads_as host.past))
    (asked : Collector) (running : Running) (agent-is : running.agent ≡ agent) (feed-is : IsFeedOf running.feed asked.every []) (feed-counts : (registry : Registry) → CountsFor running.feed registry)
    (running' : Running) (host' : H) (outside outside' : Outside) (later : outside.spawn_faults ≤ outside'.spawn_faults) where
  abbrev SpawnRose : Type 0
  SpawnRose = Rose outside.spawn_faults outside'.spawn_faults

  abbrev Told : Type 0
  Told = TellRose host (seen host')

  abbrev Failing : Type 0
  Failing = DiskRose host (seen host')

  module _ (course : Course) (answer : Result Turn RunFault)
      (turned : HasTurned answer (new_course asked.words asked.every asked.starts agent.last) course outside.children outside'.children outside.readings outside'.readings)
      (taken : List ℕ) (takes : taken ≡ take input_limit course.told) where
    -- the history of the disk is the one that the agent was opened with
    turned-by : honest → (set : Settings) (h0 : List Beat) → StandsForHistory set h0 (reads_as host.past)
        → HasTurned answer (new_course asked.words asked.every asked.starts (last h0)) course outside.children outside'.children outside.readings outside'.readings
    turned-by h set h0 here =
        subst (λ (n : ℕ). HasTurned answer (new_course asked.words asked.every asked.starts n) course outside.children outside'.children outside.readings outside'.readings) (opens.opened h set h0 here).last_is turned

    module _ (s0 s : Status) (ended : Bool) (left : Option (List ℕ)) (source_rose : Type 0) (since : Since honest seen s0 asked.every host middle ended taken left source_rose host')
        (ends_as : EndsAs s0 s answer ended taken source_rose SpawnRose Told Failing) (finished : ended ≡ true → (answer ≡ Ok turn.Ended) × HasMadeAll asked.starts course.children) where
      abbrev stores-as : (set : Settings) (h0 : List Beat) (start : List Event) → Stores s0 asked.every set h0 ended taken start (seen host').past → Stores s asked.every set h0 ended taken start (seen host').past
      stores-as set h0 start stores = record {
        crashes = stores.crashes;
        ends = λ all. stores.ends (ends_as.whole all);
        output = record { said = stores.output.said; unsaid = stores.output.unsaid; whole = stores.output.whole; tells = stores.output.tells; complete = λ all. stores.output.complete (ends_as.whole all) };
        told_for = λ is. stores.told_for (ends_as.told is);
      }

      abbrev collects-from : (h : honest) (set : Settings) (h0 : List Beat) → StandsForHistory set h0 (reads_as host.past) → (start : List Event)
          → Over honest seen h asked.every set h0 start s0 ended taken left (seen host').past source_rose Told Failing → Collects s asked set h0 outside outside' start (seen host').past Told Failing
      collects-from h set h0 here start over = record {
        taken = taken;
        heard = record { course = course; answer = answer; turned = turned-by h set h0 here; takes = takes };
        ended = ended;
        at_end = λ is. let made = finished is in (made.0, made.1, (over.at_end is).0, over.plain is);
        stores = stores-as set h0 start over.stops.stores;
        cause = ends_as.cause (run_reading asked.every set h0 ended taken).ending over.stops.cause;
      }

      came : CollectsAll honest asked s outside outside' host (seen host')
      came = record {
        collects = λ h set h0 stands. collects-from h set h0 (stands (reads_as host.past) (first h)) host.past (since.stops h set h0 stands);
        resumes = λ h set h0 here. record {
          read = (seen middle).past;
          before = opens.any_moment h;
          silent = (opens.only_here h).output;
          after = inl (record {
            stands = since.stands h set h0 here;
            collects = collects-from h set h0 here (seen middle).past (since.resumes h set h0 here);
            quiet = since.quiet h set h0 here;
            stored_for = λ is. (since.resumes h set h0 here).stops.stored_for (ends_as.stored is);
          });
        };
        complete = λ h set h0 stands begun coming told.
            ends-as-children s asked set h0 outside outside' host.past (seen host').past Told Failing (collects-from h set h0 (stands (reads_as host.past) (first h)) host.past (since.stops h set h0 stands)) begun coming told;
        finds = found-finds honest host agent (seen middle) opens s (found-collect s ends_as.ends);
        statuses = inl ends_as.ends;
        leaves = λ none. absurd (found-collect s ends_as.ends none);
        untaken = λ h none. absurd (none (opens.notes h));
        others = since.others;
        bound = since.bound;
        spawns = later;
        spawn_cause = ends_as.spawned;
        tell_cause = cause-as host.tell_faults (seen host').tell_faults (s0 ≡ status.TellFault) (s ≡ status.TellFault) ends_as.told ends_as.told_back since.counts.tells;
        disk_cause = cause-as host.disk_faults (seen host').disk_faults (s0 ≡ status.DiskFault) (s ≡ status.DiskFault) ends_as.stored ends_as.stored_back since.counts.disk;
      }

    within : length taken ≤ input_limit
    within = omega (arith, ap length takes ∙ length-take input_limit course.told)

    -- a run over what was taken, however it ended
    since-by : (s : Status) (left : Option (List ℕ)) (source_rose : Type 0) (how : Ended (run_acts honest seen) s running middle taken running' host' left source_rose)
        → Since honest seen s asked.every host middle (is-by-end (run_acts honest seen) s running middle taken running' host' left source_rose how) taken left source_rose host'
    since-by s left source_rose how = ran-since honest seen host agent middle opens first asked.every running agent-is feed-is feed-counts s running' host' taken left source_rose within how

    abbrev some_left : Option (List ℕ)
    some_left = Some (0 ∷ [])

    -- a line ended it: no end of an input did
    module _ (s : Status) (how : Ended (run_acts honest seen) s running middle taken running' host' some_left ⊥) where
      abbrev by_end : Bool
      by_end = is-by-end (run_acts honest seen) s running middle taken running' host' some_left ⊥ how

      never-ended : (how : Ended (run_acts honest seen) s running middle taken running' host' some_left ⊥) → is-by-end (run_acts honest seen) s running middle taken running' host' some_left ⊥ how ≡ true → ⊥
      never-ended (at_end between middle' below nothing took step) is = cc
      never-ended other is = true≢false (sym is)

      not-ended : by_end ≡ false
      not-ended = of by_end (never-ended how)
        where
          of : (b : Bool) → (b ≡ true → ⊥) → b ≡ false
          of true never = absurd (never refl)
          of false never = refl

      abbrev ReadNothing : Type 0
      ReadNothing = s ≡ status.ReadFault → ⊥

      unread : ReadNothing
      unread is = ((since-by s some_left ⊥ how).ends.read is).0

      came-same : is_done s ≡ false → CollectsAll honest asked s outside outside' host (seen host')
      came-same not =
          let since = since-by s some_left ⊥ how in
          came s s by_end some_left ⊥ since (same-as answer taken SpawnRose Told Failing s by_end since.ends.ends unread (λ done. absurd (true≢false (sym done ∙ not)))) (λ is. absurd (never-ended how is))

    came-within : (s : Status) → Ended (run_acts honest seen) s running middle taken running' host' some_left ⊥ → CollectsAll honest asked (halt_status (Within s)) outside outside' host (seen host')
    came-within status.Ok how =
        came status.Ok status.Disabled (by_end status.Ok how) some_left ⊥ (since-by status.Ok some_left ⊥ how)
        (disabled-as answer taken SpawnRose Told Failing (by_end status.Ok how) (not-ended status.Ok how)) (λ is. absurd (never-ended status.Ok how how is))
    came-within s how = came-same s how refl

    came-halted : (halt : Halt) → Halts (run_acts honest seen) halt answer running middle taken running' host' → (FailsBySpawner halt → SpawnRose) → CollectsAll honest asked (halt_status halt) outside outside' host (seen host')
    came-halted (AtEnd s) halted rose =
        let end = halted.1 in
        let how : Ended (run_acts honest seen) s running middle taken running' host' (Some []) ⊥ = at_end end.taker' end.host' end.below refl end.took end.ends in
        let since = since-by s (Some []) ⊥ how in
        came s s true (Some []) ⊥ since (same-as answer taken SpawnRose Told Failing s true since.ends.ends (λ is. (since.ends.read is).0) (λ _. refl)) (λ _. (halted.0, made-all asked agent.last outside outside' taken (record { course = course; answer = answer; turned = turned; takes = takes }) halted.0 end.below end.took.short))
    came-halted (Within s) halted rose = came-within s (halted some_left)
    came-halted (Failed why) halted rose =
        let whole = halted.1 in
        let how : Ended (run_acts honest seen) status.ReadFault running middle taken running' host' some_left (Unit {0}) = at_fault refl tt whole.below whole.took whole.paused in
        came status.ReadFault (halt_status (Failed why)) false some_left (Unit {0}) (since-by status.ReadFault some_left (Unit {0}) how) (failed-as answer taken SpawnRose Told Failing why halted.0 whole.below rose) (λ e. absurd (true≢false (sym e)))

  pub collected : (halt : Halt)
      → Collected (run_acts honest seen) halt (new_course asked.words asked.every asked.starts agent.last) running middle running' host' outside.children outside'.children outside.readings outside'.readings
      → (FailsBySpawner halt → SpawnRose) → CollectsAll honest asked (halt_status halt) outside outside' host (seen host')
  collected halt got rose = came-halted got.course got.answer got.turned got.text got.takes halt got.halted rose
