-- What `run` promises: where the database was opened, and where it was not.
use Rattle.std.proofs.Common.{◌≡◌, ◌⊎◌, inl, inr, ℕ, ◌≤◌, Bool, false, List, [], ◌++◌, length, Option, Some, None, IfSome, Result, Ok, Err, true, refl, sym, ap, subst, ◌∙◌, append-nil, arith, true≢false}
use Rattle.host_model.specs.declared.file.File.{File}
use Rattle.host_model.specs.Cause.{Rose}
use Rattle.host_model.specs.declared.status.Status.{Status}
use Rattle.host_model.specs.declared.status.Status.TheVariants as status
use Rattle.host_model.specs.Disks.{EveryDisk, reads_as}
use Rattle.host_model.specs.Moments.{Throughout, EveryCrash, begins}
use Rattle.host_model.specs.Past.{Event, told, IsDisk, IsText}
use Rattle.host_model.specs.Source.{Takes}
use Rattle.host_model.proofs.DiskLemmas.{untold}
use Rattle.history.specs.History.{Beat}
use Rattle.history.specs.Registry.{Registry}
use Rattle.collect_block.specs.Feed.{CountsFor, IsFeedOf}
use Rattle.tier_settings.specs.declared.settings.Settings.{Settings}
use Rattle.line_stream.specs.Run.{input_limit, Ended, Ran}
use Rattle.line_stream.proofs.RunLemmas.{rose-later, Takes-none}
use Rattle.store_core.specs.declared.fault.Why.{Why}
use Rattle.store_core.specs.disk.Shares.{share}
use Rattle.store_core.specs.Stands.{is_made}
use Rattle.agent_core.specs.declared.fault.OpenFault.{OpenFault}
use Rattle.agent_core.specs.declared.fault.OpenFault.TheVariants as fault
use Rattle.agent_core.specs.Agent.{AgentState, IsAgentOf}
use Rattle.agent_core.specs.Calls.{Opens}
use Rattle.host_model.specs.Seen.{Seen}
use Rattle.agent_core.specs.Faults.{IsOpening}
use Rattle.agent_core.specs.Stands.{StandsForHistory}
use Rattle.link_session.specs.Keeps.{no_more, Keeps, LeavesFiles}
use Rattle.link_session.proofs.AckLemmas.{acked-nothing, acked-since, text-prefix}
use Rattle.link_session.proofs.StoreLemmas.{stands-all}
use Rattle.agent_app.specs.declared.running.Running.{Running}
use Rattle.agent_app.specs.Bound.{GrowsBy}
use Rattle.agent_app.specs.Run.{ends_a_run, finds_none, history_with_text, is_opened, Finds, is_whole, IsAsFound, IsHostAsFound, LeavesOthers, run_every, run_output, run_reading, run_rules, run_status, HasRunCause, Resumes, Runs, RunsAll, Stores}
use Rattle.agent_app.specs.Running.{run_acts, Counts, DiskRose, IsRunning, TellRose}
use Rattle.agent_app.specs.Statuses.{opening_status}
use Rattle.agent_app.proofs.BoundLemmas.{ends-behind, run-grows, unopened-grows}
use Rattle.agent_app.proofs.CauseLemmas.{both-counts, cause-as, stayed}
use Rattle.agent_core.proofs.StoredLemmas.{were_kept}
use Rattle.agent_core.proofs.Within.{within-of}
use Rattle.agent_app.proofs.HasReadLemmas.{read-start}
use Rattle.agent_app.proofs.RunLemmas.{EndsFor, Over, both-others, is-by-end, run-for, run-over, run-quiet, stops-wider}

-- at each moment of the opening a crash leaves the history
pub opening-crashes : (set : Settings) (h0 : List Beat) (old new : List Event) → EveryDisk (StandsForHistory set h0) old → told new ≡ told old → Throughout (EveryDisk (IsDisk old)) old new → Throughout (EveryCrash (Keeps set h0 h0 (told old))) old new
opening-crashes set h0 old new stands silent moments = untold silent shows moments
  where
    shows : (disk : File → List ℕ) (text : List ℕ) → IsDisk old disk → IsText old text → Keeps set h0 h0 (told old) disk text
    shows disk text images by_then =
        let prefix = text-prefix old text by_then in
        record {
          stored = h0;
          since = no_more;
          within = no_more;
          stands = stands disk images;
          acked = acked-since (length h0) (told old) [] text prefix.more (prefix.whole ∙ sym (append-nil (told old))) (acked-nothing (length h0));
        }

pub some-each : (o : Option (List ℕ)) (P : List ℕ → Type 0) → ((x : List ℕ) → o ≡ Some x → P x) → IfSome o P
some-each None P shows = tt
some-each (Some x) P shows = shows x refl

-- of all that the source had, what it has left
pub complete-by : (left left' : Option (List ℕ)) (text : List ℕ) (P : List ℕ → Type 0) → Takes left text left' → ((more : List ℕ) → left' ≡ Some more → P (text ++ more)) → IfSome left P
complete-by left None text P takes shows = subst (λ (o : Option (List ℕ)). IfSome o P) (sym takes) tt
complete-by left (Some more) text P takes shows = subst (λ (o : Option (List ℕ)). IfSome o P) (sym takes) (shows more refl)

-- ---- the database was not opened
abbrev pub opened_with : AgentState → Result AgentState OpenFault
opened_with agent = Ok agent

abbrev pub failed_by : OpenFault → Result AgentState OpenFault
failed_by why = Err why

pub fault-is : (why other : OpenFault) → failed_by why ≡ failed_by other → why ≡ other
fault-is why other e = cc

module _ (honest : Type 0) (host host' : Seen) (first : honest → IsDisk host.past (reads_as host.past)) where
  -- by which fault it was not
  pub by-fault : (P : OpenFault → Type 0) (why : OpenFault) → (why ≡ fault.DiskFault) ⊎ (why ≡ fault.Memory) → P fault.DiskFault → P fault.Memory → P why
  by-fault P why (inl is) disk memory = subst P (sym is) disk
  by-fault P why (inr is) disk memory = subst P (sym is) memory

  pub untold-yet : (why : OpenFault) → opening_status why ≡ status.TellFault → ⊥
  untold-yet fault.NotADatabase e = cc
  untold-yet fault.DiskFault e = cc
  untold-yet (fault.Damaged part) e = cc
  untold-yet fault.Memory e = cc

  -- nothing was stored or told
  pub unopened-stores : (why : OpenFault) → Opens honest host (Err why) host' → honest → (every : ℕ) (set : Settings) (h0 : List Beat) → EveryDisk (StandsForHistory set h0) host.past
      → Stores (opening_status why) every set h0 false [] host.past host'.past
  unopened-stores why opens h every set h0 stands =
      let which = opens.stands h set h0 (stands (reads_as host.past) (first h)) in
      let short : is_whole (opening_status why) ≡ false = by-fault (λ (f : OpenFault). is_whole (opening_status f) ≡ false) why which refl refl in
      record {
        crashes = opening-crashes set h0 host.past host'.past stands (opens.only_here h).output (opens.any_moment h);
        ends = λ all. absurd (true≢false (sym all ∙ short));
        output = record { said = []; unsaid = run_output every set h0 false []; whole = refl; tells = (opens.only_here h).output ∙ sym (append-nil (told host.past)); complete = λ all. absurd (true≢false (sym all ∙ short)) };
        told_for = λ is. absurd (untold-yet why is);
      }

  unopened-runs : (why : OpenFault) → Opens honest host (Err why) host' → (left : Option (List ℕ)) (source_rose : Type 0) → honest → (set : Settings) (h0 : List Beat) → EveryDisk (StandsForHistory set h0) host.past
      → Runs (opening_status why) run_every set h0 left left host.past host'.past source_rose (TellRose host host') (DiskRose host host')
  unopened-runs why opens left source_rose h set h0 stands =
      let which = opens.stands h set h0 (stands (reads_as host.past) (first h)) in
      record {
        taken = [];
        ended = false;
        takes = Takes-none left;
        within = omega arith;
        at_end = λ e. absurd (true≢false (sym e));
        stores = unopened-stores why opens h run_every set h0 stands;
        cause =
            by-fault (λ (f : OpenFault). why ≡ f → HasRunCause (opening_status f) false (run_reading run_every set h0 false []).ending [] source_rose (TellRose host host') (DiskRose host host')) why which
            (λ is. opens.cause.failed (ap (λ (f : OpenFault). Err f) is)) (λ is. tt) refl;
      }

  unopened-resumes : (why : OpenFault) → Opens honest host (Err why) host' → (left : Option (List ℕ)) (source_rose : Type 0) → honest → (set : Settings) (h0 : List Beat) → StandsForHistory set h0 (reads_as host.past)
      → Resumes (opening_status why) run_every set h0 left left host.past host'.past source_rose (TellRose host host') (DiskRose host host')
  unopened-resumes why opens left source_rose h set h0 here = record {
    read = host'.past;
    before = opens.any_moment h;
    silent = (opens.only_here h).output;
    after = inr (by-fault (λ (f : OpenFault). (opening_status f ≡ status.DiskFault) ⊎ (opening_status f ≡ status.Memory)) why (opens.stands h set h0 here) (inl refl) (inr refl), refl, refl);
  }

  unopened-whole : (why : OpenFault) → Opens honest host (Err why) host' → honest → (set : Settings) (h0 : List Beat) → EveryDisk (StandsForHistory set h0) host.past → (text : List ℕ) → (DiskRose host host' → ⊥)
      → (opening_status why ≡ run_status run_every set h0 text) ⊎ (opening_status why ≡ status.Memory)
  unopened-whole why opens h set h0 stands text none =
      let which = opens.stands h set h0 (stands (reads_as host.past) (first h)) in
      by-fault (λ (f : OpenFault). why ≡ f → (opening_status f ≡ run_status run_every set h0 text) ⊎ (opening_status f ≡ status.Memory)) why which
      (λ is. absurd (none (opens.cause.failed (ap (λ (f : OpenFault). Err f) is)))) (λ is. inr refl) refl

  unopened-none : (why : OpenFault) → Opens honest host (Err why) host' → opening_status why ≡ status.NotADatabase → honest → is_made (reads_as host.past) ≡ false
  unopened-none fault.NotADatabase opens is h = opens.none refl h
  unopened-none fault.DiskFault opens is h = cc
  unopened-none (fault.Damaged part) opens is h = cc
  unopened-none fault.Memory opens is h = cc

  unopened-unmade : (why : OpenFault) → Opens honest host (Err why) host' → honest → is_made (reads_as host.past) ≡ false
      → (opening_status why ≡ status.NotADatabase) ⊎ (opening_status why ≡ status.DiskFault) ⊎ (opening_status why ≡ status.Memory)
  unopened-unmade fault.NotADatabase opens h unmade = inl refl
  unopened-unmade fault.DiskFault opens h unmade = inr (inl refl)
  unopened-unmade (fault.Damaged part) opens h unmade = absurd (true≢false (sym (opens.made part refl h) ∙ unmade))
  unopened-unmade fault.Memory opens h unmade = inr (inr refl)

  unopened-damaged : (why : OpenFault) → Opens honest host (Err why) host' → (part : ℕ) → opening_status why ≡ status.Damaged part → honest → (set : Settings) (g : List Beat) → StandsForHistory set g (reads_as host.past) → ⊥
  unopened-damaged why opens part is h set g stands =
      by-fault (λ (f : OpenFault). opening_status f ≡ status.Damaged part → ⊥) why (opens.stands h set g stands) disk memory is
    where
      disk : status.DiskFault ≡ status.Damaged part → ⊥
      disk e = cc

      memory : status.Memory ≡ status.Damaged part → ⊥
      memory e = cc

  -- which part is damaged
  damaged-by : (why : OpenFault) (part : ℕ) → opening_status why ≡ status.Damaged part → why ≡ fault.Damaged part
  damaged-by (fault.Damaged other) part is = ap fault.Damaged (same other part is)
    where
      same : (a b : ℕ) → status.Damaged a ≡ status.Damaged b → a ≡ b
      same a b e = cc
  damaged-by fault.DiskFault part is = cc
  damaged-by fault.NotADatabase part is = cc
  damaged-by fault.Memory part is = cc

  unopened-parts : (why : OpenFault) → Opens honest host (Err why) host' → (part : ℕ) → opening_status why ≡ status.Damaged part → (1 ≤ part) × (part ≤ 5)
  unopened-parts why opens part is = subst IsOpening (damaged-by why part is) opens.faults

  -- no such status says that the database was opened
  unopened-all : (why : OpenFault) → is_opened (opening_status why) ≡ false
  unopened-all (fault.Damaged part) = refl
  unopened-all fault.DiskFault = refl
  unopened-all fault.NotADatabase = refl
  unopened-all fault.Memory = refl

  -- the source was not asked, and nothing was told
  pub unread : (why : OpenFault) → opening_status why ≡ status.ReadFault → ⊥
  unread fault.NotADatabase e = cc
  unread fault.DiskFault e = cc
  unread (fault.Damaged part) e = cc
  unread fault.Memory e = cc

  opening-statuses : (why : OpenFault) → (ends_a_run (opening_status why) ≡ true) ⊎ (finds_none (opening_status why) ≡ true)
  opening-statuses fault.NotADatabase = inr refl
  opening-statuses fault.DiskFault = inl refl
  opening-statuses (fault.Damaged part) = inr refl
  opening-statuses fault.Memory = inl refl

  full : (why : OpenFault) → opening_status why ≡ status.InputLimit → ⊥
  full fault.NotADatabase e = cc
  full fault.DiskFault e = cc
  full (fault.Damaged part) e = cc
  full fault.Memory e = cc

  pub disk-failed : (why : OpenFault) → opening_status why ≡ status.DiskFault → failed_by why ≡ failed_by fault.DiskFault
  disk-failed fault.DiskFault is = refl
  disk-failed fault.NotADatabase is = cc
  disk-failed (fault.Damaged part) is = cc
  disk-failed fault.Memory is = cc

  pub unopened-host : (why : OpenFault) → Opens honest host (Err why) host' → IsHostAsFound honest host host'
  unopened-host why opens = record { output = λ h. (opens.only_here h).output; tells = opens.tells; any_moment = opens.any_moment; same = opens.same }

  pub unopened-leaves : (why : OpenFault) → Opens honest host (Err why) host' → (left : Option (List ℕ)) (faults : ℕ) → IsAsFound honest left left faults faults host host'
  unopened-leaves why opens left faults = record { source = (refl, refl); host_is = unopened-host why opens }

  pub unopened-finds : (why : OpenFault) → Opens honest host (Err why) host' → Finds honest (opening_status why) host
  unopened-finds why opens = record {
    none = λ is h. unopened-none why opens is h;
    unmade = λ h unmade. unopened-unmade why opens h unmade;
    damaged = λ part is h set g stands. unopened-damaged why opens part is h set g stands;
    parts = λ part is. unopened-parts why opens part is;
    made = λ part is h. opens.made part (ap (λ (f : OpenFault). Err f) (damaged-by why part is)) h;
    damaged_files = λ part low is h. opens.damaged part low (ap (λ (f : OpenFault). Err f) (damaged-by why part is)) h;
    damaged_part = λ part low is h. opens.parts part low (ap (λ (f : OpenFault). Err f) (damaged-by why part is)) h;
    damaged_first = λ part other is h. opens.first part other (ap (λ (f : OpenFault). Err f) (damaged-by why part is)) h;
    damaged_notes = λ is h. opens.damaged_notes (ap (λ (f : OpenFault). Err f) (damaged-by why 5 is)) h;
    opened = λ is h. absurd (true≢false (sym is ∙ unopened-all why));
  }

  pub unopened : (why : OpenFault) → Opens honest host (Err why) host' → (left : Option (List ℕ)) (faults : ℕ) → RunsAll honest (opening_status why) left left faults faults host host'
  unopened why opens left faults = record {
    runs = λ h set h0 stands. unopened-runs why opens left (Rose faults faults) h set h0 stands;
    resumes = λ h set h0 here. unopened-resumes why opens left (Rose faults faults) h set h0 here;
    complete = λ h set h0 stands. some-each left _ (λ text is none_read none_told none_disk. unopened-whole why opens h set h0 stands text none_disk);
    finds = unopened-finds why opens;
    statuses = opening-statuses why;
    input = record { taken = []; takes = Takes-none left; within = omega arith; limit = λ is. absurd (full why is); read = λ is. absurd (unread why is) };
    leaves = λ _. unopened-leaves why opens left faults;
    untaken = λ h none. unopened-leaves why opens left faults;
    others = λ h. (opens.only_here h).others;
    bound = unopened-grows honest host host' why opens;
    read_cause = stayed faults faults (opening_status why ≡ status.ReadFault) refl (unread why);
    tell_cause = stayed host.tell_faults host'.tell_faults (opening_status why ≡ status.TellFault) opens.tells (untold-yet why);
    disk_cause =
        cause-as host.disk_faults host'.disk_faults (failed_by why ≡ failed_by fault.DiskFault) (opening_status why ≡ status.DiskFault)
        (disk-failed why) (λ e. ap opening_status (fault-is why fault.DiskFault e)) opens.cause;
  }

-- ---- the database was opened
-- no status is both of a run that opened its database and of one that found none
found-one : (s : Status) → finds_none s ≡ true → ends_a_run s ≡ true → ⊥
found-one status.NotADatabase none ends = true≢false (sym ends)
found-one (status.Damaged part) none ends = true≢false (sym ends)
found-one s none ends = true≢false (sym none)

-- it answers no call with Reopen
pub opened-going : (honest : Type 0) (host : Seen) (agent : AgentState) (middle : Seen) → Opens honest host (Ok agent) middle → (cause : Why) → agent.fault ≡ Some cause → ⊥
opened-going honest host agent middle opens cause spent = let none : agent.fault ≡ None = opens.going in cc

-- the disk did not fail
pub opened-disk : (honest : Type 0) (host : Seen) (agent : AgentState) (middle : Seen) → Opens honest host (Ok agent) middle → middle.disk_faults ≡ host.disk_faults
opened-disk honest host agent middle opens = opens.cause.stays apart
  where
    apart : opened_with agent ≡ failed_by fault.DiskFault → ⊥
    apart e = cc

module _ (honest : Type 0) (host : Seen) (agent : AgentState) (middle : Seen) (opens : Opens honest host (Ok agent) middle) (s : Status) where
  pub found-finds : (finds_none s ≡ true → ⊥) → Finds honest s host
  found-finds found = record {
    none = λ is h. absurd (found (ap finds_none is));
    unmade = λ h unmade. absurd (true≢false (sym (opens.some h) ∙ unmade));
    damaged = λ part is h set g stands. found (ap finds_none is);
    parts = λ part is. absurd (found (ap finds_none is));
    made = λ part is h. absurd (found (ap finds_none is));
    damaged_files = λ part low is h. absurd (found (ap finds_none is));
    damaged_part = λ part low is h. absurd (found (ap finds_none is));
    damaged_first = λ part other is h. absurd (found (ap finds_none is));
    damaged_notes = λ is h. absurd (found (ap finds_none is));
    opened = λ is h. opens.notes h;
  }

  pub opened-finds : ends_a_run s ≡ true → Finds honest s host
  opened-finds ends = found-finds (λ none. found-one s none ends)

-- what came of a run over this text whose database was opened, when the host was such
pub record Since {H : Type 0} (honest : Type 0) (seen : H → Seen) (s : Status) (every : ℕ) (host : Seen) (middle : H) (ended : Bool) (text : List ℕ) (left : Option (List ℕ)) (source_rose : Type 0) (host' : H) : Type 0 where
  pub ends : EndsFor honest s text source_rose (seen middle) (seen host')
  pub counts : Counts host (seen host') (s ≡ status.TellFault) (s ≡ status.DiskFault)
  pub others : LeavesOthers honest host (seen host')
  pub bound : honest → GrowsBy host.past (seen host').past
  pub stops : (h : honest) (set : Settings) (h0 : List Beat) → EveryDisk (StandsForHistory set h0) host.past
      → Over honest seen h every set h0 host.past s ended text left (seen host').past source_rose (TellRose host (seen host')) (DiskRose host (seen host'))
  -- once the database was read a crash leaves the history that the disk reads as
  pub stands : honest → (set : Settings) (h0 : List Beat) → StandsForHistory set h0 (reads_as host.past) → EveryDisk (StandsForHistory set h0) (seen middle).past
  pub resumes : (h : honest) (set : Settings) (h0 : List Beat) → StandsForHistory set h0 (reads_as host.past)
      → Over honest seen h every set h0 (seen middle).past s ended text left (seen host').past source_rose (TellRose host (seen host')) (DiskRose host (seen host'))
  pub quiet : honest → (set : Settings) (h0 : List Beat) → StandsForHistory set h0 (reads_as host.past) → history_with_text every h0 text ≡ h0 → LeavesFiles (seen middle).past (seen host').past

module _ {H : Type 0} (honest : Type 0) (seen : H → Seen) (host : Seen) (agent : AgentState) (middle : H) (opens : Opens honest host (Ok agent) (seen middle)) (first : honest → IsDisk host.past (reads_as host.past)) where
  module _ (every : ℕ) (running : Running) (agent-is : running.agent ≡ agent) (feed-is : IsFeedOf running.feed every []) (feed-counts : (registry : Registry) → CountsFor running.feed registry) where
    -- by whatever history the disk reads as, and since whatever moment
    begins-at : honest → (set : Settings) (h0 : List Beat) → StandsForHistory set h0 (reads_as host.past) → (start : List Event) → told (seen middle).past ≡ told start
        → Throughout (EveryCrash (Keeps set h0 h0 (told start))) start (seen middle).past → IsRunning (seen middle).past running every set h0 [] start
    begins-at h set h0 here start silent stops =
        let kept = were_kept set h0 here.stored here.are in
        record {
          read = [];
          made = [];
          has = read-start (run_rules every set h0);
          at = record {
            within = within-of h0 kept.beats kept.are;
            accepted = tt;
            agent = subst (λ (a : AgentState). IsAgentOf (seen middle).past a set h0) (sym agent-is) (opens.opened h set h0 here);
            feed = feed-is;
            counts = feed-counts running.agent.registry;
            tells = silent ∙ sym (append-nil (told start));
            closed = refl;
            acked = acked-nothing (length h0);
            crashes = stops;
          };
        }

    begins-so : honest → (set : Settings) (h0 : List Beat) → EveryDisk (StandsForHistory set h0) host.past → IsRunning (seen middle).past running every set h0 [] host.past
    begins-so h set h0 stands =
        begins-at h set h0 (stands (reads_as host.past) (first h)) host.past (opens.only_here h).output
        (opening-crashes set h0 host.past (seen middle).past stands (opens.only_here h).output (opens.any_moment h))

    stands-now : honest → (set : Settings) (h0 : List Beat) → StandsForHistory set h0 (reads_as host.past) → EveryDisk (StandsForHistory set h0) (seen middle).past
    stands-now h set h0 here = stands-all (seen middle).past agent set h0 (opens.opened h set h0 here)

    -- since the database was read, a crash leaves that history
    begins-read : honest → (set : Settings) (h0 : List Beat) → StandsForHistory set h0 (reads_as host.past) → IsRunning (seen middle).past running every set h0 [] (seen middle).past
    begins-read h set h0 here =
        let now = (seen middle).past in
        begins-at h set h0 here now refl (opening-crashes set h0 now now (stands-now h set h0 here) refl (begins (λ disk images. images)))

    module _ (s : Status) (running' : Running) (host' : H) (text : List ℕ) (left : Option (List ℕ)) (source_rose : Type 0) (within : length text ≤ input_limit)
        (how : Ended (run_acts honest seen) s running middle text running' host' left source_rose) where
      abbrev ended : Bool
      ended = is-by-end (run_acts honest seen) s running middle text running' host' left source_rose how

      for-all : EndsFor honest s text source_rose (seen middle) (seen host')
      for-all = run-for honest seen s running middle text source_rose running' host' left how

      opening : Counts host (seen middle) ⊥ ⊥
      opening = record {
        tells = stayed host.tell_faults (seen middle).tell_faults ⊥ opens.tells (λ never. never);
        disk = cause-as host.disk_faults (seen middle).disk_faults (opened_with agent ≡ failed_by fault.DiskFault) ⊥ (λ never. absurd never) (λ e. cc) opens.cause;
      }

      tells-sooner : TellRose (seen middle) (seen host') → TellRose host (seen host')
      tells-sooner = rose-later host.tell_faults (seen middle).tell_faults (seen host').tell_faults opening.tells.later for-all.counts.tells.later

      disk-sooner : DiskRose (seen middle) (seen host') → DiskRose host (seen host')
      disk-sooner = rose-later host.disk_faults (seen middle).disk_faults (seen host').disk_faults opening.disk.later for-all.counts.disk.later

      over-since : (h : honest) (set : Settings) (h0 : List Beat) (start : List Event) → IsRunning (seen middle).past running every set h0 [] start
          → Over honest seen h every set h0 start s ended text left (seen host').past source_rose (TellRose host (seen host')) (DiskRose host (seen host'))
      over-since h set h0 start going =
          let over = run-over honest seen h every set h0 start s middle text left source_rose within running going running' host' how in
          record {
            at_end = over.at_end;
            plain = over.plain;
            stops = stops-wider s every set h0 ended text start (seen host').past source_rose (TellRose (seen middle) (seen host')) (DiskRose (seen middle) (seen host'))
                source_rose (TellRose host (seen host')) (DiskRose host (seen host')) (λ rose. rose) tells-sooner disk-sooner over.stops;
            whole = λ more is none_read none_told none_disk. over.whole more is none_read (λ rose. none_told (tells-sooner rose)) (λ rose. none_disk (disk-sooner rose));
          }

      pub ran-since : Since honest seen s every host middle ended text left source_rose host'
      ran-since = record {
        ends = for-all;
        counts = both-counts host (seen middle) (seen host') (s ≡ status.TellFault) (s ≡ status.DiskFault) opening for-all.counts;
        others = both-others honest host (seen middle) (seen host') (λ h. (opens.only_here h).others) for-all.others;
        bound = λ h set h0 here limit fits.
            ends-behind set limit host.past (seen middle).past (seen host').past (opens.bound (share set limit) h)
            (run-grows honest seen h every set h0 (seen middle).past s running middle (begins-read h set h0 here) text left source_rose running' host' how set h0
            (subst (λ (a : AgentState). IsAgentOf (seen middle).past a set h0) (sym agent-is) (opens.opened h set h0 here)) limit fits);
        stops = λ h set h0 stands. over-since h set h0 host.past (begins-so h set h0 stands);
        stands = stands-now;
        resumes = λ h set h0 here. over-since h set h0 (seen middle).past (begins-read h set h0 here);
        quiet = λ h set h0 here none.
            run-quiet honest seen h every set h0 (seen middle).past text none s running middle (begins-read h set h0 here) left source_rose running' host' how;
      }

  -- ---- a run over a source
  module _ (running : Running) (agent-is : running.agent ≡ agent) (feed-is : IsFeedOf running.feed run_every []) (feed-counts : (registry : Registry) → CountsFor running.feed registry)
      (s : Status) (running' : Running) (host' : H) (left left' : Option (List ℕ)) (faults faults' : ℕ) (up : faults ≤ faults') (still : (s ≡ status.ReadFault → ⊥) → faults' ≡ faults)
      (ran : Ran (run_acts honest seen) s running middle running' host' left left' (Rose faults faults')) where
    abbrev by_end : Bool
    by_end = is-by-end (run_acts honest seen) s running middle ran.text running' host' left' (Rose faults faults') ran.ended

    since : Since honest seen s run_every host middle by_end ran.text left' (Rose faults faults') host'
    since = ran-since run_every running agent-is feed-is feed-counts s running' host' ran.text left' (Rose faults faults') ran.within ran.ended

    abbrev runs-from : (h : honest) (set : Settings) (h0 : List Beat) (start : List Event)
        → Over honest seen h run_every set h0 start s by_end ran.text left' (seen host').past (Rose faults faults') (TellRose host (seen host')) (DiskRose host (seen host'))
        → Runs s run_every set h0 left left' start (seen host').past (Rose faults faults') (TellRose host (seen host')) (DiskRose host (seen host'))
    runs-from h set h0 start over = record {
      taken = ran.text;
      ended = by_end;
      takes = ran.takes;
      within = ran.within;
      at_end = over.at_end;
      stores = over.stops.stores;
      cause = over.stops.cause;
    }

    pub opened : RunsAll honest s left left' faults faults' host (seen host')
    opened = record {
      runs = λ h set h0 stands. runs-from h set h0 host.past (since.stops h set h0 stands);
      resumes = λ h set h0 here. record {
        read = (seen middle).past;
        before = opens.any_moment h;
        silent = (opens.only_here h).output;
        after = inl (record {
          stands = since.stands h set h0 here;
          runs = runs-from h set h0 (seen middle).past (since.resumes h set h0 here);
          quiet = since.quiet h set h0 here;
          stored_for = (since.resumes h set h0 here).stops.stored_for;
        });
      };
      complete = λ h set h0 stands.
          complete-by left left' ran.text (λ text. (Rose faults faults' → ⊥) → (TellRose host (seen host') → ⊥) → (DiskRose host (seen host') → ⊥) → (s ≡ run_status run_every set h0 text) ⊎ (s ≡ status.Memory)) ran.takes
          (since.stops h set h0 stands).whole;
      finds = opened-finds honest host agent (seen middle) opens s since.ends.ends;
      statuses = inl since.ends.ends;
      input = record { taken = ran.text; takes = ran.takes; within = ran.within; limit = since.ends.limit; read = λ is. (since.ends.read is).1 };
      leaves = λ none. absurd (found-one s none since.ends.ends);
      untaken = λ h none. absurd (none (opens.notes h));
      others = since.others;
      bound = since.bound;
      read_cause = record { later = up; failed = λ is. (since.ends.read is).0; stays = still };
      tell_cause = since.counts.tells;
      disk_cause = since.counts.disk;
    }
