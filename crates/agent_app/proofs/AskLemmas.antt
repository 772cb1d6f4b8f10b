-- What `query` and `log` promise: what an agent is asked, and where none was opened.
use Rattle.std.proofs.Common.{◌≡◌, ◌⊎◌, inl, inr, ℕ, true, false, List, [], ◌∷◌, ◌++◌, length, take, drop, Option, Some, None, Result, Ok, Err, IfErr, IfOk, refl, sym, ap, ap₂, subst, ◌∙◌, append-nil, length-append, arith, true≢false}
use Rattle.std.proofs.lemmas.List.{take-append-drop}
use Rattle.host_model.specs.Cause.{HasCause}
use Rattle.host_model.specs.declared.file.File.{File}
use Rattle.host_model.specs.declared.status.Status.{Status}
use Rattle.host_model.specs.declared.status.Status.TheVariants as status
use Rattle.host_model.specs.Disks.{EveryDisk, reads_as}
use Rattle.host_model.specs.Images.{contents, Change, IsImage}
use Rattle.host_model.specs.Moments.{EveryCrash, Throughout, begins}
use Rattle.host_model.specs.Past.{Event, Told, told, of, IsDisk, IsText, MayAdd, TellsPrefix}
use Rattle.host_model.specs.Seen.{Seen}
use Rattle.host_model.proofs.DiskLemmas.{untold}
use Rattle.host_model.proofs.MomentLemmas.{at_end, joined, weakened}
use Rattle.history.specs.History.{Beat}
use Rattle.alarm_events.specs.declared.event.Event.{Event as AlarmEvent}
use Rattle.alarm_events.specs.declared.log.Log.{Log}
use Rattle.alarm_events.specs.Log.{Shown}
use Rattle.tier_settings.specs.declared.settings.Settings.{Settings}
use Rattle.agent_core.specs.declared.fault.AgentFault.{AgentFault}
use Rattle.agent_core.specs.declared.fault.AgentFault.TheVariants as fault
use Rattle.agent_core.specs.declared.fault.OpenFault.{OpenFault}
use Rattle.agent_core.specs.declared.fault.OpenFault.TheVariants as open_fault
use Rattle.agent_core.specs.Agent.{AgentState, IsAgentOf}
use Rattle.agent_core.specs.Answers.{reply_of}
use Rattle.agent_core.specs.Calls.{Logs, Opens, Queries}
use Rattle.agent_core.specs.Faults.{IsReading, Reopens, ReopensWith}
use Rattle.agent_core.specs.Stands.{StandsForHistory}
use Rattle.store_core.specs.declared.fault.Why.{Why}
use Rattle.link_session.proofs.AckLemmas.{text-prefix}
use Rattle.link_session.proofs.StoreLemmas.{stands-all}
use Rattle.agent_app.specs.Convert.{LeavesDisk}
use Rattle.agent_app.specs.declared.command.Form.{Form}
use Rattle.agent_app.specs.Log.{log_as, log_for}
use Rattle.agent_app.specs.LogText.{shown_by}
use Rattle.agent_app.specs.Query.{reply_for, Answering, Asks, IsAnswerStatus, IsAskStatus, IsSettled}
use Rattle.agent_app.specs.Run.{ends_a_run, is_whole}
use Rattle.agent_app.specs.Running.{DiskRose, TellRose}
use Rattle.agent_app.specs.Statuses.{opening_status}
use Rattle.agent_app.proofs.CauseLemmas.{cause-as, stayed, stayed-before}
use Rattle.agent_app.proofs.LeavesLemmas.{told-leaves, torn-leaves}
use Rattle.agent_app.proofs.OpeningLemmas.{by-fault, disk-failed, failed_by, fault-is, opened-disk, opened-finds, unopened-finds, untold-yet}

-- nothing was told of an output
told-none : (s : Status) (output : List ℕ) (past : List Event) → is_whole s ≡ false → TellsPrefix (is_whole s) output past past
told-none s output past part = record { said = []; unsaid = output; whole = refl; tells = sym (append-nil (told past)); complete = λ all. absurd (true≢false (sym all ∙ part)) }

abbrev none_before : Option Why
none_before = None

abbrev answered : List ℕ → Result (List ℕ) AgentFault
answered reply = Ok reply

abbrev unanswered : AgentFault → Result (List ℕ) AgentFault
unanswered why = Err why

-- where nothing is told there is nothing to hold
settled-yet : (set : Settings) (g : List Beat) (old new : List Event) → told new ≡ told old → Throughout (EveryDisk (IsDisk old)) old new → Throughout (EveryCrash (IsSettled set g (told old))) old new
settled-yet set g old new silent moments = untold silent shows moments
  where
    shows : (disk : File → List ℕ) (text : List ℕ) → IsDisk old disk → IsText old text → IsSettled set g (told old) disk text
    shows disk text images by_then more =
        let prefix = text-prefix old text by_then in
        absurd (omega (arith, more, ap length prefix.whole, length-append text prefix.more))

-- ---- an agent that was asked
module _ (honest : Type 0) (agent : AgentState) (answer : Settings → List Beat → List ℕ) (host : Seen) where
  -- it did not answer
  failed : (s : Status) (host' : Seen) → is_whole s ≡ false → IsAnswerStatus s → (s ≡ status.TellFault → ⊥) → (honest → host'.past ≡ host.past) → host'.tell_faults ≡ host.tell_faults
      → HasCause host.disk_faults host'.disk_faults (s ≡ status.DiskFault) → Answering honest agent answer s host host'
  failed s host' part which untold quiet tells cause = record {
    answered = λ h set g is_of. subst (TellsPrefix (is_whole s) (answer set g) host.past) (sym (quiet h)) (told-none s (answer set g) host.past part);
    leaves = λ h. subst (Throughout (λ past. (file : File) → of file past ≡ of file host.past) host.past) (sym (quiet h)) (begins (λ file. refl));
    unspent = λ h is. ap told (quiet h);
    statuses = which;
    tell_cause = stayed host.tell_faults host'.tell_faults (s ≡ status.TellFault) tells untold;
    disk_cause = cause;
  }

  -- there was no memory to ask
  pub unasked : Answering honest agent answer status.Memory host host
  unasked =
      failed status.Memory host refl (inr (inr (inr refl))) (λ e. cc) (λ h. refl) refl
      (stayed host.disk_faults host.disk_faults (status.Memory ≡ status.DiskFault) refl (λ e. cc))

  -- it answered this, and then the answer was told
  module _ (middle : Seen) (quiet : honest → middle.past ≡ host.past) (untold : middle.tell_faults ≡ host.tell_faults) (unstored : middle.disk_faults ≡ host.disk_faults)
      (reply : List ℕ) (is-answer : (set : Settings) (g : List Beat) → IsAgentOf host.past agent set g → reply ≡ answer set g) (host' : Seen) (disk : host'.disk_faults ≡ middle.disk_faults) where
    -- a prefix of it was told
    prefix : (s : Status) (said unsaid : List ℕ) → reply ≡ said ++ unsaid → (is_whole s ≡ true → unsaid ≡ []) → told host'.past ≡ told middle.past ++ said → honest
        → (set : Settings) (g : List Beat) → IsAgentOf host.past agent set g → TellsPrefix (is_whole s) (answer set g) host.past host'.past
    prefix s said unsaid whole all tells h set g is_of = record {
      said = said;
      unsaid = unsaid;
      whole = sym (is-answer set g is_of) ∙ whole;
      tells = tells ∙ ap (λ (p : List Event). told p ++ said) (quiet h);
      complete = all;
    }

    leaves-as : LeavesDisk honest middle host' → honest → Throughout (λ past. (file : File) → of file past ≡ of file host.past) host.past host'.past
    leaves-as left h = subst (λ (p : List Event). Throughout (λ past. (file : File) → of file past ≡ of file p) p host'.past) (quiet h) (left.any_moment h)

    told-by : (s : Status) → HasCause middle.tell_faults host'.tell_faults (s ≡ status.TellFault) → HasCause host.tell_faults host'.tell_faults (s ≡ status.TellFault)
    told-by s cause = stayed-before host.tell_faults middle.tell_faults host'.tell_faults (s ≡ status.TellFault) untold cause

    stored-by : (s : Status) → (s ≡ status.DiskFault → ⊥) → HasCause host.disk_faults host'.disk_faults (s ≡ status.DiskFault)
    stored-by s never = stayed host.disk_faults host'.disk_faults (s ≡ status.DiskFault) (disk ∙ unstored) never

    answer-told : (honest → host'.past ≡ Told reply ∷ middle.past) → HasCause middle.tell_faults host'.tell_faults (status.Ok ≡ status.TellFault) → Answering honest agent answer status.Ok host host'
    answer-told done cause = record {
      answered = λ h. prefix status.Ok reply [] (sym (append-nil reply)) (λ all. refl) (ap told (done h)) h;
      leaves = leaves-as (told-leaves honest middle host' reply done disk);
      unspent = λ h. spent;
      statuses = inl refl;
      tell_cause = told-by status.Ok cause;
      disk_cause = stored-by status.Ok apart;
    }
      where
        apart : status.Ok ≡ status.DiskFault → ⊥
        apart e = cc

        spent : {A : Type 0} → (status.Ok ≡ status.DiskFault) ⊎ (status.Ok ≡ status.Memory) → A
        spent (inl e) = cc
        spent (inr e) = cc

    answer-torn : (honest → MayAdd (λ (n : ℕ). Told (take n reply)) middle.past host'.past) → HasCause middle.tell_faults host'.tell_faults (status.TellFault ≡ status.TellFault) → Answering honest agent answer status.TellFault host host'
    answer-torn torn cause = record {
      answered = λ h. by h (torn h);
      leaves = leaves-as (torn-leaves honest middle host' reply torn disk);
      unspent = λ h. spent;
      statuses = inr (inl refl);
      tell_cause = told-by status.TellFault cause;
      disk_cause = stored-by status.TellFault apart;
    }
      where
        apart : status.TellFault ≡ status.DiskFault → ⊥
        apart e = cc

        spent : {A : Type 0} → (status.TellFault ≡ status.DiskFault) ⊎ (status.TellFault ≡ status.Memory) → A
        spent (inl e) = cc
        spent (inr e) = cc

        short : {A : Type 0} → is_whole status.TellFault ≡ true → A
        short all = absurd (true≢false (sym all))

        by : honest → MayAdd (λ (n : ℕ). Told (take n reply)) middle.past host'.past → (set : Settings) (g : List Beat) → IsAgentOf host.past agent set g → TellsPrefix (is_whole status.TellFault) (answer set g) host.past host'.past
        by h (inl same) = prefix status.TellFault [] reply refl short (ap told same ∙ sym (append-nil (told middle.past))) h
        by h (inr (n, added)) = prefix status.TellFault (take n reply) (drop n reply) (sym (take-append-drop n reply)) short (ap told added) h

    abbrev TellsBy : Status → List ℕ → Type 0
    TellsBy s bytes = ((s ≡ status.Ok) × (honest → host'.past ≡ Told bytes ∷ middle.past)) ⊎ ((s ≡ status.TellFault) × (honest → MayAdd (λ (n : ℕ). Told (take n bytes)) middle.past host'.past))

    by-reply : (s : Status) → TellsBy s reply → HasCause middle.tell_faults host'.tell_faults (s ≡ status.TellFault) → Answering honest agent answer s host host'
    by-reply s (inl (is, done)) cause =
        subst (λ (t : Status). Answering honest agent answer t host host') (sym is) (answer-told done (subst (λ (t : Status). HasCause middle.tell_faults host'.tell_faults (t ≡ status.TellFault)) is cause))
    by-reply s (inr (is, torn)) cause =
        subst (λ (t : Status). Answering honest agent answer t host host') (sym is) (answer-torn torn (subst (λ (t : Status). HasCause middle.tell_faults host'.tell_faults (t ≡ status.TellFault)) is cause))

    pub tell-by : (bytes : List ℕ) → bytes ≡ reply → (s : Status)
        → ((s ≡ status.Ok) × (honest → host'.past ≡ Told bytes ∷ middle.past)) ⊎ ((s ≡ status.TellFault) × (honest → MayAdd (λ (n : ℕ). Told (take n bytes)) middle.past host'.past))
        → HasCause middle.tell_faults host'.tell_faults (s ≡ status.TellFault) → Answering honest agent answer s host host'
    tell-by bytes same s tells cause = by-reply s (subst (TellsBy s) same tells) cause

-- an agent that was of use fails to read only where it was out of memory
reading-memory : (before : Option Why) → before ≡ None → (why : AgentFault) → IsReading why → ReopensWith before why → why ≡ fault.Memory
reading-memory before going fault.Memory faults reopens = refl
reading-memory before going (fault.Reopen cause) faults reopens = absurd (apart (sym going ∙ reopens))
  where
    apart : none_before ≡ Some cause → ⊥
    apart e = cc
reading-memory before going other faults reopens = absurd faults

-- it was asked a question
module _ (honest : Type 0) (agent : AgentState) (text : List ℕ) (host : Seen) (result : Result (List ℕ) AgentFault) (middle : Seen) (agent' : AgentState) (queries : Queries honest host agent text result middle agent') where
  abbrev answer : Settings → List Beat → List ℕ
  answer = reply_for text

  -- memory ran out
  pub want-asking : result ≡ Err fault.Memory → Answering honest agent answer status.Memory host middle
  want-asking is =
      failed honest agent answer host status.Memory middle refl (inr (inr (inr refl))) (λ e. cc) queries.reads.quiet queries.reads.tells
      (cause-as host.disk_faults middle.disk_faults (result ≡ Err fault.DiskFault) (status.Memory ≡ status.DiskFault) (λ e. cc) (λ e. absurd (apart (sym is ∙ e))) queries.reads.cause)
    where
      apart : unanswered fault.Memory ≡ unanswered fault.DiskFault → ⊥
      apart e = cc

  -- an agent that was of use does not answer only where it was out of memory
  pub memory-asking : agent.fault ≡ None → (why : AgentFault) → result ≡ Err why → why ≡ fault.Memory
  memory-asking going why is =
      reading-memory agent.fault going why (subst (λ (r : Result (List ℕ) AgentFault). IfErr r IsReading) is queries.reads.faults)
      (subst (λ (r : Result (List ℕ) AgentFault). Reopens agent.fault r) is queries.reads.reopens)

  module _ (reply : List ℕ) (ok : result ≡ Ok reply) where
    is-reply : (set : Settings) (g : List Beat) → IsAgentOf host.past agent set g → reply ≡ reply_of set g text
    is-reply = subst (λ (r : Result (List ℕ) AgentFault). IfOk r (λ (reply : List ℕ). (set : Settings) (g : List Beat) → IsAgentOf host.past agent set g → reply ≡ reply_of set g text)) ok queries.answered

    same-disk : middle.disk_faults ≡ host.disk_faults
    same-disk = queries.reads.cause.stays (λ failed. not-both (sym ok ∙ failed))
      where
        not-both : answered reply ≡ unanswered fault.DiskFault → ⊥
        not-both e = cc

    pub answer-by : (host' : Seen) → host'.disk_faults ≡ middle.disk_faults → (bytes : List ℕ) → bytes ≡ reply → (s : Status)
        → ((s ≡ status.Ok) × (honest → host'.past ≡ Told bytes ∷ middle.past)) ⊎ ((s ≡ status.TellFault) × (honest → MayAdd (λ (n : ℕ). Told (take n bytes)) middle.past host'.past))
        → HasCause middle.tell_faults host'.tell_faults (s ≡ status.TellFault) → Answering honest agent answer s host host'
    answer-by host' disk = tell-by honest agent answer host middle queries.reads.quiet queries.reads.tells same-disk reply is-reply host' disk

pub memory-logging : (agent : AgentState) → agent.fault ≡ None → (result : Result Log AgentFault) → Logs agent result → (why : AgentFault) → result ≡ Err why → why ≡ fault.Memory
memory-logging agent going result logs why is =
    reading-memory agent.fault going why (subst (λ (r : Result Log AgentFault). IfErr r IsReading) is logs.faults)
    (subst (λ (r : Result Log AgentFault). Reopens agent.fault r) is logs.reopens)

-- it was asked for its log
module _ (honest : Type 0) (agent : AgentState) (form : Form) (host : Seen) (log : Log) (logs : Logs agent (Ok log)) where
  abbrev shown : ℕ → List AlarmEvent → Shown
  shown dropped events = record { dropped = dropped; events = events }

  is-log : (set : Settings) (g : List Beat) → IsAgentOf host.past agent set g → log_as form (shown_by log) ≡ log_for form set g
  is-log set g is_of = ap (log_as form) (ap₂ shown (logs.dropped host.past set g is_of) (logs.events host.past set g is_of))

  pub log-by : (host' : Seen) → host'.disk_faults ≡ host.disk_faults → (bytes : List ℕ) → bytes ≡ log_as form (shown_by log) → (s : Status)
      → ((s ≡ status.Ok) × (honest → host'.past ≡ Told bytes ∷ host.past)) ⊎ ((s ≡ status.TellFault) × (honest → MayAdd (λ (n : ℕ). Told (take n bytes)) host.past host'.past))
      → HasCause host.tell_faults host'.tell_faults (s ≡ status.TellFault) → Answering honest agent (log_for form) s host host'
  log-by host' disk = tell-by honest agent (log_for form) host host (λ h. refl) refl refl (log_as form (shown_by log)) is-log host' disk

-- ---- a database that was opened
answer-ends : (s : Status) → IsAnswerStatus s → ends_a_run s ≡ true
answer-ends s (inl is) = ap ends_a_run is
answer-ends s (inr (inl is)) = ap ends_a_run is
answer-ends s (inr (inr (inl is))) = ap ends_a_run is
answer-ends s (inr (inr (inr is))) = ap ends_a_run is

ask-status : (s : Status) → IsAnswerStatus s → IsAskStatus s
ask-status s which = by which
  where
    by : IsAnswerStatus s → IsAskStatus s
    by (inl is) = subst IsAskStatus (sym is) (inl refl)
    by (inr (inl is)) = subst IsAskStatus (sym is) (inr (inl refl))
    by (inr (inr (inl is))) = subst IsAskStatus (sym is) (inr (inr (inl refl)))
    by (inr (inr (inr is))) = subst IsAskStatus (sym is) (inr (inr (inr refl)))

module _ (honest : Type 0) (answer : Settings → List Beat → List ℕ) (host : Seen) (agent : AgentState) (middle : Seen) (opens : Opens honest host (Ok agent) middle) (s : Status) (host' : Seen) (answering : Answering honest agent answer s middle host') where
  silent-opening : honest → told middle.past ≡ told host.past
  silent-opening h = (opens.only_here h).output

  tell-cause : HasCause host.tell_faults host'.tell_faults (s ≡ status.TellFault)
  tell-cause = stayed-before host.tell_faults middle.tell_faults host'.tell_faults (s ≡ status.TellFault) opens.tells answering.tell_cause

  disk-cause : HasCause host.disk_faults host'.disk_faults (s ≡ status.DiskFault)
  disk-cause = stayed-before host.disk_faults middle.disk_faults host'.disk_faults (s ≡ status.DiskFault) (opened-disk honest host agent middle opens) answering.disk_cause

  -- the disk stands for what was read, and nothing happens to it
  stands-on : honest → (set : Settings) (g : List Beat) → StandsForHistory set g (reads_as host.past) → Throughout (EveryDisk (StandsForHistory set g)) middle.past host'.past
  stands-on h set g here =
      weakened (λ past same disk images. stands-all middle.past agent set g (opens.opened h set g here) disk (λ file. subst (λ (changes : List Change). IsImage changes (disk file)) (same file) (images file)))
      (answering.leaves h)

  pub asked : Asks honest answer s host host'
  asked = record {
    answered = λ h set g here.
        let tells = answering.answered h set g (opens.opened h set g here) in
        record { said = tells.said; unsaid = tells.unsaid; whole = tells.whole; tells = tells.tells ∙ ap (λ (t : List ℕ). t ++ tells.said) (silent-opening h); complete = tells.complete };
    complete = λ h set g here none_told none_disk. complete-by none_told none_disk answering.statuses;
    any_moment = λ h.
        joined (opens.any_moment h)
        (weakened (λ past same disk images. at_end (opens.any_moment h) disk (λ file. subst (λ (changes : List Change). IsImage changes (disk file)) (same file) (images file))) (answering.leaves h));
    same = λ h file. ap contents (at_end (answering.leaves h) file) ∙ opens.same h file;
    settled = λ h set g here.
        joined (settled-yet set g host.past middle.past (silent-opening h) (opens.any_moment h))
        (weakened (λ past stands disk text images by_then more. stands disk images) (stands-on h set g here));
    done = λ h set g here is. at_end (stands-on h set g here);
    others = λ h file other. at_end (answering.leaves h) file ∙ (opens.only_here h).others file other;
    unspent = λ h is. answering.unspent h is ∙ silent-opening h;
    silent = λ h none. absurd (none (opens.notes h));
    finds = opened-finds honest host agent middle opens s (answer-ends s answering.statuses);
    statuses = ask-status s answering.statuses;
    tell_cause = tell-cause;
    disk_cause = disk-cause;
  }
    where
      complete-by : (TellRose host host' → ⊥) → (DiskRose host host' → ⊥) → IsAnswerStatus s → (s ≡ status.Ok) ⊎ (s ≡ status.Memory)
      complete-by none_told none_disk (inl is) = inl is
      complete-by none_told none_disk (inr (inl is)) = absurd (none_told (tell-cause.failed is))
      complete-by none_told none_disk (inr (inr (inl is))) = absurd (none_disk (disk-cause.failed is))
      complete-by none_told none_disk (inr (inr (inr is))) = inr is

-- ---- none was opened
opening-status : (why : OpenFault) → IsAskStatus (opening_status why)
opening-status open_fault.NotADatabase = tt
opening-status open_fault.DiskFault = inr (inr (inl refl))
opening-status (open_fault.Damaged part) = tt
opening-status open_fault.Memory = inr (inr (inr refl))

module _ (honest : Type 0) (answer : Settings → List Beat → List ℕ) (host host' : Seen) (first : honest → IsDisk host.past (reads_as host.past)) (why : OpenFault) (opens : Opens honest host (Err why) host') where
  pub unopened-asked : Asks honest answer (opening_status why) host host'
  unopened-asked = record {
    answered = λ h set g here.
        let part : is_whole (opening_status why) ≡ false = by-fault honest host host' first (λ (f : OpenFault). is_whole (opening_status f) ≡ false) why (opens.stands h set g here) refl refl in
        record { said = []; unsaid = answer set g; whole = refl; tells = (opens.only_here h).output ∙ sym (append-nil (told host.past)); complete = λ all. absurd (true≢false (sym all ∙ part)) };
    complete = λ h set g here none_told none_disk.
        by-fault honest host host' first (λ (f : OpenFault). why ≡ f → (opening_status f ≡ status.Ok) ⊎ (opening_status f ≡ status.Memory)) why (opens.stands h set g here)
        (λ is. absurd (none_disk (opens.cause.failed (ap (λ (f : OpenFault). Err f) is)))) (λ is. inr refl) refl;
    any_moment = opens.any_moment;
    same = opens.same;
    settled = λ h set g here. settled-yet set g host.past host'.past (opens.only_here h).output (opens.any_moment h);
    done = λ h set g here is.
        absurd (true≢false (sym (ap is_whole is) ∙ by-fault honest host host' first (λ (f : OpenFault). is_whole (opening_status f) ≡ false) why (opens.stands h set g here) refl refl));
    others = λ h. (opens.only_here h).others;
    unspent = λ h is. (opens.only_here h).output;
    silent = λ h none. (opens.only_here h).output;
    finds = unopened-finds honest host host' first why opens;
    statuses = opening-status why;
    tell_cause = stayed host.tell_faults host'.tell_faults (opening_status why ≡ status.TellFault) opens.tells (untold-yet honest host host' first why);
    disk_cause =
        cause-as host.disk_faults host'.disk_faults (failed_by why ≡ failed_by open_fault.DiskFault) (opening_status why ≡ status.DiskFault)
        (disk-failed honest host host' first why) (λ e. ap opening_status (fault-is why open_fault.DiskFault e)) opens.cause;
  }
