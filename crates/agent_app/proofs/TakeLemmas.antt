-- What each step of a run does.
use Rattle.std.proofs.Common.{◌≡◌, ◌⊎◌, inl, inr, ℕ, ◌+◌, Bool, true, false, List, [], ◌∷◌, ◌++◌, length, Option, Some, None, Result, Ok, Err, IfOk, IfErr, IsErrOf, OnOk, refl, sym, ap, subst, ◌∙◌, append_assoc, append-nil, arith, true≢false, if◌then◌else◌}
use Rattle.std.specs.Option.{option_map_or}
use Rattle.host_model.specs.Cause.{HasCause, Rose}
use Rattle.host_model.specs.declared.status.Status.{Status}
use Rattle.host_model.specs.declared.status.Status.TheVariants.{Ok as Done, Refused, Limit, TellFault, DiskFault, Memory}
use Rattle.host_model.specs.Disks.{EveryDisk}
use Rattle.host_model.specs.Moments.{Throughout}
use Rattle.host_model.specs.Past.{Event, Told, of, told}
use Rattle.host_model.proofs.MomentLemmas.{at_end}
use Rattle.history.specs.declared.fault.BlockFault.{BlockFault}
use Rattle.history.specs.declared.fault.BlockFault.TheVariants.{Unfinished}
use Rattle.health_config.specs.declared.fault.ConfigFault.{ConfigFault}
use Rattle.history.specs.declared.line.Line.{Line}
use Rattle.history.specs.declared.line.Line.TheVariants as line
use Rattle.history.specs.History.{Beat, collected}
use Rattle.history.specs.Looking.{beat}
use Rattle.history.specs.Read.{history_at, is_disable, refusal_at}
use Rattle.history.specs.Refusal.{is_unfinished}
use Rattle.plugin_text.specs.declared.fault.LineFault.{LineFault}
use Rattle.plugin_text.specs.declared.fault.LineFault.TheVariants as line_fault
use Rattle.plugin_text.specs.Answer.{IsFaultFor}
use Rattle.plugin_text.specs.Line.{line as line_of}
use Rattle.plugin_text.specs.Lines.{fits, lines, parts, rest}
use Rattle.plugin_text.specs.declared.refusal.Refusal.{Refusal}
use Rattle.plugin_text.specs.declared.refusal.Refusal.TheVariants as refusal
use Rattle.plugin_text.specs.Refusal.{refusal_number}
use Rattle.point_lines.proofs.StepLemmas.{counts-at}
use Rattle.collect_block.specs.declared.feed.Feed.{Feed}
use Rattle.collect_block.specs.Feed.{Becomes, CountsFor, IsFeedOf}
use Rattle.tier_settings.specs.declared.settings.Settings.{Settings}
use Rattle.alarm_events.specs.declared.event.Event.{Event as AlarmEvent}
use Rattle.agent_core.specs.declared.fault.AgentFault.{AgentFault}
use Rattle.agent_core.specs.declared.fault.AgentFault.TheVariants as agent_fault
use Rattle.agent_core.specs.declared.reply.Reply.{Reply}
use Rattle.agent_core.specs.declared.reply.Said.{Said}
use Rattle.agent_core.specs.declared.reply.Said.TheVariants.{Nothing, Stored, Table, Disabled}
use Rattle.agent_core.specs.Agent.{AgentState, IsAgentOf}
use Rattle.agent_core.specs.Alarms.{events_at}
use Rattle.agent_core.specs.Answers.{reply_of}
use Rattle.agent_core.specs.Bound.{RunsWithin}
use Rattle.agent_core.specs.Calls.{ClosesBeat, Lines}
use Rattle.host_model.specs.Seen.{Seen}
use Rattle.agent_core.specs.Faults.{LeavesAll, RefusedBy, Reopens}
use Rattle.agent_core.specs.Kept.{AreBeatsOf}
use Rattle.agent_core.specs.Stands.{StandsForOneOf}
use Rattle.agent_core.specs.Replies.{reply_text}
use Rattle.agent_core.specs.Roles.{copies}
use Rattle.agent_core.specs.Rules.{history_with, line_refusal}
use Rattle.agent_core.specs.Said.{Answers, IsSaid, TellsEvents}
use Rattle.store_core.specs.Counts.{counted}
use Rattle.store_core.specs.declared.fault.Why.{Why}
use Rattle.link_session.specs.Keeps.{Extends, IsAckedUpTo, LeavesFiles}
use Rattle.link_session.proofs.ExtendsLemmas.{extends-length}
use Rattle.link_session.proofs.LeavesLemmas.{leaves-nothing, may-told, one-told}
use Rattle.link_session.proofs.AckLemmas.{stored-some}
use Rattle.agent_app.specs.declared.running.Running.{Running}
use Rattle.agent_app.specs.Convert.{all_told, is_limit, refusal_line}
use Rattle.agent_app.specs.Health.{fault_status}
use Rattle.agent_app.specs.Reading.{Ending, HasRead, RefusedAt, Reading, lines_read, reading}
use Rattle.agent_app.specs.Run.{history_with_text, is_whole, judged_after, line_rules, run_output, run_reading, run_rules, told_of, FailsAtMoment, HasRunCause, LeavesOthers}
use Rattle.agent_app.specs.Running.{Counts, DiskRose, EndsRun, IsCutShort, IsRunning, IsTakers, Overflows, RunsAt, TakesLine, TellRose, TellsRefusal}
use Rattle.agent_app.specs.Statuses.{agent_status}
use Rattle.agent_app.proofs.CauseLemmas.{apart, both-counts, cause-as, counts-none, ended-as, ended-counts, ended_so, going-counts, is_outside, refusal-inside, same-counts, stayed, went_on}
use Rattle.agent_core.proofs.ClosedLemmas.{text-line}
use Rattle.agent_core.proofs.KeptLemmas.{copies-child}
use Rattle.agent_core.proofs.RunLemmas.{line-runs, runs-both, runs-none, runs-told}
use Rattle.agent_core.proofs.StoredLemmas.{were_kept}
use Rattle.agent_app.proofs.BoundLemmas.{cut-runs, refusal-runs}
use Rattle.agent_app.proofs.EventLemmas.{acked-told, closed-told}
use Rattle.agent_app.proofs.ExtendsLemmas.{extends-start, extends-text, lines-after}
use Rattle.agent_app.proofs.HasReadLemmas.{read-ended, read-long, read-next, read-over, read-refused, read-unfinished, says-all, says-long, says-over, says-refused}
use Rattle.agent_app.proofs.HealthLemmas.{fault-inside, fault-takers}
use Rattle.agent_app.proofs.ReplyLemmas.{acked-reply, closed-reply, reply-some}
use Rattle.agent_app.proofs.RunningLemmas.{line-taken, text-told}
use Rattle.agent_app.proofs.StopsLemmas.{Behind, cut-stop, line-stop, output-behind, refusal-stop, want-stop, whole-stop}

-- ---- what telling does
module _ (status : Status) (honest : Type 0) (text : List ℕ) (old new : List Event) (tell_rose : Type 0) where
  cut-takers : IsCutShort status honest text old new tell_rose → IsTakers status
  cut-takers (inl (is, rose, torn)) = subst IsTakers (sym is) tt
  cut-takers (inr (is, same)) = subst IsTakers (sym is) tt

  -- the disk was not asked
  cut-stored : IsCutShort status honest text old new tell_rose → status ≡ DiskFault → ⊥
  cut-stored (inl (is, rose, torn)) e = cc
  cut-stored (inr (is, same)) e = cc

  cut-leaves : IsCutShort status honest text old new tell_rose → honest → LeavesFiles old new
  cut-leaves (inl (is, rose, torn)) h = may-told old new text (torn h)
  cut-leaves (inr (is, same)) h = subst (LeavesFiles old) (sym same) (leaves-nothing old)

module _ (status : Status) (honest : Type 0) (number : ℕ) (why : Refusal) (old new : List Event) (tell_rose : Type 0) where
  refusal-takers : TellsRefusal status honest number why old new tell_rose → IsTakers status
  refusal-takers (inl (is, done)) = subst IsTakers (sym is) (by (is_limit why))
    where
      by : (limit : Bool) → IsTakers (if limit then Limit number (refusal_number why) else Refused number (refusal_number why))
      by true = tt
      by false = tt
  refusal-takers (inr cut) = cut-takers status honest _ old new tell_rose cut

  refusal-stored : TellsRefusal status honest number why old new tell_rose → status ≡ DiskFault → ⊥
  refusal-stored (inl (is, done)) e = apart status DiskFault (ap is_outside is ∙ refusal-inside number why) refl e
  refusal-stored (inr cut) e = cut-stored status honest _ old new tell_rose cut e

  refusal-leaves : TellsRefusal status honest number why old new tell_rose → honest → LeavesFiles old new
  refusal-leaves (inl (is, done)) h = subst (LeavesFiles old) (sym (done h)) (one-told old (refusal_line number why))
  refusal-leaves (inr cut) h = cut-leaves status honest _ old new tell_rose cut h

told-counts : (host host' : Seen) (tell disk : Type 0) → HasCause host.tell_faults host'.tell_faults tell → host'.disk_faults ≡ host.disk_faults → (disk → ⊥) → Counts host host' tell disk
told-counts host host' tell disk cause same never = record { tells = cause; disk = stayed host.disk_faults host'.disk_faults disk same never }

-- ---- how a line is judged
module _ (every : ℕ) (h0 : List Beat) (read : List Line) (bytes : List ℕ) (said : Line) (is : line_of bytes ≡ Ok said) where
  judged-free : refusal_at every h0 read said ≡ None → judged_after every h0 read (line_of bytes) ≡ Ok said
  judged-free free = ap (judged_after every h0 read) is ∙ ap (λ (o : Option BlockFault). option_map_or (λ (fault : BlockFault). Err (refusal.Block fault)) o (Ok said)) free

  judged-refused : (fault : BlockFault) → refusal_at every h0 read said ≡ Some fault → judged_after every h0 read (line_of bytes) ≡ Err (refusal.Block fault)
  judged-refused fault reason = ap (judged_after every h0 read) is ∙ ap (λ (o : Option BlockFault). option_map_or (λ (fault : BlockFault). Err (refusal.Block fault)) o (Ok said)) reason

disable-same : (every : ℕ) (h0 : List Beat) (read : List Line) (said : Line) → is_disable said ≡ true → history_at every h0 (said ∷ read) ≡ history_at every h0 read
disable-same every h0 read line.Disable is = refl
disable-same every h0 read said is = absurd (true≢false (sym is))

pub fault-is : (bytes : List ℕ) (fault : LineFault) → IsFaultFor (line_of bytes) fault → (fault ≡ line_fault.Memory → ⊥) → line_of bytes ≡ Err fault
fault-is bytes line_fault.Memory told not = absurd (not refl)
fault-is bytes fault told not = told

-- this is what is told of a line, whole lines that acknowledge no beat but those by then
pub record IsToldOf (every : ℕ) (set : Settings) (h0 : List Beat) (read : List Line) (said : Line) (next : List ℕ) : Type 0 where
  pub is : next ≡ told_of every set h0 read said
  pub acked : IsAckedUpTo (length (history_at every h0 (said ∷ read))) next
  pub closed : rest next ≡ []
  pub some : next ≡ [] → ⊥

stored-count : (reply other : Reply) → Stored reply ≡ Stored other → reply ≡ other
stored-count reply other same = cc

table-same : (a b : List ℕ) → Table a ≡ Table b → a ≡ b
table-same a b e = cc

-- ---- a line that closes no beat
abbrev IsMoment : Line → Type 0
IsMoment (line.Moment moment) = Unit {0}
IsMoment said = ⊥

moment-or-not : (said : Line) → ((moment : ℕ) × (said ≡ line.Moment moment)) ⊎ ((moment : ℕ) → said ≡ line.Moment moment → ⊥)
moment-or-not (line.Moment moment) = inl (moment, refl)
moment-or-not said = inr (λ moment is. subst IsMoment (sym is) tt)

abbrev no_reason : Option BlockFault
no_reason = None

abbrev some_reason : BlockFault → Option BlockFault
some_reason fault = Some fault

not-free : (fault : BlockFault) → some_reason fault ≡ no_reason → ⊥
not-free fault e = cc

abbrev untaken : AgentFault → Result Said AgentFault
untaken why = Err why

-- what a line for a reason against it leaves
refused-leaves : (r : Result Said AgentFault) (fault : BlockFault) (P : Type 0) → RefusedBy (Some fault) r → IfErr r (λ (f : AgentFault). LeavesAll f → P) → P
refused-leaves (Ok said) fault P refused left = absurd (not-free fault refused)
refused-leaves (Err (agent_fault.Refused other)) fault P refused left = left tt
refused-leaves (Err agent_fault.DiskFault) fault P refused left = absurd (not-free fault refused)
refused-leaves (Err agent_fault.Memory) fault P refused left = absurd (not-free fault refused)
refused-leaves (Err other) fault P refused left = absurd refused

-- ---- a line
module _ (honest : Type 0) (running : Running) (host : Seen) (number : ℕ) (bytes : List ℕ) (short : fits bytes ≡ true) where
  refused-line : (running' : Running) → running'.agent ≡ running.agent → (status : Status) (host' : Seen) (why : Refusal)
      → (honest → (every : ℕ) (set : Settings) (h0 : List Beat) (start : List Event) (read : List Line) (made : List ℕ) → RunsAt host.past running every set h0 start read made → judged_after every h0 read (line_of bytes) ≡ Err why)
      → TellsRefusal status honest number why host.past host'.past (TellRose host host') → HasCause host.tell_faults host'.tell_faults (status ≡ TellFault) → host'.disk_faults ≡ host.disk_faults
      → TakesLine honest running host number bytes (Err status) running' host'
  refused-line running' same-agent status host' why judged telling cause same = record {
    run = λ h every set h0 prefix start going number_is ended text next more whole.
        let judge = judged h every set h0 start going.read going.made going.at in
        refusal-stop host.past running every set h0 start going.read going.made going.at ended text ⊥ (TellRose host host') (DiskRose host host') status honest number why host'.past h telling
        (read-refused (run_rules every set h0) prefix going.read going.made going.has text bytes next more why ended whole short judge ∙ ap (λ (n : ℕ). record { told = going.made; ending = RefusedAt n why }) (sym number_is))
        (ap (history_at every h0) (says-refused (run_rules every set h0) prefix going.read going.made going.has text bytes next more why whole short judge));
    quiet = λ h every set h0 prefix start going text next more whole none. refusal-leaves status honest number why host.past host'.past (TellRose host host') telling h;
    statuses = refusal-takers status honest number why host.past host'.past (TellRose host host') telling;
    counts = ended-counts host host' status (told-counts host host' (status ≡ TellFault) (status ≡ DiskFault) cause same (refusal-stored status honest number why host.past host'.past (TellRose host host') telling));
    others = λ h file other. at_end (refusal-leaves status honest number why host.past host'.past (TellRose host host') telling h) file;
    bound = λ h every set h0 prefix start going.
        subst (λ (a : AgentState). RunsWithin honest host running.agent host' a) (sym same-agent) (refusal-runs honest host host' running.agent status number why (TellRose host host') telling);
  }

  -- there was no memory to read it
  pub want-line : TakesLine honest running host number bytes (Err Memory) running host
  want-line = record {
    run = λ h every set h0 prefix start going number_is ended text next more whole.
        want-stop host.past running every set h0 start going.read going.made going.at ended text ⊥ (TellRose host host) (DiskRose host host)
        (extends-text every h0 set prefix going.read going.made going.has text bytes (next ∷ more) whole) (output-behind every set h0 prefix going.read going.made going.has ended text bytes (next ∷ more) whole);
    quiet = λ h every set h0 prefix start going text next more whole none. leaves-nothing host.past;
    statuses = tt;
    counts = ended-counts host host Memory (same-counts host (Memory ≡ TellFault) (Memory ≡ DiskFault) (λ e. cc) (λ e. cc));
    others = λ h file other. refl;
    bound = λ h every set h0 prefix start going. runs-none honest host running.agent;
  }

  -- it says nothing
  pub bad-line : (status : Status) (host' : Seen) (fault : LineFault) → line_of bytes ≡ Err fault → TellsRefusal status honest number (refusal.Line fault) host.past host'.past (TellRose host host')
      → HasCause host.tell_faults host'.tell_faults (status ≡ TellFault) → host'.disk_faults ≡ host.disk_faults
      → TakesLine honest running host number bytes (Err status) running host'
  bad-line status host' fault is telling cause same =
      refused-line running refl status host' (refusal.Line fault) (λ h every set h0 start read made at. ap (judged_after every h0 read) is) telling cause same

  -- ---- a line that says this was handed to the agent
  module _ (said : Line) (is : line_of bytes ≡ Ok said) (result : Result Said AgentFault) (middle : Seen) (agent : AgentState) (feed : Feed)
      (lined : Lines honest host running.agent running.feed said result middle agent feed) where
    abbrev now : Running
    now = record running { agent = agent; feed = feed }

    abbrev reason : ℕ → List Line → Option BlockFault
    reason every read = line_refusal running.agent.registry (copies running.agent.role) running.agent.last every read said

    lined-tell : (tell : Type 0) → (tell → ⊥) → HasCause host.tell_faults middle.tell_faults tell
    lined-tell tell never = stayed host.tell_faults middle.tell_faults tell lined.tells never

    lined-disk : (disk : Type 0) → (disk → result ≡ Err agent_fault.DiskFault) → (result ≡ Err agent_fault.DiskFault → disk) → HasCause host.disk_faults middle.disk_faults disk
    lined-disk disk back on = cause-as host.disk_faults middle.disk_faults (result ≡ Err agent_fault.DiskFault) disk back on lined.cause

    -- where the agent did as it was asked nothing failed
    lined-ok : (reply : Said) → result ≡ Ok reply → Counts host middle ⊥ ⊥
    lined-ok reply ok = record { tells = lined-tell ⊥ (λ never. never); disk = lined-disk ⊥ (λ never. absurd never) (λ failed. cc) }

    lined-runs : honest → (every : ℕ) (set : Settings) (h0 : List Beat) (prefix : List (List ℕ)) (start : List Event) → IsRunning host.past running every set h0 prefix start → RunsWithin honest host running.agent middle agent
    lined-runs h every set h0 prefix start going =
        line-runs honest host middle running.agent agent running.feed feed said result every going.read going.at.feed (counts-at running.feed running.agent.registry said going.at.counts) lined

    lined-others : LeavesOthers honest host middle
    lined-others h file other = (lined.only_here h).others file other

    module _ (h : honest) (every : ℕ) (set : Settings) (h0 : List Beat) (start : List Event) (read : List Line) (made : List ℕ) (at : RunsAt host.past running every set h0 start read made) where
      reason-is : reason every read ≡ refusal_at every h0 read said
      reason-is = (λ i. line_refusal (at.agent.left_by.registry_is i) (copies-child host.past running.agent set (history_at every h0 read) at.agent i) (at.agent.last_is i) every read said) ∙ text-line every h0 at.within read said at.accepted

      refused-by : RefusedBy (reason every read) result
      refused-by = lined.refused at.agent.going every read at.feed (counts-at running.feed running.agent.registry said at.counts)

      moments : Throughout (EveryDisk (StandsForOneOf set (history_at every h0 read) (reason every read) (history_with (history_at every h0 read) every read said))) host.past middle.past
      moments = lined.any_moment h set (history_at every h0 read) every read at.agent at.feed

      module _ (reply : Said) (ok : result ≡ Ok reply) where
        free : refusal_at every h0 read said ≡ None
        free = sym reason-is ∙ subst (λ (r : Result Said AgentFault). RefusedBy (reason every read) r) ok refused-by

        judged : judged_after every h0 read (line_of bytes) ≡ Ok said
        judged = judged-free every h0 read bytes said is free

        taken : RunsAt middle.past now every set h0 start (said ∷ read) made
        taken =
            line-taken host.past running every set h0 start read made at said middle.past now (reason every read) free
            (subst (λ (r : Result Said AgentFault). OnOk r (honest → (set : Settings) (h : List Beat) (every : ℕ) (past : List Line) → IsAgentOf host.past running.agent set h → IsFeedOf running.feed every past
            → IsAgentOf middle.past agent set (history_with h every past said))) ok lined.done h set (history_at every h0 read) every read at.agent at.feed)
            (subst (λ (r : Result Said AgentFault). OnOk r (Becomes said running.feed feed)) ok lined.takes every read at.feed)
            (subst (λ (r : Result Said AgentFault). OnOk r (CountsFor running.feed running.agent.registry → CountsFor feed agent.registry)) ok lined.counts_on at.counts) moments (lined.only_here h).output

      -- the history with the line's beat is within that of the text, if nothing stands against the line
      module _ (prefix : List (List ℕ)) (has : HasRead (run_rules every set h0) prefix read made) (text next : List ℕ) (more : List (List ℕ)) (whole : parts text ≡ prefix ++ bytes ∷ next ∷ more) where
        with-next : parts text ≡ (prefix ++ bytes ∷ []) ++ next ∷ more
        with-next = whole ∙ sym (append_assoc prefix (bytes ∷ []) (next ∷ more))

        reaches : reason every read ≡ None → Extends (history_at every h0 (said ∷ read)) (history_with_text every h0 text)
        reaches none = by (is_disable said) refl
          where
            by : (ends : Bool) → is_disable said ≡ ends → Extends (history_at every h0 (said ∷ read)) (history_with_text every h0 text)
            by true ends = subst (λ (g : List Beat). Extends g (history_with_text every h0 text)) (sym (disable-same every h0 read said ends)) (extends-text every h0 set prefix read made has text bytes (next ∷ more) whole)
            by false ends =
                let judge = judged-free every h0 read bytes said is (sym reason-is ∙ none) in
                extends-text every h0 set (prefix ++ bytes ∷ []) (said ∷ read) (made ++ told_of every set h0 read said) (read-next (run_rules every set h0) prefix read made has bytes said short judge ends) text next more with-next

    module _ (h : honest) (every : ℕ) (set : Settings) (h0 : List Beat) (start : List Event) (read : List Line) (made : List ℕ) (at : RunsAt host.past running every set h0 start read made)
        (prefix : List (List ℕ)) (has : HasRead (run_rules every set h0) prefix read made) (ended : Bool) (text next : List ℕ) (more : List (List ℕ)) (whole : parts text ≡ prefix ++ bytes ∷ next ∷ more) where
      -- nothing stands against the line, and it is a MOMENT
      fails-at : (moment : ℕ) → said ≡ line.Moment moment → refusal_at every h0 read said ≡ None → FailsAtMoment every set h0 ended text made
      fails-at moment same none =
          let has' = read-next (run_rules every set h0) prefix read made has bytes said short (judged-free every h0 read bytes said is none) (ap is_disable same) in
          let on = reading (run_rules every set h0) ended (said ∷ read) (next ∷ more) in
          let split = whole ∙ sym (append_assoc prefix (bytes ∷ []) (next ∷ more)) in
          let reads : (run_reading every set h0 ended text).told ≡ (made ++ told_of every set h0 read said) ++ on.told =
          ap (λ (ps : List (List ℕ)). (reading (run_rules every set h0) ended [] ps).told) split ∙ ap (λ (r : Reading Refusal). r.told) (has'.onward ended next more) in
          let beyond = lines-after every h0 (next ∷ more) (said ∷ read) in
          record {
            past = read;
            moment = moment;
            later = beyond.later;
            accepted = ap (lines_read (line_rules every h0) []) split ∙ has'.says next more ∙ beyond.whole ∙ ap (λ (l : Line). beyond.later ++ l ∷ read) same;
            missing = on.told;
            told = reads ∙ ap (λ (l : Line). made ++ told_of every set h0 read l ++ on.told) same;
          }

      -- the disk failed at a beat
      failed-at : result ≡ Err agent_fault.DiskFault → FailsAtMoment every set h0 ended text made
      failed-at failed = by said refl (lined.fails failed)
        where
          free' : refusal_at every h0 read said ≡ None
          free' = sym (reason-is h every set h0 start read made at) ∙ subst (λ (r : Result Said AgentFault). RefusedBy (reason every read) r) failed (refused-by h every set h0 start read made at)

          by : (l : Line) → said ≡ l → ClosesBeat l → FailsAtMoment every set h0 ended text made
          by (line.Moment moment) same closes = fails-at moment same free'
          by other same closes = absurd closes

    -- where the text closes no beat, the agent did nothing to the disk
    asked-nothing : (h : honest) (every : ℕ) (set : Settings) (h0 : List Beat) (prefix : List (List ℕ)) (start : List Event) → IsRunning host.past running every set h0 prefix start → (text next : List ℕ) (more : List (List ℕ)) → parts text ≡ prefix ++ bytes ∷ next ∷ more
        → history_with_text every h0 text ≡ h0 → middle.past ≡ host.past
    asked-nothing h every set h0 prefix start going text next more whole none = by (moment-or-not said)
      where
        here : List Line
        here = going.read

        -- the history of the text would be longer
        accepted : (moment : ℕ) → said ≡ line.Moment moment → reason every here ≡ None → ⊥
        accepted moment same free =
            let reached = extends-length (history_at every h0 (said ∷ here)) (history_with_text every h0 text) (reaches h every set h0 start here going.made going.at prefix going.has text next more whole free) in
            let one_more : length (history_at every h0 (said ∷ here)) ≡ length (history_at every h0 here) + 1 = ap (λ (l : Line). length (history_at every h0 (l ∷ here))) same ∙ omega arith in
            omega (arith, reached, one_more, ap length none, extends-length h0 (history_at every h0 here) (extends-start every h0 here))

        of-reason : (moment : ℕ) → said ≡ line.Moment moment → (r : Option BlockFault) → reason every here ≡ r → middle.past ≡ host.past
        of-reason moment same None free = absurd (accepted moment same free)
        of-reason moment same (Some fault) against =
            ap (λ (s : Seen). s.past)
            (refused-leaves result fault ((agent ≡ running.agent) × (middle ≡ host)) (subst (λ (r : Option BlockFault). RefusedBy r result) against (refused-by h every set h0 start here going.made going.at)) lined.unchanged).1

        by : ((moment : ℕ) × (said ≡ line.Moment moment)) ⊎ ((moment : ℕ) → said ≡ line.Moment moment → ⊥) → middle.past ≡ host.past
        by (inl (moment, same)) = of-reason moment same (reason every here) refl
        by (inr other) = lined.quiet other h

    -- nor did what was told since
    written-by : (h : honest) (every : ℕ) (set : Settings) (h0 : List Beat) (prefix : List (List ℕ)) (start : List Event) → IsRunning host.past running every set h0 prefix start → (text next : List ℕ) (more : List (List ℕ)) → parts text ≡ prefix ++ bytes ∷ next ∷ more
        → history_with_text every h0 text ≡ h0 → (host' : Seen) → LeavesFiles middle.past host'.past → LeavesFiles host.past host'.past
    written-by h every set h0 prefix start going text next more whole none host' leaves = subst (λ (p : List Event). LeavesFiles p host'.past) (asked-nothing h every set h0 prefix start going text next more whole none) leaves

    unwritten : honest → (every : ℕ) (set : Settings) (h0 : List Beat) (prefix : List (List ℕ)) (start : List Event) → IsRunning host.past running every set h0 prefix start → (text next : List ℕ) (more : List (List ℕ)) → parts text ≡ prefix ++ bytes ∷ next ∷ more
        → history_with_text every h0 text ≡ h0 → LeavesFiles host.past middle.past
    unwritten h every set h0 prefix start going text next more whole none = written-by h every set h0 prefix start going text next more whole none middle (leaves-nothing middle.past)

    -- the disk failed, or memory ran out
    torn-line : (status : Status) → is_whole status ≡ false → IsTakers status → (status ≡ TellFault → ⊥) → (status ≡ DiskFault → result ≡ Err agent_fault.DiskFault) → (result ≡ Err agent_fault.DiskFault → status ≡ DiskFault)
        → ((ended : Bool) (ending : Ending Refusal) (text : List ℕ) → HasRunCause status ended ending text ⊥ (TellRose host middle) (DiskRose host middle))
        → TakesLine honest running host number bytes (Err status) now middle
    torn-line status part takers untold back on cause = record {
      run = λ h every set h0 prefix start going number_is ended text next more whole.
          let read = going.read in
          let made = going.made in
          line-stop host.past running every set h0 start read made going.at ended text ⊥ (TellRose host middle) (DiskRose host middle) status said (reason every read) middle.past part untold
          (λ is_disk. failed-at h every set h0 start read made going.at prefix going.has ended text next more whole (back is_disk))
          (cause ended (run_reading every set h0 ended text).ending text) (moments h every set h0 start read made going.at) (lined.only_here h).output
          (extends-text every h0 set prefix read made going.has text bytes (next ∷ more) whole) (reaches h every set h0 start read made going.at prefix going.has text next more whole)
          (output-behind every set h0 prefix read made going.has ended text bytes (next ∷ more) whole);
      quiet = unwritten;
      statuses = takers;
      counts = ended-counts host middle status (record { tells = lined-tell (status ≡ TellFault) untold; disk = lined-disk (status ≡ DiskFault) back on });
      others = lined-others;
      bound = lined-runs;
    }

    -- no line is refused as a health text is
    health-line : (why : ConfigFault) → result ≡ Err (agent_fault.Health why) → TakesLine honest running host number bytes (Err (fault_status why)) now middle
    health-line why failed = record {
      run = λ h every set h0 prefix start going number_is.
          absurd (subst (λ (r : Result Said AgentFault). RefusedBy (reason every going.read) r) failed (refused-by h every set h0 start going.read going.made going.at));
      quiet = unwritten;
      statuses = fault-takers why;
      counts =
          ended-counts host middle (fault_status why) (record {
            tells = lined-tell (fault_status why ≡ TellFault) (apart (fault_status why) TellFault (fault-inside why) refl);
            disk = lined-disk (fault_status why ≡ DiskFault) (λ e. absurd (apart (fault_status why) DiskFault (fault-inside why) refl e)) (λ disk. absurd (no-health (sym failed ∙ disk)));
          });
      others = lined-others;
      bound = lined-runs;
    }
      where
        no-health : untaken (agent_fault.Health why) ≡ untaken agent_fault.DiskFault → ⊥
        no-health e = cc

    -- an agent of use did not take it, which is no refusal: the disk failed, or memory ran out
    pub failed-line : running.agent.fault ≡ None → (why : AgentFault) → result ≡ Err why → ((fault : BlockFault) → why ≡ agent_fault.Refused fault → ⊥) → TakesLine honest running host number bytes (Err (agent_status why)) now middle
    failed-line going why failed unrefused = by why refl
      where
        no-disk : untaken agent_fault.Memory ≡ untaken agent_fault.DiskFault → ⊥
        no-disk e = cc

        spent : (cause : Why) → running.agent.fault ≡ Some cause → ⊥
        spent cause is = cc

        by : (f : AgentFault) → why ≡ f → TakesLine honest running host number bytes (Err (agent_status f)) now middle
        by (agent_fault.Refused fault) e = absurd (unrefused fault e)
        by (agent_fault.Health refused) e = health-line refused (failed ∙ ap untaken e)
        by agent_fault.DiskFault e =
            let is : result ≡ Err agent_fault.DiskFault = failed ∙ ap untaken e in
            torn-line DiskFault refl tt (λ e. cc) (λ _. is) (λ _. refl) (λ ended ending text. lined.cause.failed is)
        by (agent_fault.Reopen cause) e = absurd (spent cause (subst (λ (r : Result Said AgentFault). Reopens running.agent.fault r) (failed ∙ ap untaken e) lined.reopens))
        by agent_fault.Memory e = torn-line Memory refl tt (λ e. cc) (λ e. cc) (λ disk. absurd (no-disk (sym (failed ∙ ap untaken e) ∙ disk))) (λ ended ending text. tt)

    -- it was taken, and nothing is told of it
    pub quiet-line : (reply : Said) → result ≡ Ok reply → ((every : ℕ) (set : Settings) (h0 : List Beat) (read : List Line) → (is_disable said ≡ false) × (told_of every set h0 read said ≡ [])) → TakesLine honest running host number bytes (Ok tt) now middle
    quiet-line reply ok quiet = record {
      run = λ h every set h0 prefix start going number_is.
          let read = going.read in
          let made = going.made in
          let silent = quiet every set h0 read in
          record {
            read = said ∷ read;
            made = made ++ told_of every set h0 read said;
            has = read-next (run_rules every set h0) prefix read made going.has bytes said short (judged h every set h0 start read made going.at reply ok) silent.0;
            at = subst (λ (t : List ℕ). RunsAt middle.past now every set h0 start (said ∷ read) t) (sym (ap (λ (l : List ℕ). made ++ l) silent.1 ∙ append-nil made)) (taken h every set h0 start read made going.at reply ok);
          };
      quiet = unwritten;
      statuses = tt;
      counts = going-counts host middle (lined-ok reply ok);
      others = lined-others;
      bound = lined-runs;
    }

    -- it ends the text
    pub last-line : (reply : Said) → result ≡ Ok reply → is_disable said ≡ true → TakesLine honest running host number bytes (Err Done) now middle
    last-line reply ok ends = record {
      run = λ h every set h0 prefix start going number_is ended text next more whole.
          let read = going.read in
          let made = going.made in
          let judge = judged h every set h0 start read made going.at reply ok in
          let reads = read-over (run_rules every set h0) prefix read made going.has text bytes next more said ended whole short judge ends in
          whole-stop middle.past now every set h0 start (said ∷ read) made (taken h every set h0 start read made going.at reply ok) ended text ⊥ (TellRose host middle) (DiskRose host middle) Done (λ e. cc) (λ e. cc)
          (ap all_told reads ∙ append-nil (made ++ []) ∙ append-nil made)
          (ap (history_at every h0) (says-over (run_rules every set h0) prefix read made going.has text bytes next more said whole short judge ends) ∙ sym (disable-same every h0 read said ends))
          (ap (λ (r : Reading Refusal). r.ending) reads);
      quiet = unwritten;
      statuses = tt;
      counts = ended-counts host middle Done (counts-none host middle (Done ≡ TellFault) (Done ≡ DiskFault) (λ e. cc) (λ e. cc) (lined-ok reply ok));
      others = lined-others;
      bound = lined-runs;
    }

    -- it is refused
    pub block-line : (fault : BlockFault) → result ≡ Err (agent_fault.Refused fault) → (status : Status) (host' : Seen)
        → TellsRefusal status honest number (refusal.Block fault) middle.past host'.past (Rose middle.tell_faults host'.tell_faults)
        → HasCause middle.tell_faults host'.tell_faults (status ≡ TellFault) → host'.disk_faults ≡ middle.disk_faults → TakesLine honest running host number bytes (Err status) now host'
    block-line fault err status host' telling cause stays =
        let left = subst (λ (r : Result Said AgentFault). IfErr r (λ (f : AgentFault). LeavesAll f → (agent ≡ running.agent) × (middle ≡ host))) err lined.unchanged tt in
        let same : middle ≡ host = left.1 in
        refused-line now left.0 status host' (refusal.Block fault)
        (λ h every set h0 start read made at. judged-refused every h0 read bytes said is fault
        (sym (reason-is h every set h0 start read made at) ∙ subst (λ (r : Result Said AgentFault). RefusedBy (reason every read) r) err (refused-by h every set h0 start read made at)))
        (subst (λ (s : Seen). TellsRefusal status honest number (refusal.Block fault) s.past host'.past (Rose s.tell_faults host'.tell_faults)) same telling)
        (subst (λ (s : Seen). HasCause s.tell_faults host'.tell_faults (status ≡ TellFault)) same cause) (stays ∙ ap (λ (s : Seen). s.disk_faults) same)

    -- something is told of it
    module _ (reply : Said) (ok : result ≡ Ok reply) (goes : is_disable said ≡ false) (next : List ℕ)
        (tells : honest → (every : ℕ) (set : Settings) (h0 : List Beat) (start : List Event) (read : List Line) (made : List ℕ) → RunsAt host.past running every set h0 start read made
        → RunsAt middle.past now every set h0 start (said ∷ read) made → IsToldOf every set h0 read said next) where
      told-ok : (host' : Seen) → (honest → host'.past ≡ Told next ∷ middle.past) → Counts middle host' (went_on ≡ ended_so TellFault) (went_on ≡ ended_so DiskFault) → TakesLine honest running host number bytes (Ok tt) now host'
      told-ok host' telling counts = record {
        run = λ h every set h0 prefix start going number_is.
            let read = going.read in
            let made = going.made in
            let at = taken h every set h0 start read made going.at reply ok in
            let of = tells h every set h0 start read made going.at at in
            record {
              read = said ∷ read;
              made = made ++ told_of every set h0 read said;
              has = read-next (run_rules every set h0) prefix read made going.has bytes said short (judged h every set h0 start read made going.at reply ok) goes;
              at = subst (λ (t : List ℕ). RunsAt host'.past now every set h0 start (said ∷ read) (made ++ t)) of.is
                  (text-told middle.past now every set h0 start (said ∷ read) made at next of.acked host'.past (telling h) of.closed);
            };
        quiet = λ h every set h0 prefix start going text after_next more whole none.
            written-by h every set h0 prefix start going text after_next more whole none host' (subst (LeavesFiles middle.past) (sym (telling h)) (one-told middle.past next));
        statuses = tt;
        counts = both-counts host middle host' (went_on ≡ ended_so TellFault) (went_on ≡ ended_so DiskFault) (lined-ok reply ok) counts;
        others = λ h file other. ap (of file) (telling h) ∙ lined-others h file other;
        bound = λ h every set h0 prefix start going. runs-both honest host middle host' running.agent agent agent (lined-runs h every set h0 prefix start going) (runs-told honest middle host' agent next telling);
      }

      told-err : (status : Status) (host' : Seen) → IsCutShort status honest next middle.past host'.past (Rose middle.tell_faults host'.tell_faults)
          → Counts middle host' (ended_so status ≡ ended_so TellFault) (ended_so status ≡ ended_so DiskFault) → TakesLine honest running host number bytes (Err status) now host'
      told-err status host' cut counts =
          let cut' : IsCutShort status honest next middle.past host'.past (TellRose host host') = subst (λ (n : ℕ). IsCutShort status honest next middle.past host'.past (Rose n host'.tell_faults)) lined.tells cut in
          record {
            run = λ h every set h0 prefix start going number_is ended text after_next more whole.
                let read = going.read in
                let made = going.made in
                let at = taken h every set h0 start read made going.at reply ok in
                let is_of = tells h every set h0 start read made going.at at in
                let has = read-next (run_rules every set h0) prefix read made going.has bytes said short (judged h every set h0 start read made going.at reply ok) goes in
                let whole' = with-next h every set h0 start read made going.at prefix going.has text after_next more whole in
                let behind = output-behind every set h0 (prefix ++ bytes ∷ []) (said ∷ read) (made ++ told_of every set h0 read said) has ended text after_next more whole' in
                cut-stop middle.past now every set h0 start (said ∷ read) made at ended text ⊥ (TellRose host host') (DiskRose host host') status honest next host'.past h cut' is_of.acked is_of.some
                (extends-text every h0 set (prefix ++ bytes ∷ []) (said ∷ read) (made ++ told_of every set h0 read said) has text after_next more whole')
                (subst (λ (t : List ℕ). Behind (made ++ t) (run_output every set h0 ended text)) (sym is_of.is) behind);
            quiet = λ h every set h0 prefix start going text after_next more whole none.
                written-by h every set h0 prefix start going text after_next more whole none host' (cut-leaves status honest next middle.past host'.past (TellRose host host') cut' h);
            statuses = cut-takers status honest next middle.past host'.past (TellRose host host') cut';
            counts = both-counts host middle host' (ended_so status ≡ ended_so TellFault) (ended_so status ≡ ended_so DiskFault) (lined-ok reply ok) counts;
            others = λ h file other. at_end (cut-leaves status honest next middle.past host'.past (TellRose host host') cut' h) file ∙ lined-others h file other;
            bound = λ h every set h0 prefix start going.
                runs-both honest host middle host' running.agent agent agent (lined-runs h every set h0 prefix start going) (cut-runs honest middle host' agent status next (TellRose host host') cut');
          }

      pub told-line : (answered : Result (Unit {0}) Status) (host' : Seen) → OnOk answered (honest → host'.past ≡ Told next ∷ middle.past)
          → IfErr answered (λ (status : Status). IsCutShort status honest next middle.past host'.past (Rose middle.tell_faults host'.tell_faults))
          → HasCause middle.tell_faults host'.tell_faults (IsErrOf answered TellFault) → host'.disk_faults ≡ middle.disk_faults → TakesLine honest running host number bytes answered now host'
      told-line (Ok tt) host' done torn cause same =
          told-ok host' done (told-counts middle host' (went_on ≡ ended_so TellFault) (went_on ≡ ended_so DiskFault) cause same (λ e. cc))
      told-line (Err status) host' done torn cause same =
          told-err status host' torn
          (told-counts middle host' (ended_so status ≡ ended_so TellFault) (ended_so status ≡ ended_so DiskFault) cause same
          (λ e. cut-stored status honest next middle.past host'.past (Rose middle.tell_faults host'.tell_faults) torn (ended-as status DiskFault e)))

    -- its beat is stored
    module _ (moment : ℕ) (said-is : said ≡ line.Moment moment) (reply : Reply) (ok : result ≡ Ok (Stored reply)) (reply-count : reply.count ≡ agent.count) where
      stored-told : honest → (every : ℕ) (set : Settings) (h0 : List Beat) (start : List Event) (read : List Line) (made : List ℕ) → RunsAt host.past running every set h0 start read made
          → RunsAt middle.past now every set h0 start (said ∷ read) made → IsToldOf every set h0 read said (reply_text reply)
      stored-told h every set h0 start read made before after =
          let whole = history_at every h0 (said ∷ read) in
          let closed : List Beat = history_at every h0 (line.Moment moment ∷ read) in
          let same : closed ≡ whole = ap (λ (l : Line). history_at every h0 (l ∷ read)) (sym said-is) in
          let one-more : length whole ≡ length (history_at every h0 read) + 1 = ap length (sym same) ∙ omega arith in
          let tells : TellsEvents set (history_with (history_at every h0 read) every read said) said (Stored reply) =
          subst (λ (r : Result Said AgentFault). IfOk r (λ (s : Said). honest → (set : Settings) (h : List Beat) (every : ℕ) (past : List Line) → IsAgentOf host.past running.agent set h → IsFeedOf running.feed every past
          → TellsEvents set (history_with h every past said) said s)) ok lined.events h set (history_at every h0 read) every read before.agent before.feed in
          let of-moment : TellsEvents set closed (line.Moment moment) (Stored reply) = subst (λ (l : Line). TellsEvents set (history_with (history_at every h0 read) every read l) l (Stored reply)) said-is tells in
          let reply-is : reply ≡ record { count = of-moment.0; events = events_at set closed } = stored-count reply (record { count = of-moment.0; events = events_at set closed }) of-moment.1 in
          let told-is : reply ≡ record { count = agent.count; events = events_at set closed } =
          reply-is ∙ ap (λ (n : ℕ). record { count = n; events = events_at set closed }) (sym (ap (λ (r : Reply). r.count) reply-is) ∙ reply-count) in
          let kept = were_kept set whole after.agent.holds.stored after.agent.holds.are in
          let are : AreBeatsOf closed kept.beats = subst (λ (g : List Beat). AreBeatsOf g kept.beats) (sym same) kept.are in
          let beat-is = collected moment (beat every read) in
          let before-is = history_at every h0 read in
          record {
            is = ap reply_text told-is
                ∙ ap (λ (n : ℕ). reply_text (record { count = n; events = events_at set closed })) (after.agent.count ∙ ap counted one-more) ∙ sym (ap (told_of every set h0 read) said-is);
            acked = subst (IsAckedUpTo (length whole)) (sym (ap reply_text told-is))
                (acked-told (length whole) agent.count set beat-is before-is kept.beats are (omega (arith, after.agent.count)) (omega (arith, after.agent.count)));
            closed = ap (λ (r : Reply). rest (reply_text r)) told-is ∙ closed-told (length whole) agent.count set beat-is before-is kept.beats are;
            some = stored-some reply;
          }

      pub stored-line : (answered : Result (Unit {0}) Status) (host' : Seen) → OnOk answered (honest → host'.past ≡ Told (reply_text reply) ∷ middle.past)
          → IfErr answered (λ (status : Status). IsCutShort status honest (reply_text reply) middle.past host'.past (Rose middle.tell_faults host'.tell_faults))
          → HasCause middle.tell_faults host'.tell_faults (IsErrOf answered TellFault) → host'.disk_faults ≡ middle.disk_faults → TakesLine honest running host number bytes answered now host'
      stored-line = told-line (Stored reply) ok (ap is_disable said-is) (reply_text reply) stored-told

    -- it is a question, whose answer is told
    module _ (asked : List ℕ) (said-is : said ≡ line.Query asked) (answer : List ℕ) (ok : result ≡ Ok (Table answer)) where
      answer-told : honest → (every : ℕ) (set : Settings) (h0 : List Beat) (start : List Event) (read : List Line) (made : List ℕ) → RunsAt host.past running every set h0 start read made → IsToldOf every set h0 read said answer
      answer-told h every set h0 start read made at =
          let now = history_at every h0 read in
          let kept = were_kept set now at.agent.holds.stored at.agent.holds.are in
          let beats = kept.beats in
          let are = kept.are in
          let answered : Answers set now said (Table answer) =
          subst (λ (r : Result Said AgentFault). IfOk r (λ (s : Said). (set : Settings) (h : List Beat) → IsAgentOf host.past running.agent set h → Answers set h said s)) ok lined.answered set now at.agent in
          let is : answer ≡ reply_of set now asked = table-same answer (reply_of set now asked) (subst (λ (l : Line). Answers set now l (Table answer)) said-is answered) in
          let same : length (history_at every h0 (said ∷ read)) ≡ length now = ap (λ (l : Line). length (history_at every h0 (l ∷ read))) said-is in
          record {
            is = is ∙ sym (ap (told_of every set h0 read) said-is);
            acked = subst (λ (n : ℕ). IsAckedUpTo n answer) (sym same) (subst (IsAckedUpTo (length now)) (sym is) (acked-reply (length now) set now beats are asked));
            closed = ap rest is ∙ closed-reply set now beats are asked;
            some = λ none. reply-some set now beats are asked (sym is ∙ none);
          }

      pub answer-line : (shown : List ℕ) → shown ≡ answer → (answered : Result (Unit {0}) Status) (host' : Seen) → OnOk answered (honest → host'.past ≡ Told shown ∷ middle.past)
          → IfErr answered (λ (status : Status). IsCutShort status honest shown middle.past host'.past (Rose middle.tell_faults host'.tell_faults))
          → HasCause middle.tell_faults host'.tell_faults (IsErrOf answered TellFault) → host'.disk_faults ≡ middle.disk_faults → TakesLine honest running host number bytes answered now host'
      answer-line shown same =
          told-line (Table answer) ok (ap is_disable said-is) shown
          (λ h every set h0 start read made before after. subst (IsToldOf every set h0 read said) (sym same) (answer-told h every set h0 start read made before))

-- ---- what the agent said of a line
pub nothing-said : (count : ℕ) (said : Line) → IsSaid count said Nothing → (every : ℕ) (set : Settings) (h0 : List Beat) (read : List Line) → (is_disable said ≡ false) × (told_of every set h0 read said ≡ [])
nothing-said count (line.Moment moment) same every set h0 read = absurd (apart same.0 same.1)
  where
    apart : (events : List AlarmEvent) → Nothing ≡ Stored (record { count = count; events = events }) → ⊥
    apart events e = cc
nothing-said count (line.Query text) same every set h0 read = absurd (apart same.0 same.1)
  where
    apart : (reply : List ℕ) → Nothing ≡ Table reply → ⊥
    apart reply e = cc
nothing-said count line.Disable same every set h0 read = absurd (apart same)
  where
    apart : Nothing ≡ Disabled → ⊥
    apart e = cc
nothing-said count said same every set h0 read = (refl, refl)

pub disabled-said : (count : ℕ) (said : Line) → IsSaid count said Disabled → is_disable said ≡ true
disabled-said count line.Disable same = refl
disabled-said count (line.Query text) same = absurd (apart same.0 same.1)
  where
    apart : (reply : List ℕ) → Disabled ≡ Table reply → ⊥
    apart reply e = cc
disabled-said count (line.Moment moment) same = absurd (apart same.0 same.1)
  where
    apart : (events : List AlarmEvent) → Disabled ≡ Stored (record { count = count; events = events }) → ⊥
    apart events e = cc
disabled-said count said same = absurd (apart same)
  where
    apart : Disabled ≡ Nothing → ⊥
    apart e = cc

-- the beat of a MOMENT
pub record SaidStored (count : ℕ) (said : Line) (reply : Reply) : Type 0 where
  pub moment : ℕ
  pub is : said ≡ line.Moment moment
  pub reply_count : reply.count ≡ count

pub stored-said : (count : ℕ) (said : Line) (reply : Reply) → IsSaid count said (Stored reply) → SaidStored count said reply
stored-said count (line.Moment moment) reply same = record {
  moment = moment;
  is = refl;
  reply_count = ap (λ (r : Reply). r.count) (stored-count reply (record { count = count; events = same.0 }) same.1);
}
stored-said count (line.Query text) reply same = absurd (apart same.0 same.1)
  where
    apart : (answer : List ℕ) → Stored reply ≡ Table answer → ⊥
    apart answer e = cc
stored-said count line.Disable reply same = absurd (apart same)
  where
    apart : Stored reply ≡ Disabled → ⊥
    apart e = cc
stored-said count said reply same = absurd (apart same)
  where
    apart : Stored reply ≡ Nothing → ⊥
    apart e = cc

-- the text of a question
pub record SaidTable (said : Line) : Type 0 where
  pub asked : List ℕ
  pub is : said ≡ line.Query asked

pub table-said : (count : ℕ) (said : Line) (answer : List ℕ) → IsSaid count said (Table answer) → SaidTable said
table-said count (line.Query asked) answer same = record { asked = asked; is = refl }
table-said count (line.Moment moment) answer same = absurd (apart same.0 same.1)
  where
    apart : (events : List AlarmEvent) → Table answer ≡ Stored (record { count = count; events = events }) → ⊥
    apart events e = cc
table-said count line.Disable answer same = absurd (apart same)
  where
    apart : Table answer ≡ Disabled → ⊥
    apart e = cc
table-said count said answer same = absurd (apart same)
  where
    apart : Table answer ≡ Nothing → ⊥
    apart e = cc

-- ---- the end of the text
module _ (honest : Type 0) (running : Running) (host : Seen) where
  pub long-line : (number : ℕ) (status : Status) (host' : Seen) → TellsRefusal status honest number (refusal.Line line_fault.LineTooLong) host.past host'.past (TellRose host host')
      → HasCause host.tell_faults host'.tell_faults (status ≡ TellFault) → host'.disk_faults ≡ host.disk_faults → Overflows honest running host number status host'
  long-line number status host' telling cause same = record {
    run = λ h every set h0 prefix start going number_is ended text long more whole over.
        refusal-stop host.past running every set h0 start going.read going.made going.at ended text ⊥ (TellRose host host') (DiskRose host host') status honest number (refusal.Line line_fault.LineTooLong) host'.past h telling
        (read-long (run_rules every set h0) prefix going.read going.made going.has text long more ended whole over ∙ ap (λ (n : ℕ). record { told = going.made; ending = RefusedAt n (refusal.Line line_fault.LineTooLong) }) (sym number_is))
        (ap (history_at every h0) (says-long (run_rules every set h0) prefix going.read going.made going.has text long more whole over));
    quiet = refusal-leaves status honest number (refusal.Line line_fault.LineTooLong) host.past host'.past (TellRose host host') telling;
    statuses = refusal-takers status honest number (refusal.Line line_fault.LineTooLong) host.past host'.past (TellRose host host') telling;
    counts = told-counts host host' (status ≡ TellFault) (status ≡ DiskFault) cause same (refusal-stored status honest number (refusal.Line line_fault.LineTooLong) host.past host'.past (TellRose host host') telling);
    others = λ h file other. at_end (refusal-leaves status honest number (refusal.Line line_fault.LineTooLong) host.past host'.past (TellRose host host') telling h) file;
  }

  module _ (count : ℕ) (left : List ℕ) (short : fits left ≡ true) where
    pub end-reached : ((every : ℕ) (past : List Line) → IsFeedOf running.feed every past → is_unfinished every past left ≡ false) → EndsRun honest running host count left Done host
    end-reached finished = record {
      run = λ h every set h0 text start going count_is left_is.
          let fit : fits (rest text) ≡ true = subst (λ (t : List ℕ). fits t ≡ true) left_is short in
          let all : is_unfinished every going.read (rest text) ≡ false = subst (λ (t : List ℕ). is_unfinished every going.read t ≡ false) left_is (finished every going.read going.at.feed) in
          let reads = read-ended (run_rules every set h0) (lines text) going.read going.made going.has text refl fit all in
          whole-stop host.past running every set h0 start going.read going.made going.at true text ⊥ (TellRose host host) (DiskRose host host) Done (λ e. cc) (λ e. cc)
          (ap all_told reads ∙ append-nil (going.made ++ []) ∙ append-nil going.made) (ap (history_at every h0) (says-all (run_rules every set h0) (lines text) going.read going.made going.has text refl))
          (ap (λ (r : Reading Refusal). r.ending) reads);
      quiet = λ h. leaves-nothing host.past;
      statuses = tt;
      counts = same-counts host (Done ≡ TellFault) (Done ≡ DiskFault) (λ e. cc) (λ e. cc);
      others = λ h file other. refl;
    }

    pub end-refused : (fault : BlockFault) → ((every : ℕ) (past : List Line) → IsFeedOf running.feed every past → (is_unfinished every past left ≡ true) × (fault ≡ Unfinished)) → (status : Status) (host' : Seen)
        → TellsRefusal status honest count (refusal.Block fault) host.past host'.past (TellRose host host') → HasCause host.tell_faults host'.tell_faults (status ≡ TellFault) → host'.disk_faults ≡ host.disk_faults
        → EndsRun honest running host count left status host'
    end-refused fault unfinished status host' telling cause same = record {
      run = λ h every set h0 text start going count_is left_is.
          let fit : fits (rest text) ≡ true = subst (λ (t : List ℕ). fits t ≡ true) left_is short in
          let why = unfinished every going.read going.at.feed in
          let open_end : is_unfinished every going.read (rest text) ≡ true = subst (λ (t : List ℕ). is_unfinished every going.read t ≡ true) left_is why.0 in
          refusal-stop host.past running every set h0 start going.read going.made going.at true text ⊥ (TellRose host host') (DiskRose host host') status honest count (refusal.Block fault) host'.past h telling
          (read-unfinished (run_rules every set h0) (lines text) going.read going.made going.has text refl fit open_end
          ∙ (λ i. record { told = going.made; ending = RefusedAt (sym count_is i) (refusal.Block (sym why.1 i)) }))
          (ap (history_at every h0) (says-all (run_rules every set h0) (lines text) going.read going.made going.has text refl));
      quiet = refusal-leaves status honest count (refusal.Block fault) host.past host'.past (TellRose host host') telling;
      statuses = refusal-takers status honest count (refusal.Block fault) host.past host'.past (TellRose host host') telling;
      counts = told-counts host host' (status ≡ TellFault) (status ≡ DiskFault) cause same (refusal-stored status honest count (refusal.Block fault) host.past host'.past (TellRose host host') telling);
      others = λ h file other. at_end (refusal-leaves status honest count (refusal.Block fault) host.past host'.past (TellRose host host') telling h) file;
    }
