-- What a parent makes of a Data.
use Rattle.std.proofs.Common.{◌≡◌, ◌⊎◌, inl, inr, ℕ, Bool, true, false, List, [], ◌∷◌, ◌++◌, length, take, Option, Some, None, Result, Ok, Err, IfErr, IsErrOf, refl, sym, ap, subst, ◌∙◌, true≢false, arith}
use Rattle.std.proofs.Math.Seq.{take-length}
use Rattle.host_model.specs.declared.file.File.{File}
use Rattle.host_model.specs.Cause.{HasCause}
use Rattle.host_model.specs.Disks.{EveryDisk}
use Rattle.host_model.specs.Moments.{EveryCrash, Throughout}
use Rattle.host_model.specs.Past.{of, told, Event, MayAdd, TellsPrefix, Told}
use Rattle.host_model.specs.Seen.{Seen}
use Rattle.host_model.proofs.MomentLemmas.{at_end}
use Rattle.history.specs.declared.fault.BlockFault.{BlockFault}
use Rattle.history.specs.History.{Beat, child, last, registry_of}
use Rattle.history.specs.Registry.{Registry}
use Rattle.replication.specs.declared.message.Data.{Data}
use Rattle.replication.specs.declared.verdict.Verdict.{Verdict}
use Rattle.replication.specs.declared.verdict.Verdict.TheVariants as verdict
use Rattle.replication.specs.Verdict.{is_stored, verdict_by}
use Rattle.link_frames.specs.DataForm.{IsData}
use Rattle.link_frames.specs.declared.frame.Frame.TheVariants as frame
use Rattle.plugin_text.specs.Lines.{rest}
use Rattle.alarm_events.specs.declared.event.Event.{Event as AlarmEvent}
use Rattle.tier_settings.specs.declared.settings.Settings.{Settings}
use Rattle.store_core.specs.declared.fault.Why.{Why}
use Rattle.store_core.specs.declared.fault.Why.TheVariants as spent_for
use Rattle.store_core.specs.Counts.{counted}
use Rattle.agent_core.specs.declared.fault.AgentFault.{AgentFault}
use Rattle.agent_core.specs.declared.fault.AgentFault.TheVariants as agent_fault
use Rattle.agent_core.specs.declared.left.Role.{Role}
use Rattle.agent_core.specs.declared.reply.Reply.{Reply}
use Rattle.agent_core.specs.Agent.{AgentIsReady, AgentState, IsAgentOf, IsSpentAfter}
use Rattle.agent_core.specs.Calls.{agent_adds, agent_verdict, TakesData}
use Rattle.agent_core.specs.Copying.{added_by, added_to, copy_refusal, events_onto, refusal_by, verdict_of}
use Rattle.agent_core.specs.Faults.{cause_of, fault_after, LeavesAll, RefusedBy, ReopensWith}
use Rattle.agent_core.specs.Kept.{onto}
use Rattle.agent_core.specs.Stands.{StandsForPrefix}
use Rattle.agent_core.specs.Replies.{event_lines, reply_text, stored_line}
use Rattle.agent_core.specs.Roles.{role_of}
use Rattle.agent_core.proofs.KeptLemmas.{agent-kept, child-is}
use Rattle.agent_core.proofs.RunLemmas.{runs-both, take-runs}
use Rattle.agent_core.proofs.Sound.{untaken}
use Rattle.agent_core.proofs.StoredLemmas.{WereKept}
use Rattle.agent_core.proofs.KeptLemmas.{agent-told}
use Rattle.link_session.specs.declared.fault.SessionFault.{SessionFault}
use Rattle.link_session.specs.declared.fault.SessionFault.TheVariants.{LinkFault, Agent, PeerRefused, Ended, InputLimit, TellFault, Memory}
use Rattle.link_session.specs.declared.flow.Flow.{Flow}
use Rattle.link_session.specs.declared.flow.Flow.TheVariants.{GoesOn}
use Rattle.link_session.specs.Exchange.{ends, Course}
use Rattle.link_session.specs.Keeps.{no_more, IsAckedUpTo, Keeps}
use Rattle.link_session.specs.Parent.{copies, stores, stores_unless, takes_by, Parent}
use Rattle.link_session.specs.Receiving.{is_for_data, is_spent_by, keeps_all, CopiesSo, HasGoneOn, HasStored, IsAgentsReceiving, IsCutShort, IsReceiving, OnlyFor, ParentTakes, SaysHave, StoresAt, StoresOnly}
use Rattle.link_session.specs.Sending.{IsAgents}
use Rattle.link_session.specs.Session.{is_refusal, result_of, says_all, ClosesSo, IsAgentEnd, IsRefusing, SaysThen}
use Rattle.link_session.proofs.BoundLemmas.{have-runs}
use Rattle.link_session.proofs.ChildLemmas.{id-is}
use Rattle.link_session.proofs.EventLemmas.{acked-told, closed-told}
use Rattle.link_session.proofs.ExtendsLemmas.{extends-onto}
use Rattle.link_session.proofs.LeavesLemmas.{leaves-nothing}
use Rattle.link_session.proofs.OnlyForLemmas.{added-some, spent-own, stored-is}
use Rattle.link_session.proofs.ParentLemmas.{no-cause, still-copies, takes-still, IsStill}
use Rattle.link_session.proofs.SendingLemmas.{spent-none}
use Rattle.link_session.proofs.ReadyLemmas.{ready-after}
use Rattle.link_session.proofs.StepLemmas.{failed-does, said-does, said-unsaid, silent-does}
use Rattle.link_session.proofs.StoreLemmas.{all-stored, beats-stored, prefix-crashes, gone-on, silent-prefix, still-stored, stored-since, tells-all, text-told, torn-prefix, torn-crashes, torn-stored}

-- ---- what the agent says of it is what its history does
module _ (past : List Event) (agent : AgentState) (set : Settings) (h : List Beat) (is_of : IsAgentOf past agent set h) (message : Data) where
  pub verdict-is : agent_verdict agent message ≡ verdict_of h message
  verdict-is =
      ap (λ (c : Option ℕ). verdict_by c agent.last message.child message.prev) (child-is past agent set h is_of) ∙ ap (λ (n : ℕ). verdict_by (child h) n message.child message.prev) is_of.last_is

  pub adds-is : agent_adds agent message ≡ added_to h message
  adds-is =
      ap (λ (v : Verdict). added_by v agent.registry agent.role message) verdict-is ∙ ap (λ (r : Registry). added_by (verdict_of h message) r agent.role message) is_of.left_by.registry_is
      ∙ ap (λ (r : Role). added_by (verdict_of h message) (registry_of h) r message) is_of.left_by.role_is

  pub refusal-is : refusal_by (agent_verdict agent message) agent.registry agent.role message ≡ refusal_by (verdict_of h message) (registry_of h) (role_of h) message
  refusal-is =
      ap (λ (v : Verdict). refusal_by v agent.registry agent.role message) verdict-is ∙ ap (λ (r : Registry). refusal_by (verdict_of h message) r agent.role message) is_of.left_by.registry_is
      ∙ ap (λ (r : Role). refusal_by (verdict_of h message) (registry_of h) r message) is_of.left_by.role_is

-- ---- what becomes of the history
module _ (set : Settings) (id : ℕ) (h : List Beat) (message : Data) where
  -- with all that is added, where nothing refuses it
  pub history-by : (v : Verdict) → v ≡ verdict_of h message → refusal_by v (registry_of h) (role_of h) message ≡ None → (takes_by set id h message v).now.history ≡ onto h (added_to h message)
  history-by verdict.Stored is free = ap (λ (why : Option BlockFault). (stores_unless set id h message why).now.history) free
  history-by verdict.Old is free = ap (λ (v : Verdict). onto h (added_by v (registry_of h) (role_of h) message)) is
  history-by verdict.Ahead is free = ap (λ (v : Verdict). onto h (added_by v (registry_of h) (role_of h) message)) is
  history-by (verdict.WrongChild kept came) is free = ap (λ (v : Verdict). onto h (added_by v (registry_of h) (role_of h) message)) is

  -- a refusal ends the session
  pub refused-by : (v : Verdict) (why : BlockFault) → refusal_by v (registry_of h) (role_of h) message ≡ Some why → takes_by set id h message v ≡ ends (Err (Agent (agent_fault.Refused why))) (copies id h)
  refused-by verdict.Stored why is = ap (stores_unless set id h message) is
  refused-by verdict.Old why is = cc
  refused-by verdict.Ahead why is = cc
  refused-by (verdict.WrongChild kept came) why is = cc

  -- it is stored
  pub stored-by : (v : Verdict) → v ≡ verdict.Stored → refusal_by v (registry_of h) (role_of h) message ≡ None → takes_by set id h message v ≡ stores set id h (added_to h message)
  stored-by verdict.Stored is free = ap (stores_unless set id h message) free
  stored-by verdict.Old is free = cc
  stored-by verdict.Ahead is free = cc
  stored-by (verdict.WrongChild kept came) is free = cc

abbrev failed : AgentFault → Result Flow SessionFault
failed fault = Err (Agent fault)

module _ (honest : Type 0) (host : Seen) (agent : AgentState) (message : Data) (middle : Seen) (agent' : AgentState) (id : ℕ) where
  abbrev taking : Settings → List Beat → Course Parent
  taking set h = takes_by set id h message (verdict_of h message)

  -- where it is stored and nothing refuses it, what fails and what is told and written is for that
  module _ (form : IsData message) (set : Settings) (h : List Beat) (stored : verdict_of h message ≡ verdict.Stored) (unrefused : refusal_by (verdict_of h message) (registry_of h) (role_of h) message ≡ None) where
    storing-is : taking set h ≡ stores set id h (added_to h message)
    storing-is = stored-by set id h message (verdict_of h message) stored unrefused

    free-of : copy_refusal (registry_of h) (role_of h) message ≡ None
    free-of = sym (ap (λ (v : Verdict). refusal_by v (registry_of h) (role_of h) message) stored) ∙ unrefused

    storing-for : (result : Result Flow SessionFault) (old new : List Event) → (is_spent_by (result_of result) ≡ true → told new ≡ told old) → OnlyFor h (taking set h) (result_of result) old new
    storing-for result old new silent = record {
      stores = λ _. (last (onto h (added_to h message)), ap (λ (c : Course Parent). c.sent) storing-is);
      silent = silent;
      quiet = λ same. absurd (added-some h message stored free-of form (sym (ap (λ (c : Course Parent). c.now.history) storing-is) ∙ same));
    }

  -- ---- the agent failed
  module _ (fault : AgentFault) (takes : TakesData honest host agent message (Err fault) middle agent') where
    agents-receiving : (fault : AgentFault) → ReopensWith agent.fault fault → (agent.fault ≡ None → RefusedBy {T = Verdict × Reply} (refusal_by (agent_verdict agent message) agent.registry agent.role message) (Err fault)) → IsAgentsReceiving fault
    agents-receiving (agent_fault.Refused why) reopens refused = tt
    agents-receiving (agent_fault.Health why) reopens refused = refused reopens
    agents-receiving agent_fault.DiskFault reopens refused = tt
    agents-receiving (agent_fault.Reopen cause) reopens refused = tt
    agents-receiving agent_fault.Memory reopens refused = tt

    inside : (other : AgentFault) → failed fault ≡ failed other → fault ≡ other
    inside other is = cc

    alike : (before : Option Why) → fault_after {T = Verdict × Reply} before (Err fault) ≡ fault_after {T = Unit {0}} before (Err fault)
    alike None = refl
    alike (Some cause) = refl

    badly-stores : StoresOnly honest host agent (failed fault) middle agent'
    badly-stores = record {
      only_here = λ h. (takes.only_here h).others;
      disk = record {
        later = takes.cause.later;
        failed = λ is. takes.cause.failed (ap untaken (inside agent_fault.DiskFault is));
        stays = λ other. takes.cause.stays (λ is. other (within is));
      };
      tells = subst (λ (n : ℕ). HasCause host.tell_faults n (IsErrOf (failed fault) TellFault)) (sym takes.tells) (no-cause host.tell_faults _ (λ e. cc));
      fault = takes.fault ∙ alike agent.fault;
      reopens = λ cause is. subst (ReopensWith agent.fault) (inside (agent_fault.Reopen cause) is) takes.reopens;
      id = takes.id;
      ready = takes.ready;
    }
      where
        within : untaken fault ≡ untaken agent_fault.DiskFault → failed fault ≡ failed agent_fault.DiskFault
        within is = cc

    module _ (hon : honest) (set : Settings) (h0 h : List Beat) (start : List Event) (made : List ℕ) (at : StoresAt host.past agent set h0 h start made) (a : Option (List ℕ)) where
      abbrev CopiesBadly : AgentFault → Type 0
      CopiesBadly fault = CopiesSo set h0 h start made (taking set h) (Some id) (failed fault) agent' middle.past a a

      refused-for : (reason : Option BlockFault) → refusal_by (agent_verdict agent message) agent.registry agent.role message ≡ reason → refusal_by (verdict_of h message) (registry_of h) (role_of h) message ≡ reason
      refused-for reason is = sym (refusal-is host.past agent set h at.agent_of message) ∙ is

      refused-copies : (why : BlockFault) → refusal_by (agent_verdict agent message) agent.registry agent.role message ≡ Some why → agent' ≡ agent → middle ≡ host → CopiesBadly (agent_fault.Refused why)
      refused-copies why is same stays =
          let course-is = refused-by set id h message (verdict_of h message) why (refused-for (Some why) is) in
          let over = ends (Err (Agent (agent_fault.Refused why))) (copies id h) in
          subst (λ (x : AgentState). CopiesSo set h0 h start made (taking set h) (Some id) (failed (agent_fault.Refused why)) x middle.past a a) (sym same)
          (subst (λ (x : Seen). CopiesSo set h0 h start made (taking set h) (Some id) (failed (agent_fault.Refused why)) agent x.past a a) (sym stays)
          (subst (λ (course : Course Parent). CopiesSo set h0 h start made course (Some id) (failed (agent_fault.Refused why)) agent host.past a a) (sym course-is)
          (still-copies honest host agent set h0 h start made at over (Some id) (failed (agent_fault.Refused why)) a a refl refl (silent-does over (copies id h) (failed (agent_fault.Refused why)) a refl refl tt) (λ e. cc))))

      -- the agent has spent itself on these beats
      spent-so : (cause : Why) → agent'.fault ≡ Some cause → EveryDisk (StandsForPrefix set h (agent_adds agent message)) middle.past → IsSpentAfter middle.past agent' set h (agent_adds agent message)
      spent-so cause spent images = record {
        cause = cause;
        spent = spent;
        count = takes.stays.0 ∙ at.agent_of.count;
        last_is = takes.stays.1 ∙ at.agent_of.last_is;
        id = takes.id ∙ sym (id-is host.past agent set h at.agent_of);
        images = images;
      }

      failed-copies : (fault : AgentFault) (cause : Why) → agent'.fault ≡ Some cause → refusal_by (agent_verdict agent message) agent.registry agent.role message ≡ None → is_refusal fault ≡ false → IsAgentEnd fault (taking set h).ended → CopiesBadly fault
      failed-copies fault cause spent free short closes =
          let history = history-by set id h message (verdict_of h message) refl (refused-for None free) ∙ ap (onto h) (sym (adds-is host.past agent set h at.agent_of message)) in
          let moments = takes.any_moment hon set h at.agent_of in
          let silent = (takes.only_here hon).output in
          let adds = agent_adds agent message in
          record {
            does = failed-does (taking set h) (record { history = (taking set h).now.history; peer = Some id }) (Agent fault) a short closes;
            crashes = subst (λ (g : List Beat). Throughout (EveryCrash (Keeps set h0 g (told start))) start middle.past) (sym history) (prefix-crashes host.past agent set h0 h start made at adds middle.past moments silent);
            output = subst (λ (all : Bool). TellsPrefix all (made ++ (taking set h).told) start middle.past) (sym short) (silent-prefix host.past agent set h0 h start made at adds middle.past moments silent (taking set h).told);
            stored = λ all. absurd (true≢false (sym all ∙ short));
            unsaid = λ _. (refl, still-stored host.past agent set h0 h start made at adds middle.past moments silent);
            goes_on = subst (λ (g : List Beat). HasGoneOn (keeps_all (Err (Agent fault))) middle.past agent' set h0 g) (sym history) (record {
              stored = h;
              tried = adds;
              since = at.since;
              within = no_more;
              sound = inr (spent-so cause spent (at_end moments));
              complete = λ all. absurd (true≢false (sym all ∙ short));
            });
          }

      badly-copies : (fault : AgentFault) → RefusedBy {T = Verdict × Reply} (refusal_by (agent_verdict agent message) agent.registry agent.role message) (Err fault) → ReopensWith agent.fault fault
          → (LeavesAll fault → (agent' ≡ agent) × (middle ≡ host)) → agent'.fault ≡ cause_of fault → CopiesBadly fault
      badly-copies (agent_fault.Refused why) refused reopens unchanged spent = let same = unchanged tt in refused-copies why refused same.0 same.1
      badly-copies (agent_fault.Health why) refused reopens unchanged spent = absurd refused
      badly-copies agent_fault.DiskFault refused reopens unchanged spent = failed-copies agent_fault.DiskFault spent_for.Disk spent refused refl tt
      badly-copies (agent_fault.Reopen cause) refused reopens unchanged spent = absurd refused
      badly-copies agent_fault.Memory refused reopens unchanged spent = failed-copies agent_fault.Memory spent_for.Memory spent refused refl tt

    -- what it did was for what the history does with the Data
    module _ (form : IsData message) (hon : honest) (set : Settings) (h : List Beat) (is_of : IsAgentOf host.past agent set h) where
      abbrev ForData : AgentFault → Type 0
      ForData fault = OnlyFor h (taking set h) (result_of (failed fault)) host.past middle.past

      spent-for-data : (fault : AgentFault) → refusal_by (agent_verdict agent message) agent.registry agent.role message ≡ None → is_stored (agent_verdict agent message) ≡ true → ForData fault
      spent-for-data fault free stored =
          storing-for form set h (stored-is (verdict_of h message) (ap is_stored (sym (verdict-is host.past agent set h is_of message)) ∙ stored)) (sym (refusal-is host.past agent set h is_of message) ∙ free)
          (failed fault) host.past middle.past (λ _. (takes.only_here hon).output)

      left-for : (fault : AgentFault) → is_for_data (result_of (failed fault)) ≡ false → middle ≡ host → ForData fault
      left-for fault other same = subst (λ (x : Seen). OnlyFor h (taking set h) (result_of (failed fault)) host.past x.past) (sym same) (record {
        stores = λ is. absurd (true≢false (sym is ∙ other));
        silent = λ _. refl;
        quiet = λ _. leaves-nothing host.past;
      })

      badly-for : (fault : AgentFault) → RefusedBy {T = Verdict × Reply} (refusal_by (agent_verdict agent message) agent.registry agent.role message) (Err fault)
          → ((IsErrOf (untaken fault) agent_fault.DiskFault) ⊎ (IsErrOf (untaken fault) agent_fault.Memory) → is_stored (agent_verdict agent message) ≡ true) → (LeavesAll fault → (agent' ≡ agent) × (middle ≡ host)) → ForData fault
      badly-for (agent_fault.Refused why) refused fails unchanged = left-for (agent_fault.Refused why) refl (unchanged tt).1
      badly-for (agent_fault.Health why) refused fails unchanged = absurd refused
      badly-for agent_fault.DiskFault refused fails unchanged = spent-for-data agent_fault.DiskFault refused (fails (inl refl))
      badly-for (agent_fault.Reopen cause) refused fails unchanged = absurd refused
      badly-for agent_fault.Memory refused fails unchanged = spent-for-data agent_fault.Memory refused (fails (inr refl))

    pub data-badly : IsData message → (a : Option (List ℕ)) → ParentTakes honest host agent taking (failed fault) middle agent' (Some id) a a
    data-badly form a = record {
      does = λ hon set h0 h start made at. badly-copies hon set h0 h start made at a fault (takes.refused at.agent_of.going) takes.reopens takes.unchanged
          (takes.fault ∙ ap (λ (f : Option Why). fault_after {T = Verdict × Reply} f (Err fault)) at.agent_of.going);
      only_for = λ hon set h is_of. badly-for form hon set h is_of fault (takes.refused is_of.going) takes.fails takes.unchanged;
      stores = badly-stores;
      faults = agents-receiving fault takes.reopens takes.refused;
      bound = take-runs honest host middle agent agent' message (Err fault) takes;
    }

  -- ---- it is not stored
  pub data-left : (v : Verdict) (reply : Reply) → TakesData honest host agent message (Ok (v, reply)) middle agent' → is_stored v ≡ false → (result : Result Flow SessionFault) (a b : Option (List ℕ)) → AgentIsReady honest host.past agent → IfErr result IsRefusing
      → (agent' ≡ agent → (set : Settings) (h : List Beat) → IsAgentOf host.past agent set h → IsStill h (takes_by set id h message v) (Some id) result a b) → ParentTakes honest host agent taking result middle agent' (Some id) a b
  data-left v reply takes other result a b ready refusing still =
      let same = takes.left (ap is_stored (sym takes.verdict) ∙ other) in
      subst (λ (x : AgentState). ParentTakes honest host agent taking result middle x (Some id) a b) (sym same.0)
      (subst (λ (x : Seen). ParentTakes honest host agent taking result x agent (Some id) a b) (sym same.1)
      (takes-still honest host agent taking (Some id) result a b ready refusing
      (λ set h is_of. subst (λ (w : Verdict). IsStill h (takes_by set id h message w) (Some id) result a b) (takes.verdict ∙ verdict-is host.past agent set h is_of message) (still same.0 set h is_of))))

  -- ---- it is stored
  module _ (reply : Reply) (takes : TakesData honest host agent message (Ok (verdict.Stored, reply)) middle agent') (result : Result Flow SessionFault) (new : Seen) (a b : Option (List ℕ))
      (says : SaysHave honest (reply_text reply) agent'.last result middle.past new.past a b) where
    have-apart : IsAgents result → ⊥
    have-apart agents = by says
      where
        cut : (fault : SessionFault) → IsCutShort fault honest (reply_text reply) middle.past new.past → IsAgents {T = Flow} (Err fault) → ⊥
        cut fault (inl (is, torn)) own = subst (λ (f : SessionFault). IsAgents {T = Flow} (Err f)) is own
        cut fault (inr (is, same)) own = subst (λ (f : SessionFault). IsAgents {T = Flow} (Err f)) is own

        said : (result : Result Flow SessionFault) → SaysThen (frame.Have agent'.last) GoesOn result a b → IsAgents result → ⊥
        said (Ok flow) one own = own
        said (Err LinkFault) one own = own
        said (Err Memory) one own = own
        said (Err TellFault) one own = own
        said (Err Ended) one own = own
        said (Err InputLimit) one own = own
        said (Err (PeerRefused fault)) one own = own
        said (Err (Agent fault)) one own = one

        by : SaysHave honest (reply_text reply) agent'.last result middle.past new.past a b → ⊥
        by (inl (fault, is, short, same)) = cut fault short (subst (λ (r : Result Flow SessionFault). IsAgents r) is agents)
        by (inr (told, one)) = said result one agents

    have-receives : IfErr result IsReceiving
    have-receives = by result have-apart
      where
        by : (result : Result Flow SessionFault) → (IsAgents result → ⊥) → IfErr result IsReceiving
        by (Ok flow) apart = tt
        by (Err LinkFault) apart = tt
        by (Err Memory) apart = tt
        by (Err TellFault) apart = tt
        by (Err Ended) apart = tt
        by (Err InputLimit) apart = tt
        by (Err (PeerRefused fault)) apart = tt
        by (Err (Agent fault)) apart = absurd (apart tt)

    -- what was told touches no file
    have-leaves : honest → (file : File) → of file new.past ≡ of file middle.past
    have-leaves hon file = by says
      where
        torn : (MayAdd (λ (n : ℕ). Told (take n (reply_text reply))) middle.past new.past) → of file new.past ≡ of file middle.past
        torn (inl same) = ap (of file) same
        torn (inr (n, added)) = ap (of file) added

        by : SaysHave honest (reply_text reply) agent'.last result middle.past new.past a b → of file new.past ≡ of file middle.past
        by (inl (fault, is, inl (tell, may), same)) = torn (may hon)
        by (inl (fault, is, inr (memory, past), same)) = ap (of file) (past hon)
        by (inr (told, one)) = ap (of file) (told hon)

    have-stores : HasCause middle.tell_faults new.tell_faults (IsErrOf result TellFault) → new.disk_faults ≡ middle.disk_faults → StoresOnly honest host agent result new agent'
    have-stores tells disk = record {
      only_here = λ hon file other. have-leaves hon file ∙ (takes.only_here hon).others file other;
      disk = subst (λ (n : ℕ). HasCause host.disk_faults n (IsErrOf result (Agent agent_fault.DiskFault))) (sym (disk ∙ takes.cause.stays (λ e. cc)))
          (no-cause host.disk_faults _ (λ is. have-apart (subst (λ (r : Result Flow SessionFault). IsAgents r) (sym is) tt)));
      tells = subst (λ (n : ℕ). HasCause n new.tell_faults (IsErrOf result TellFault)) takes.tells tells;
      fault = takes.fault ∙ ap (λ (f : Option Why). fault_after {T = Verdict × Reply} f (Ok (verdict.Stored, reply))) takes.reopens ∙ sym takes.reopens ∙ sym (spent-none agent.fault result have-apart);
      reopens = λ cause is. absurd (have-apart (subst (λ (r : Result Flow SessionFault). IsAgents r) (sym is) tt));
      id = takes.id;
      ready = ready-after honest middle.past new.past agent' have-leaves takes.ready;
    }

    module _ (hon : honest) (set : Settings) (h0 h : List Beat) (start : List Event) (made : List ℕ) (at : StoresAt host.past agent set h0 h start made) where
      abbrev more : List Beat
      more = added_to h message

      abbrev course : Course Parent
      course = stores set id h more

      course-is : taking set h ≡ course
      course-is =
          stored-by set id h message (verdict_of h message) (sym (takes.verdict ∙ verdict-is host.past agent set h at.agent_of message))
          (sym (refusal-is host.past agent set h at.agent_of message) ∙ takes.refused at.agent_of.going)

      at-middle : StoresAt middle.past agent' set h0 (onto h more) start made
      at-middle =
          let same = adds-is host.past agent set h at.agent_of message in
          beats-stored host.past agent set h0 h start made at more middle.past
          (subst (λ (bs : List Beat). Throughout (EveryDisk (StandsForPrefix set h bs)) host.past middle.past) same (takes.any_moment hon set h at.agent_of)) (takes.only_here hon).output agent'
          (subst (λ (bs : List Beat). IsAgentOf middle.past agent' set (onto h bs)) same (takes.done hon set h at.agent_of))

      text-is : reply_text reply ≡ course.told
      text-is =
          ap (λ (n : ℕ). stored_line n ++ event_lines reply.events) (takes.number ∙ at-middle.agent_of.count)
          ∙ ap (λ (es : List AlarmEvent). stored_line (counted (length (onto h more))) ++ event_lines es)
          (takes.events hon set h at.agent_of ∙ ap (events_onto set h) (adds-is host.past agent set h at.agent_of message))

      kept : WereKept (onto h more)
      kept = agent-kept middle.past agent' set (onto h more) at-middle.agent_of

      acked : IsAckedUpTo (length (onto h more)) course.told
      acked = acked-told (length (onto h more)) (counted (length (onto h more))) set h more kept.beats kept.are (omega arith) (omega arith)

      whole : rest course.told ≡ []
      whole = closed-told (length (onto h more)) (counted (length (onto h more))) set h more kept.beats kept.are

      abbrev Has : Result Flow SessionFault → List Event → Option (List ℕ) → Type 0
      Has r past sent' = CopiesSo set h0 h start made course (Some id) r agent' past a sent'

      goes-on-with : IsAgentOf new.past agent' set (onto h more) → (r : Result Flow SessionFault) → HasGoneOn (keeps_all (result_of r)) new.past agent' set h0 (onto h more)
      goes-on-with is_of r = gone-on new.past agent' set h0 (onto h more) at-middle.since is_of (keeps_all (result_of r))

      -- a prefix of the text was told
      torn-agent : MayAdd (λ (n : ℕ). Told (take n course.told)) middle.past new.past → IsAgentOf new.past agent' set (onto h more)
      torn-agent (inl same) = subst (λ (p : List Event). IsAgentOf p agent' set (onto h more)) (sym same) at-middle.agent_of
      torn-agent (inr (n, added)) = subst (λ (p : List Event). IsAgentOf p agent' set (onto h more)) (sym added) (agent-told (take n course.told) middle.past agent' set (onto h more) at-middle.agent_of)

      cut-copies : (fault : SessionFault) → says_all (Err fault) ≡ false → keeps_all (Err fault) ≡ false → ClosesSo (Err fault) None → Throughout (EveryCrash (Keeps set h0 (onto h more) (told start))) start new.past
          → TellsPrefix false (made ++ course.told) start new.past → HasStored set (onto h more) start made new.past → IsAgentOf new.past agent' set (onto h more) → Has (Err fault) new.past a
      cut-copies fault short shorter closes crashes output has is_of = record {
        does = failed-does course (copies id (onto h more)) fault a short closes;
        crashes = crashes;
        output = subst (λ (all : Bool). TellsPrefix all (made ++ course.told) start new.past) (sym shorter) output;
        stored = λ all. absurd (true≢false (sym all ∙ shorter));
        unsaid = λ _. (refl, stored-since set h (onto h more) start new.past made (extends-onto h more) has);
        goes_on = goes-on-with is_of (Err fault);
      }

      cut-short : (fault : SessionFault) → IsCutShort fault honest course.told middle.past new.past → Has (Err fault) new.past a
      cut-short fault (inl (is, torn)) =
          subst (λ (f : SessionFault). Has (Err f) new.past a) (sym is)
          (cut-copies TellFault refl refl tt (torn-crashes middle.past agent' set h0 (onto h more) start made at-middle course.told acked new.past (torn hon))
          (torn-prefix middle.past agent' set h0 (onto h more) start made at-middle course.told acked new.past (torn hon))
          (torn-stored middle.past agent' set h0 (onto h more) start made at-middle course.told acked new.past (torn hon)) (torn-agent (torn hon)))
      cut-short fault (inr (is, same)) =
          subst (λ (f : SessionFault). Has (Err f) new.past a) (sym is)
          (cut-copies Memory refl refl tt (subst (λ (p : List Event). Throughout (EveryCrash (Keeps set h0 (onto h more) (told start))) start p) (sym (same hon)) at-middle.crashes)
          (record { said = made; unsaid = course.told; whole = refl; tells = ap told (same hon) ∙ at-middle.tells; complete = λ e. cc })
          (subst (HasStored set (onto h more) start made) (sym (same hon)) (all-stored middle.past agent' set h0 (onto h more) start made at-middle)) (torn-agent (inl (same hon))))

      have-said : (honest → new.past ≡ Told course.told ∷ middle.past) → SaysThen (frame.Have (last (onto h more))) GoesOn result a b → Has result new.past b
      have-said told said =
          let after = text-told middle.past agent' set h0 (onto h more) start made at-middle course.told acked new.past (told hon) whole in
          record {
            does = said-does course (copies id (onto h more)) (frame.Have (last (onto h more))) GoesOn result a b refl refl refl said;
            crashes = after.crashes;
            output = tells-all new.past agent' set h0 (onto h more) start (made ++ course.told) after (keeps_all (result_of result));
            stored = λ _. after;
            unsaid = λ short. (
              said-unsaid (frame.Have (last (onto h more))) GoesOn result a b said short,
              stored-since set h (onto h more) start new.past made (extends-onto h more) (torn-stored middle.past agent' set h0 (onto h more) start made at-middle course.told acked new.past
                  (inr (length course.told, told hon ∙ ap (λ (t : List ℕ). Told t ∷ middle.past) (sym (take-length course.told))))),
            );
            goes_on = goes-on-with after.agent_of result;
          }

      have-copies : SaysHave honest course.told (last (onto h more)) result middle.past new.past a b → Has result new.past b
      have-copies (inl (fault, is, short, same)) = subst (λ (r : Result Flow SessionFault). Has r new.past b) (sym is) (subst (λ (s : Option (List ℕ)). Has (Err fault) new.past s) (sym same) (cut-short fault short))
      have-copies (inr (told, said)) = have-said told said

      stored-copies : CopiesSo set h0 h start made (taking set h) (Some id) result agent' new.past a b
      stored-copies =
          subst (λ (c : Course Parent). CopiesSo set h0 h start made c (Some id) result agent' new.past a b) (sym course-is)
          (have-copies (subst (λ (n : ℕ). SaysHave honest course.told n result middle.past new.past a b) at-middle.agent_of.last_is
          (subst (λ (text : List ℕ). SaysHave honest text agent'.last result middle.past new.past a b) text-is says)))

    have-for : IsData message → (set : Settings) (h : List Beat) → IsAgentOf host.past agent set h → OnlyFor h (taking set h) (result_of result) host.past new.past
    have-for form set h is_of =
        storing-for form set h (sym (takes.verdict ∙ verdict-is host.past agent set h is_of message)) (sym (refusal-is host.past agent set h is_of message) ∙ takes.refused is_of.going)
        result host.past new.past (λ spent. absurd (have-apart (spent-own result spent)))

    pub data-stored : IsData message → HasCause middle.tell_faults new.tell_faults (IsErrOf result TellFault) → new.disk_faults ≡ middle.disk_faults → ParentTakes honest host agent taking result new agent' (Some id) a b
    data-stored form tells disk = record {
      does = λ hon set h0 h start made at. stored-copies hon set h0 h start made at;
      only_for = λ _ set h is_of. have-for form set h is_of;
      stores = have-stores tells disk;
      faults = have-receives;
      bound = runs-both honest host middle new agent agent' agent' (take-runs honest host middle agent agent' message (Ok (verdict.Stored, reply)) takes)
          (have-runs honest middle agent' new (reply_text reply) agent'.last result a b says);
    }
