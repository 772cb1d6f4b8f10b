-- How a parent's session goes on, and ends.
use Rattle.std.proofs.Common.{◌≡◌, ℕ, ◌<◌, ◌≤◌, Bool, true, false, true≢false, List, [], ◌∷◌, ◌++◌, length, take, drop, length-append, append-nil, Option, Some, None, IfSome, IsSome, OnOk, Result, Ok, Err, arith, IfErr, IsErrOf, refl, sym, ap, subst, ◌∙◌}
use Rattle.link_frames.proofs.StreamLaw.{all-spelt}
use Rattle.host_model.specs.Cause.{HasCause}
use Rattle.std.specs.List.{flat_map, AllByRecursion}
use Rattle.std.proofs.Math.Seq.{take-append_seam, take-length}
use Rattle.std.proofs.lemmas.List.{take-append-le}
use Rattle.host_model.specs.Link.{Sends, SendsPrefix}
use Rattle.host_model.specs.Moments.{begins, EveryCrash, Throughout}
use Rattle.host_model.specs.Past.{told, Event, IsText, TellsPrefix}
use Rattle.host_model.specs.Seen.{Seen}
use Rattle.history.specs.History.{Beat}
use Rattle.link_frames.specs.declared.frame.Frame.{Frame}
use Rattle.link_frames.specs.Frames.{frame_bytes, HasSpelling}
use Rattle.tier_settings.specs.declared.settings.Settings.{Settings}
use Rattle.store_core.specs.declared.fault.Why.{Why}
use Rattle.agent_core.specs.declared.fault.AgentFault.TheVariants as agent_fault
use Rattle.agent_core.specs.Agent.{AgentIsReady, AgentState, IsAgentOf}
use Rattle.agent_core.specs.Bound.{RunsWithin}
use Rattle.agent_core.proofs.RunLemmas.{runs-both, runs-none}
use Rattle.link_session.specs.declared.fault.PeerFault.{PeerFault}
use Rattle.link_session.specs.declared.fault.SessionFault.{SessionFault}
use Rattle.link_session.specs.declared.fault.SessionFault.TheVariants.{LinkFault, Agent, PeerRefused, Ended, InputLimit, TellFault, Memory}
use Rattle.link_session.specs.declared.flow.Flow.{Flow}
use Rattle.link_session.specs.declared.flow.Flow.TheVariants.{GoesOn}
use Rattle.link_session.specs.declared.incoming.Incoming.{Incoming}
use Rattle.link_session.specs.Exchange.{both, broken_by, exchange, Course, SessionResult}
use Rattle.link_session.specs.Incoming.{waiting, HasGiven}
use Rattle.link_session.specs.Keeps.{no_more, Extends, IsAckedUpTo, Keeps, LeavesFiles}
use Rattle.link_session.specs.Parent.{parent_begins, parent_does, IsToStore, Parent, StoresAtLast}
use Rattle.link_session.specs.Receiving.{is_for_data, is_spent_by, keeps_all, AnswersStored, Copies, CopiesSo, HasGoneOn, HasStored, IsReceiving, OnlyFor, ParentTakes, ReceivesHistory, StoresAt, StoresOnly}
use Rattle.link_session.specs.Sending.{spent_by, IsAgents}
use Rattle.link_session.specs.Session.{result_of, says_all, HearsNoMore, IsSilentFor, LinkSeen, SaysPrefix, Talks}
use Rattle.link_session.specs.Taking.{EndsOnlyAt, ParentEndsAt, ParentEndsBy}
use Rattle.link_session.proofs.AckLemmas.{acked-nothing, acked-since, text-prefix}
use Rattle.link_session.proofs.CopyLemmas.{crashes-copy, same-history, step-extends}
use Rattle.link_session.proofs.ExchangeLemmas.{all-prefix, done-next, frame-ends, silence-ends, talks-first, talks-next}
use Rattle.link_session.proofs.GrowLemmas.{stored-first}
use Rattle.link_session.proofs.LeavesLemmas.{leaves-further, leaves-nothing}
use Rattle.link_session.proofs.LinkLemmas.{all-sends, prefix-sends, sends-nothing}
use Rattle.link_session.proofs.OnlyForLemmas.{has-stores, spent-for}
use Rattle.link_session.proofs.ParentLemmas.{no-cause}
use Rattle.link_session.proofs.SendingLemmas.{spent-none}
use Rattle.link_session.proofs.SendLemmas.{all_well, cause-alike, silent-outside}
use Rattle.link_session.proofs.StoreLemmas.{all-stored, gone-on, stands-all, tells-all}
use Rattle.link_session.proofs.TakingLemmas.{frame-taken, knows-some, not_yet, parent-only, silence-taken, KnowsSince}

-- what a parent with this history has done
abbrev pub done_by : Settings → List Beat → List Frame → Course Parent
done_by set h0 frames = exchange (parent_does set) (parent_begins h0) frames

abbrev pub parent_at : Settings → List Beat → List Frame → Option ℕ → Parent
parent_at set h0 frames peer = record { history = (done_by set h0 frames).now.history; peer = peer }

-- the session of a parent with this history goes on: it has done with these frames what it does
pub record GoesOnWith (set : Settings) (h0 : List Beat) (frames : List Frame) (peer : Option ℕ) (start now : List Event) (agent : AgentState) (sent sent' : Option (List ℕ)) : Type 0 where
  pub talks : Talks (parent_does set) (parent_begins h0) frames (parent_at set h0 frames peer) sent sent'
  pub at : StoresAt now agent set h0 (done_by set h0 frames).now.history start (done_by set h0 frames).told
  pub quiet : (done_by set h0 frames).now.history ≡ h0 → LeavesFiles start now

pub record IsUnderWay (honest : Type 0) (host : Seen) (agent : AgentState) (link : LinkSeen) (incoming : Incoming) (peer : Option ℕ) (host' : Seen) (agent' : AgentState) (link' : LinkSeen) : Type 0 where
  pub frames : List Frame
  pub given : HasGiven incoming link.left link'.left frames
  pub goes : honest → (set : Settings) (h : List Beat) → IsAgentOf host.past agent set h → GoesOnWith set h frames peer host.past host'.past agent' link.sent link'.sent
  pub knows : KnowsSince peer frames
  pub stores : StoresOnly honest host agent all_well host' agent'
  pub bound : RunsWithin honest host agent host' agent'
  pub faults : link'.faults ≡ link.faults

abbrev pub failing_with : SessionFault → SessionResult
failing_with fault = Err fault

same-fault : (fault other : SessionFault) → failing_with fault ≡ failing_with other → fault ≡ other
same-fault fault other is = cc

-- ---- one result behind the other
module _ (honest : Type 0) (host : Seen) (agent : AgentState) where
  pub only-start : AgentIsReady honest host.past agent → StoresOnly honest host agent all_well host agent
  only-start ready = record {
    only_here = λ h file other. refl;
    disk = no-cause host.disk_faults _ (λ e. cc);
    tells = no-cause host.tell_faults _ (λ e. cc);
    fault = refl;
    reopens = λ cause is. cc;
    id = refl;
    ready = ready;
  }

  module _ (middle : Seen) (between : AgentState) (before : StoresOnly honest host agent all_well middle between) where
    disk-same : middle.disk_faults ≡ host.disk_faults
    disk-same = before.disk.stays (λ e. cc)

    tells-same : middle.tell_faults ≡ host.tell_faults
    tells-same = before.tells.stays (λ e. cc)

    pub stores-joined : {T : Type 0} (result : Result T SessionFault) (host' : Seen) (agent' : AgentState) → StoresOnly honest middle between result host' agent' → StoresOnly honest host agent result host' agent'
    stores-joined {T} result host' agent' after = record {
      only_here = λ h file other. after.only_here h file other ∙ before.only_here h file other;
      disk = subst (λ (n : ℕ). HasCause n host'.disk_faults (IsErrOf result (Agent agent_fault.DiskFault))) disk-same after.disk;
      tells = subst (λ (n : ℕ). HasCause n host'.tell_faults (IsErrOf result TellFault)) tells-same after.tells;
      fault = after.fault ∙ ap (λ (f : Option Why). spent_by f result) before.fault;
      reopens = λ cause is. sym before.fault ∙ after.reopens cause is;
      id = after.id ∙ before.id;
      ready = after.ready;
    }

    -- a session that no frame follows
    pub stores-silent : (fault : SessionFault) → (IsAgents {T = Unit {0}} (Err fault) → ⊥) → (fault ≡ TellFault → ⊥) → StoresOnly honest host agent (failing_with fault) middle between
    stores-silent fault apart untold = record {
      only_here = before.only_here;
      disk = subst (λ (n : ℕ). HasCause host.disk_faults n (IsErrOf (failing_with fault) (Agent agent_fault.DiskFault))) (sym disk-same) (no-cause host.disk_faults _ (λ is. apart (subst (λ (r : SessionResult). IsAgents r) (sym is) tt)));
      tells = subst (λ (n : ℕ). HasCause host.tell_faults n (IsErrOf (failing_with fault) TellFault)) (sym tells-same) (no-cause host.tell_faults _ (λ is. untold (same-fault fault TellFault is)));
      fault = before.fault ∙ sym (spent-none agent.fault (failing_with fault) apart);
      reopens = λ cause is. absurd (apart (subst (λ (r : SessionResult). IsAgents r) (sym is) tt));
      id = before.id;
      ready = before.ready;
    }

  -- the result of a session is that of its last frame
  pub stores-result : (result : Result Flow SessionFault) (host' : Seen) (agent' : AgentState) → StoresOnly honest host agent result host' agent' → StoresOnly honest host agent (result_of result) host' agent'
  stores-result result host' agent' stores = record {
    only_here = stores.only_here;
    disk = cause-of host.disk_faults host'.disk_faults (Agent agent_fault.DiskFault) result stores.disk;
    tells = cause-of host.tell_faults host'.tell_faults TellFault result stores.tells;
    fault = stores.fault ∙ spent-of agent.fault result;
    reopens = λ cause is. stores.reopens cause (err-of (Agent (agent_fault.Reopen cause)) result is);
    id = stores.id;
    ready = stores.ready;
  }
    where
      err-of : (fault : SessionFault) (result : Result Flow SessionFault) → IsErrOf (result_of result) fault → IsErrOf result fault
      err-of fault (Ok flow) is = cc
      err-of fault (Err other) is = cc

      err-from : (fault : SessionFault) (result : Result Flow SessionFault) → IsErrOf result fault → IsErrOf (result_of result) fault
      err-from fault (Ok flow) is = cc
      err-from fault (Err other) is = cc

      cause-of : (old new : ℕ) (fault : SessionFault) (result : Result Flow SessionFault) → HasCause old new (IsErrOf result fault) → HasCause old new (IsErrOf (result_of result) fault)
      cause-of old new fault result cause = record { later = cause.later; failed = λ is. cause.failed (err-of fault result is); stays = λ other. cause.stays (λ is. other (err-from fault result is)) }

      spent-of : (before : Option Why) (result : Result Flow SessionFault) → spent_by before result ≡ spent_by before (result_of result)
      spent-of before (Ok flow) = refl
      spent-of before (Err LinkFault) = refl
      spent-of before (Err (Agent fault)) = refl
      spent-of before (Err (PeerRefused fault)) = refl
      spent-of before (Err Ended) = refl
      spent-of before (Err InputLimit) = refl
      spent-of before (Err TellFault) = refl
      spent-of before (Err Memory) = refl

some-all : (broken : Option PeerFault) (n : ℕ) → IfSome broken (λ _. n ≤ n)
some-all None n = tt
some-all (Some fault) n = omega arith

receives-of : (result : Result Flow SessionFault) → IfErr result IsReceiving → IfErr (result_of result) IsReceiving
receives-of (Ok flow) is = tt
receives-of (Err fault) is = is

silent-keeps : (fault : SessionFault) (broken : Option PeerFault) (taken rest : List ℕ) (left : Option (List ℕ)) → IsSilentFor fault broken taken rest left → IsReceiving fault × (fault ≡ TellFault → ⊥) × (is_spent_by (failing_with fault) ≡ false)
silent-keeps (Agent fault) broken taken rest left silent = absurd silent
silent-keeps LinkFault broken taken rest left silent = (tt, (λ e. cc), refl)
silent-keeps (PeerRefused fault) broken taken rest left silent = (tt, (λ e. cc), refl)
silent-keeps Ended broken taken rest left silent = (tt, (λ e. cc), refl)
silent-keeps InputLimit broken taken rest left silent = (tt, (λ e. cc), refl)
silent-keeps TellFault broken taken rest left silent = absurd silent
silent-keeps Memory broken taken rest left silent = (tt, (λ e. cc), refl)

module _ (honest : Type 0) (host : Seen) (agent : AgentState) (link : LinkSeen) where
  -- ---- it begins
  pub waits-first : (incoming : Incoming) → AgentIsReady honest host.past agent → ((left : Option (List ℕ)) → HasGiven incoming left left []) → IsUnderWay honest host agent link incoming None host agent link
  waits-first incoming ready fresh = record {
    frames = [];
    given = fresh link.left;
    goes = λ hon set h is_of. record {
      talks = talks-first (parent_does set) (parent_begins h) link.sent link.sent refl (sends-nothing link.sent);
      at = record {
        since = no_more;
        agent_of = is_of;
        tells = sym (append-nil (told host.past));
        closed = refl;
        acked = acked-nothing (length h);
        crashes = begins (λ disk text images by_then. record {
          stored = h;
          since = no_more;
          within = no_more;
          stands = stands-all host.past agent set h is_of disk images;
          acked = acked-first (length h) host.past text by_then;
        });
      };
      quiet = λ _. leaves-nothing host.past;
    };
    knows = not_yet;
    stores = only-start honest host agent ready;
    bound = runs-none honest host agent;
    faults = refl;
  }
    where
      acked-first : (n : ℕ) (past : List Event) (text : List ℕ) → IsText past text → IsAckedUpTo n (drop (length (told past)) text)
      acked-first n past text by_then =
          let prefix = text-prefix past text by_then in
          acked-since n (told past) [] text prefix.more (prefix.whole ∙ sym (append-nil (told past))) (acked-nothing n)

  module _ (incoming : Incoming) (peer : Option ℕ) (host' : Seen) (agent' : AgentState) (between : LinkSeen) (on : IsUnderWay honest host agent link incoming peer host' agent' between) where
    -- ---- no frame is heard
    pub hears-nothing : (fault : SessionFault) (link' : LinkSeen) → HearsNoMore fault on.frames link.left between link' → HasCause between.faults link'.faults (IsErrOf (failing_with fault) LinkFault) → ReceivesHistory honest host agent link (failing_with fault) host' agent' link'
    hears-nothing fault link' hears cause =
        let keeps = silent-keeps fault hears.broken hears.taken hears.rest link'.left hears.why in
        record {
          copies = λ hon set h is_of.
              let goes = on.goes hon set h is_of in
              record {
                exchanges = silence-ends (parent_does set) (parent_begins h) link on.frames (parent_at set h on.frames peer) between.sent goes.talks fault between link' refl hears;
                heard = record {
                  n = length on.frames;
                  all = some-all hears.broken (length on.frames);
                  says = subst (λ (fs : List Frame). SendsPrefix link.sent (flat_map frame_bytes (broken_by hears.broken (done_by set h fs)).sent) link'.sent) (sym (take-length on.frames))
                      (prefix-sends (says_all (failing_with fault)) (broken_by hears.broken (done_by set h on.frames)).sent link.sent link'.sent
                      (silence-ends (parent_does set) (parent_begins h) link on.frames (parent_at set h on.frames peer) between.sent goes.talks fault between link' refl hears).says);
                  stored = subst (λ (fs : List Frame). HasStored set (done_by set h fs).now.history host.past (done_by set h fs).told host'.past) (sym (take-length on.frames))
                      (all-stored host'.past agent' set h (done_by set h on.frames).now.history host.past (done_by set h on.frames).told goes.at);
                };
                crashes = goes.at.crashes;
                ends = λ _. stands-all host'.past agent' set (done_by set h on.frames).now.history goes.at.agent_of;
                output = tells-all host'.past agent' set h (done_by set h on.frames).now.history host.past (done_by set h on.frames).told goes.at (keeps_all (failing_with fault));
                closed = λ _. goes.at.closed;
                in_turn = λ n less. stored-first set h on.frames n host.past host'.past (all-stored host'.past agent' set h (done_by set h on.frames).now.history host.past (done_by set h on.frames).told goes.at);
                stored_for = λ spent. absurd (true≢false (sym spent ∙ keeps.2));
                told_for = λ is. absurd (keeps.1 (same-fault fault TellFault is));
                quiet = goes.quiet;
                copy = λ floors child rises copy truth. crashes-copy set floors child rises h on.frames host.past host'.past (all-spelt hears.taken hears.rest on.frames hears.cut) truth copy goes.at.crashes;
              };
          agent_is = λ hon set h is_of. gone-on host'.past agent' set h (done_by set h on.frames).now.history (on.goes hon set h is_of).at.since (on.goes hon set h is_of).at.agent_of (keeps_all (failing_with fault));
          stores = stores-silent honest host agent host' agent' on.stores fault (silent-outside fault hears.broken hears.taken hears.rest link'.left hears.why) keeps.1;
          faults = keeps.0;
          taking = silence-taken ParentEndsAt link fault on.frames between link' hears;
          bound = on.bound;
          cause = subst (λ (n : ℕ). HasCause n link'.faults (IsErrOf (failing_with fault) LinkFault)) on.faults cause;
        }

    -- ---- a frame is heard
    module _ (f : Frame) (incoming' : Incoming) (heard : LinkSeen) (given : HasGiven incoming' link.left heard.left (on.frames ++ f ∷ [])) (same : heard.sent ≡ between.sent) (unfailed : heard.faults ≡ between.faults)
        (result : Result Flow SessionFault) (host'' : Seen) (agent'' : AgentState) (peer' : Option ℕ) (link' : LinkSeen)
        (takes : ParentTakes honest host' agent' (λ set h. parent_does set (record { history = h; peer = peer }) f) result host'' agent'' peer' heard.sent link'.sent)
        (only : EndsOnlyAt (λ (ended : SessionResult). ParentEndsBy peer ended f) result) (known : OnOk result (IsSome peer'))
        (left : link'.left ≡ heard.left) (cause : HasCause heard.faults link'.faults (IsErrOf result LinkFault)) where
      given-then : HasGiven incoming' link.left link'.left (on.frames ++ f ∷ [])
      given-then = subst (λ (l : Option (List ℕ)). HasGiven incoming' link.left l (on.frames ++ f ∷ [])) (sym left) given

      cause-then : HasCause link.faults link'.faults (IsErrOf result LinkFault)
      cause-then = subst (λ (n : ℕ). HasCause n link'.faults (IsErrOf result LinkFault)) (unfailed ∙ on.faults) cause

      bound-then : RunsWithin honest host agent host'' agent''
      bound-then = runs-both honest host host' host'' agent agent' agent'' on.bound takes.bound

      module _ (hon : honest) (set : Settings) (h : List Beat) (is_of : IsAgentOf host.past agent set h) where
        abbrev now : Parent
        now = parent_at set h on.frames peer

        abbrev course : Course Parent
        course = parent_does set now f

        abbrev goes : GoesOnWith set h on.frames peer host.past host'.past agent' link.sent between.sent
        goes = on.goes hon set h is_of

        so : CopiesSo set h (done_by set h on.frames).now.history host.past (done_by set h on.frames).told course peer' result agent'' host''.past between.sent link'.sent
        so = subst (λ (sent : Option (List ℕ)). CopiesSo set h (done_by set h on.frames).now.history host.past (done_by set h on.frames).told course peer' result agent'' host''.past sent link'.sent) same
            (takes.does hon set h (done_by set h on.frames).now.history host.past (done_by set h on.frames).told goes.at)

        after-is : done_by set h (on.frames ++ f ∷ []) ≡ both (done_by set h on.frames) course
        after-is = done-next (parent_does set) (parent_begins h) link on.frames now between.sent goes.talks f

        history-is : (done_by set h (on.frames ++ f ∷ [])).now.history ≡ course.now.history
        history-is = ap (λ (c : Course Parent). c.now.history) after-is

        told-is : (done_by set h (on.frames ++ f ∷ [])).told ≡ (done_by set h on.frames).told ++ course.told
        told-is = ap (λ (c : Course Parent). c.told) after-is

        at-then : keeps_all (result_of result) ≡ true → StoresAt host''.past agent'' set h (done_by set h (on.frames ++ f ∷ [])).now.history host.past (done_by set h (on.frames ++ f ∷ [])).told
        at-then all =
            subst (λ (g : List Beat). StoresAt host''.past agent'' set h g host.past (done_by set h (on.frames ++ f ∷ [])).told) (sym history-is)
            (subst (λ (t : List ℕ). StoresAt host''.past agent'' set h course.now.history host.past t) (sym told-is) (so.stored all))

        for-that : OnlyFor (done_by set h on.frames).now.history course (result_of result) host'.past host''.past
        for-that = takes.only_for hon set (done_by set h on.frames).now.history goes.at.agent_of

        -- where nothing is added in all, nothing was before and nothing is at this frame
        quiet-then : (done_by set h (on.frames ++ f ∷ [])).now.history ≡ h → LeavesFiles host.past host''.past
        quiet-then same =
            let begin-is : (done_by set h on.frames).now.history ≡ h =
            sym (same-history h (done_by set h on.frames).now.history goes.at.since (subst (Extends (done_by set h on.frames).now.history) (sym history-is ∙ same) (step-extends set now f))) in
            leaves-further host.past host'.past host''.past (goes.quiet begin-is) (for-that.quiet (sym history-is ∙ same ∙ sym begin-is))

        abbrev stores-last : is_for_data (result_of result) ≡ true → StoresAtLast set h (on.frames ++ f ∷ [])
        stores-last failed = record {
          before = on.frames;
          final = f;
          whole = refl;
          goes_on = goes.talks.goes_on;
          stores = subst (λ (p : Parent). IsToStore p f) (sym goes.talks.now_is) (has-stores set now f (for-that.stores failed));
        }

        goes-then : result ≡ Ok GoesOn → GoesOnWith set h (on.frames ++ f ∷ []) peer' host.past host''.past agent'' link.sent link'.sent
        goes-then is = record {
          talks = subst (λ (g : List Beat). Talks (parent_does set) (parent_begins h) (on.frames ++ f ∷ []) (record { history = g; peer = peer' }) link.sent link'.sent) (sym history-is)
              (talks-next (parent_does set) (parent_begins h) link on.frames now between.sent goes.talks f (record { history = course.now.history; peer = peer' }) result link'.sent so.does is);
          at = at-then (ap (λ (r : Result Flow SessionFault). keeps_all (result_of r)) is);
          quiet = quiet-then;
        }

        -- all frames are answered, or the last is not
        answers : (all : Bool) → keeps_all (result_of result) ≡ all → SaysPrefix (says_all (result_of result)) (done_by set h (on.frames ++ f ∷ [])).sent link.sent link'.sent
            → AnswersStored set h (on.frames ++ f ∷ []) None host.past host''.past link.sent link'.sent
        answers true all says = record {
          n = length (on.frames ++ f ∷ []);
          all = tt;
          says = subst (λ (fs : List Frame). SendsPrefix link.sent (flat_map frame_bytes (done_by set h fs).sent) link'.sent) (sym (take-length (on.frames ++ f ∷ [])))
              (prefix-sends (says_all (result_of result)) (done_by set h (on.frames ++ f ∷ [])).sent link.sent link'.sent says);
          stored = subst (λ (fs : List Frame). HasStored set (done_by set h fs).now.history host.past (done_by set h fs).told host''.past) (sym (take-length (on.frames ++ f ∷ [])))
              (all-stored host''.past agent'' set h (done_by set h (on.frames ++ f ∷ [])).now.history host.past (done_by set h (on.frames ++ f ∷ [])).told (at-then all));
        }
        answers false short says = record {
          n = length on.frames;
          all = tt;
          says = subst (λ (fs : List Frame). SendsPrefix link.sent (flat_map frame_bytes (done_by set h fs).sent) link'.sent) (sym (take-append_seam on.frames (f ∷ [])))
              (all-sends (flat_map frame_bytes (done_by set h on.frames).sent) link.sent link'.sent
              (subst (Sends link.sent (flat_map frame_bytes (done_by set h on.frames).sent)) (sym (so.unsaid short).0) goes.talks.sends));
          stored = subst (λ (fs : List Frame). HasStored set (done_by set h fs).now.history host.past (done_by set h fs).told host''.past) (sym (take-append_seam on.frames (f ∷ []))) (so.unsaid short).1;
        }

        -- all that the frames before it were to store and tell was
        turn-then : (n : ℕ) → n < length (on.frames ++ f ∷ []) → HasStored set (done_by set h (take n (on.frames ++ f ∷ []))).now.history host.past (done_by set h (take n (on.frames ++ f ∷ []))).told host''.past
        turn-then n less = by (keeps_all (result_of result)) refl
          where
            by : (all : Bool) → keeps_all (result_of result) ≡ all → HasStored set (done_by set h (take n (on.frames ++ f ∷ []))).now.history host.past (done_by set h (take n (on.frames ++ f ∷ []))).told host''.past
            by true all =
                stored-first set h (on.frames ++ f ∷ []) n host.past host''.past
                (all-stored host''.past agent'' set h (done_by set h (on.frames ++ f ∷ [])).now.history host.past (done_by set h (on.frames ++ f ∷ [])).told (at-then all))
            by false short =
                subst (λ (fs : List Frame). HasStored set (done_by set h fs).now.history host.past (done_by set h fs).told host''.past) (sym (take-append-le n on.frames (f ∷ []) (omega (arith, less, length-append on.frames (f ∷ [])))))
                (stored-first set h on.frames n host.past host''.past (so.unsaid short).1)

        abbrev copies-then : (result ≡ Ok GoesOn → ⊥) → Copies set h (result_of result) host.past host''.past link link'
        copies-then over = record {
          exchanges = frame-ends (parent_does set) (parent_begins h) link on.frames now between.sent goes.talks f (record { history = course.now.history; peer = peer' }) result incoming' link' so.does given-then over;
          heard = answers (keeps_all (result_of result)) refl
              (frame-ends (parent_does set) (parent_begins h) link on.frames now between.sent goes.talks f (record { history = course.now.history; peer = peer' }) result incoming' link' so.does given-then over).says;
          crashes = subst (λ (g : List Beat). Throughout (EveryCrash (Keeps set h g (told host.past))) host.past host''.past) (sym history-is) so.crashes;
          ends = λ all. stands-all host''.past agent'' set (done_by set h (on.frames ++ f ∷ [])).now.history (at-then all).agent_of;
          output = subst (λ (t : List ℕ). TellsPrefix (keeps_all (result_of result)) t host.past host''.past) (sym told-is) so.output;
          closed = λ all. (at-then all).closed;
          in_turn = turn-then;
          stored_for = λ spent. record { at = stores-last (spent-for (result_of result) spent); tells = for-that.silent spent ∙ goes.at.tells };
          told_for = λ is. stores-last (ap is_for_data is);
          quiet = quiet-then;
          copy = λ floors child rises copy truth.
              crashes-copy set floors child rises h (on.frames ++ f ∷ []) host.past host''.past (all-prefix (on.frames ++ f ∷ []) (waiting incoming') (subst (AllByRecursion HasSpelling) (sym given-then.cut.handed) given-then.cut.frames)) truth copy
              (subst (λ (g : List Beat). Throughout (EveryCrash (Keeps set h g (told host.past))) host.past host''.past) (sym history-is) so.crashes);
        }

      pub goes-on : result ≡ Ok GoesOn → IsUnderWay honest host agent link incoming' peer' host'' agent'' link'
      goes-on is = record {
        frames = on.frames ++ f ∷ [];
        given = given-then;
        goes = λ hon set h is_of. goes-then hon set h is_of is;
        knows = knows-some peer' on.frames f (subst (λ (r : Result Flow SessionFault). OnOk r (IsSome peer')) is known);
        stores = subst (λ (r : Result Flow SessionFault). StoresOnly honest host agent (result_of r) host'' agent'') is
            (stores-result honest host agent result host'' agent'' (stores-joined honest host agent host' agent' on.stores result host'' agent'' takes.stores));
        bound = bound-then;
        faults = cause-then.stays (λ e. cc);
      }

      pub ends-there : (result ≡ Ok GoesOn → ⊥) → ReceivesHistory honest host agent link (result_of result) host'' agent'' link'
      ends-there over = record {
        copies = λ hon set h is_of. copies-then hon set h is_of over;
        agent_is = λ hon set h is_of.
            subst (λ (g : List Beat). HasGoneOn (keeps_all (result_of result)) host''.past agent'' set h g) (sym (history-is hon set h is_of)) (so hon set h is_of).goes_on;
        stores = stores-result honest host agent result host'' agent'' (stores-joined honest host agent host' agent' on.stores result host'' agent'' takes.stores);
        faults = receives-of result takes.faults;
        taking = frame-taken ParentEndsAt link on.frames f incoming' link' given-then result over (parent-only peer on.frames on.knows f result only);
        bound = bound-then;
        cause = cause-alike link.faults link'.faults result cause-then;
      }

-- the frame that was given last has a spelling
pub last-spelt : (incoming : Incoming) (left left' : Option (List ℕ)) (frames : List Frame) (f : Frame) → HasGiven incoming left left' (frames ++ f ∷ []) → HasSpelling f
last-spelt incoming left left' frames f given = among frames (waiting incoming) (subst (AllByRecursion HasSpelling) (sym given.cut.handed) given.cut.frames)
  where
    among : (fs gs : List Frame) → AllByRecursion HasSpelling ((fs ++ f ∷ []) ++ gs) → HasSpelling f
    among [] gs all = all.0
    among (g ∷ fs) gs all = among fs gs all.1
