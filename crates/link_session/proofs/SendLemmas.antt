-- How a child's session goes on, and ends.
use Rattle.std.proofs.Common.{◌≡◌, ℕ, List, [], ◌∷◌, ◌++◌, Option, None, Result, Ok, Err, IfErr, IsErrOf, refl, sym, ap, subst, ◌∙◌, arith}
use Rattle.line_stream.proofs.RunLemmas.{Takes-none as takes-nothing}
use Rattle.host_model.specs.Cause.{HasCause}
use Rattle.host_model.specs.Link.{Sends}
use Rattle.host_model.specs.Seen.{Seen}
use Rattle.host_model.specs.Source.{Takes}
use Rattle.history.specs.History.{Beat}
use Rattle.link_frames.specs.declared.frame.Frame.{Frame}
use Rattle.link_frames.specs.declared.frame.Frame.TheVariants as frame
use Rattle.link_frames.specs.Frames.{frame_bytes}
use Rattle.link_frames.proofs.StreamLaw.{HandsOut_none}
use Rattle.tier_settings.specs.declared.settings.Settings.{Settings}
use Rattle.store_core.specs.declared.fault.Why.{Why}
use Rattle.agent_core.specs.Agent.{id_of, AgentIsReady, AgentState, IsAgentOf}
use Rattle.agent_core.specs.Copies.{data_of_history}
use Rattle.link_session.specs.declared.fault.PeerFault.{PeerFault}
use Rattle.link_session.specs.declared.fault.SessionFault.{SessionFault}
use Rattle.link_session.specs.declared.fault.SessionFault.TheVariants.{LinkFault, Agent, PeerRefused, Ended, InputLimit, TellFault, Memory}
use Rattle.link_session.specs.declared.flow.Flow.{Flow}
use Rattle.link_session.specs.declared.flow.Flow.TheVariants.{GoesOn}
use Rattle.link_session.specs.declared.incoming.Incoming.{Incoming}
use Rattle.link_session.specs.Child.{child_begins, child_does}
use Rattle.link_session.specs.Exchange.{SessionResult}
use Rattle.link_session.specs.Incoming.{HasGiven}
use Rattle.link_session.specs.Sending.{spent_by, ChildTakes, IsAgents, IsSending, OnlyReads, SendsHistory}
use Rattle.link_session.specs.Session.{result_of, says_all, DoesSo, HearsNoMore, IsEndFor, IsSilentFor, LinkSeen, Says, SaysPrefix, Talks}
use Rattle.link_session.specs.Taking.{ChildEndsAt, EndsOnlyAt, IsEndOver}
use Rattle.link_session.proofs.ChildLemmas.{id-is}
use Rattle.link_session.proofs.ExchangeLemmas.{frame-ends, silence-ends, talks-first, talks-next}
use Rattle.link_session.proofs.HearLemmas.{one-bytes, says-prefix}
use Rattle.link_session.proofs.SendingLemmas.{only-as, only-joined, only-nothing}
use Rattle.link_session.proofs.TakingLemmas.{frame-taken, nothing-taken, silence-taken}

abbrev pub all_well : SessionResult
all_well = Ok tt

-- a session goes on that began so: these frames were given, and the child did with them what it does
pub record IsUnderWay (honest : Type 0) (host : Seen) (agent : AgentState) (link : LinkSeen) (incoming : Incoming) (last : Option ℕ) (host' : Seen) (agent' : AgentState) (link' : LinkSeen) : Type 0 where
  pub frames : List Frame
  pub given : HasGiven incoming link.left link'.left frames
  pub talks : honest → (set : Settings) (h : List Beat) → IsAgentOf host.past agent set h → Talks (child_does set.id (data_of_history set h)) (child_begins set.id) frames last link.sent link'.sent
  pub reads : OnlyReads honest host agent all_well host' agent'
  pub faults : link'.faults ≡ link.faults

-- ---- the result of a session is that of its last frame
spent-alike : (before : Option Why) (fault : SessionFault) → spent_by {T = Flow} before (Err fault) ≡ spent_by {T = Unit {0}} before (Err fault)
spent-alike before LinkFault = refl
spent-alike before (Agent fault) = refl
spent-alike before (PeerRefused fault) = refl
spent-alike before Ended = refl
spent-alike before InputLimit = refl
spent-alike before TellFault = refl
spent-alike before Memory = refl

sends-alike : (result : Result Flow SessionFault) → IfErr result IsSending → IfErr (result_of result) IsSending
sends-alike (Ok flow) is = tt
sends-alike (Err fault) is = is

pub cause-alike : (old new : ℕ) (result : Result Flow SessionFault) → HasCause old new (IsErrOf result LinkFault) → HasCause old new (IsErrOf (result_of result) LinkFault)
cause-alike old new (Ok flow) cause = record { later = cause.later; failed = λ e. cc; stays = λ _. cause.stays (λ e. cc) }
cause-alike old new (Err fault) cause = record { later = cause.later; failed = λ e. cause.failed cc; stays = λ other. cause.stays (λ e. other cc) }

module _ (honest : Type 0) (host : Seen) (agent : AgentState) (host' : Seen) (agent' : AgentState) where
  only-result : (result : Result Flow SessionFault) → OnlyReads honest host agent result host' agent' → OnlyReads honest host agent (result_of result) host' agent'
  only-result (Ok flow) reads = only-as honest host agent host' agent' (Ok flow) all_well (λ e. e) (λ e. e) reads
  only-result (Err fault) reads = record {
    quiet = reads.quiet;
    disk = reads.disk;
    tells = reads.tells;
    same = λ other. reads.same (λ is. other (back fault is));
    fault = reads.fault ∙ spent-alike agent.fault fault;
    reopens = λ cause is. reads.reopens cause cc;
    stays = reads.stays;
    id = reads.id;
    registry = reads.registry;
    ready = reads.ready;
    bound = reads.bound;
  }
    where
      back : (fault : SessionFault) → IsAgents {T = Flow} (Err fault) → IsAgents {T = Unit {0}} (Err fault)
      back LinkFault is = is
      back (Agent fault) is = is
      back (PeerRefused fault) is = is
      back Ended is = is
      back InputLimit is = is
      back TellFault is = is
      back Memory is = is

-- ---- no frame is heard
pub silent-outside : (fault : SessionFault) (broken : Option PeerFault) (taken rest : List ℕ) (left : Option (List ℕ)) → IsSilentFor fault broken taken rest left → IsAgents {T = Unit {0}} (Err fault) → ⊥
silent-outside (Agent fault) broken taken rest left silent is = silent
silent-outside LinkFault broken taken rest left silent is = is
silent-outside (PeerRefused fault) broken taken rest left silent is = is
silent-outside Ended broken taken rest left silent is = is
silent-outside InputLimit broken taken rest left silent is = is
silent-outside TellFault broken taken rest left silent is = is
silent-outside Memory broken taken rest left silent is = is

silent-sends : (fault : SessionFault) (broken : Option PeerFault) (taken rest : List ℕ) (left : Option (List ℕ)) → IsSilentFor fault broken taken rest left → IsSending fault
silent-sends (Agent fault) broken taken rest left silent = absurd silent
silent-sends LinkFault broken taken rest left silent = tt
silent-sends (PeerRefused fault) broken taken rest left silent = tt
silent-sends Ended broken taken rest left silent = tt
silent-sends InputLimit broken taken rest left silent = tt
silent-sends TellFault broken taken rest left silent = silent
silent-sends Memory broken taken rest left silent = tt

module _ (honest : Type 0) (host : Seen) (agent : AgentState) (link : LinkSeen) where
  -- at which frames it may end
  abbrev EndsAt : SessionResult → List Frame → Frame → Type 0
  EndsAt ended before f = ChildEndsAt (id_of agent) ended f

  -- ---- it begins
  pub says-hello : (incoming : Incoming) (link' : LinkSeen) → AgentIsReady honest host.past agent → ((left : Option (List ℕ)) → HasGiven incoming left left []) → Sends link.sent (frame_bytes (frame.Hello (id_of agent))) link'.sent → link'.left ≡ link.left
      → link'.faults ≡ link.faults → IsUnderWay honest host agent link incoming None host agent link'
  says-hello incoming link' ready fresh sends left faults = record {
    frames = [];
    given = subst (λ (l : Option (List ℕ)). HasGiven incoming link.left l []) (sym left) (fresh link.left);
    talks = λ _ set h is_of. talks-first (child_does set.id (data_of_history set h)) (child_begins set.id) link.sent link'.sent refl
        (subst (λ (bytes : List ℕ). Sends link.sent bytes link'.sent) (sym (one-bytes (frame.Hello set.id) ∙ ap (λ (n : ℕ). frame_bytes (frame.Hello n)) (id-is host.past agent set h is_of))) sends);
    reads = only-nothing honest host agent all_well (λ e. e) ready;
    faults = faults;
  }

  pub hello-fails : (fault : SessionFault) (link' : LinkSeen) → AgentIsReady honest host.past agent → Says (frame.Hello (id_of agent)) (Err fault) link.sent link'.sent → link'.left ≡ link.left → HasCause link.faults link'.faults (IsErrOf {T = Unit {0}} (Err fault) LinkFault)
      → SendsHistory honest host agent link (Err fault) host agent link'
  hello-fails fault link' ready said left cause = record {
    exchanges = λ hon set h is_of. record {
      taken = [];
      takes = subst (Takes link.left []) (sym left) (takes-nothing link.left);
      within = omega arith;
      frames = [];
      rest = [];
      cut = HandsOut_none [] [];
      broken = None;
      breaks = tt;
      says = subst (λ (n : ℕ). SaysPrefix (says_all (Err fault)) (frame.Hello n ∷ []) link.sent link'.sent) (sym (id-is host.past agent set h is_of)) (says-prefix (frame.Hello (id_of agent)) (Err fault) link.sent link'.sent said);
      why = unsaid-why fault link.sent link'.sent said;
      in_turn = λ n less. absurd (omega (arith, less));
    };
    reads = only-nothing honest host agent (Err fault) (unsaid-outside fault link.sent link'.sent said) ready;
    faults = unsaid-sends fault link.sent link'.sent said;
    taking = nothing-taken EndsAt link (Err fault) link' left (unsaid-over fault link.sent link'.sent said);
    cause = cause;
  }
    where
      unsaid-why : (fault : SessionFault) (a b : Option (List ℕ)) → Says (frame.Hello (id_of agent)) (Err fault) a b → IsEndFor (Err fault) None [] [] link'.left
      unsaid-why LinkFault a b said = tt
      unsaid-why Memory a b said = tt
      unsaid-why (Agent fault) a b said = absurd said
      unsaid-why (PeerRefused fault) a b said = absurd said
      unsaid-why Ended a b said = absurd said
      unsaid-why InputLimit a b said = absurd said
      unsaid-why TellFault a b said = absurd said

      unsaid-over : (fault : SessionFault) (a b : Option (List ℕ)) → Says (frame.Hello (id_of agent)) (Err fault) a b → IsEndOver EndsAt (Err fault) [] [] [] link'.left
      unsaid-over LinkFault a b said = tt
      unsaid-over Memory a b said = tt
      unsaid-over (Agent fault) a b said = tt
      unsaid-over (PeerRefused fault) a b said = absurd said
      unsaid-over Ended a b said = absurd said
      unsaid-over InputLimit a b said = absurd said
      unsaid-over TellFault a b said = tt

      unsaid-outside : (fault : SessionFault) (a b : Option (List ℕ)) → Says (frame.Hello (id_of agent)) (Err fault) a b → IsAgents {T = Unit {0}} (Err fault) → ⊥
      unsaid-outside (Agent fault) a b said is = said
      unsaid-outside LinkFault a b said is = is
      unsaid-outside (PeerRefused fault) a b said is = is
      unsaid-outside Ended a b said is = is
      unsaid-outside InputLimit a b said is = is
      unsaid-outside TellFault a b said is = is
      unsaid-outside Memory a b said is = is

      unsaid-sends : (fault : SessionFault) (a b : Option (List ℕ)) → Says (frame.Hello (id_of agent)) (Err fault) a b → IsSending fault
      unsaid-sends (Agent fault) a b said = absurd said
      unsaid-sends LinkFault a b said = tt
      unsaid-sends (PeerRefused fault) a b said = tt
      unsaid-sends Ended a b said = tt
      unsaid-sends InputLimit a b said = tt
      unsaid-sends TellFault a b said = said
      unsaid-sends Memory a b said = tt

  module _ (incoming : Incoming) (last : Option ℕ) (host' : Seen) (agent' : AgentState) (between : LinkSeen) (on : IsUnderWay honest host agent link incoming last host' agent' between) where
    -- ---- no frame is heard
    pub hears-nothing : (fault : SessionFault) (link' : LinkSeen) → HearsNoMore fault on.frames link.left between link' → HasCause between.faults link'.faults (IsErrOf {T = Unit {0}} (Err fault) LinkFault) → SendsHistory honest host agent link (Err fault) host' agent' link'
    hears-nothing fault link' hears cause = record {
      exchanges = λ hon set h is_of. silence-ends (child_does set.id (data_of_history set h)) (child_begins set.id) link on.frames last between.sent (on.talks hon set h is_of) fault between link' refl hears;
      reads = only-as honest host agent host' agent' all_well (Err fault) (λ e. e) (silent-outside fault hears.broken hears.taken hears.rest link'.left hears.why) on.reads;
      faults = silent-sends fault hears.broken hears.taken hears.rest link'.left hears.why;
      taking = silence-taken EndsAt link fault on.frames between link' hears;
      cause = subst (λ (n : ℕ). HasCause n link'.faults (IsErrOf {T = Unit {0}} (Err fault) LinkFault)) on.faults cause;
    }

    -- ---- a frame is heard
    module _ (f : Frame) (incoming' : Incoming) (heard : LinkSeen) (given : HasGiven incoming' link.left heard.left (on.frames ++ f ∷ [])) (same : heard.sent ≡ between.sent) (unfailed : heard.faults ≡ between.faults)
        (result : Result Flow SessionFault) (host'' : Seen) (agent'' : AgentState) (last' : Option ℕ) (link' : LinkSeen)
        (takes : ChildTakes honest host' agent' (λ set h. child_does set.id (data_of_history set h) last f) result host'' agent'' last' heard.sent link'.sent)
        (only : EndsOnlyAt (λ (ended : SessionResult). ChildEndsAt (id_of agent') ended f) result)
        (left : link'.left ≡ heard.left) (cause : HasCause heard.faults link'.faults (IsErrOf result LinkFault)) where
      given-then : HasGiven incoming' link.left link'.left (on.frames ++ f ∷ [])
      given-then = subst (λ (l : Option (List ℕ)). HasGiven incoming' link.left l (on.frames ++ f ∷ [])) (sym left) given

      does-then : honest → (set : Settings) (h : List Beat) → IsAgentOf host.past agent set h → DoesSo (child_does set.id (data_of_history set h) last f) last' result between.sent link'.sent
      does-then hon set h is_of =
          subst (λ (sent : Option (List ℕ)). DoesSo (child_does set.id (data_of_history set h) last f) last' result sent link'.sent) same (takes.does set h (on.reads.same (λ e. e) hon set h is_of))

      cause-then : HasCause link.faults link'.faults (IsErrOf result LinkFault)
      cause-then = subst (λ (n : ℕ). HasCause n link'.faults (IsErrOf result LinkFault)) (unfailed ∙ on.faults) cause

      pub goes-on : result ≡ Ok GoesOn → IsUnderWay honest host agent link incoming' last' host'' agent'' link'
      goes-on is = record {
        frames = on.frames ++ f ∷ [];
        given = given-then;
        talks = λ hon set h is_of. talks-next (child_does set.id (data_of_history set h)) (child_begins set.id) link on.frames last between.sent (on.talks hon set h is_of) f last' result link'.sent (does-then hon set h is_of) is;
        reads = only-as honest host agent host'' agent'' (Ok GoesOn) all_well (λ e. e) (λ e. e)
            (only-joined honest host agent host'' agent'' host' agent' all_well (Ok GoesOn) (λ e. e) on.reads (subst (λ (r : Result Flow SessionFault). OnlyReads honest host' agent' r host'' agent'') is takes.reads));
        faults = cause-then.stays (λ e. cc);
      }

      pub ends-there : (result ≡ Ok GoesOn → ⊥) → SendsHistory honest host agent link (result_of result) host'' agent'' link'
      ends-there over = record {
        exchanges = λ hon set h is_of. frame-ends (child_does set.id (data_of_history set h)) (child_begins set.id) link on.frames last between.sent (on.talks hon set h is_of) f last' result incoming' link' (does-then hon set h is_of) given-then over;
        reads = only-result honest host agent host'' agent'' result (only-joined honest host agent host'' agent'' host' agent' all_well result (λ e. e) on.reads takes.reads);
        faults = sends-alike result takes.faults;
        taking = frame-taken EndsAt link on.frames f incoming' link' given-then result over (subst (λ (id : ℕ). EndsOnlyAt (λ (ended : SessionResult). ChildEndsAt id ended f) result) on.reads.id only);
        cause = cause-alike link.faults link'.faults result cause-then;
      }
