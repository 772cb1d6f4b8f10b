-- What a child does at each frame.
use Rattle.std.proofs.Common.{◌≡◌, ◌<◌, ◌≤◌, ℕ, Bool, List, [], Option, Some, None, Result, Ok, Err, IfErr, refl, sym, ap, subst, ◌∙◌, ◌==◌, nat_lt, if◌then◌else◌}
use Rattle.std.proofs.lemmas.Bool.{eq-eqb, le-ltb, lt-ltb, ne_eqb}
use Rattle.host_model.specs.Past.{Event}
use Rattle.host_model.specs.Seen.{Seen}
use Rattle.history.specs.History.{Beat}
use Rattle.replication.specs.declared.ask.Ask.{Ask}
use Rattle.replication.specs.declared.message.Data.{Data}
use Rattle.link_frames.specs.declared.frame.Frame.{Frame}
use Rattle.link_frames.specs.declared.frame.Frame.TheVariants as frame
use Rattle.link_frames.specs.Frames.{bad_frame, done, wrong_child}
use Rattle.tier_settings.specs.declared.settings.Settings.{Settings}
use Rattle.agent_core.specs.declared.fault.AgentFault.{AgentFault}
use Rattle.agent_core.specs.Agent.{id_of, AgentIsReady, AgentState, IsAgentOf}
use Rattle.agent_core.specs.Calls.{AnswersAsk}
use Rattle.agent_core.specs.Copies.{data_of_history}
use Rattle.agent_core.proofs.RunLemmas.{data-runs}
use Rattle.agent_core.proofs.StoredLemmas.{answers as store-answers}
use Rattle.link_session.specs.declared.fault.PeerFault.TheVariants.{BadFrame, WrongChild}
use Rattle.link_session.specs.declared.fault.SessionFault.{SessionFault}
use Rattle.link_session.specs.declared.fault.SessionFault.TheVariants.{Agent, PeerRefused}
use Rattle.link_session.specs.declared.flow.Flow.{Flow}
use Rattle.link_session.specs.declared.flow.Flow.TheVariants.{GoesOn, Done}
use Rattle.link_session.specs.Child.{answers, hears_ask, hears_bye, hears_have}
use Rattle.link_session.specs.Exchange.{ends, nothing, refuses, Course}
use Rattle.link_session.specs.Sending.{ChildTakes, IsAgents, IsSending}
use Rattle.link_session.specs.Session.{DoesSo, Leaves, SaysThen}
use Rattle.link_session.proofs.SendingLemmas.{agent-fails, only-nothing, reads-badly, reads-well, refusing-outside, refusing-sends}
use Rattle.link_session.proofs.StepLemmas.{leaves-does, leaves-refusing, said-does, said-refusing, silent-does}

-- the settings of an agent have its id
pub id-is : (past : List Event) (agent : AgentState) (set : Settings) (h : List Beat) → IsAgentOf past agent set h → set.id ≡ id_of agent
id-is past agent set h is_of =
    let holds = is_of.holds in
    ap (λ (s : Settings). s.id) (sym (store-answers past agent.store set h holds.stored [] holds.are holds.store_of).settings)

-- ---- what it does, by tests

ask-other : (id : ℕ) (answer : Ask → Option Data) (last : Option ℕ) (ask : Ask) → (ask.child ≡ id → ⊥) → hears_ask id answer last ask ≡ refuses BadFrame last
ask-other id answer last ask other = ap (λ (b : Bool). if b then answers last (answer ask) else refuses BadFrame last) (ne_eqb ask.child id other)

ask-this : (id : ℕ) (answer : Ask → Option Data) (last : Option ℕ) (ask : Ask) → ask.child ≡ id → hears_ask id answer last ask ≡ answers last (answer ask)
ask-this id answer last ask is = ap (λ (b : Bool). if b then answers last (answer ask) else refuses BadFrame last) (eq-eqb ask.child id is)

have-this : (id : ℕ) (answer : Ask → Option Data) (upto had : ℕ) → had ≡ upto → hears_have id answer (Some upto) had ≡ answers (Some upto) (answer (record { child = id; last = had }))
have-this id answer upto had is =
    ap (λ (b : Bool). if b then answers (Some upto) (answer (record { child = id; last = had })) else (if nat_lt had upto then nothing (Some upto) else refuses BadFrame (Some upto))) (eq-eqb had upto is)

have-other : (id : ℕ) (answer : Ask → Option Data) (upto had : ℕ) → (had ≡ upto → ⊥) → hears_have id answer (Some upto) had ≡ (if nat_lt had upto then nothing (Some upto) else refuses BadFrame (Some upto))
have-other id answer upto had other =
    ap (λ (b : Bool). if b then answers (Some upto) (answer (record { child = id; last = had })) else (if nat_lt had upto then nothing (Some upto) else refuses BadFrame (Some upto))) (ne_eqb had upto other)

have-less : (id : ℕ) (answer : Ask → Option Data) (upto had : ℕ) → (had ≡ upto → ⊥) → had < upto → hears_have id answer (Some upto) had ≡ nothing (Some upto)
have-less id answer upto had other less = have-other id answer upto had other ∙ ap (λ (b : Bool). if b then nothing (Some upto) else refuses BadFrame (Some upto)) (lt-ltb had upto less)

have-more : (id : ℕ) (answer : Ask → Option Data) (upto had : ℕ) → (had ≡ upto → ⊥) → upto ≤ had → hears_have id answer (Some upto) had ≡ refuses BadFrame (Some upto)
have-more id answer upto had other more = have-other id answer upto had other ∙ ap (λ (b : Bool). if b then nothing (Some upto) else refuses BadFrame (Some upto)) (le-ltb had upto more)

bye-other : (reason : ℕ) (last : Option ℕ) → (reason ≡ wrong_child → ⊥) → (reason ≡ bad_frame → ⊥) → hears_bye reason last ≡ refuses BadFrame last
bye-other reason last one two =
    ap (λ (b : Bool). if b then ends (Err (PeerRefused WrongChild)) last else (if reason == bad_frame then ends (Err (PeerRefused BadFrame)) last else refuses BadFrame last)) (ne_eqb reason wrong_child one)
    ∙ ap (λ (b : Bool). if b then ends (Err (PeerRefused BadFrame)) last else refuses BadFrame last) (ne_eqb reason bad_frame two)

pub bye-does : (reason : ℕ) (last : Option ℕ) → (reason ≡ wrong_child → ⊥) → (reason ≡ bad_frame → ⊥) → (ended : SessionFault) (a b : Option (List ℕ)) → Leaves bad_frame BadFrame ended a b → DoesSo (hears_bye reason last) last (Err ended) a b
bye-does reason last one two ended a b leaves =
    subst (λ (course : Course (Option ℕ)). DoesSo course last (Err ended) a b) (sym (bye-other reason last one two)) (leaves-does (refuses BadFrame last) last bad_frame BadFrame ended a b refl refl leaves)

module _ (honest : Type 0) (host : Seen) (agent : AgentState) where
  -- nothing is asked of the agent
  pub takes-nothing : (course : Settings → List Beat → Course (Option ℕ)) (last : Option ℕ) (result : Result Flow SessionFault) (a b : Option (List ℕ)) → (IsAgents result → ⊥) → IfErr result IsSending → AgentIsReady honest host.past agent
      → ((set : Settings) (h : List Beat) → IsAgentOf host.past agent set h → DoesSo (course set h) last result a b) → ChildTakes honest host agent course result host agent last a b
  takes-nothing course last result a b other sends ready does = record { does = does; reads = only-nothing honest host agent result other ready; faults = sends }

  -- a frame is refused
  pub takes-refused : (course : Settings → List Beat → Course (Option ℕ)) (last : Option ℕ) (ended : SessionFault) (a b : Option (List ℕ)) → AgentIsReady honest host.past agent → ((set : Settings) (h : List Beat) → IsAgentOf host.past agent set h → course set h ≡ refuses BadFrame last)
      → Leaves bad_frame BadFrame ended a b → ChildTakes honest host agent course (Err ended) host agent last a b
  takes-refused course last ended a b ready is leaves =
      let refusing = leaves-refusing bad_frame BadFrame ended a b leaves in
      takes-nothing course last (Err ended) a b (refusing-outside ended refusing) (refusing-sends ended refusing) ready
      (λ set h is_of. subst (λ (c : Course (Option ℕ)). DoesSo c last (Err ended) a b) (sym (is set h is_of)) (leaves-does (refuses BadFrame last) last bad_frame BadFrame ended a b refl refl leaves))

  module _ (last : Option ℕ) (ask : Ask) (host' : Seen) (agent' : AgentState) where
    abbrev answering : Settings → List Beat → Course (Option ℕ)
    answering set h = answers last (data_of_history set h ask)

    said-outside : (f : Frame) (flow : Flow) (result : Result Flow SessionFault) (a b : Option (List ℕ)) → SaysThen f flow result a b → IsAgents result → ⊥
    said-outside f flow (Ok became) a b said agents = agents
    said-outside f flow (Err fault) a b said agents = refusing-outside fault (said-refusing f flow (Err fault) a b said) agents

    said-sends : (f : Frame) (flow : Flow) (result : Result Flow SessionFault) (a b : Option (List ℕ)) → SaysThen f flow result a b → IfErr result IsSending
    said-sends f flow (Ok became) a b said = tt
    said-sends f flow (Err fault) a b said = refusing-sends fault (said-refusing f flow (Err fault) a b said)

    pub answers-data : (message : Data) (result : Result Flow SessionFault) (a b : Option (List ℕ)) → AnswersAsk honest host agent ask (Ok (Some message)) host' agent' → SaysThen (frame.Data message) GoesOn result a b
        → ChildTakes honest host agent answering result host' agent' (Some message.upto) a b
    answers-data message result a b answered said = record {
      does = λ set h is_of. subst (λ (answer : Option Data). DoesSo (answers last answer) (Some message.upto) result a b) (answered.answered set h is_of)
          (said-does (answers last (Some message)) (Some message.upto) (frame.Data message) GoesOn result a b refl refl refl said);
      reads = reads-well honest host agent host' agent' (Some message) result (said-outside (frame.Data message) GoesOn result a b said) answered.reads
          (data-runs honest host host' agent agent' ask (Ok (Some message)) answered);
      faults = said-sends (frame.Data message) GoesOn result a b said;
    }

    pub answers-none : (result : Result Flow SessionFault) (a b : Option (List ℕ)) → AnswersAsk honest host agent ask (Ok None) host' agent' → SaysThen (frame.Bye done) Done result a b
        → ChildTakes honest host agent answering result host' agent' last a b
    answers-none result a b answered said = record {
      does = λ set h is_of. subst (λ (answer : Option Data). DoesSo (answers last answer) last result a b) (answered.answered set h is_of)
          (said-does (answers last None) last (frame.Bye done) Done result a b refl refl refl said);
      reads = reads-well honest host agent host' agent' None result (said-outside (frame.Bye done) Done result a b said) answered.reads (data-runs honest host host' agent agent' ask (Ok None) answered);
      faults = said-sends (frame.Bye done) Done result a b said;
    }

    pub answers-badly : (fault : AgentFault) (a : Option (List ℕ)) → AnswersAsk honest host agent ask (Err fault) host' agent' → ChildTakes honest host agent answering (Err (Agent fault)) host' agent' last a a
    answers-badly fault a answered = record {
      does = λ set h is_of. agent-fails (answering set h) last host.past agent set h is_of a fault answered.reads.faults answered.reads.reopens;
      reads = reads-badly honest host agent host' agent' fault answered.reads (data-runs honest host host' agent agent' ask (Err fault) answered);
      faults = answered.reads.faults;
    }

  -- it asks the agent where the parent does
  module _ (last : Option ℕ) (host' : Seen) (agent' : AgentState) (last' : Option ℕ) (result : Result Flow SessionFault) (a b : Option (List ℕ)) where
    pub asked-there : (ask : Ask) → ask.child ≡ id_of agent → ChildTakes honest host agent (λ set h. answers last (data_of_history set h ask)) result host' agent' last' a b
        → ChildTakes honest host agent (λ set h. hears_ask set.id (data_of_history set h) last ask) result host' agent' last' a b
    asked-there ask is takes = record {
      does = λ set h is_of. subst (λ (c : Course (Option ℕ)). DoesSo c last' result a b) (sym (ask-this set.id (data_of_history set h) last ask (is ∙ sym (id-is host.past agent set h is_of)))) (takes.does set h is_of);
      reads = takes.reads;
      faults = takes.faults;
    }

    pub had-there : (upto had : ℕ) → last ≡ Some upto → had ≡ upto → ChildTakes honest host agent (λ set h. answers last (data_of_history set h (record { child = id_of agent; last = had }))) result host' agent' last' a b
        → ChildTakes honest host agent (λ set h. hears_have set.id (data_of_history set h) last had) result host' agent' last' a b
    had-there upto had is same takes = record {
      does = λ set h is_of. subst (λ (c : Course (Option ℕ)). DoesSo c last' result a b) (sym (there set h is_of)) (takes.does set h is_of);
      reads = takes.reads;
      faults = takes.faults;
    }
      where
        there : (set : Settings) (h : List Beat) → IsAgentOf host.past agent set h → hears_have set.id (data_of_history set h) last had ≡ answers last (data_of_history set h (record { child = id_of agent; last = had }))
        there set h is_of =
            ap (λ (l : Option ℕ). hears_have set.id (data_of_history set h) l had) is ∙ have-this set.id (data_of_history set h) upto had same
            ∙ ap (λ (l : Option ℕ). answers l (data_of_history set h (record { child = set.id; last = had }))) (sym is)
            ∙ ap (λ (n : ℕ). answers last (data_of_history set h (record { child = n; last = had }))) (id-is host.past agent set h is_of)

  pub asked-elsewhere : (last : Option ℕ) (ask : Ask) → (ask.child ≡ id_of agent → ⊥) → (set : Settings) (h : List Beat) → IsAgentOf host.past agent set h → hears_ask set.id (data_of_history set h) last ask ≡ refuses BadFrame last
  asked-elsewhere last ask other set h is_of = ask-other set.id (data_of_history set h) last ask (λ is. other (is ∙ id-is host.past agent set h is_of))

  pub had-nothing : (last : Option ℕ) (had : ℕ) → last ≡ None → (set : Settings) (h : List Beat) → IsAgentOf host.past agent set h → hears_have set.id (data_of_history set h) last had ≡ refuses BadFrame last
  had-nothing last had is set h is_of = ap (λ (l : Option ℕ). hears_have set.id (data_of_history set h) l had) is ∙ ap (λ (l : Option ℕ). refuses BadFrame l) (sym is)

  pub had-more : (last : Option ℕ) (upto had : ℕ) → last ≡ Some upto → (had ≡ upto → ⊥) → upto ≤ had → (set : Settings) (h : List Beat) → IsAgentOf host.past agent set h → hears_have set.id (data_of_history set h) last had ≡ refuses BadFrame last
  had-more last upto had is other more set h is_of =
      ap (λ (l : Option ℕ). hears_have set.id (data_of_history set h) l had) is ∙ have-more set.id (data_of_history set h) upto had other more ∙ ap (λ (l : Option ℕ). refuses BadFrame l) (sym is)

  pub had-less : (last : Option ℕ) (upto had : ℕ) (a : Option (List ℕ)) → last ≡ Some upto → (had ≡ upto → ⊥) → had < upto → AgentIsReady honest host.past agent
      → ChildTakes honest host agent (λ set h. hears_have set.id (data_of_history set h) last had) (Ok GoesOn) host agent last a a
  had-less last upto had a is other less ready =
      takes-nothing (λ set h. hears_have set.id (data_of_history set h) last had) last (Ok GoesOn) a a (λ agents. agents) tt ready
      (λ set h is_of. subst (λ (c : Course (Option ℕ)). DoesSo c last (Ok GoesOn) a a) (sym (silent set h)) (silent-does (nothing last) last (Ok GoesOn) a refl refl refl))
    where
      silent : (set : Settings) (h : List Beat) → hears_have set.id (data_of_history set h) last had ≡ nothing last
      silent set h = ap (λ (l : Option ℕ). hears_have set.id (data_of_history set h) l had) is ∙ have-less set.id (data_of_history set h) upto had other less ∙ ap (λ (l : Option ℕ). nothing l) (sym is)
