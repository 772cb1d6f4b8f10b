-- What a parent does at each frame.
use Rattle.std.proofs.Common.{◌≡◌, ℕ, Bool, true, false, List, [], ◌++◌, Option, Some, Result, Ok, Err, IfErr, IsErrOf, refl, sym, ap, subst, ◌∙◌, append-nil, arith, if◌then◌else◌}
use Rattle.std.proofs.lemmas.Bool.{eq-eqb, ne_eqb}
use Rattle.host_model.specs.Cause.{HasCause}
use Rattle.host_model.specs.Moments.{EveryCrash, Throughout}
use Rattle.host_model.specs.Past.{told, Event, TellsPrefix}
use Rattle.host_model.specs.Seen.{Seen}
use Rattle.history.specs.History.{Beat, last}
use Rattle.link_frames.specs.declared.frame.Frame.{Frame}
use Rattle.link_frames.specs.declared.frame.Frame.TheVariants as frame
use Rattle.link_frames.specs.Frames.{bad_frame, done, wrong_child}
use Rattle.tier_settings.specs.declared.settings.Settings.{Settings}
use Rattle.agent_core.specs.declared.fault.AgentFault.{AgentFault}
use Rattle.agent_core.specs.declared.fault.AgentFault.TheVariants as agent_fault
use Rattle.agent_core.specs.Agent.{AgentIsReady, AgentState, IsAgentOf}
use Rattle.agent_core.proofs.RunLemmas.{runs-none}
use Rattle.link_session.specs.declared.fault.PeerFault.TheVariants.{BadFrame, WrongChild}
use Rattle.link_session.specs.declared.fault.SessionFault.{SessionFault}
use Rattle.link_session.specs.declared.fault.SessionFault.TheVariants.{LinkFault, Agent, PeerRefused, Ended, InputLimit, TellFault, Memory}
use Rattle.link_session.specs.declared.flow.Flow.{Flow}
use Rattle.link_session.specs.declared.flow.Flow.TheVariants.{GoesOn, Done}
use Rattle.link_session.specs.Exchange.{ends, leaves, refuses, Course}
use Rattle.link_session.specs.Keeps.{Keeps}
use Rattle.link_session.specs.Parent.{asks, copies, copies_other, hears_first, hears_next, waits, Parent}
use Rattle.link_session.specs.Receiving.{keeps_all, CopiesSo, GoesSo, HasGoneOn, IsReceiving, OnlyFor, ParentTakes, StoresAt, StoresOnly}
use Rattle.link_session.specs.Sending.{IsAgents}
use Rattle.link_session.specs.Session.{result_of, DoesSo, IsRefusing, Leaves, SaysThen}
use Rattle.link_session.proofs.LeavesLemmas.{leaves-nothing}
use Rattle.link_session.proofs.OnlyForLemmas.{refusing-spares}
use Rattle.link_session.proofs.SendingLemmas.{spent-none}
use Rattle.link_session.proofs.StepLemmas.{leaves-does, leaves-refusing, leaves-unsaid, said-does, said-unsaid, silent-does}
use Rattle.link_session.proofs.StoreLemmas.{all-stored, gone-on, tells-all}

-- ---- faults
pub refusing-receives : (result : Result Flow SessionFault) → IfErr result IsRefusing → IfErr result IsReceiving
refusing-receives (Ok flow) is = tt
refusing-receives (Err LinkFault) is = tt
refusing-receives (Err (PeerRefused fault)) is = tt
refusing-receives (Err Memory) is = tt
refusing-receives (Err (Agent fault)) is = absurd is
refusing-receives (Err Ended) is = tt
refusing-receives (Err InputLimit) is = tt
refusing-receives (Err TellFault) is = tt

refusing-apart : (result : Result Flow SessionFault) → IfErr result IsRefusing → IsAgents result → ⊥
refusing-apart (Ok flow) is agents = agents
refusing-apart (Err LinkFault) is agents = agents
refusing-apart (Err (PeerRefused fault)) is agents = agents
refusing-apart (Err Memory) is agents = agents
refusing-apart (Err (Agent fault)) is agents = is
refusing-apart (Err Ended) is agents = agents
refusing-apart (Err InputLimit) is agents = agents
refusing-apart (Err TellFault) is agents = agents

agents-own : {T : Type 0} (result : Result T SessionFault) (fault : AgentFault) → IsErrOf result (Agent fault) → IsAgents result
agents-own {T} result fault is = subst (λ (r : Result T SessionFault). IsAgents r) (sym is) tt

told-apart : (result : Result Flow SessionFault) → IfErr result IsRefusing → IsErrOf result TellFault → ⊥
told-apart result refusing is = subst (λ (r : Result Flow SessionFault). IfErr r IsRefusing) is refusing

pub no-cause : (count : ℕ) (Failure : Type 0) → (Failure → ⊥) → HasCause count count Failure
no-cause count Failure none = record { later = omega arith; failed = λ is. absurd (none is); stays = λ _. refl }

-- the history stays, and nothing is told
pub record IsStill (h : List Beat) (course : Course Parent) (peer' : Option ℕ) (result : Result Flow SessionFault) (a b : Option (List ℕ)) : Type 0 where
  pub same : course.now.history ≡ h
  pub silent : course.told ≡ []
  pub does : DoesSo course (record { history = course.now.history; peer = peer' }) result a b
  pub unsaid : keeps_all (result_of result) ≡ false → b ≡ a

-- ---- nothing is asked of the agent
module _ (honest : Type 0) (host : Seen) (agent : AgentState) where
  still-stores : (result : Result Flow SessionFault) → IfErr result IsRefusing → AgentIsReady honest host.past agent → StoresOnly honest host agent result host agent
  still-stores result refusing ready = record {
    only_here = λ h file other. refl;
    disk = no-cause host.disk_faults _ (λ is. refusing-apart result refusing (agents-own result agent_fault.DiskFault is));
    tells = no-cause host.tell_faults _ (told-apart result refusing);
    fault = sym (spent-none agent.fault result (refusing-apart result refusing));
    reopens = λ cause is. absurd (refusing-apart result refusing (agents-own result (agent_fault.Reopen cause) is));
    id = refl;
    ready = ready;
  }

  pub still-copies : (set : Settings) (h0 h : List Beat) (start : List Event) (made : List ℕ) → StoresAt host.past agent set h0 h start made → (course : Course Parent) (peer' : Option ℕ) (result : Result Flow SessionFault) (a b : Option (List ℕ))
      → course.now.history ≡ h → course.told ≡ [] → DoesSo course (record { history = course.now.history; peer = peer' }) result a b → (keeps_all (result_of result) ≡ false → b ≡ a) → CopiesSo set h0 h start made course peer' result agent host.past a b
  still-copies set h0 h start made at course peer' result a b same silent does unsaid =
      let all = made ++ course.told in
      let all-is : all ≡ made = ap (λ (t : List ℕ). made ++ t) silent ∙ append-nil made in
      record {
        does = does;
        crashes = subst (λ (g : List Beat). Throughout (EveryCrash (Keeps set h0 g (told start))) start host.past) (sym same) at.crashes;
        output = subst (λ (t : List ℕ). TellsPrefix (keeps_all (result_of result)) t start host.past) (sym all-is) (tells-all host.past agent set h0 h start made at (keeps_all (result_of result)));
        stored = λ _. subst (λ (t : List ℕ). StoresAt host.past agent set h0 course.now.history start t) (sym all-is) (subst (λ (g : List Beat). StoresAt host.past agent set h0 g start made) (sym same) at);
        unsaid = λ short. (unsaid short, all-stored host.past agent set h0 h start made at);
        goes_on = subst (λ (g : List Beat). HasGoneOn (keeps_all (result_of result)) host.past agent set h0 g) (sym same) (gone-on host.past agent set h0 h at.since at.agent_of (keeps_all (result_of result)));
      }

  still-for : (h : List Beat) (course : Course Parent) (result : Result Flow SessionFault) → IfErr result IsRefusing → OnlyFor h course (result_of result) host.past host.past
  still-for h course result refusing = record {
    stores = λ failed. absurd (refusing-spares result refusing failed);
    silent = λ _. refl;
    quiet = λ _. leaves-nothing host.past;
  }

  pub takes-still : (course : Settings → List Beat → Course Parent) (peer' : Option ℕ) (result : Result Flow SessionFault) (a b : Option (List ℕ)) → AgentIsReady honest host.past agent → IfErr result IsRefusing
      → ((set : Settings) (h : List Beat) → IsAgentOf host.past agent set h → IsStill h (course set h) peer' result a b) → ParentTakes honest host agent course result host agent peer' a b
  takes-still course peer' result a b ready refusing still = record {
    does = λ _ set h0 h start made at. let is = still set h at.agent_of in still-copies set h0 h start made at (course set h) peer' result a b is.same is.silent is.does is.unsaid;
    only_for = λ _ set h is_of. still-for h (course set h) result refusing;
    stores = still-stores result refusing ready;
    faults = refusing-receives result refusing;
    bound = runs-none honest host agent;
  }

  -- it asks
  pub still-asks : (set : Settings) (h : List Beat) (course : Course Parent) (id : ℕ) (result : Result Flow SessionFault) (a b : Option (List ℕ)) → IsAgentOf host.past agent set h → course ≡ asks id h → SaysThen (frame.Ask (record { child = id; last = agent.last })) GoesOn result a b
      → IsStill h course (Some id) result a b
  still-asks set h course id result a b is_of is says = subst (λ (c : Course Parent). IsStill h c (Some id) result a b) (sym is) (record {
    same = refl;
    silent = refl;
    does = said-does (asks id h) (copies id h) (frame.Ask (record { child = id; last = last h })) GoesOn result a b refl refl refl
        (subst (λ (n : ℕ). SaysThen (frame.Ask (record { child = id; last = n })) GoesOn result a b) is_of.last_is says);
    unsaid = said-unsaid (frame.Ask (record { child = id; last = agent.last })) GoesOn result a b says;
  })

-- a frame is refused
pub still-refused : (h : List Beat) (course : Course Parent) (now : Parent) (peer' : Option ℕ) (ended : SessionFault) (a b : Option (List ℕ)) → course ≡ refuses BadFrame now → now.history ≡ h → Leaves bad_frame BadFrame ended a b → IsStill h course peer' (Err ended) a b
still-refused h course now peer' ended a b is same leaves = subst (λ (c : Course Parent). IsStill h c peer' (Err ended) a b) (sym is) (record {
  same = same;
  silent = refl;
  does = leaves-does (refuses BadFrame now) (record { history = now.history; peer = peer' }) bad_frame BadFrame ended a b refl refl leaves;
  unsaid = leaves-unsaid bad_frame BadFrame ended a b leaves;
})

-- another child is told to go
pub still-left : (h : List Beat) (course : Course Parent) (now : Parent) (peer' : Option ℕ) (ended : SessionFault) (a b : Option (List ℕ)) → course ≡ leaves (frame.Bye wrong_child) (Err (PeerRefused WrongChild)) now → now.history ≡ h → Leaves wrong_child WrongChild ended a b
    → IsStill h course peer' (Err ended) a b
still-left h course now peer' ended a b is same left = subst (λ (c : Course Parent). IsStill h c peer' (Err ended) a b) (sym is) (record {
  same = same;
  silent = refl;
  does = leaves-does (leaves (frame.Bye wrong_child) (Err (PeerRefused WrongChild)) now) (record { history = now.history; peer = peer' }) wrong_child WrongChild ended a b refl refl left;
  unsaid = leaves-unsaid wrong_child WrongChild ended a b left;
})

-- ---- the first frame
pub first-refused : (h : List Beat) (f : Frame) → ((id : ℕ) → f ≡ frame.Hello id → ⊥) → hears_first h f ≡ refuses BadFrame (waits h)
first-refused h (frame.Hello id) other = absurd (other id refl)
first-refused h (frame.Ask ask) other = refl
first-refused h (frame.Data message) other = refl
first-refused h (frame.Have had) other = refl
first-refused h (frame.Bye reason) other = refl

pub first-left : (h : List Beat) (f : Frame) (id : ℕ) → f ≡ frame.Hello id → copies_other id h ≡ true → hears_first h f ≡ leaves (frame.Bye wrong_child) (Err (PeerRefused WrongChild)) (waits h)
first-left h f id is other = ap (hears_first h) is ∙ ap (λ (b : Bool). if b then leaves (frame.Bye wrong_child) (Err (PeerRefused WrongChild)) (waits h) else asks id h) other

pub first-asked : (h : List Beat) (f : Frame) (id : ℕ) → f ≡ frame.Hello id → copies_other id h ≡ false → hears_first h f ≡ asks id h
first-asked h f id is this = ap (hears_first h) is ∙ ap (λ (b : Bool). if b then leaves (frame.Bye wrong_child) (Err (PeerRefused WrongChild)) (waits h) else asks id h) this

-- ---- the child goes
pub still-gone : (set : Settings) (id : ℕ) (h : List Beat) (reason : ℕ) (result : Result Flow SessionFault) (a b : Option (List ℕ)) → GoesSo reason result a b → IsStill h (hears_next set id h (frame.Bye reason)) (Some id) result a b
still-gone set id h reason (Ok GoesOn) a b goes = absurd goes
still-gone set id h reason (Ok Done) a b goes =
    subst (λ (c : Course Parent). IsStill h c (Some id) (Ok Done) a b) (sym (ap (λ (t : Bool). if t then ends (Ok tt) (copies id h) else refuses BadFrame (copies id h)) (eq-eqb reason done goes.0)))
    (subst (λ (s : Option (List ℕ)). IsStill h (ends (Ok tt) (copies id h)) (Some id) (Ok Done) a s) (sym goes.1)
    (record { same = refl; silent = refl; does = silent-does (ends (Ok tt) (copies id h)) (copies id h) (Ok Done) a refl refl refl; unsaid = λ e. cc }))
still-gone set id h reason (Err fault) a b goes =
    still-refused h (hears_next set id h (frame.Bye reason)) (copies id h) (Some id) fault a b (ap (λ (t : Bool). if t then ends (Ok tt) (copies id h) else refuses BadFrame (copies id h)) (ne_eqb reason done goes.0)) refl goes.1

pub gone-refusing : (reason : ℕ) (result : Result Flow SessionFault) (a b : Option (List ℕ)) → GoesSo reason result a b → IfErr result IsRefusing
gone-refusing reason (Ok flow) a b goes = tt
gone-refusing reason (Err fault) a b goes = leaves-refusing bad_frame BadFrame fault a b goes.1
