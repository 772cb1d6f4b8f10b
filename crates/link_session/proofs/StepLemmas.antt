-- What an end does at a frame.
use Rattle.std.proofs.Common.{◌≡◌, ℕ, Bool, true, false, List, [], ◌∷◌, Option, Some, Result, Ok, Err, IfErr, OnOk, refl, sym, ap, subst, ◌∙◌}
use Rattle.std.specs.List.{flat_map}
use Rattle.link_frames.specs.declared.frame.Frame.{Frame}
use Rattle.link_frames.specs.declared.frame.Frame.TheVariants as frame
use Rattle.link_frames.specs.Frames.{frame_bytes}
use Rattle.link_session.specs.declared.fault.PeerFault.{PeerFault}
use Rattle.link_session.specs.declared.fault.SessionFault.{SessionFault}
use Rattle.link_session.specs.declared.fault.SessionFault.TheVariants.{LinkFault, Agent, PeerRefused, Ended, InputLimit, TellFault, Memory}
use Rattle.link_session.specs.declared.flow.Flow.{Flow}
use Rattle.link_session.specs.Exchange.{Course}
use Rattle.link_session.specs.Receiving.{keeps_all}
use Rattle.link_session.specs.Session.{says_all, result_of, ClosesSo, DoesSo, IsRefusing, Leaves, SaysPrefix, SaysThen}
use Rattle.link_session.proofs.HearLemmas.{said-one, torn-one, untold-one}
use Rattle.link_session.proofs.LinkLemmas.{sends-nothing, silent-prefix}

module _ {S : Type 0} (course : Course S) (now : S) where
  -- a frame is said
  pub said-does : (f : Frame) (flow : Flow) (result : Result Flow SessionFault) (a b : Option (List ℕ)) → course.sent ≡ f ∷ [] → ClosesSo (Ok flow) course.ended → course.now ≡ now → SaysThen f flow result a b → DoesSo course now result a b
  said-does f flow (Ok became) a b one closes is said = record {
    says = subst (λ (fs : List Frame). SaysPrefix true fs a b) (sym one) (said-one true f a b said.1);
    closes = subst (λ (g : Flow). ClosesSo (Ok g) course.ended) (sym said.0) closes;
    now_is = is;
  }
  said-does f flow (Err LinkFault) a b one closes is said = record { says = subst (λ (fs : List Frame). SaysPrefix false fs a b) (sym one) (torn-one f a b said); closes = tt; now_is = tt }
  said-does f flow (Err Memory) a b one closes is said = record { says = subst (λ (fs : List Frame). SaysPrefix false fs a b) (sym one) (untold-one f a b said); closes = tt; now_is = tt }
  said-does f flow (Err TellFault) a b one closes is said = absurd said
  said-does f flow (Err Ended) a b one closes is said = absurd said
  said-does f flow (Err InputLimit) a b one closes is said = absurd said
  said-does f flow (Err (PeerRefused fault)) a b one closes is said = absurd said
  said-does f flow (Err (Agent fault)) a b one closes is said = absurd said

  -- the other end is refused
  pub leaves-does : (reason : ℕ) (fault : PeerFault) (ended : SessionFault) (a b : Option (List ℕ)) → course.sent ≡ frame.Bye reason ∷ [] → course.ended ≡ Some (Err (PeerRefused fault)) → Leaves reason fault ended a b → DoesSo course now (Err ended) a b
  leaves-does reason fault (PeerRefused other) a b one closes left = record {
    says = subst (λ (fs : List Frame). SaysPrefix true fs a b) (sym one) (said-one true (frame.Bye reason) a b left.1);
    closes = closes ∙ ap (λ (why : PeerFault). Some (Err (PeerRefused why))) (sym left.0);
    now_is = tt;
  }
  leaves-does reason fault LinkFault a b one closes left = record { says = subst (λ (fs : List Frame). SaysPrefix false fs a b) (sym one) (torn-one (frame.Bye reason) a b left); closes = tt; now_is = tt }
  leaves-does reason fault Memory a b one closes left = record { says = subst (λ (fs : List Frame). SaysPrefix false fs a b) (sym one) (untold-one (frame.Bye reason) a b left); closes = tt; now_is = tt }
  leaves-does reason fault TellFault a b one closes left = absurd left
  leaves-does reason fault Ended a b one closes left = absurd left
  leaves-does reason fault InputLimit a b one closes left = absurd left
  leaves-does reason fault (Agent other) a b one closes left = absurd left

  -- nothing is said
  pub silent-does : (result : Result Flow SessionFault) (a : Option (List ℕ)) → course.sent ≡ [] → ClosesSo result course.ended → OnOk result (course.now ≡ now) → DoesSo course now result a a
  silent-does result a none closes is = record { says = subst (λ (fs : List Frame). SaysPrefix (says_all (result_of result)) fs a a) (sym none) (silent-prefix (says_all (result_of result)) a); closes = closes; now_is = is }

  -- something failed before anything was said
  pub failed-does : (fault : SessionFault) (a : Option (List ℕ)) → says_all (Err fault) ≡ false → ClosesSo (Err fault) course.ended → DoesSo course now (Err fault) a a
  failed-does fault a short closes = record {
    says = subst (λ (all : Bool). SaysPrefix all course.sent a a) (sym short) (record { said = []; unsaid = flat_map frame_bytes course.sent; whole = refl; sends = sends-nothing a; complete = λ e. cc });
    closes = closes;
    now_is = tt;
  }

-- nothing was said where not all was stored and told
pub leaves-unsaid : (reason : ℕ) (fault : PeerFault) (ended : SessionFault) (a b : Option (List ℕ)) → Leaves reason fault ended a b → keeps_all (Err ended) ≡ false → b ≡ a
leaves-unsaid reason fault (PeerRefused other) a b left short = cc
leaves-unsaid reason fault LinkFault a b left short = cc
leaves-unsaid reason fault Memory a b left short = left
leaves-unsaid reason fault TellFault a b left short = absurd left
leaves-unsaid reason fault Ended a b left short = absurd left
leaves-unsaid reason fault InputLimit a b left short = absurd left
leaves-unsaid reason fault (Agent other) a b left short = absurd left

pub said-unsaid : (f : Frame) (flow : Flow) (result : Result Flow SessionFault) (a b : Option (List ℕ)) → SaysThen f flow result a b → keeps_all (result_of result) ≡ false → b ≡ a
said-unsaid f flow (Ok became) a b said short = cc
said-unsaid f flow (Err LinkFault) a b said short = cc
said-unsaid f flow (Err Memory) a b said short = said
said-unsaid f flow (Err TellFault) a b said short = absurd said
said-unsaid f flow (Err Ended) a b said short = absurd said
said-unsaid f flow (Err InputLimit) a b said short = absurd said
said-unsaid f flow (Err (PeerRefused fault)) a b said short = absurd said
said-unsaid f flow (Err (Agent fault)) a b said short = absurd said

-- which faults these are
pub leaves-refusing : (reason : ℕ) (fault : PeerFault) (ended : SessionFault) (a b : Option (List ℕ)) → Leaves reason fault ended a b → IsRefusing ended
leaves-refusing reason fault (PeerRefused other) a b left = tt
leaves-refusing reason fault LinkFault a b left = tt
leaves-refusing reason fault Memory a b left = tt
leaves-refusing reason fault TellFault a b left = left
leaves-refusing reason fault Ended a b left = left
leaves-refusing reason fault InputLimit a b left = left
leaves-refusing reason fault (Agent other) a b left = left

pub said-refusing : (f : Frame) (flow : Flow) (result : Result Flow SessionFault) (a b : Option (List ℕ)) → SaysThen f flow result a b → IfErr result IsRefusing
said-refusing f flow (Ok became) a b said = tt
said-refusing f flow (Err LinkFault) a b said = tt
said-refusing f flow (Err Memory) a b said = tt
said-refusing f flow (Err TellFault) a b said = said
said-refusing f flow (Err Ended) a b said = said
said-refusing f flow (Err InputLimit) a b said = said
said-refusing f flow (Err (PeerRefused fault)) a b said = tt
said-refusing f flow (Err (Agent fault)) a b said = said
