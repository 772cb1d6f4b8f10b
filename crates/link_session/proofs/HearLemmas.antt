-- How a session ends where no frame is heard.
use Rattle.std.proofs.Common.{◌≡◌, ℕ, Bool, true, false, List, [], ◌∷◌, take, drop, Option, Some, None, Ok, Err, refl, sym, ap, subst, ◌∙◌, append-nil}
use Rattle.std.specs.List.{flat_map}
use Rattle.std.proofs.lemmas.List.{take-append-drop}
use Rattle.std.proofs.lemmas.List.Concat.{flat_map-cons}
use Rattle.host_model.specs.Link.{Sends, SendsPrefix}
use Rattle.host_model.specs.Source.{Takes}
use Rattle.link_frames.specs.declared.frame.Frame.{Frame}
use Rattle.link_frames.specs.declared.frame.Frame.TheVariants as frame
use Rattle.link_frames.specs.Frames.{bad_frame, frame_bytes}
use Rattle.link_session.specs.declared.fault.PeerFault.{PeerFault}
use Rattle.link_session.specs.declared.fault.PeerFault.TheVariants.{WrongChild, BadFrame, FrameTooLong}
use Rattle.link_session.specs.declared.fault.SessionFault.{SessionFault}
use Rattle.link_session.specs.declared.fault.SessionFault.TheVariants.{LinkFault, Agent, PeerRefused, Ended, InputLimit, TellFault, Memory}
use Rattle.link_session.specs.Incoming.{HasNoMore, IsEndOf}
use Rattle.link_session.specs.Exchange.{SessionResult}
use Rattle.link_session.specs.Session.{says_all, HearsNoMore, IsBrokenBy, IsSilentFor, Leaves, LinkSeen, Says, SaysPrefix}
use Rattle.link_session.proofs.LinkLemmas.{sends-nothing, silent-prefix}

-- ---- one frame is said
pub one-bytes : (f : Frame) → flat_map frame_bytes (f ∷ []) ≡ frame_bytes f
one-bytes f = flat_map-cons frame_bytes f [] ∙ append-nil (frame_bytes f)

pub said-one : (all : Bool) (f : Frame) (sent sent' : Option (List ℕ)) → Sends sent (frame_bytes f) sent' → SaysPrefix all (f ∷ []) sent sent'
said-one all f sent sent' sends = record { said = frame_bytes f; unsaid = []; whole = one-bytes f ∙ sym (append-nil (frame_bytes f)); sends = sends; complete = λ _. refl }

pub torn-one : (f : Frame) (sent sent' : Option (List ℕ)) → SendsPrefix sent (frame_bytes f) sent' → SaysPrefix false (f ∷ []) sent sent'
torn-one f sent sent' (n, sends) = record {
  said = take n (frame_bytes f);
  unsaid = drop n (frame_bytes f);
  whole = one-bytes f ∙ sym (take-append-drop n (frame_bytes f));
  sends = sends;
  complete = λ e. cc;
}

pub untold-one : (f : Frame) (sent sent' : Option (List ℕ)) → sent' ≡ sent → SaysPrefix false (f ∷ []) sent sent'
untold-one f sent sent' same = record {
  said = [];
  unsaid = frame_bytes f;
  whole = one-bytes f;
  sends = subst (λ (s : Option (List ℕ)). Sends sent [] s) (sym same) (sends-nothing sent);
  complete = λ e. cc;
}

-- what was said of a frame
pub says-prefix : (f : Frame) (result : SessionResult) (sent sent' : Option (List ℕ)) → Says f result sent sent' → SaysPrefix (says_all result) (f ∷ []) sent sent'
says-prefix f (Ok done) sent sent' said = said-one true f sent sent' said
says-prefix f (Err LinkFault) sent sent' said = torn-one f sent sent' said
says-prefix f (Err Memory) sent sent' said = untold-one f sent sent' said
says-prefix f (Err TellFault) sent sent' said = absurd said
says-prefix f (Err Ended) sent sent' said = absurd said
says-prefix f (Err InputLimit) sent sent' said = absurd said
says-prefix f (Err (PeerRefused fault)) sent sent' said = absurd said
says-prefix f (Err (Agent fault)) sent sent' said = absurd said

pub leaves-prefix : (reason : ℕ) (fault : PeerFault) (ended : SessionFault) (sent sent' : Option (List ℕ)) → Leaves reason fault ended sent sent' → SaysPrefix (says_all (Err ended)) (frame.Bye reason ∷ []) sent sent'
leaves-prefix reason fault (PeerRefused other) sent sent' left = said-one true (frame.Bye reason) sent sent' left.1
leaves-prefix reason fault LinkFault sent sent' left = torn-one (frame.Bye reason) sent sent' left
leaves-prefix reason fault Memory sent sent' left = untold-one (frame.Bye reason) sent sent' left
leaves-prefix reason fault TellFault sent sent' left = absurd left
leaves-prefix reason fault Ended sent sent' left = absurd left
leaves-prefix reason fault InputLimit sent sent' left = absurd left
leaves-prefix reason fault (Agent other) sent sent' left = absurd left

-- ---- no frame is heard
silent-for : (fault : SessionFault) (left : Option (List ℕ)) (frames : List Frame) (link link' : LinkSeen) → ((why : PeerFault) → fault ≡ PeerRefused why → ⊥) → (more : HasNoMore fault left link'.left frames) → IsSilentFor fault None more.taken more.rest link'.left
silent-for LinkFault left frames link link' other more = tt
silent-for Memory left frames link link' other more = tt
silent-for (PeerRefused why) left frames link link' other more = absurd (other why refl)
silent-for Ended left frames link link' other more = (refl, more.why.0, more.why.1, more.why.2)
silent-for InputLimit left frames link link' other more = (refl, more.why.0, more.why.1)
silent-for TellFault left frames link link' other more = more.why
silent-for (Agent fault) left frames link link' other more = more.why

pub ended-silently : (fault : SessionFault) (left : Option (List ℕ)) (frames : List Frame) (link link' : LinkSeen) → ((why : PeerFault) → fault ≡ PeerRefused why → ⊥) → HasNoMore fault left link'.left frames → link'.sent ≡ link.sent → HearsNoMore fault frames left link link'
ended-silently fault left frames link link' other more same = record {
  taken = more.taken;
  takes = more.takes;
  within = more.within;
  rest = more.rest;
  cut = more.cut;
  broken = None;
  breaks = tt;
  says = subst (λ (s : Option (List ℕ)). SaysPrefix (says_all (Err fault)) [] link.sent s) (sym same) (silent-prefix (says_all (Err fault)) link.sent);
  why = silent-for fault left frames link link' other more;
}

-- what broke the bytes is refused
breaks-so : (why : PeerFault) (taken rest : List ℕ) (left : Option (List ℕ)) → IsEndOf (PeerRefused why) taken rest left → IsBrokenBy (Some why) rest
breaks-so WrongChild taken rest left end = end
breaks-so BadFrame taken rest left end = end
breaks-so FrameTooLong taken rest left end = end

silent-left : (why : PeerFault) (ended : SessionFault) (taken rest : List ℕ) (left sent sent' : Option (List ℕ)) → Leaves bad_frame why ended sent sent' → IsSilentFor ended (Some why) taken rest left
silent-left why LinkFault taken rest left sent sent' leaves = tt
silent-left why Memory taken rest left sent sent' leaves = tt
silent-left why (PeerRefused other) taken rest left sent sent' leaves = ap Some (sym leaves.0)
silent-left why Ended taken rest left sent sent' leaves = absurd leaves
silent-left why InputLimit taken rest left sent sent' leaves = absurd leaves
silent-left why TellFault taken rest left sent sent' leaves = absurd leaves
silent-left why (Agent fault) taken rest left sent sent' leaves = absurd leaves

pub ended-broken : (why : PeerFault) (ended : SessionFault) (left left' : Option (List ℕ)) (frames : List Frame) (link link' : LinkSeen) → HasNoMore (PeerRefused why) left left' frames → link'.left ≡ left' → Leaves bad_frame why ended link.sent link'.sent
    → HearsNoMore ended frames left link link'
ended-broken why ended left left' frames link link' more same leaves = record {
  taken = more.taken;
  takes = subst (Takes left more.taken) (sym same) more.takes;
  within = more.within;
  rest = more.rest;
  cut = more.cut;
  broken = Some why;
  breaks = breaks-so why more.taken more.rest left' more.why;
  says = leaves-prefix bad_frame why ended link.sent link'.sent leaves;
  why = silent-left why ended more.taken more.rest link'.left link.sent link'.sent leaves;
}
