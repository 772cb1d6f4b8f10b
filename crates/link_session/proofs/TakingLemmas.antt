-- What a session takes of its link, whatever its host tells.
use Rattle.std.proofs.Common.{◌≡◌, inl, inr, ℕ, List, [], ◌∷◌, ◌++◌, Option, Some, None, IsSome, Result, Ok, Err, OnOk, refl, sym, subst, arith, true≢false}
use Rattle.std.specs.List.{flat_map}
use Rattle.host_model.specs.Past.{Event}
use Rattle.host_model.specs.Source.{Takes}
use Rattle.replication.specs.declared.ask.Ask.{Ask}
use Rattle.replication.specs.declared.message.Data.{Data}
use Rattle.link_frames.specs.declared.frame.Frame.{Frame}
use Rattle.link_frames.specs.declared.frame.Frame.TheVariants as frame
use Rattle.link_frames.specs.Frames.{bad_frame, done, frame_bytes}
use Rattle.link_frames.proofs.StreamLaw.{HandsOut_none}
use Rattle.link_session.specs.declared.fault.PeerFault.{PeerFault}
use Rattle.link_session.specs.declared.fault.PeerFault.TheVariants.{BadFrame}
use Rattle.link_session.specs.declared.fault.SessionFault.{SessionFault}
use Rattle.link_session.specs.declared.fault.SessionFault.TheVariants.{LinkFault, Agent, PeerRefused, Ended, InputLimit, TellFault, Memory}
use Rattle.link_session.specs.declared.flow.Flow.{Flow}
use Rattle.link_session.specs.declared.flow.Flow.TheVariants.{GoesOn, Done}
use Rattle.link_session.specs.declared.incoming.Incoming.{Incoming}
use Rattle.link_session.specs.Exchange.{SessionResult}
use Rattle.link_session.specs.Incoming.{waiting, HasGiven}
use Rattle.link_session.specs.Receiving.{GoesSo, IsCutShort, SaysHave}
use Rattle.link_session.specs.Session.{result_of, HearsNoMore, IsBrokenBy, IsSilentFor, Leaves, LinkSeen, SaysThen}
use Rattle.link_session.specs.Taking.{ChildEndsAt, EndsOnlyAt, IsBadToChild, IsEndOver, ParentEndsAt, ParentEndsAtLater, ParentEndsBy, TakesLink}
use Rattle.link_session.proofs.ExchangeLemmas.{prefix-handed}
use Rattle.line_stream.proofs.RunLemmas.{Takes-none as takes-nothing}

-- ---- at a frame
module _ (May : SessionResult → Type 0) where
  -- a frame was said, and the session goes on or is done so
  pub said-only : (f : Frame) (flow : Flow) (result : Result Flow SessionFault) (a b : Option (List ℕ)) → SaysThen f flow result a b → (flow ≡ Done → May (Ok tt)) → EndsOnlyAt May result
  said-only f flow (Ok GoesOn) a b said may = tt
  said-only f flow (Ok Done) a b said may = may (sym said.0)
  said-only f flow (Err LinkFault) a b said may = tt
  said-only f flow (Err Memory) a b said may = tt
  said-only f flow (Err TellFault) a b said may = tt
  said-only f flow (Err Ended) a b said may = said
  said-only f flow (Err InputLimit) a b said may = said
  said-only f flow (Err (PeerRefused fault)) a b said may = absurd said
  said-only f flow (Err (Agent fault)) a b said may = tt

  -- it goes on
  pub said-on : (f : Frame) (result : Result Flow SessionFault) (a b : Option (List ℕ)) → SaysThen f GoesOn result a b → EndsOnlyAt May result
  said-on f result a b said = said-only f GoesOn result a b said (λ e. cc)

  -- the other end is refused
  pub left-only : (reason : ℕ) (fault : PeerFault) (ended : SessionFault) (a b : Option (List ℕ)) → Leaves reason fault ended a b → May (Err (PeerRefused fault)) → EndsOnlyAt May (Err ended)
  left-only reason fault (PeerRefused other) a b left may = subst (λ (why : PeerFault). May (Err (PeerRefused why))) (sym left.0) may
  left-only reason fault LinkFault a b left may = tt
  left-only reason fault Memory a b left may = tt
  left-only reason fault TellFault a b left may = tt
  left-only reason fault Ended a b left may = left
  left-only reason fault InputLimit a b left may = left
  left-only reason fault (Agent other) a b left may = tt

  -- it may be said to end at more results
  pub only-more : (More : SessionResult → Type 0) → ((result : SessionResult) → May result → More result) → (result : Result Flow SessionFault) → EndsOnlyAt May result → EndsOnlyAt More result
  only-more More more (Ok GoesOn) only = tt
  only-more More more (Ok Done) only = more (Ok tt) only
  only-more More more (Err LinkFault) only = tt
  only-more More more (Err Memory) only = tt
  only-more More more (Err TellFault) only = tt
  only-more More more (Err Ended) only = only
  only-more More more (Err InputLimit) only = only
  only-more More more (Err (PeerRefused fault)) only = more (Err (PeerRefused fault)) only
  only-more More more (Err (Agent fault)) only = tt

  -- what was stored is told, and the Have is said
  pub have-only : (honest : Type 0) (text : List ℕ) (last : ℕ) (result : Result Flow SessionFault) (old new : List Event) (a b : Option (List ℕ)) → SaysHave honest text last result old new a b → EndsOnlyAt May result
  have-only honest text last result old new a b (inl (fault, is, short, same)) = subst (EndsOnlyAt May) (sym is) (cut fault short)
    where
      cut : (fault : SessionFault) → IsCutShort fault honest text old new → EndsOnlyAt May (Err fault)
      cut fault (inl (is, torn)) = subst (λ (f : SessionFault). EndsOnlyAt May (Err f)) (sym is) tt
      cut fault (inr (is, same)) = subst (λ (f : SessionFault). EndsOnlyAt May (Err f)) (sym is) tt
  have-only honest text last result old new a b (inr (told, said)) = said-on (frame.Have last) result a b said

-- ---- a child
module _ (id : ℕ) where
  -- it answers
  pub answer-only : (f : Frame) (result : Result Flow SessionFault) → ChildEndsAt id (Ok tt) f → EndsOnlyAt (λ (r : SessionResult). r ≡ Ok tt) result → EndsOnlyAt (λ (r : SessionResult). ChildEndsAt id r f) result
  answer-only f result asks only = only-more (λ (r : SessionResult). r ≡ Ok tt) (λ (r : SessionResult). ChildEndsAt id r f) (λ r is. subst (λ (t : SessionResult). ChildEndsAt id t f) (sym is) asks) result only

  -- it refuses a frame
  pub bad-only : (f : Frame) (ended : SessionFault) (a b : Option (List ℕ)) → IsBadToChild id f → Leaves bad_frame BadFrame ended a b → EndsOnlyAt (λ (r : SessionResult). ChildEndsAt id r f) (Err ended)
  bad-only f ended a b bad left = left-only (λ (r : SessionResult). ChildEndsAt id r f) bad_frame BadFrame ended a b left bad

-- ---- a parent
pub gone-only : (reason : ℕ) (result : Result Flow SessionFault) (a b : Option (List ℕ)) → GoesSo reason result a b → EndsOnlyAt (λ (r : SessionResult). ParentEndsAtLater r (frame.Bye reason)) result
gone-only reason (Ok GoesOn) a b goes = tt
gone-only reason (Ok Done) a b goes = subst (λ (n : ℕ). frame.Bye n ≡ frame.Bye done) (sym goes.0) refl
gone-only reason (Err fault) a b goes =
    left-only (λ (r : SessionResult). ParentEndsAtLater r (frame.Bye reason)) bad_frame BadFrame fault a b goes.1 ((λ message e. cc), (λ e. goes.0 (same reason done e)))
  where
    same : (n m : ℕ) → frame.Bye n ≡ frame.Bye m → n ≡ m
    same n m e = cc

-- it refuses a later frame
later-only : (f : Frame) (ended : SessionFault) (a b : Option (List ℕ)) → ((message : Data) → f ≡ frame.Data message → ⊥) → (f ≡ frame.Bye done → ⊥) → Leaves bad_frame BadFrame ended a b
    → EndsOnlyAt (λ (r : SessionResult). ParentEndsAtLater r f) (Err ended)
later-only f ended a b no_data not_done left = left-only (λ (r : SessionResult). ParentEndsAtLater r f) bad_frame BadFrame ended a b left (no_data, not_done)

pub hello-later : (id : ℕ) (ended : SessionFault) (a b : Option (List ℕ)) → Leaves bad_frame BadFrame ended a b → EndsOnlyAt (λ (r : SessionResult). ParentEndsAtLater r (frame.Hello id)) (Err ended)
hello-later id ended a b left = later-only (frame.Hello id) ended a b (λ message e. cc) (λ e. cc) left

pub ask-later : (ask : Ask) (ended : SessionFault) (a b : Option (List ℕ)) → Leaves bad_frame BadFrame ended a b → EndsOnlyAt (λ (r : SessionResult). ParentEndsAtLater r (frame.Ask ask)) (Err ended)
ask-later ask ended a b left = later-only (frame.Ask ask) ended a b (λ message e. cc) (λ e. cc) left

pub have-later : (last : ℕ) (ended : SessionFault) (a b : Option (List ℕ)) → Leaves bad_frame BadFrame ended a b → EndsOnlyAt (λ (r : SessionResult). ParentEndsAtLater r (frame.Have last)) (Err ended)
have-later last ended a b left = later-only (frame.Have last) ended a b (λ message e. cc) (λ e. cc) left

-- a parent knows the id of its child from its first frame on
pub data KnowsSince : Option ℕ → List Frame → Type 0 where
  not_yet : KnowsSince None []
  known : (id : ℕ) (first : Frame) (others : List Frame) → KnowsSince (Some id) (first ∷ others)

pub known-after : (peer : Option ℕ) → IsSome peer → (result : Result Flow SessionFault) → OnOk result (IsSome peer)
known-after peer is (Ok flow) = is
known-after peer is (Err fault) = tt

pub parent-only : (peer : Option ℕ) (before : List Frame) → KnowsSince peer before → (f : Frame) (result : Result Flow SessionFault)
    → EndsOnlyAt (λ (r : SessionResult). ParentEndsBy peer r f) result → EndsOnlyAt (λ (r : SessionResult). ParentEndsAt r before f) result
parent-only peer before not_yet f result only = only
parent-only peer before (known id first others) f result only = only

pub knows-some : (peer : Option ℕ) (before : List Frame) (f : Frame) → IsSome peer → KnowsSince peer (before ++ f ∷ [])
knows-some (Some id) [] f is = known id f []
knows-some (Some id) (first ∷ others) f is = known id first (others ++ f ∷ [])
knows-some None before f is = absurd (true≢false (sym is))

-- ---- a session
module _ (EndsAt : SessionResult → List Frame → Frame → Type 0) (link : LinkSeen) where
  -- nothing was heard
  pub nothing-taken : (result : SessionResult) (link' : LinkSeen) → link'.left ≡ link.left → IsEndOver EndsAt result [] [] [] link'.left → TakesLink EndsAt result link link'
  nothing-taken result link' same why = record {
    taken = [];
    takes = subst (Takes link.left []) (sym same) (takes-nothing link.left);
    within = omega arith;
    frames = [];
    rest = [];
    cut = HandsOut_none [] [];
    why = why;
  }

  -- no frame is heard behind these
  pub silence-over : (fault : SessionFault) (frames : List Frame) (taken rest : List ℕ) (left : Option (List ℕ)) (broken : Option PeerFault) → IsSilentFor fault broken taken rest left → IsBrokenBy broken rest → IsEndOver EndsAt (Err fault) frames taken rest left
  silence-over LinkFault frames taken rest left broken silent breaks = tt
  silence-over (Agent other) frames taken rest left broken silent breaks = tt
  silence-over (PeerRefused other) frames taken rest left broken silent breaks = inr (subst (λ (b : Option PeerFault). IsBrokenBy b rest) silent breaks)
  silence-over Ended frames taken rest left broken silent breaks = (silent.1, silent.2, silent.3)
  silence-over InputLimit frames taken rest left broken silent breaks = (silent.1, silent.2)
  silence-over TellFault frames taken rest left broken silent breaks = tt
  silence-over Memory frames taken rest left broken silent breaks = tt

  abbrev pub silence-taken : (fault : SessionFault) (frames : List Frame) (middle link' : LinkSeen) → HearsNoMore fault frames link.left middle link' → TakesLink EndsAt (Err fault) link link'
  silence-taken fault frames middle link' hears = record {
    taken = hears.taken;
    takes = hears.takes;
    within = hears.within;
    frames = frames;
    rest = hears.rest;
    cut = hears.cut;
    why = silence-over fault frames hears.taken hears.rest link'.left hears.broken hears.why hears.breaks;
  }

  -- it ends at a frame behind these
  pub frame-over : (before : List Frame) (f : Frame) (taken rest : List ℕ) (left : Option (List ℕ)) (result : Result Flow SessionFault) → (result ≡ Ok GoesOn → ⊥) → EndsOnlyAt (λ (r : SessionResult). EndsAt r before f) result → IsEndOver EndsAt (result_of result) (before ++ f ∷ []) taken rest left
  frame-over before f taken rest left (Ok GoesOn) over only = absurd (over refl)
  frame-over before f taken rest left (Ok Done) over only = record { before = before; final = f; whole = refl; ends = only }
  frame-over before f taken rest left (Err LinkFault) over only = tt
  frame-over before f taken rest left (Err (Agent other)) over only = tt
  frame-over before f taken rest left (Err (PeerRefused other)) over only = inl (record { before = before; final = f; whole = refl; ends = only })
  frame-over before f taken rest left (Err Ended) over only = absurd only
  frame-over before f taken rest left (Err InputLimit) over only = absurd only
  frame-over before f taken rest left (Err TellFault) over only = tt
  frame-over before f taken rest left (Err Memory) over only = tt

  abbrev pub frame-taken : (before : List Frame) (f : Frame) (incoming : Incoming) (link' : LinkSeen) → HasGiven incoming link.left link'.left (before ++ f ∷ []) → (result : Result Flow SessionFault) → (result ≡ Ok GoesOn → ⊥) → EndsOnlyAt (λ (r : SessionResult). EndsAt r before f) result
      → TakesLink EndsAt (result_of result) link link'
  frame-taken before f incoming link' given result over only =
      let rest = flat_map frame_bytes (waiting incoming) ++ given.rest in
      record {
        taken = given.taken;
        takes = given.takes;
        within = omega (arith, given.spent);
        frames = before ++ f ∷ [];
        rest = rest;
        cut = prefix-handed given.taken given.rest (before ++ f ∷ []) (waiting incoming) given.cut;
        why = frame-over before f given.taken rest link'.left result over only;
      }
