-- How a session goes on from frame to frame, and ends.
use Rattle.std.proofs.Common.{◌≡◌, ℕ, ◌<◌, ◌≤◌, List, [], ◌∷◌, ◌++◌, length, take, length-append, Option, Some, None, Result, Ok, Err, OnOk, refl, sym, ap, subst, ◌∙◌, append_assoc, append-nil, arith}
use Rattle.std.specs.List.{flat_map, AllByRecursion}
use Rattle.std.specs.Option.{option_map_or}
use Rattle.std.proofs.lemmas.Grind.{flat_map-append}
use Rattle.std.proofs.lemmas.List.{take-append-le}
use Rattle.std.proofs.lemmas.List.Sums.{fold-append}
use Rattle.host_model.specs.Link.{Sends}
use Rattle.link_frames.specs.declared.frame.Frame.{Frame}
use Rattle.link_frames.specs.Frames.{frame_bytes, HasSpelling}
use Rattle.link_frames.specs.Stream.{HandsOut}
use Rattle.link_session.specs.declared.fault.PeerFault.{PeerFault}
use Rattle.link_session.specs.declared.fault.SessionFault.{SessionFault}
use Rattle.link_session.specs.declared.fault.SessionFault.TheVariants.{LinkFault, Agent, PeerRefused, Ended, InputLimit, TellFault, Memory}
use Rattle.link_session.specs.declared.flow.Flow.{Flow}
use Rattle.link_session.specs.declared.flow.Flow.TheVariants.{GoesOn, Done}
use Rattle.link_session.specs.declared.incoming.Incoming.{Incoming}
use Rattle.link_session.specs.Exchange.{both, broken_by, exchange, refuses, then_does, Course, SessionResult}
use Rattle.link_session.specs.Incoming.{waiting, HasGiven}
use Rattle.link_session.specs.Session.{bye_for, result_of, says_all, ClosesSo, DoesSo, Exchanges, HearsNoMore, IsEndFor, IsSilentFor, LinkSeen, SaysPrefix, SendsAtLeast, Talks}
use Rattle.link_session.proofs.GrowLemmas.{said-first}
use Rattle.link_session.proofs.LinkLemmas.{all-said, joined-prefix, sends-both}

-- ---- the frames that were given
pub all-prefix : (fs gs : List Frame) → AllByRecursion HasSpelling (fs ++ gs) → AllByRecursion HasSpelling fs
all-prefix [] gs all = tt
all-prefix (f ∷ fs) gs all = (all.0, all-prefix fs gs all.1)

pub prefix-handed : (bytes rest : List ℕ) (fs gs : List Frame) → HandsOut bytes [] (fs ++ gs) rest → HandsOut bytes [] fs (flat_map frame_bytes gs ++ rest)
prefix-handed bytes rest fs gs cut = record {
  found = fs;
  handed = refl;
  frames = all-prefix fs gs (subst (AllByRecursion HasSpelling) (sym cut.handed) cut.frames);
  spelt = cut.spelt ∙ ap (λ (found : List Frame). flat_map frame_bytes found ++ rest) (sym cut.handed)
      ∙ ap (λ (bytes : List ℕ). bytes ++ rest) (flat_map-append frame_bytes fs gs) ∙ append_assoc (flat_map frame_bytes fs) (flat_map frame_bytes gs) rest;
}

-- ---- how a session ends at a frame
pub ends-for : (result : Result Flow SessionFault) (ended : Option SessionResult) (taken rest : List ℕ) (left : Option (List ℕ)) → (result ≡ Ok GoesOn → ⊥) → ClosesSo result ended → IsEndFor (result_of result) ended taken rest left
ends-for (Ok GoesOn) ended taken rest left over closes = absurd (over refl)
ends-for (Ok Done) ended taken rest left over closes = closes
ends-for (Err LinkFault) ended taken rest left over closes = tt
ends-for (Err (Agent fault)) ended taken rest left over closes = closes
ends-for (Err (PeerRefused fault)) ended taken rest left over closes = closes
ends-for (Err Ended) ended taken rest left over closes = absurd closes
ends-for (Err InputLimit) ended taken rest left over closes = absurd closes
ends-for (Err TellFault) ended taken rest left over closes = tt
ends-for (Err Memory) ended taken rest left over closes = tt

module _ {S : Type 0} where
  pub then-goes : (course : Course S) (next : S → Course S) → course.ended ≡ None → then_does course next ≡ both course (next course.now)
  then-goes course next going = ap (λ (e : Option SessionResult). option_map_or (λ _. course) e (both course (next course.now))) going

  module _ (does : S → Frame → Course S) (begin : Course S) where
    abbrev done_by : List Frame → Course S
    done_by frames = exchange does begin frames

    pub talks-first : (sent sent' : Option (List ℕ)) → begin.ended ≡ None → Sends sent (flat_map frame_bytes begin.sent) sent' → Talks does begin [] begin.now sent sent'
    talks-first sent sent' going sends = record { goes_on = going; now_is = refl; sends = sends }

    module _ (link : LinkSeen) (frames : List Frame) (now : S) (b : Option (List ℕ)) (talks : Talks does begin frames now link.sent b) where
      -- what an end that goes on does with one more frame
      pub done-next : (f : Frame) → done_by (frames ++ f ∷ []) ≡ both (done_by frames) (does now f)
      done-next f =
          fold-append (λ (course : Course S) (f : Frame). then_does course (λ now. does now f)) begin frames (f ∷ [])
          ∙ then-goes (done_by frames) (λ now. does now f) talks.goes_on ∙ ap (λ (s : S). both (done_by frames) (does s f)) talks.now_is

      module _ (f : Frame) (now' : S) (result : Result Flow SessionFault) where
        pub talks-next : (c : Option (List ℕ)) → DoesSo (does now f) now' result b c → result ≡ Ok GoesOn → Talks does begin (frames ++ f ∷ []) now' link.sent c
        talks-next c so going = record {
          goes_on = ap (λ (course : Course S). course.ended) (done-next f) ∙ subst (λ (r : Result Flow SessionFault). ClosesSo r (does now f).ended) going so.closes;
          now_is = ap (λ (course : Course S). course.now) (done-next f) ∙ subst (λ (r : Result Flow SessionFault). OnOk r ((does now f).now ≡ now')) going so.now_is;
          sends = subst (λ (bytes : List ℕ). Sends link.sent bytes c)
              (sym (ap (λ (course : Course S). flat_map frame_bytes course.sent) (done-next f) ∙ flat_map-append frame_bytes (done_by frames).sent (does now f).sent))
              (sends-both link.sent b c (flat_map frame_bytes (done_by frames).sent) (flat_map frame_bytes (does now f).sent) talks.sends
              (all-said (says_all (result_of result)) (does now f).sent b c so.says (ap (λ (r : Result Flow SessionFault). says_all (result_of r)) going)));
        }

        -- all frames before it were answered
        pub frame-turn : (c : Option (List ℕ)) → DoesSo (does now f) now' result b c → (n : ℕ) → n < length (frames ++ f ∷ []) → SendsAtLeast link.sent (flat_map frame_bytes (done_by (take n (frames ++ f ∷ []))).sent) c
        frame-turn c so n less =
            let within : n ≤ length frames = omega (arith, less, length-append frames (f ∷ [])) in
            subst (λ (fs : List Frame). SendsAtLeast link.sent (flat_map frame_bytes (done_by fs).sent) c) (sym (take-append-le n frames (f ∷ []) within))
            (said-first does begin frames n link.sent b c so.says.said talks.sends so.says.sends)

        abbrev pub frame-ends : (incoming : Incoming) (link' : LinkSeen) → DoesSo (does now f) now' result b link'.sent → HasGiven incoming link.left link'.left (frames ++ f ∷ []) → (result ≡ Ok GoesOn → ⊥)
            → Exchanges does begin (result_of result) link link'
        frame-ends incoming link' so given over =
            let all = frames ++ f ∷ [] in
            let rest = flat_map frame_bytes (waiting incoming) ++ given.rest in
            record {
              taken = given.taken;
              takes = given.takes;
              within = omega (arith, given.spent);
              frames = all;
              rest = rest;
              cut = prefix-handed given.taken given.rest all (waiting incoming) given.cut;
              broken = None;
              breaks = tt;
              says = subst (λ (fs : List Frame). SaysPrefix (says_all (result_of result)) fs link.sent link'.sent) (sym (ap (λ (course : Course S). course.sent) (done-next f)))
                  (joined-prefix (says_all (result_of result)) (done_by frames).sent (does now f).sent link.sent b link'.sent talks.sends so.says);
              why = subst (λ (ended : Option SessionResult). IsEndFor (result_of result) ended given.taken rest link'.left) (sym (ap (λ (course : Course S). course.ended) (done-next f)))
                  (ends-for result (does now f).ended given.taken rest link'.left over so.closes);
              in_turn = frame-turn link'.sent so;
            }

      -- no frame is heard
      pub said-of : (broken : Option PeerFault) → (broken_by broken (done_by frames)).sent ≡ (done_by frames).sent ++ bye_for broken
      said-of None = sym (append-nil (done_by frames).sent)
      said-of (Some why) = ap (λ (course : Course S). course.sent) (then-goes (done_by frames) (refuses why) talks.goes_on)

      ended-none : (broken : Option PeerFault) → broken ≡ None → (broken_by broken (done_by frames)).ended ≡ None
      ended-none broken is = ap (λ (b : Option PeerFault). (broken_by b (done_by frames)).ended) is ∙ talks.goes_on

      pub silence-for : (fault : SessionFault) (broken : Option PeerFault) (taken rest : List ℕ) (left : Option (List ℕ)) → IsSilentFor fault broken taken rest left → IsEndFor (Err fault) (broken_by broken (done_by frames)).ended taken rest left
      silence-for LinkFault broken taken rest left silent = tt
      silence-for (Agent fault) broken taken rest left silent = absurd silent
      silence-for (PeerRefused fault) broken taken rest left silent =
          ap (λ (b : Option PeerFault). (broken_by b (done_by frames)).ended) silent ∙ ap (λ (course : Course S). course.ended) (then-goes (done_by frames) (refuses fault) talks.goes_on)
      silence-for Ended broken taken rest left silent = (ended-none broken silent.0, silent.1, silent.2, silent.3)
      silence-for InputLimit broken taken rest left silent = (ended-none broken silent.0, silent.1, silent.2)
      silence-for TellFault broken taken rest left silent = absurd silent
      silence-for Memory broken taken rest left silent = tt

      abbrev pub silence-ends : (fault : SessionFault) (middle link' : LinkSeen) → middle.sent ≡ b → HearsNoMore fault frames link.left middle link' → Exchanges does begin (Err fault) link link'
      silence-ends fault middle link' from hears = record {
        taken = hears.taken;
        takes = hears.takes;
        within = hears.within;
        frames = frames;
        rest = hears.rest;
        cut = hears.cut;
        broken = hears.broken;
        breaks = hears.breaks;
        says = subst (λ (fs : List Frame). SaysPrefix (says_all (Err fault)) fs link.sent link'.sent) (sym (said-of hears.broken))
            (joined-prefix (says_all (Err fault)) (done_by frames).sent (bye_for hears.broken) link.sent b link'.sent talks.sends
            (subst (λ (sent : Option (List ℕ)). SaysPrefix (says_all (Err fault)) (bye_for hears.broken) sent link'.sent) from hears.says));
        why = silence-for fault hears.broken hears.taken hears.rest link'.left hears.why;
        in_turn = λ n less. said-first does begin frames n link.sent b link'.sent hears.says.said talks.sends (subst (λ (sent : Option (List ℕ)). Sends sent hears.says.said link'.sent) from hears.says.sends);
      }
