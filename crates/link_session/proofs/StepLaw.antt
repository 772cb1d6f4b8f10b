-- Sessions are steps of a child and a parent, and after steps the parent is a copy.
use Rattle.std.proofs.Common.{◌≡◌, ◌⊎◌, inl, inr, ⊎_elim, ℕ, ◌≤◌, ◌==◌, Bool, true, false, nat_lt, List, [], ◌∷◌, ◌++◌, take, slice_get, Option, Some, None, Err, refl, sym, ap, subst, ◌∙◌, append-nil, append_assoc, arith, if◌then◌else◌}
use Rattle.std.specs.List.{fold, list_any, AllByRecursion}
use Rattle.std.specs.Option.{option_map_or}
use Rattle.std.proofs.lemmas.Bool.{eq-eqb, or_left, or_right}
use Rattle.std.proofs.lemmas.List.Folds.{list_any-append}
use Rattle.list_lemmas.proofs.Every.{all-at, all-push, all-weaker}
use Rattle.history.specs.History.{Beat, collected, copied, health, last, missing, registry_of}
use Rattle.replication.specs.declared.ask.Ask.{Ask}
use Rattle.replication.specs.declared.message.Data.{Data}
use Rattle.replication.specs.Copies.{had_floor, latest, RisesFrom}
use Rattle.link_frames.specs.DataForm.{IsData}
use Rattle.link_frames.specs.declared.frame.Frame.{Frame}
use Rattle.link_frames.specs.declared.frame.Frame.TheVariants as frame
use Rattle.link_frames.specs.Frames.{bad_frame, wrong_child}
use Rattle.tier_settings.specs.declared.settings.Settings.{Settings}
use Rattle.store_core.specs.declared.beats.beat.Beat.{Beat as StoreBeat}
use Rattle.agent_core.specs.Answers.{floor_of_history}
use Rattle.agent_core.specs.Copies.{data_of_history, seen, seen_if, seen_moment, IsCopyOfChild, IsTrueOfChild, SeenBeat}
use Rattle.agent_core.specs.Copying.{added_to}
use Rattle.agent_core.specs.Kept.{onto, AreBeatsOf}
use Rattle.agent_core.proofs.AnswerTruth.{answer-is_true}
use Rattle.agent_core.proofs.CopyLemmas.{added-behind, added-copy, gaps-end, seen-rises}
use Rattle.agent_core.proofs.GoingOnLemmas.{none-copy, stays-copy, stays-true}
use Rattle.link_session.specs.declared.fault.PeerFault.TheVariants.{BadFrame, WrongChild}
use Rattle.link_session.specs.declared.fault.SessionFault.TheVariants.{PeerRefused}
use Rattle.link_session.specs.Child.{answers as says_answer, child_begins, child_does}
use Rattle.link_session.specs.Exchange.{both, ends, exchange, nothing, refuses, then_does, Course, SessionResult}
use Rattle.link_session.specs.Keeps.{no_more, Extends}
use Rattle.link_session.specs.Parent.{done_with, parent_begins, parent_does, Parent}
use Rattle.link_session.specs.Steps.{answers, data_in, delivers, gets, happens, run_from, start, world_of, IsKept, LeadTo, Step, WasSent, World}
use Rattle.link_session.proofs.CopyLemmas.{behind, behind-beats, in-line, prefix-between, same-history, step-adds, Adds}
use Rattle.link_session.proofs.ExtendsLemmas.{extends-onto}
use Rattle.link_session.proofs.GrowLemmas.{frames-extend, hears-extends}

-- ---- the Data of frames
data-both : (fs gs : List Frame) → data_in (fs ++ gs) ≡ data_in fs ++ data_in gs
data-both [] gs = refl
data-both (frame.Data message ∷ fs) gs = ap (λ (ms : List Data). message ∷ ms) (data-both fs gs)
data-both (frame.Hello id ∷ fs) gs = data-both fs gs
data-both (frame.Ask ask ∷ fs) gs = data-both fs gs
data-both (frame.Have had ∷ fs) gs = data-both fs gs
data-both (frame.Bye reason ∷ fs) gs = data-both fs gs

-- ---- a child that sends
module _ (set : Settings) (child : List Beat) (floors : List ℕ) (parent : List Beat) (messages : List Data) where
  abbrev said_world : List Data → World
  said_world sent = world_of child floors parent (messages ++ sent)

  abbrev does : Option ℕ → Frame → Course (Option ℕ)
  does = child_does set.id (data_of_history set child)

  -- what is said at a frame has at most one Data, which answers some Ask
  abbrev SaysAnswer : List Frame → Type 0
  SaysAnswer sent = (data_in sent ≡ []) ⊎ ((ask : Ask) × (message : Data) × (data_of_history set child ask ≡ Some message) × (data_in sent ≡ message ∷ []))

  answers-so : (before : Option ℕ) (ask : Ask) (o : Option Data) → data_of_history set child ask ≡ o → SaysAnswer (says_answer before o).sent
  answers-so before ask None is = inl refl
  answers-so before ask (Some message) is = inr (ask, message, is, refl)

  ask-so : (before : Option ℕ) (ask : Ask) (own : Bool) → SaysAnswer (if own then says_answer before (data_of_history set child ask) else refuses BadFrame before).sent
  ask-so before ask true = answers-so before ask (data_of_history set child ask) refl
  ask-so before ask false = inl refl

  less-so : (upto : ℕ) (less : Bool) → SaysAnswer (if less then nothing (Some upto) else refuses BadFrame (Some upto)).sent
  less-so upto true = inl refl
  less-so upto false = inl refl

  have-so : (upto had : ℕ) (same : Bool) → SaysAnswer (if same then says_answer (Some upto) (data_of_history set child (record { child = set.id; last = had })) else (if nat_lt had upto then nothing (Some upto) else refuses BadFrame (Some upto))).sent
  have-so upto had true = answers-so (Some upto) (record { child = set.id; last = had }) (data_of_history set child (record { child = set.id; last = had })) refl
  have-so upto had false = less-so upto (nat_lt had upto)

  bye-so : (before : Option ℕ) (other bad : Bool)
      → SaysAnswer (if other then ends (Err (PeerRefused WrongChild)) before else (if bad then ends (Err (PeerRefused BadFrame)) before else refuses BadFrame before)).sent
  bye-so before true bad = inl refl
  bye-so before false true = inl refl
  bye-so before false false = inl refl

  does-so : (before : Option ℕ) (f : Frame) → SaysAnswer (does before f).sent
  does-so before (frame.Ask ask) = ask-so before ask (ask.child == set.id)
  does-so None (frame.Have had) = inl refl
  does-so (Some upto) (frame.Have had) = have-so upto had (had == upto)
  does-so before (frame.Bye reason) = bye-so before (reason == wrong_child) (reason == bad_frame)
  does-so before (frame.Hello id) = inl refl
  does-so before (frame.Data message) = inl refl

  -- steps have led to all that was said so far
  abbrev Said : List Frame → Type 0
  Said sent = LeadTo set (world_of child floors parent messages) (said_world (data_in sent))

  said-more : (sent more : List Frame) → Said sent → SaysAnswer more → Said (sent ++ more)
  said-more sent more said (inl none) =
      (said.0, said.1 ∙ ap (λ (ms : List Data). said_world ms) (sym (data-both sent more ∙ ap (λ (ms : List Data). data_in sent ++ ms) none ∙ append-nil (data_in sent))))
  said-more sent more said (inr (ask, message, is, one)) = (
    answers ask ∷ said.0,
    ap (λ (w : World). happens set w (answers ask)) said.1
        ∙ ap (λ (o : Option Data). option_map_or (λ (m : Data). world_of child floors parent ((messages ++ data_in sent) ++ m ∷ [])) o (said_world (data_in sent))) is
        ∙ ap (λ (ms : List Data). world_of child floors parent ms) (append_assoc messages (data_in sent) (message ∷ []))
        ∙ ap (λ (ms : List Data). said_world ms) (sym (data-both sent more ∙ ap (λ (ms : List Data). data_in sent ++ ms) one)),
  )

  abbrev child_hears : Course (Option ℕ) → Frame → Course (Option ℕ)
  child_hears course f = then_does course (λ now. does now f)

  said-next : (course : Course (Option ℕ)) (f : Frame) → Said course.sent → Said (child_hears course f).sent
  said-next course f said = by course.ended
    where
      by : (ended : Option SessionResult) → Said (option_map_or (λ _. course) ended (both course (does course.now f))).sent
      by None = said-more course.sent (does course.now f).sent said (does-so course.now f)
      by (Some result) = said

  said-all : (frames : List Frame) (course : Course (Option ℕ)) → Said course.sent → Said (fold child_hears course frames).sent
  said-all [] course said = said
  said-all (f ∷ frames) course said = said-all frames (child_hears course f) (said-next course f said)

  pub sends-steps : (frames : List Frame) → Said (exchange does (child_begins set.id) frames).sent
  sends-steps frames = said-all frames (child_begins set.id) ([], ap (λ (ms : List Data). world_of child floors parent ms) (sym (append-nil messages)))

-- ---- a parent that receives
module _ (set other : Settings) (child : List Beat) (floors : List ℕ) (messages : List Data) (h0 : List Beat) where
  abbrev at : List Beat → World
  at h = world_of child floors h messages

  abbrev Reached : List Beat → Type 0
  Reached h = LeadTo set (at h0) (at h)

  abbrev parent_hears : Course Parent → Frame → Course Parent
  parent_hears course f = then_does course (λ now. parent_does other now f)

  hears-adds : (course : Course Parent) (f : Frame) → ((parent_hears course f).now.history ≡ course.now.history) ⊎ Adds course.now.history f (parent_hears course f).now.history
  hears-adds course f = by course.ended
    where
      by : (ended : Option SessionResult) → let after = option_map_or (λ _. course) ended (both course (parent_does other course.now f)) in (after.now.history ≡ course.now.history) ⊎ Adds course.now.history f after.now.history
      by None = step-adds other course.now f
      by (Some result) = inl refl

  -- a history between one and that with what it adds of a Data
  adds-reached : (h g : List Beat) (message : Data) → WasSent messages message → Extends h g → Extends g (onto h (added_to h message)) → Reached h → Reached g
  adds-reached h g message sent before after steps =
      let prefix = prefix-between (added_to h message) h g before after in (
        delivers sent.0 prefix.count ∷ steps.0,
        ap (λ (w : World). happens set w (delivers sent.0 prefix.count)) steps.1
            ∙ ap (λ (o : Option Data). option_map_or (λ (m : Data). at (onto h (take prefix.count (added_to h m)))) o (at h)) sent.1
            ∙ ap (λ (l : List Beat). at l) (sym prefix.is),
      )

  sent-of : (f : Frame) (frames : List Frame) → AllByRecursion (WasSent messages) (data_in (f ∷ frames)) → ((message : Data) → f ≡ frame.Data message → WasSent messages message) × AllByRecursion (WasSent messages) (data_in frames)
  sent-of (frame.Data own) frames all = ((λ message is. subst (WasSent messages) (inside own message is) all.0), all.1)
    where
      inside : (a b : Data) → frame.Data a ≡ frame.Data b → a ≡ b
      inside a b is = cc
  sent-of (frame.Hello id) frames all = ((λ message is. absurd (cc)), all)
  sent-of (frame.Ask ask) frames all = ((λ message is. absurd (cc)), all)
  sent-of (frame.Have had) frames all = ((λ message is. absurd (cc)), all)
  sent-of (frame.Bye reason) frames all = ((λ message is. absurd (cc)), all)

  frames-reach : (frames : List Frame) (course : Course Parent) (g : List Beat) → AllByRecursion (WasSent messages) (data_in frames) → Extends course.now.history g → Extends g (fold parent_hears course frames).now.history
      → Reached course.now.history → Reached g
  frames-reach [] course g sent before after steps = subst Reached (same-history course.now.history g before after) steps
  frames-reach (f ∷ frames) course g sent before after steps =
      let next = (parent_hears course f).now.history in
      let these = sent-of f frames sent in
      ⊎_elim
      (λ within. ⊎_elim
      (λ same. subst Reached (same-history course.now.history g before (subst (Extends g) same within)) steps)
      (λ adds. adds-reached course.now.history g adds.message (these.0 adds.message adds.is) before (subst (Extends g) adds.with_it within) steps)
      (hears-adds course f))
      (λ beyond.
      frames-reach frames (parent_hears course f) g these.1 beyond after
      (⊎_elim
      (λ same. subst Reached (sym same) steps)
      (λ adds. adds-reached course.now.history next adds.message (these.0 adds.message adds.is) (hears-extends other course f) (subst (Extends next) adds.with_it no_more) steps)
      (hears-adds course f)))
      (in-line g next (fold parent_hears (parent_hears course f) frames).now.history after (frames-extend other frames (parent_hears course f)))

  pub receives-steps : (held : List Beat) (frames : List Frame) → AllByRecursion (WasSent messages) (data_in frames) → Extends h0 held → Extends held (done_with other h0 frames).now.history → Reached held
  receives-steps held frames sent before after = frames-reach frames (parent_begins h0) held sent before after ([], refl)

-- ---- a child that goes on
had-last : (floors : List ℕ) (floor : ℕ) → had_floor (floors ++ floor ∷ []) floor ≡ true
had-last floors floor =
    or_right (floor == 0) (list_any (λ set. floor == set) (floors ++ floor ∷ []))
    (list_any-append (λ set. floor == set) floors (floor ∷ []) ∙ or_right (list_any (λ set. floor == set) floors) (list_any (λ set. floor == set) (floor ∷ [])) (or_left (floor == floor) false (eq-eqb floor floor refl)))

seen-later : (beat : Beat) (h : List Beat) → (later : List SeenBeat) × (seen (beat ∷ h) ≡ seen h ++ later)
seen-later (collected moment beat) h = (_, refl)
seen-later (copied copy) h = (seen_if copy.moment (registry_of (copied copy ∷ h)) copy.words, refl)
seen-later (health text) h = ([], sym (append-nil (seen h)))
seen-later (missing gap) h = ([], sym (append-nil (seen h)))

latest-low : (low : ℕ) (ys : List SeenBeat) → RisesFrom seen_moment low ys → low ≤ latest seen_moment low ys
latest-low low [] rises = omega arith
latest-low low (y ∷ ys) rises = omega (arith, rises.0, latest-low (seen_moment y) ys rises.1)

latest-more : (low : ℕ) (xs ys : List SeenBeat) → RisesFrom seen_moment low (xs ++ ys) → latest seen_moment low xs ≤ latest seen_moment low (xs ++ ys)
latest-more low [] ys rises = latest-low low ys rises
latest-more low (x ∷ xs) ys rises = latest-more (seen_moment x) xs ys rises.1

-- ---- what holds after all steps
pub record IsSound (set : Settings) (w : World) : Type 0 where
  pub floor : had_floor w.floors (floor_of_history set w.child 0) ≡ true
  pub copy : IsCopyOfChild w.floors (seen w.child) w.parent
  pub behind : last w.parent ≤ latest seen_moment 0 (seen w.child)
  pub told : AllByRecursion (IsTrueOfChild w.floors (seen w.child)) w.messages

start-sound : (set : Settings) → IsSound set (start set)
start-sound set = record { floor = had-last [] (floor_of_history set [] 0); copy = none-copy (floor_of_history set [] 0 ∷ []) [] tt; behind = omega arith; told = tt }

form-before : (messages more : List Data) → AllByRecursion IsData (messages ++ more) → AllByRecursion IsData messages
form-before [] more all = tt
form-before (message ∷ messages) more all = (all.0, form-before messages more all.1)

module _ (set : Settings) (w : World) where
  -- the child gets a beat
  gets-kept : (beat : Beat) → IsKept (happens set w (gets beat)) → IsKept w
  gets-kept beat kept = by kept.child_beats kept.child_are
    where
      by : (beats : List StoreBeat) → AreBeatsOf (beat ∷ w.child) beats → IsKept w
      by [] are = absurd are
      by (store ∷ beats) are = record { child_beats = beats; child_are = are.1; parent_beats = kept.parent_beats; parent_are = kept.parent_are; forms = kept.forms }

  gets-sound : (beat : Beat) → IsKept (happens set w (gets beat)) → IsSound set w → IsSound set (happens set w (gets beat))
  gets-sound beat kept sound =
      let floor = floor_of_history set (beat ∷ w.child) 0 in
      let more = seen-later beat w.child in
      let rises = subst (RisesFrom seen_moment 0) more.1 (seen-rises (beat ∷ w.child) kept.child_beats kept.child_are).0 in
      record {
        floor = had-last w.floors floor;
        copy = subst (λ (all : List SeenBeat). IsCopyOfChild (w.floors ++ floor ∷ []) all w.parent) (sym more.1) (stays-copy w.floors (floor ∷ []) (seen w.child) more.0 w.parent rises sound.behind sound.copy);
        behind = subst (λ (all : List SeenBeat). last w.parent ≤ latest seen_moment 0 all) (sym more.1) (omega (arith, sound.behind, latest-more 0 (seen w.child) more.0 rises));
        told = subst (λ (all : List SeenBeat). AllByRecursion (IsTrueOfChild (w.floors ++ floor ∷ []) all) w.messages) (sym more.1)
            (all-weaker (IsTrueOfChild w.floors (seen w.child)) (IsTrueOfChild (w.floors ++ floor ∷ []) (seen w.child ++ more.0)) (λ message truth. stays-true w.floors (floor ∷ []) (seen w.child) more.0 message rises truth) w.messages sound.told);
      }

  -- the child answers
  abbrev answered : Option Data → World
  answered o = option_map_or (λ (message : Data). record w { messages = w.messages ++ message ∷ [] }) o w

  answers-kept : (o : Option Data) → IsKept (answered o) → IsKept w
  answers-kept None kept = kept
  answers-kept (Some message) kept = record {
    child_beats = kept.child_beats;
    child_are = kept.child_are;
    parent_beats = kept.parent_beats;
    parent_are = kept.parent_are;
    forms = form-before w.messages (message ∷ []) kept.forms;
  }

  answers-sound : (ask : Ask) (o : Option Data) → data_of_history set w.child ask ≡ o → IsKept (answered o) → IsSound set w → IsSound set (answered o)
  answers-sound ask None is kept sound = sound
  answers-sound ask (Some message) is kept sound = record {
    floor = sound.floor;
    copy = sound.copy;
    behind = sound.behind;
    told = all-push (IsTrueOfChild w.floors (seen w.child)) w.messages message sound.told (answer-is_true set w.child kept.child_beats kept.child_are ask w.floors message sound.floor is);
  }

  -- a Data comes to the parent
  abbrev delivered : ℕ → Option Data → World
  delivered keep o = option_map_or (λ (message : Data). record w { parent = onto w.parent (take keep (added_to w.parent message)) }) o w

  delivers-kept : (keep : ℕ) (o : Option Data) → IsKept (delivered keep o) → IsKept w
  delivers-kept keep None kept = kept
  delivers-kept keep (Some message) kept =
      let more = take keep (added_to w.parent message) in
      let b = behind w.parent (onto w.parent more) (extends-onto w.parent more) in
      let own = behind-beats w.parent b.more kept.parent_beats (subst (λ (l : List Beat). AreBeatsOf l kept.parent_beats) b.whole kept.parent_are) in
      record { child_beats = kept.child_beats; child_are = kept.child_are; parent_beats = own.0; parent_are = own.1; forms = kept.forms }

  delivers-sound : (place keep : ℕ) (o : Option Data) → slice_get w.messages place ≡ o → IsKept (delivered keep o) → IsSound set w → IsSound set (delivered keep o)
  delivers-sound place keep None is kept sound = sound
  delivers-sound place keep (Some message) is kept sound =
      let before = delivers-kept keep (Some message) kept in
      let rises = (seen-rises w.child kept.child_beats kept.child_are).0 in
      let form = all-at IsData w.messages place message kept.forms is in
      let truth = all-at (IsTrueOfChild w.floors (seen w.child)) w.messages place message sound.told is in
      record {
        floor = sound.floor;
        copy = added-copy w.parent message form w.floors (seen w.child) rises (gaps-end w.parent before.parent_beats before.parent_are) sound.copy truth keep;
        behind = added-behind w.parent message form w.floors (seen w.child) rises sound.behind truth keep;
        told = sound.told;
      }

  step-kept : (step : Step) → IsKept (happens set w step) → IsKept w
  step-kept (gets beat) kept = gets-kept beat kept
  step-kept (answers ask) kept = answers-kept (data_of_history set w.child ask) kept
  step-kept (delivers place keep) kept = delivers-kept keep (slice_get w.messages place) kept

  step-sound : (step : Step) → IsKept (happens set w step) → IsSound set w → IsSound set (happens set w step)
  step-sound (gets beat) kept sound = gets-sound beat kept sound
  step-sound (answers ask) kept sound = answers-sound ask (data_of_history set w.child ask) refl kept sound
  step-sound (delivers place keep) kept sound = delivers-sound place keep (slice_get w.messages place) refl kept sound

pub steps-sound : (set : Settings) (steps : List Step) → IsKept (run_from set (start set) steps) → IsSound set (run_from set (start set) steps)
steps-sound set [] kept = start-sound set
steps-sound set (step ∷ steps) kept = step-sound set (run_from set (start set) steps) step kept (steps-sound set steps (step-kept set (run_from set (start set) steps) step kept))
