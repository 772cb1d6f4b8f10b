-- A parent that copies a child still does after a session, at whatever moment it crashes.
use Rattle.std.proofs.Common.{◌≡◌, ◌⊎◌, inl, inr, ⊎_elim, ℕ, suc, Bool, List, [], ◌∷◌, ◌++◌, length, take, Option, Some, None, Ok, Err, refl, sym, ap, subst, ◌∙◌, ◌==◌, true, false, length-append, arith, if◌then◌else◌}
use Rattle.std.specs.List.{fold, AllByRecursion}
use Rattle.std.specs.Option.{option_map_or}
use Rattle.host_model.specs.Disks.{EveryDisk}
use Rattle.host_model.specs.Moments.{EveryCrash, Throughout}
use Rattle.host_model.specs.Past.{told, Event}
use Rattle.host_model.proofs.MomentLemmas.{full_text, weakened}
use Rattle.history.specs.declared.fault.BlockFault.{BlockFault}
use Rattle.history.specs.History.{Beat, registry_of}
use Rattle.replication.specs.declared.message.Data.{Data}
use Rattle.replication.specs.declared.verdict.Verdict.{Verdict}
use Rattle.replication.specs.declared.verdict.Verdict.TheVariants as verdict
use Rattle.replication.specs.Copies.{RisesFrom}
use Rattle.link_frames.specs.DataForm.{IsData}
use Rattle.link_frames.specs.declared.frame.Frame.{Frame}
use Rattle.link_frames.specs.declared.frame.Frame.TheVariants as frame
use Rattle.link_frames.specs.Frames.{done, wrong_child, HasSpelling}
use Rattle.tier_settings.specs.declared.settings.Settings.{Settings}
use Rattle.store_core.specs.declared.beats.beat.Beat.{Beat as StoreBeat}
use Rattle.agent_core.specs.Copies.{seen_moment, IsCopyOfChild, IsTrueOfChild, SeenBeat}
use Rattle.agent_core.specs.Copying.{added_to, copy_refusal, verdict_of}
use Rattle.agent_core.specs.Kept.{onto, AreBeatsOf}
use Rattle.agent_core.specs.Stands.{StandsForHistory}
use Rattle.agent_core.specs.Roles.{role_of}
use Rattle.agent_core.proofs.CopyLemmas.{added-copy, gaps-end}
use Rattle.agent_core.proofs.StoredLemmas.{were_kept}
use Rattle.link_session.specs.declared.fault.PeerFault.TheVariants.{BadFrame, WrongChild}
use Rattle.link_session.specs.declared.fault.SessionFault.TheVariants.{PeerRefused}
use Rattle.link_session.specs.Exchange.{both, ends, exchange, leaves, refuses, then_does, Course, SessionResult}
use Rattle.link_session.specs.Keeps.{no_more, one_more, Extends, Keeps}
use Rattle.link_session.specs.Parent.{asks, copies, copies_other, hears_first, hears_next, parent_begins, parent_does, stores_unless, takes_by, waits, Parent}
use Rattle.link_session.specs.Receiving.{AreTrueOf, IsTrueFrame}
use Rattle.link_session.proofs.ExtendsLemmas.{extends-further, extends-onto}

-- ---- histories that go on to the same one
pub record IsBehind (h w : List Beat) : Type 0 where
  pub more : List Beat
  pub whole : w ≡ more ++ h

pub behind : (h w : List Beat) → Extends h w → IsBehind h w
behind h w no_more = record { more = []; whole = refl }
behind h w (one_more beat g before) = let b = behind h g before in record { more = beat ∷ b.more; whole = ap (λ (l : List Beat). beat ∷ l) b.whole }

goes-from : (more h : List Beat) → Extends h (more ++ h)
goes-from [] h = no_more
goes-from (beat ∷ more) h = one_more beat (more ++ h) (goes-from more h)

either : (a b g h : List Beat) → a ++ g ≡ b ++ h → Extends g h ⊎ Extends h g
either [] b g h same = inr (subst (Extends h) (sym same) (goes-from b h))
either (x ∷ a) [] g h same = inl (subst (Extends g) same (goes-from (x ∷ a) g))
either (x ∷ a) (y ∷ b) g h same = either a b g h cc

-- two histories that go on to one: one of them goes on to the other
pub in-line : (g h w : List Beat) → Extends g w → Extends h w → Extends g h ⊎ Extends h g
in-line g h w first second = let a = behind g w first in let b = behind h w second in either a.more b.more g h (sym a.whole ∙ b.whole)

same-both : (a b g h : List Beat) → h ≡ a ++ g → g ≡ b ++ h → g ≡ h
same-both [] b g h first second = sym first
same-both (x ∷ a) b g h first second =
    absurd (omega (arith, ap (λ (l : List Beat). length l) first, ap (λ (l : List Beat). length l) second, length-append a g, length-append b h))

pub same-history : (g h : List Beat) → Extends g h → Extends h g → g ≡ h
same-history g h first second = let a = behind g h first in let b = behind h g second in same-both a.more b.more g h a.whole b.whole

-- one that goes on from a history by at most one beat
at-most-one : (h g : List Beat) (beat : Beat) → Extends h g → Extends g (beat ∷ h) → (g ≡ h) ⊎ (g ≡ beat ∷ h)
at-most-one h g beat before after = by (behind g (beat ∷ h) after).more (behind g (beat ∷ h) after).whole
  where
    by : (more : List Beat) → beat ∷ h ≡ more ++ g → (g ≡ h) ⊎ (g ≡ beat ∷ h)
    by [] whole = inr (sym whole)
    by (x ∷ more) whole = let tail : h ≡ more ++ g = cc in inl (same-history g h (subst (Extends g) (sym tail) (goes-from more g)) before)

-- one between a history and that with more beats has the first of them
pub record HasPrefix (h more g : List Beat) : Type 0 where
  pub count : ℕ
  pub is : g ≡ onto h (take count more)

pub prefix-between : (more h g : List Beat) → Extends h g → Extends g (onto h more) → HasPrefix h more g
prefix-between [] h g before after = record { count = 0; is = same-history g h after before }
prefix-between (beat ∷ more) h g before after =
    ⊎_elim
    (λ under. ⊎_elim (λ same. record { count = 0; is = same }) (λ one. record { count = 1; is = one }) (at-most-one h g beat before under))
    (λ over. let prefix = prefix-between more (beat ∷ h) g over after in record { count = suc prefix.count; is = prefix.is })
    (in-line g (beat ∷ h) (onto (beat ∷ h) more) after (extends-onto (beat ∷ h) more))

-- ---- what a history that is behind another has
pub behind-beats : (h more : List Beat) (beats : List StoreBeat) → AreBeatsOf (more ++ h) beats → (prefix : List StoreBeat) × AreBeatsOf h prefix
behind-beats h [] beats are = (beats, are)
behind-beats h (beat ∷ more) [] are = absurd are
behind-beats h (beat ∷ more) (kept ∷ beats) are = behind-beats h more beats are.1

-- ---- what one frame adds
pub record Adds (h : List Beat) (f : Frame) (after : List Beat) : Type 0 where
  pub message : Data
  pub is : f ≡ frame.Data message
  pub with_it : after ≡ onto h (added_to h message)

module _ (set : Settings) (id : ℕ) (h : List Beat) where
  stores-adds : (message : Data) (why : Option BlockFault) → ((stores_unless set id h message why).now.history ≡ h) ⊎ ((stores_unless set id h message why).now.history ≡ onto h (added_to h message))
  stores-adds message None = inr refl
  stores-adds message (Some why) = inl refl

  takes-adds : (message : Data) (v : Verdict) → ((takes_by set id h message v).now.history ≡ h) ⊎ ((takes_by set id h message v).now.history ≡ onto h (added_to h message))
  takes-adds message verdict.Stored = stores-adds message (copy_refusal (registry_of h) (role_of h) message)
  takes-adds message verdict.Old = inl refl
  takes-adds message verdict.Ahead = inl refl
  takes-adds message (verdict.WrongChild kept came) = inl refl

  bye-stays : (over : Bool) → (if over then ends {S = Parent} (Ok tt) (copies id h) else refuses BadFrame (copies id h)).now.history ≡ h
  bye-stays true = refl
  bye-stays false = refl

  next-adds : (f : Frame) → ((hears_next set id h f).now.history ≡ h) ⊎ Adds h f (hears_next set id h f).now.history
  next-adds (frame.Hello other) = inl refl
  next-adds (frame.Ask ask) = inl refl
  next-adds (frame.Have had) = inl refl
  next-adds (frame.Bye reason) = inl (bye-stays (reason == done))
  next-adds (frame.Data message) = ⊎_elim (λ same. inl same) (λ more. inr (record { message = message; is = refl; with_it = more })) (takes-adds message (verdict_of h message))

module _ (h : List Beat) where
  hello-stays : (id : ℕ) (other : Bool) → (if other then leaves {S = Parent} (frame.Bye wrong_child) (Err (PeerRefused WrongChild)) (waits h) else asks id h).now.history ≡ h
  hello-stays id true = refl
  hello-stays id false = refl

  first-stays : (f : Frame) → (hears_first h f).now.history ≡ h
  first-stays (frame.Hello id) = hello-stays id (copies_other id h)
  first-stays (frame.Ask ask) = refl
  first-stays (frame.Data message) = refl
  first-stays (frame.Have had) = refl
  first-stays (frame.Bye reason) = refl

pub step-adds : (set : Settings) (now : Parent) (f : Frame) → ((parent_does set now f).now.history ≡ now.history) ⊎ Adds now.history f (parent_does set now f).now.history
step-adds set now f = by now.peer
  where
    by : (peer : Option ℕ) → let course = option_map_or (λ id. hears_next set id now.history f) peer (hears_first now.history f) in (course.now.history ≡ now.history) ⊎ Adds now.history f course.now.history
    by None = inl (first-stays now.history f)
    by (Some id) = next-adds set id now.history f

pub step-extends : (set : Settings) (now : Parent) (f : Frame) → Extends now.history (parent_does set now f).now.history
step-extends set now f =
    ⊎_elim (λ same. subst (Extends now.history) (sym same) no_more) (λ adds. subst (Extends now.history) (sym adds.with_it) (extends-onto now.history (added_to now.history adds.message))) (step-adds set now f)

-- ---- a session
module _ (set : Settings) (floors : List ℕ) (child : List SeenBeat) (rises : RisesFrom seen_moment 0 child) where
  abbrev steps : Course Parent → Frame → Course Parent
  steps course f = then_does course (λ now. parent_does set now f)

  -- one more frame adds to the history, if it is not over
  course-adds : (course : Course Parent) (f : Frame) → ((steps course f).now.history ≡ course.now.history) ⊎ Adds course.now.history f (steps course f).now.history
  course-adds course f = by course.ended
    where
      by : (ended : Option SessionResult) → let after = option_map_or (λ _. course) ended (both course (parent_does set course.now f)) in (after.now.history ≡ course.now.history) ⊎ Adds course.now.history f after.now.history
      by None = step-adds set course.now f
      by (Some result) = inl refl

  course-extends : (course : Course Parent) (f : Frame) → Extends course.now.history (steps course f).now.history
  course-extends course f =
      ⊎_elim (λ same. subst (Extends course.now.history) (sym same) no_more) (λ adds. subst (Extends course.now.history) (sym adds.with_it) (extends-onto course.now.history (added_to course.now.history adds.message))) (course-adds course f)

  frames-extend : (frames : List Frame) (course : Course Parent) → Extends course.now.history (fold steps course frames).now.history
  frames-extend [] course = no_more
  frames-extend (f ∷ frames) course =
      extends-further course.now.history (steps course f).now.history (fold steps (steps course f) frames).now.history (course-extends course f) (frames-extend frames (steps course f))

  -- a history between that of a copy and that with a message that is true of the child
  message-copies : (h g : List Beat) (message : Data) (beats : List StoreBeat) → AreBeatsOf g beats → IsData message → IsTrueOfChild floors child message → IsCopyOfChild floors child h → Extends h g → Extends g (onto h (added_to h message)) → IsCopyOfChild floors child g
  message-copies h g message beats are form truth copy before after =
      let prefix = prefix-between (added_to h message) h g before after in
      let b = behind h g before in
      let own = behind-beats h b.more beats (subst (λ (l : List Beat). AreBeatsOf l beats) b.whole are) in
      subst (IsCopyOfChild floors child) (sym prefix.is) (added-copy h message form floors child rises (gaps-end h own.0 own.1) copy truth prefix.count)

  pub frames-copy : (frames : List Frame) (course : Course Parent) (g : List Beat) (beats : List StoreBeat) → AreBeatsOf g beats → AllByRecursion HasSpelling frames → AreTrueOf floors child frames → IsCopyOfChild floors child course.now.history
      → Extends course.now.history g → Extends g (fold steps course frames).now.history → IsCopyOfChild floors child g
  frames-copy [] course g beats are spelt truth copy before after = subst (IsCopyOfChild floors child) (same-history course.now.history g before after) copy
  frames-copy (f ∷ frames) course g beats are spelt truth copy before after =
      let next = (steps course f).now.history in
      ⊎_elim
      (λ within. ⊎_elim
      (λ same. subst (IsCopyOfChild floors child) (same-history course.now.history g before (subst (Extends g) same within)) copy)
      (λ adds. message-copies course.now.history g adds.message beats are (data-form f adds.message adds.is spelt.0) (data-truth f adds.message adds.is truth.0) copy before (subst (Extends g) adds.with_it within))
      (course-adds course f))
      (λ beyond.
      let b = behind next g beyond in
      let own = behind-beats next b.more beats (subst (λ (l : List Beat). AreBeatsOf l beats) b.whole are) in
      frames-copy frames (steps course f) g beats are spelt.1 truth.1
      (⊎_elim
      (λ same. subst (IsCopyOfChild floors child) (sym same) copy)
      (λ adds. message-copies course.now.history next adds.message own.0 own.1 (data-form f adds.message adds.is spelt.0) (data-truth f adds.message adds.is truth.0) copy (course-extends course f) (subst (Extends next) adds.with_it no_more))
      (course-adds course f))
      beyond after)
      (in-line g next (fold steps (steps course f) frames).now.history after (frames-extend frames (steps course f)))
    where
      data-form : (f : Frame) (message : Data) → f ≡ frame.Data message → HasSpelling f → IsData message
      data-form f message is spelt = (subst HasSpelling is spelt).form

      data-truth : (f : Frame) (message : Data) → f ≡ frame.Data message → IsTrueFrame floors child f → IsTrueOfChild floors child message
      data-truth f message is truth = subst (IsTrueFrame floors child) is truth

  -- so does what a crash leaves of a session that keeps its history
  pub crashes-copy : (h0 : List Beat) (frames : List Frame) (old new : List Event) → AllByRecursion HasSpelling frames → AreTrueOf floors child frames → IsCopyOfChild floors child h0
      → Throughout (EveryCrash (Keeps set h0 (exchange (parent_does set) (parent_begins h0) frames).now.history (told old))) old new
      → Throughout (EveryDisk (λ disk. (h : List Beat) × StandsForHistory set h disk × IsCopyOfChild floors child h)) old new
  crashes-copy h0 frames old new spelt truth copy crashes =
      weakened (λ past held disk images.
      let kept = held disk (told past) images (full_text past (told past) refl) in
      let all = were_kept set kept.stored kept.stands.stored kept.stands.are in
      (kept.stored, kept.stands, frames-copy frames (parent_begins h0) kept.stored all.beats all.are spelt truth copy kept.since kept.within)) crashes
