-- What an end has said and told grows from frame to frame, and so does the history of a parent.
use Rattle.std.proofs.Common.{◌≡◌, ℕ, List, [], ◌∷◌, ◌++◌, take, drop, Option, Some, None, refl, sym, ap, subst, ◌∙◌, append_assoc, append-nil}
use Rattle.std.specs.List.{flat_map, fold}
use Rattle.std.specs.Option.{option_map_or}
use Rattle.std.proofs.lemmas.Grind.{flat_map-append}
use Rattle.std.proofs.lemmas.List.{take-append-drop}
use Rattle.std.proofs.lemmas.List.Sums.{fold-append}
use Rattle.host_model.specs.Link.{Sends}
use Rattle.host_model.specs.Past.{told, Event}
use Rattle.history.specs.History.{Beat}
use Rattle.link_frames.specs.declared.frame.Frame.{Frame}
use Rattle.link_frames.specs.Frames.{frame_bytes}
use Rattle.tier_settings.specs.declared.settings.Settings.{Settings}
use Rattle.link_session.specs.Exchange.{both, exchange, then_does, Course, SessionResult}
use Rattle.link_session.specs.Keeps.{no_more, Extends}
use Rattle.link_session.specs.Parent.{done_with, parent_begins, parent_does, Parent}
use Rattle.link_session.specs.Receiving.{HasStored}
use Rattle.link_session.specs.Session.{SendsAtLeast}
use Rattle.link_session.proofs.CopyLemmas.{step-extends}
use Rattle.link_session.proofs.ExtendsLemmas.{extends-further}
use Rattle.link_session.proofs.LinkLemmas.{sends-both}
use Rattle.link_session.proofs.StoreLemmas.{stored-since}

-- ---- what is said and told
pub record Grows {S : Type 0} (first last : Course S) : Type 0 where
  pub said : List Frame
  pub says : last.sent ≡ first.sent ++ said
  pub text : List ℕ
  pub tells : last.told ≡ first.told ++ text

module _ {S : Type 0} (does : S → Frame → Course S) where
  abbrev step : Course S → Frame → Course S
  step course f = then_does course (λ now. does now f)

  step-grows : (course : Course S) (f : Frame) → Grows course (step course f)
  step-grows course f = by course.ended
    where
      by : (ended : Option SessionResult) → Grows course (option_map_or (λ _. course) ended (both course (does course.now f)))
      by None = record { said = (does course.now f).sent; says = refl; text = (does course.now f).told; tells = refl }
      by (Some result) = record { said = []; says = sym (append-nil course.sent); text = []; tells = sym (append-nil course.told) }

  frames-grow : (frames : List Frame) (course : Course S) → Grows course (fold step course frames)
  frames-grow [] course = record { said = []; says = sym (append-nil course.sent); text = []; tells = sym (append-nil course.told) }
  frames-grow (f ∷ frames) course =
      let first = step-grows course f in
      let more = frames-grow frames (step course f) in
      record {
        said = first.said ++ more.said;
        says = more.says ∙ ap (λ (fs : List Frame). fs ++ more.said) first.says ∙ append_assoc course.sent first.said more.said;
        text = first.text ++ more.text;
        tells = more.tells ∙ ap (λ (t : List ℕ). t ++ more.text) first.tells ∙ append_assoc course.told first.text more.text;
      }

  module _ (begin : Course S) (frames : List Frame) (n : ℕ) where
    split-is : exchange does begin frames ≡ fold step (exchange does begin (take n frames)) (drop n frames)
    split-is = ap (λ (fs : List Frame). exchange does begin fs) (sym (take-append-drop n frames)) ∙ fold-append step begin (take n frames) (drop n frames)

    pub first-grows : Grows (exchange does begin (take n frames)) (exchange does begin frames)
    first-grows = subst (λ (course : Course S). Grows (exchange does begin (take n frames)) course) (sym split-is) (frames-grow (drop n frames) (exchange does begin (take n frames)))

    -- at least the answer to the first frames was said, where that to all of them was
    pub said-first : (a b c : Option (List ℕ)) (more : List ℕ) → Sends a (flat_map frame_bytes (exchange does begin frames).sent) b → Sends b more c
        → SendsAtLeast a (flat_map frame_bytes (exchange does begin (take n frames)).sent) c
    said-first a b c more first last =
        let grown = first-grows in
        let begun = flat_map frame_bytes (exchange does begin (take n frames)).sent in
        let behind = flat_map frame_bytes grown.said in
        let whole : flat_map frame_bytes (exchange does begin frames).sent ++ more ≡ begun ++ (behind ++ more) =
        ap (λ (bytes : List ℕ). bytes ++ more) (ap (λ (fs : List Frame). flat_map frame_bytes fs) grown.says ∙ flat_map-append frame_bytes (exchange does begin (take n frames)).sent grown.said) ∙ append_assoc begun behind more in
        (behind ++ more, subst (λ (bytes : List ℕ). Sends a bytes c) whole (sends-both a b c (flat_map frame_bytes (exchange does begin frames).sent) more first last))

-- ---- the history of a parent
module _ (set : Settings) where
  abbrev hears : Course Parent → Frame → Course Parent
  hears course f = then_does course (λ now. parent_does set now f)

  pub hears-extends : (course : Course Parent) (f : Frame) → Extends course.now.history (hears course f).now.history
  hears-extends course f = by course.ended
    where
      by : (ended : Option SessionResult) → Extends course.now.history (option_map_or (λ _. course) ended (both course (parent_does set course.now f))).now.history
      by None = step-extends set course.now f
      by (Some result) = no_more

  pub frames-extend : (frames : List Frame) (course : Course Parent) → Extends course.now.history (fold hears course frames).now.history
  frames-extend [] course = no_more
  frames-extend (f ∷ frames) course = extends-further course.now.history (hears course f).now.history (fold hears (hears course f) frames).now.history (hears-extends course f) (frames-extend frames (hears course f))

  pub first-extends : (h0 : List Beat) (frames : List Frame) (n : ℕ) → Extends (done_with set h0 (take n frames)).now.history (done_with set h0 frames).now.history
  first-extends h0 frames n =
      subst (λ (course : Course Parent). Extends (done_with set h0 (take n frames)).now.history course.now.history) (sym (split-is (parent_does set) (parent_begins h0) frames n))
      (frames-extend (drop n frames) (done_with set h0 (take n frames)))

  -- all that the first frames were to store and tell was, where it was of all of them
  pub stored-first : (h0 : List Beat) (frames : List Frame) (n : ℕ) (start new : List Event) → HasStored set (done_with set h0 frames).now.history start (done_with set h0 frames).told new
      → HasStored set (done_with set h0 (take n frames)).now.history start (done_with set h0 (take n frames)).told new
  stored-first h0 frames n start new has =
      let first = done_with set h0 (take n frames) in
      let grown = first-grows (parent_does set) (parent_begins h0) frames n in
      let since = stored-since set first.now.history (done_with set h0 frames).now.history start new (done_with set h0 frames).told (first-extends h0 frames n) has in
      record {
        more = grown.text ++ since.more;
        tells = since.tells ∙ ap (λ (t : List ℕ). told start ++ t) (ap (λ (t : List ℕ). t ++ since.more) grown.tells ∙ append_assoc first.told grown.text since.more);
        stands = since.stands;
      }
