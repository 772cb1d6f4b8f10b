-- A Data that is stored is told.
use Rattle.std.proofs.Common.{◌≡◌, ℕ, List, [], ◌∷◌, ◌++◌, length, Option, sym, ap, ◌∙◌, true≢false}
use Rattle.std.specs.Option.{option_map_or}
use Rattle.std.proofs.lemmas.List.Sums.{fold-append}
use Rattle.history.specs.declared.fault.BlockFault.{BlockFault}
use Rattle.history.specs.History.{Beat}
use Rattle.replication.specs.declared.verdict.Verdict.{Verdict}
use Rattle.link_frames.specs.declared.frame.Frame.{Frame}
use Rattle.link_frames.specs.declared.frame.Frame.TheVariants as frame
use Rattle.tier_settings.specs.declared.settings.Settings.{Settings}
use Rattle.store_core.specs.Counts.{counted}
use Rattle.agent_core.specs.Copying.{added_to, events_onto}
use Rattle.agent_core.specs.Kept.{onto}
use Rattle.link_session.specs.Exchange.{both, then_does, Course}
use Rattle.link_session.specs.Parent.{done_with, hears_first, hears_next, parent_begins, parent_does, stores, stores_unless, takes_by, IsToStore, Parent, StoresAtLast}
use Rattle.link_session.proofs.AckLemmas.{has-first, stored-some}
use Rattle.link_session.proofs.ExchangeLemmas.{then-goes}

-- what a parent does at a Data that it is to store
storing-does : (set : Settings) (parent : Parent) (f : Frame) (to : IsToStore parent f) → parent_does set parent f ≡ stores set to.id parent.history (added_to parent.history to.message)
storing-does set parent f to =
    ap (λ (g : Frame). parent_does set parent g) to.is
    ∙ ap (λ (peer : Option ℕ). option_map_or (λ (id : ℕ). hears_next set id parent.history (frame.Data to.message)) peer (hears_first parent.history (frame.Data to.message))) to.peer
    ∙ ap (λ (v : Verdict). takes_by set to.id parent.history to.message v) to.stored
    ∙ ap (λ (why : Option BlockFault). stores_unless set to.id parent.history to.message why) to.free

rest-none : (text more : List ℕ) → text ++ more ≡ [] → more ≡ []
rest-none [] more none = none
rest-none (byte ∷ text) more none = absurd (true≢false (ap has-first none))

module _ (set : Settings) (h0 : List Beat) (frames : List Frame) (at : StoresAtLast set h0 frames) where
  abbrev first : Course Parent
  first = done_with set h0 at.before

  abbrev last_course : Course Parent
  last_course = stores set at.stores.id first.now.history (added_to first.now.history at.stores.message)

  -- the frames before it, and then the Data
  pub last-is : done_with set h0 frames ≡ both first last_course
  last-is =
      ap (λ (fs : List Frame). done_with set h0 fs) at.whole
      ∙ fold-append (λ (course : Course Parent) (f : Frame). then_does course (λ now. parent_does set now f)) (parent_begins h0) at.before (at.final ∷ [])
      ∙ then-goes first (λ now. parent_does set now at.final) at.goes_on
      ∙ ap (λ (course : Course Parent). both first course) (storing-does set first.now at.final at.stores)

  pub told-some : (done_with set h0 frames).told ≡ [] → ⊥
  told-some none =
      let more = added_to first.now.history at.stores.message in
      stored-some (record { count = counted (length (onto first.now.history more)); events = events_onto set first.now.history more })
      (rest-none first.told last_course.told (sym (ap (λ (course : Course Parent). course.told) last-is) ∙ none))
