-- A beat that was there at the opening: it may follow, and the store that applied it is as ready.
use Rattle.std.proofs.Common.{◌≡◌, ◌⊎◌, inl, inr, refl, ℕ, Bool, true, false, ◌&&◌, ◌||◌, not, List, [], ◌∷◌, Option, Some, None, sym, ap, ◌∙◌, subst}
use Rattle.std.proofs.lemmas.Bool.{and_parts, false≢true}
use Rattle.host_model.specs.Past.{Event}
use Rattle.beat_tiers.specs.Sound.{AreSound}
use Rattle.beat_tiers.specs.State.{TiersState, after_beat}
use Rattle.checkpoint_body.specs.declared.body.Body.{Body}
use Rattle.checkpoint_body.specs.Body.{HasSpelling}
use Rattle.store_core.specs.disk.Contents.{KeptPages}
use Rattle.store_core.specs.disk.Files.{FilesState, IsJournalOpen, IsOpenOf, IsPlaced}
use Rattle.store_core.specs.disk.Kept.{HasPagesOfEach}
use Rattle.store_core.specs.bodies.Tiers.{AreTiersOfBody}
use Rattle.store_core.specs.declared.beats.beat.Beat.{Beat}
use Rattle.store_core.specs.beats.Records.{last_after, with_all, AreNext, TakesFirst}
use Rattle.store_core.specs.Counts.{raised}
use Rattle.store_core.specs.Store.{tiers_after}
use Rattle.store_core.specs.Stands.{records_of}
use Rattle.store_core.specs.Store.{can_advance, count_after, has_none, stays_whole, IsLeft, IsReady, IsSound, IsStoreAt, IsWhole, Replays, StoreState}
use Rattle.store_core.specs.Stored.{Stored, has_sealed, is_numbered, stored_after, stored_with, stored_with_all, tiers_of, HaveFollowed, MayFollow}
use Rattle.store_core.proofs.AdvanceLemmas.{sound-tiers}
use Rattle.store_core.proofs.FollowLemmas.{count-more, journal-open, none_next, sealed_same, sound_more, IsUnsealed}
use Rattle.store_core.proofs.NextLemmas.{sound-one}
use Rattle.store_core.proofs.RecordLemmas.{last-after, prefix-followed}

-- ---- none stands behind a beat that sealed a segment

-- the first of the beats that wait may follow
first_follows : (stored : Stored) (next : Beat) (rest : List Beat) → HaveFollowed stored.base (stored_with_all stored (next ∷ rest)).after → MayFollow stored next
first_follows stored next rest all = (prefix-followed stored.base (next ∷ stored.after) rest all).0

pub never_sealed : (past : List Event) (store : StoreState) (stored : Stored) (rest : List Beat) → IsStoreAt past store stored rest → (store.waiting ≡ [] → ⊥)
    → can_advance store ≡ true → has_sealed store.body.last store.tiers ≡ true → ⊥
never_sealed past store stored [] is_at waits goes new = waits is_at.waiting
never_sealed past store stored (next ∷ rest) is_at waits goes new =
    let may = first_follows stored next rest is_at.has.follow in
    let number : store.files.number ≡ stored.base.number = is_at.opened.number ∙ is_at.has.base.number in
    let last : store.body.last ≡ stored.base.tiers.last = ap (λ (b : Body). b.last) is_at.body ∙ sym is_at.has.base.tiers.last in
    let numbered = and_parts store.whole (is_numbered store.files.number) goes in
    let none_new = may.unsealed (subst (λ (n : ℕ). is_numbered n ≡ true) number numbered.1) in
    false≢true (sym none_new ∙ sealed_same store.body.last stored.base.tiers.last store.tiers (tiers_of stored) last is_at.tiers ∙ new)

-- ---- the store stays sound

sound_same : (kept : KeptPages) (stored : Stored) (store after : StoreState) → IsSound kept stored store → after.body ≡ store.body → after.files.number ≡ store.files.number
    → after.count ≡ store.count → after.tiers ≡ store.tiers → AreNext after.tiers.last after.waiting → IsSound kept stored after
sound_same kept stored store after sound same_body same_number same_count same_tiers next = record {
  spelt = subst HasSpelling (sym same_body) sound.spelt;
  paged = subst (λ (b : Body). HasPagesOfEach b kept) (sym same_body) sound.paged;
  number = same_number ∙ sound.number;
  settings = ap (λ (b : Body). b.settings) same_body ∙ sound.settings;
  base_count = ap (λ (b : Body). b.count) same_body ∙ sound.base_count;
  side = ap (λ (b : Body). b.side) same_body ∙ sound.side;
  of_body = subst (λ (b : Body). AreTiersOfBody b kept stored.base.tiers) (sym same_body) sound.of_body;
  counted = sound.counted;
  followed = sound.followed;
  count = same_count ∙ sound.count;
  tiers = same_tiers ∙ sound.tiers;
  waiting = next;
}

-- no beat waits, or no segment was sealed since the checkpoint where there can be a later one
abbrev pub MayReplay : StoreState → Type 0
MayReplay store = (store.waiting ≡ [] → ⊥) → IsUnsealed store

may-by : (waiting : List Beat) (goes new : Bool) → (has_none waiting || not (goes && new)) ≡ true → (waiting ≡ [] → ⊥) → goes ≡ true → new ≡ false
may-by [] goes new test waits is = absurd (waits refl)
may-by (beat ∷ beats) true true test waits is = absurd (false≢true test)
may-by (beat ∷ beats) true false test waits is = refl
may-by (beat ∷ beats) false new test waits is = absurd (false≢true is)

may-replay : (store : StoreState) → (has_none store.waiting || not (can_advance store && has_sealed store.body.last store.tiers)) ≡ true → MayReplay store
may-replay store test = may-by store.waiting (can_advance store) (has_sealed store.body.last store.tiers) test

stays-by : (waiting : List Beat) (goes new : Bool) → ((waiting ≡ [] → ⊥) → goes ≡ true → new ≡ true → ⊥) → (has_none waiting || not (goes && new)) ≡ true
stays-by [] goes new never = refl
stays-by (beat ∷ beats) true true never = absurd (never (λ none. absurd cc) refl refl)
stays-by (beat ∷ beats) true false never = refl
stays-by (beat ∷ beats) false new never = refl

-- a store of what is stored stays whole
pub at-stays : (past : List Event) (store : StoreState) (stored : Stored) (rest : List Beat) → IsStoreAt past store stored rest → stays_whole store ≡ true
at-stays past store stored rest is_at =
    ap (λ (w : Bool). w && (has_none store.waiting || not (can_advance store && has_sealed store.body.last store.tiers))) is_at.whole
    ∙ stays-by store.waiting (can_advance store) (has_sealed store.body.last store.tiers) (never_sealed past store stored rest is_at)

some_waits : (waiting rest : List Beat) (beat : Beat) → waiting ≡ beat ∷ rest → waiting ≡ [] → ⊥
some_waits waiting rest beat waits none = cc

sound_after : (kept : KeptPages) (stored : Stored) (store after : StoreState) (next : Option Beat) → store.whole ≡ true → MayReplay store → IsSound kept stored store
    → TakesFirst store.waiting next after.waiting → after.tiers ≡ tiers_after next store.tiers → after.count ≡ count_after next store.count
    → after.files ≡ store.files → after.body ≡ store.body → IsSound kept (stored_after next stored) after
sound_after kept stored store after None whole may sound takes tiers count same_files same_body =
    sound_same kept stored store after sound same_body (ap (λ (f : FilesState). f.number) same_files) count tiers (none_next after.tiers.last after.waiting takes.1)
sound_after kept stored store after (Some beat) whole may sound takes tiers count same_files same_body =
    let next : AreNext store.tiers.last (beat ∷ after.waiting) = subst (AreNext store.tiers.last) takes sound.waiting in
    sound_more kept stored store after beat whole sound next.0 next.1 (may (some_waits store.waiting after.waiting beat takes)) same_body (ap (λ (f : FilesState). f.number) same_files)
    count tiers next.2

-- the beats stored and those that wait are the same together
whole-after : (stored : Stored) (next : Option Beat) (waiting rest : List Beat) → TakesFirst waiting next rest
    → (stored_with_all stored waiting).after ≡ (stored_with_all (stored_after next stored) rest).after
whole-after stored None waiting rest takes = ap (with_all stored.after) (takes.0 ∙ sym takes.1)
whole-after stored (Some beat) waiting rest takes = ap (with_all stored.after) takes

-- ---- the next beat was applied

module _ (past : List Event) (store after : StoreState) (stored : Stored) (same_files : after.files ≡ store.files) (same_body : after.body ≡ store.body)
    (same_fault : after.fault ≡ store.fault) (stays : after.whole ≡ true) where
  replays_none : IsStoreAt past store stored [] → after.waiting ≡ [] → after.tiers ≡ store.tiers → after.count ≡ store.count → IsStoreAt past after stored []
  replays_none is_at waiting tiers count = record {
    contents = is_at.contents;
    opened = subst (λ (f : FilesState). IsOpenOf past f is_at.contents) (sym same_files) is_at.opened;
    has = is_at.has;
    body = same_body ∙ is_at.body;
    waiting = waiting;
    count = count ∙ is_at.count;
    tiers = tiers ∙ is_at.tiers;
    going = same_fault ∙ is_at.going;
    whole = stays;
  }

  replays_next : (beat : Beat) (rest : List Beat) → IsStoreAt past store stored (beat ∷ rest) → after.waiting ≡ rest → after.tiers ≡ after_beat beat.moment beat.points store.tiers
      → after.count ≡ raised store.count → IsStoreAt past after (stored_with stored beat) rest
  replays_next beat rest is_at waiting tiers count = record {
    contents = is_at.contents;
    opened = subst (λ (f : FilesState). IsOpenOf past f is_at.contents) (sym same_files) is_at.opened;
    has = is_at.has;
    body = same_body ∙ is_at.body;
    waiting = waiting;
    count = count ∙ count-more stored beat store.count is_at.count;
    tiers = tiers ∙ ap (λ (t : TiersState). after_beat beat.moment beat.points t) is_at.tiers;
    going = same_fault ∙ is_at.going;
    whole = stays;
  }

  pub replays : (rest : List Beat) (next : Option Beat) → IsStoreAt past store stored rest → TakesFirst store.waiting next after.waiting
      → after.tiers ≡ tiers_after next store.tiers → after.count ≡ count_after next store.count → Replays past after stored rest next
  replays [] None is_at takes tiers count = replays_none is_at takes.1 tiers count
  replays [] (Some beat) is_at takes tiers count = absurd (let e : [] ≡ beat ∷ after.waiting = sym is_at.waiting ∙ takes in cc)
  replays (first ∷ rest) None is_at takes tiers count = absurd (let e : first ∷ rest ≡ [] = sym is_at.waiting ∙ takes.0 in cc)
  replays (first ∷ rest) (Some beat) is_at takes tiers count =
      let same : beat ∷ after.waiting ≡ first ∷ rest = sym takes ∙ is_at.waiting in
      let one : beat ≡ first = cc in
      let others : after.waiting ≡ rest = cc in
      (one, replays_next beat rest (subst (λ (b : Beat). IsStoreAt past store stored (b ∷ rest)) (sym one) is_at) others tiers count)

-- ---- and as ready, where nothing happened to its host

-- what the next beat leaves of sound tiers and of the beats that wait
record AreReplayed (after : StoreState) : Type 0 where
  tiers : AreSound after.tiers
  waiting : AreNext after.tiers.last after.waiting

replayed : (store after : StoreState) (next : Option Beat) → AreSound store.tiers → AreNext store.tiers.last store.waiting → TakesFirst store.waiting next after.waiting
    → after.tiers ≡ tiers_after next store.tiers → AreReplayed after
replayed store after None sound waiting takes tiers = record {
  tiers = subst AreSound (sym tiers) sound;
  waiting = none_next after.tiers.last after.waiting takes.1;
}
replayed store after (Some beat) sound waiting takes tiers =
    let next : AreNext store.tiers.last (beat ∷ after.waiting) = subst (AreNext store.tiers.last) takes waiting in
    let last : last_after store.tiers.last beat.moment ≡ after.tiers.last =
    sym (last-after beat.moment beat.points store.tiers) ∙ ap (λ (t : TiersState). t.last) (sym tiers) in
    record {
      tiers = subst AreSound (sym tiers) (sound-one store.tiers beat sound next.0 next.1);
      waiting = subst (λ (n : ℕ). AreNext n after.waiting) last next.2;
    }

module _ (honest : Type 0) (past : List Event) (store after : StoreState) (next : Option Beat) (takes : TakesFirst store.waiting next after.waiting)
    (tiers : after.tiers ≡ tiers_after next store.tiers) (count : after.count ≡ count_after next store.count) (same_files : after.files ≡ store.files)
    (same_body : after.body ≡ store.body) (going : after.fault ≡ None → store.fault ≡ None) where
  whole_replayed : MayReplay store → after.whole ≡ true → IsWhole honest past store → IsWhole honest past after
  whole_replayed may stays is = record {
    whole = stays;
    kept = is.kept;
    stored = stored_after next is.stored;
    sound = sound_after is.kept is.stored store after next is.whole may is.sound takes tiers count same_files same_body;
    opened = λ still h.
        let was = is.opened (going still) h in
        record {
          contents = was.contents;
          opened = subst (λ (f : FilesState). IsOpenOf past f was.contents) (sym same_files) was.opened;
          body = was.body ∙ sym same_body;
          pages = was.pages;
          records = was.records ∙ ap records_of (whole-after is.stored next store.waiting after.waiting takes);
        };
  }

  -- a beat stands behind one that sealed a segment
  broken_replayed : after.whole ≡ false → IsWhole honest past store → IsLeft honest past after
  broken_replayed breaks is =
      let now = replayed store after next (sound-tiers is.kept is.stored store is.sound) is.sound.waiting takes tiers in
      record {
        broken = breaks;
        tiers = now.tiers;
        waiting = now.waiting;
        opened = λ still h.
            let was = is.opened (going still) h in
            subst (IsJournalOpen past) (sym same_files) (journal-open past store.files was.contents was.opened);
      }

  left_replayed : after.whole ≡ false → IsLeft honest past store → IsLeft honest past after
  left_replayed breaks is =
      let now = replayed store after next is.tiers is.waiting takes tiers in
      record {
        broken = breaks;
        tiers = now.tiers;
        waiting = now.waiting;
        opened = λ still h. subst (IsJournalOpen past) (sym same_files) (is.opened (going still) h);
      }

  -- the test of a whole store
  tested : store.whole ≡ true → after.whole ≡ stays_whole store → after.whole ≡ (has_none store.waiting || not (can_advance store && has_sealed store.body.last store.tiers))
  tested whole stays = stays ∙ ap (λ (w : Bool). w && (has_none store.waiting || not (can_advance store && has_sealed store.body.last store.tiers))) whole

  whole_or_left : (now : Bool) → after.whole ≡ now → store.whole ≡ true → after.whole ≡ stays_whole store → IsWhole honest past store → IsWhole honest past after ⊎ IsLeft honest past after
  whole_or_left true now whole stays is = inl (whole_replayed (may-replay store (sym (tested whole stays) ∙ now)) now is)
  whole_or_left false now whole stays is = inr (broken_replayed now is)

  pub ready_replayed : after.whole ≡ stays_whole store → IsReady honest past store → IsReady honest past after
  ready_replayed stays ready = record {
    place = subst IsPlaced (sym same_files) ready.place;
    is = elim ready.is as (λ _. IsWhole honest past after ⊎ IsLeft honest past after) [
      | inl whole ↦ whole_or_left after.whole refl whole.whole stays whole
      | inr left ↦ inr (left_replayed (stays ∙ ap (λ (w : Bool). w && (has_none store.waiting || not (can_advance store && has_sealed store.body.last store.tiers))) left.broken) left)
    ];
  }
