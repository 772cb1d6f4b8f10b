-- The next checkpoint of a store: what the disk holds around it, and the store behind it.
use Rattle.std.proofs.Common.{◌≡◌, ℕ, ◌+◌, ◌^◌, ◌≤◌, inl, inr, true, false, List, [], length, nat_le, None, Err, IsErrOf, arith, refl, sym, ap, ◌∙◌, subst}
use Rattle.std.proofs.lemmas.Bool.{and_parts, and_right, cond-true, false≢true, or_from}
use Rattle.host_model.specs.declared.file.File.{File}
use Rattle.host_model.specs.Cause.{HasCause}
use Rattle.host_model.specs.Disks.{EveryDisk}
use Rattle.host_model.specs.Moments.{Throughout}
use Rattle.host_model.specs.Past.{Event}
use Rattle.host_model.proofs.DiskLemmas.{disks_weaker}
use Rattle.beat_tiers.specs.Sound.{AreSound}
use Rattle.beat_tiers.specs.State.{TiersState}
use Rattle.checkpoint_body.specs.declared.body.Body.{Body}
use Rattle.checkpoint_body.specs.Body.{body_bytes, HasSpelling}
use Rattle.store_core.specs.declared.disk.fault.FilesFault.{FilesFault}
use Rattle.store_core.specs.declared.disk.fault.FilesFault.TheVariants as files_faults
use Rattle.store_core.specs.declared.disk.sealed.Sealed.{Sealed}
use Rattle.store_core.specs.disk.Beginning.{empty_journal}
use Rattle.store_core.specs.disk.Contents.{next_contents, Contents, KeptPages}
use Rattle.store_core.specs.disk.Files.{FilesState, IsOpenOf, IsPlaced}
use Rattle.store_core.specs.disk.Holds.{HoldsEither}
use Rattle.store_core.specs.disk.Kept.{HasPagesOfEach}
use Rattle.store_core.specs.disk.Next.{IsNext}
use Rattle.store_core.specs.disk.Shares.{share, HasOwnSlots, HasRoom, HasSlotRoom, IsWithin}
use Rattle.store_core.proofs.DiskProofs.ShareLemmas.{has_room, has_slot_room}
use Rattle.store_core.specs.bodies.Next.{next_pages, GoOnFrom, HaveCounted, IsNextBody}
use Rattle.store_core.specs.bodies.Tiers.{AreTiersOfBody}
use Rattle.tier_settings.specs.declared.settings.Settings.{Settings}
use Rattle.store_core.specs.declared.fault.StoreFault.{StoreFault}
use Rattle.store_core.specs.declared.fault.StoreFault.TheVariants.{DiskFault}
use Rattle.store_core.specs.declared.beats.beat.Beat.{Beat}
use Rattle.store_core.specs.beats.Records.{with_all, AreNext}
use Rattle.store_core.specs.Counts.{counted}
use Rattle.store_core.specs.Faults.{fault_of_files}
use Rattle.store_core.specs.Stands.{records_of, HasBase, HasStored, Stands, StandsEither}
use Rattle.store_core.specs.Store.{can_advance, is_due, AreOpen, IsReady, IsReplayed, IsSound, IsStoreOf, IsWhole, StoreState}
use Rattle.store_core.specs.Stored.{advanced, has_sealed, is_numbered, next_base, Stored}
use Rattle.store_core.proofs.AdvancePages.{pages-of-each}
use Rattle.store_core.proofs.NextLemmas.{goes-on, sound-after, sound-unsealed}
use Rattle.store_core.proofs.StandLemmas.{images-at}

-- ---- what is stored behind the next checkpoint

-- the base moved on by the beats since
abbrev pub moved_on : Stored → List ℕ → Stored
moved_on stored side = record { base = next_base stored side; after = [] }

pub advanced-on : (stored : Stored) (side : List ℕ) → is_numbered stored.base.number ≡ true → advanced stored side ≡ moved_on stored side
advanced-on stored side numbered = cond-true (is_numbered stored.base.number) (moved_on stored side) stored numbered

-- the number of the files is that of what is stored
pub same-number : (past : List Event) (store : StoreState) (stored : Stored) → IsStoreOf past store stored → store.files.number ≡ stored.base.number
same-number past store stored is_of = is_of.opened.number ∙ is_of.has.base.number

-- where nothing has happened yet
pub nothing-moved : (past : List Event) (store : StoreState) (stored : Stored) (side : List ℕ) → IsStoreOf past store stored → EveryDisk (StandsEither stored (advanced stored side)) past
nothing-moved past store stored side is_of disk images = inl (images-at past store stored [] is_of disk images)

-- ---- the next body

-- what is known of the next body of a store, with this side, and of its new segments
pub record IsNextOf (store : StoreState) (side : List ℕ) (next : Body) (new : Sealed) : Type 0 where
  pub is : IsNextBody store.body store.tiers store.count side next new
  pub spelt : HasSpelling next
  pub follows : (contents : Contents) → contents.body ≡ store.body → HasPagesOfEach store.body contents.kept
      → IsNext contents new next (next_pages store.body next new contents.kept)
  pub tiers : (kept : KeptPages) (was : TiersState) → GoOnFrom store.body kept was store.tiers → AreTiersOfBody next (next_pages store.body next new kept) store.tiers
  pub counted : HaveCounted store.tiers

-- the store with it
abbrev pub with_next : StoreState → FilesState → Body → StoreState
with_next store files next = record store { files = files; body = next }

-- a sound store goes on from its body
pub sound-goes : (kept : KeptPages) (stored : Stored) (store : StoreState) → IsSound kept stored store → is_numbered store.files.number ≡ true
    → GoOnFrom store.body kept stored.base.tiers store.tiers
sound-goes kept stored store sound numbered =
    goes-on store.body kept stored.base stored.after store.tiers sound.of_body sound.counted sound.followed (ap is_numbered (sym sound.number) ∙ numbered) sound.tiers

pub sound-tiers : (kept : KeptPages) (stored : Stored) (store : StoreState) → IsSound kept stored store → AreSound store.tiers
sound-tiers kept stored store sound = subst AreSound (sym sound.tiers) (sound-after stored.base stored.after sound.of_body.sound sound.followed)

counted-again : (n : ℕ) → counted n ≡ counted (counted n + 0)
counted-again n = omega arith

module _ (old : List Event) (store : StoreState) (stored : Stored) (is_of : IsStoreOf old store stored) (numbered : is_numbered store.files.number ≡ true) where
  stored-numbered : is_numbered stored.base.number ≡ true
  stored-numbered = ap is_numbered (sym (same-number old store stored is_of)) ∙ numbered

  -- the store goes on from what was stored
  stored-tiers : AreTiersOfBody store.body is_of.contents.kept stored.base.tiers
  stored-tiers = subst (λ (body : Body). AreTiersOfBody body is_of.contents.kept stored.base.tiers) (sym is_of.body) is_of.has.base.tiers

  stored-goes : GoOnFrom store.body is_of.contents.kept stored.base.tiers store.tiers
  stored-goes =
      goes-on store.body is_of.contents.kept stored.base stored.after store.tiers stored-tiers is_of.has.base.counted is_of.has.follow stored-numbered is_of.tiers

  module _ (side : List ℕ) (next : Body) (new : Sealed) (made : IsNextOf store side next new) where
    abbrev pages : KeptPages
    pages = next_pages store.body next new is_of.contents.kept

    abbrev after : Contents
    after = next_contents is_of.contents next pages

    next-is : IsNext is_of.contents new next pages
    next-is = made.follows is_of.contents (sym is_of.body) (pages-of-each store.body is_of.contents.kept stored.base.tiers stored-tiers)

    next-base : HasBase after (next_base stored side)
    next-base = record {
      number = ap (λ (n : ℕ). n + 1) is_of.has.base.number;
      settings = made.is.settings ∙ ap (λ (body : Body). body.settings) is_of.body ∙ is_of.has.base.settings;
      count = made.is.count ∙ is_of.count;
      side = made.is.side;
      tiers = subst (AreTiersOfBody next pages) is_of.tiers (made.tiers is_of.contents.kept stored.base.tiers stored-goes);
      counted = subst HaveCounted is_of.tiers made.counted;
    }

    next-stored : HasStored after (moved_on stored side)
    next-stored = record { base = next-base; records = refl; follow = tt }

    next-stands : (disk : File → List ℕ) → HoldsEither is_of.contents after disk → StandsEither stored (advanced stored side) disk
    next-stands disk (inl holds) = inl (record { contents = is_of.contents; holds = holds; has = is_of.has })
    next-stands disk (inr holds) =
        inr (subst (λ (what : Stored). Stands what disk) (sym (advanced-on stored side stored-numbered)) (record { contents = after; holds = holds; has = next-stored }))

    -- the moments of the files are those of the store
    pub advance-moments : (later : List Event)
        → ((contents : Contents) (kept : KeptPages) → IsOpenOf old store.files contents → IsNext contents new next kept → Throughout (EveryDisk (HoldsEither contents (next_contents contents next kept))) old later)
        → Throughout (EveryDisk (StandsEither stored (advanced stored side))) old later
    advance-moments later moments = disks_weaker next-stands (moments is_of.contents pages is_of.opened next-is)

    -- and the store behind it is that of what is stored then
    pub advance-store : (later : List Event) (files : FilesState) → IsReplayed store
        → ((contents : Contents) (kept : KeptPages) → IsOpenOf old store.files contents → IsNext contents new next kept → IsOpenOf later files (next_contents contents next kept))
        → IsStoreOf later (with_next store files next) (advanced stored side)
    advance-store later files replayed done =
        subst (IsStoreOf later (with_next store files next)) (sym (advanced-on stored side stored-numbered)) (record {
          contents = after;
          opened = done is_of.contents pages is_of.opened next-is;
          has = next-stored;
          body = refl;
          waiting = replayed;
          count = is_of.count ∙ counted-again (stored.base.count + length stored.after);
          tiers = is_of.tiers;
          going = is_of.going;
          whole = is_of.whole;
        })

-- ---- a store of any disk

module _ (kept : KeptPages) (stored : Stored) (store : StoreState) (sound : IsSound kept stored store) (numbered : is_numbered store.files.number ≡ true) (replayed : IsReplayed store) (side : List ℕ) (next : Body) (new : Sealed) (made : IsNextOf store side next new) where
  abbrev pages_on : KeptPages
  pages_on = next_pages store.body next new kept

  on-tiers : AreTiersOfBody next pages_on store.tiers
  on-tiers = made.tiers kept stored.base.tiers (sound-goes kept stored store sound numbered)

  pub advance-sound : (files : FilesState) → files.number ≡ store.files.number + 1 → IsSound pages_on (moved_on stored side) (with_next store files next)
  advance-sound files number = record {
    spelt = made.spelt;
    paged = pages-of-each next pages_on store.tiers on-tiers;
    number = number ∙ ap (λ (n : ℕ). n + 1) sound.number;
    settings = made.is.settings ∙ sound.settings;
    base_count = made.is.count ∙ sound.count;
    side = made.is.side;
    of_body = subst (AreTiersOfBody next pages_on) sound.tiers on-tiers;
    counted = subst HaveCounted sound.tiers made.counted;
    followed = tt;
    count = sound.count ∙ counted-again (stored.base.count + length stored.after);
    tiers = sound.tiers;
    waiting = subst (AreNext store.tiers.last) (sym replayed) tt;
  }

  pub advance-open : (old later : List Event) (files : FilesState) → AreOpen old kept stored store
      → ((contents : Contents) (kept : KeptPages) → IsOpenOf old store.files contents → IsNext contents new next kept → IsOpenOf later files (next_contents contents next kept))
      → AreOpen later pages_on (moved_on stored side) (with_next store files next)
  advance-open old later files are done =
      let each : HasPagesOfEach store.body are.contents.kept = subst (HasPagesOfEach store.body) (sym are.pages) sound.paged in
      let then_kept : KeptPages = next_pages store.body next new are.contents.kept in
      record {
        contents = next_contents are.contents next then_kept;
        opened = done are.contents then_kept are.opened (made.follows are.contents are.body each);
        body = refl;
        pages = ap (next_pages store.body next new) are.pages;
        records = sym (ap (λ (rest : List Beat). records_of (with_all [] rest)) replayed);
      }

-- a store that can be moved on is whole
pub whole-goes : (honest : Type 0) (past : List Event) (store : StoreState) → IsReady honest past store → can_advance store ≡ true → IsWhole honest past store
whole-goes honest past store ready goes = elim ready.is as (λ _. IsWhole honest past store) [
  | inl whole ↦ whole
  | inr left ↦ absurd (false≢true (sym left.broken ∙ (and_parts store.whole (is_numbered store.files.number) goes).0))
]

pub advance-ready : (honest : Type 0) (old later : List Event) (store : StoreState) (side : List ℕ) (next : Body) (new : Sealed) (files : FilesState) → IsReady honest old store
    → can_advance store ≡ true → IsReplayed store → store.fault ≡ None → IsNextOf store side next new
    → files ≡ record { number = store.files.number + 1; journal = empty_journal (store.files.number + 1) }
    → (honest → (contents : Contents) (kept : KeptPages) → IsOpenOf old store.files contents → IsNext contents new next kept → IsOpenOf later files (next_contents contents next kept))
    → IsReady honest later (with_next store files next)
advance-ready honest old later store side next new files ready goes replayed going made is done =
    let was = whole-goes honest old store ready goes in
    let numbered = (and_parts store.whole (is_numbered store.files.number) goes).1 in
    record {
      place = subst IsPlaced (sym is) (record { file = refl; generation = refl });
      is = inl (record {
        whole = was.whole;
        kept = next_pages store.body next new was.kept;
        stored = moved_on was.stored side;
        sound = advance-sound was.kept was.stored store was.sound numbered replayed side next new made files (ap (λ (f : FilesState). f.number) is);
        opened = λ still h. advance-open was.kept was.stored store was.sound numbered replayed side next new made old later files (was.opened going h) (done h);
      });
    }

-- the tiers of a store are sound
pub ready-tiers : (honest : Type 0) (past : List Event) (store : StoreState) → IsReady honest past store → AreSound store.tiers
ready-tiers honest past store ready = elim ready.is as (λ _. AreSound store.tiers) [
  | inl whole ↦ sound-tiers whole.kept whole.stored store whole.sound
  | inr left ↦ left.tiers
]

-- no other is due: nothing was sealed after the last moment, and the journal is empty
pub next-not-due : (honest : Type 0) (past : List Event) (tiers : TiersState) (store : StoreState) → store.tiers ≡ tiers → IsReady honest past store → store.body.last ≡ tiers.last
    → store.files.journal.bytes ≡ 17 → is_due store ≡ false
next-not-due honest past tiers store same ready last empty =
    let here : store.body.last ≡ store.tiers.last = last ∙ ap (λ (t : TiersState). t.last) (sym same) in
    let unsealed : has_sealed store.body.last store.tiers ≡ false =
    ap (λ (m : ℕ). has_sealed m store.tiers) here ∙ sound-unsealed store.tiers (ready-tiers honest past store ready) in
    let short : nat_le (2 ^ 24) store.files.journal.bytes ≡ false = ap (nat_le (2 ^ 24)) empty in
    and_right (can_advance store) _ (or_from (has_sealed store.body.last store.tiers) _ unsealed short)

-- ---- shares and faults

-- what is written stays within the shares of the settings
pub advance-bound : (old later : List Event) (number most : ℕ) (side : List ℕ) (body next : Body) (new : Sealed) → next.settings ≡ body.settings → next.side ≡ side → HasSpelling next
    → HasOwnSlots next new → length side ≤ most
    → ((shares : File → ℕ) → HasRoom shares number (body_bytes next) → HasSlotRoom shares next new → IsWithin shares old → Throughout (IsWithin shares) old later)
    → IsWithin (share body.settings most) old → Throughout (IsWithin (share body.settings most)) old later
advance-bound old later number most side body next new settings beside spelt own short bound =
    let within : length next.side ≤ most = let same = ap length beside in omega (arith, same, short) in
    subst (λ (set : Settings). IsWithin (share set most) old → Throughout (IsWithin (share set most)) old later) settings
    (bound (share next.settings most) (has_room most number next spelt within) (has_slot_room most next new own))

-- the disk has failed where it has for the files
pub cause-of-files : (old new : ℕ) (fault : FilesFault) (given : StoreFault) → given ≡ fault_of_files fault → HasCause old new (IsErrOf {T = Unit {0}} (Err fault) files_faults.DiskFault)
    → HasCause old new (IsErrOf {T = Unit {0}} (Err given) DiskFault)
cause-of-files old new files_faults.DiskFault given is cause = record {
  later = cause.later;
  failed = λ disk. cause.failed refl;
  stays = λ other. absurd (other (ap (λ (f : StoreFault). Err f) is));
}
cause-of-files old new files_faults.Memory given is cause = record { later = cause.later; failed = λ disk. absurd cc; stays = λ other. cause.stays (λ disk. absurd cc) }

-- a store that is ready goes on from its body
pub ready-goes : (honest : Type 0) (past : List Event) (store : StoreState) → IsReady honest past store → can_advance store ≡ true
    → (kept : KeptPages) × (was : TiersState) × GoOnFrom store.body kept was store.tiers
ready-goes honest past store ready goes =
    let is = whole-goes honest past store ready goes in
    (is.kept, is.stored.base.tiers, sound-goes is.kept is.stored store is.sound (and_parts store.whole (is_numbered store.files.number) goes).1)
