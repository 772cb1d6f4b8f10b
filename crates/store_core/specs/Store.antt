-- What contracts see of a store, and of what a store is.
use Rattle.std.specs.Prelude.{◌≡◌, ◌⊎◌, ℕ, Bool, true, false, not, ◌&&◌, ◌||◌, nat_le, List, [], ◌∷◌, Option, Some, None}
use Rattle.host_model.specs.Past.{Event}
use Rattle.beat_tiers.specs.Beats.{TierBeat}
use Rattle.beat_tiers.specs.Sound.{AreSound}
use Rattle.beat_tiers.specs.State.{TiersState, after_beat}
use Rattle.checkpoint_body.specs.declared.body.Body.{Body}
use Rattle.checkpoint_body.specs.Body.{HasSpelling}
use Rattle.store_core.specs.disk.Contents.{Contents, KeptPages}
use Rattle.store_core.specs.disk.Files.{FilesState, IsJournalOpen, IsOpenOf, IsPlaced}
use Rattle.store_core.specs.disk.Kept.{HasPagesOfEach}
use Rattle.store_core.specs.bodies.Next.{HaveCounted}
use Rattle.store_core.specs.bodies.Tiers.{AreTiersOfBody}
use Rattle.store_core.specs.declared.beats.beat.Beat.{Beat}
use Rattle.store_core.specs.declared.fault.Why.{Why}
use Rattle.store_core.specs.beats.Records.{AreNext}
use Rattle.store_core.specs.Counts.{raised}
use Rattle.tier_settings.specs.declared.settings.Settings.{Settings}
use Rattle.store_core.specs.Tiers.{HasTiers}
use Rattle.store_core.specs.Stands.{records_of, HasStored}
use Rattle.store_core.specs.Stored.{Stored, count_of, has_sealed, is_numbered, stored_with, stored_with_all, tiers_of, HaveFollowed}
use Rattle.store_core.specs.declared.store.TheConstants.{LONG_JOURNAL}

pub record StoreState : Type 0 where
  pub files : FilesState
  -- the body of the open checkpoint
  pub body : Body
  -- how many beats were applied: the count stands still at 2^64 - 1
  pub count : ℕ
  -- the first cause for which the store must be opened again
  pub fault : Option Why
  -- whether the disk holds what beats leave: where it does not, no later checkpoint is made
  pub whole : Bool
  -- the beats that are still to be applied, the oldest first
  pub waiting : List Beat
  -- what the tiers keep of the beats that were applied
  pub tiers : TiersState

-- all beats have been applied
abbrev pub IsReplayed : StoreState → Type 0
IsReplayed store = store.waiting ≡ []

-- there can be a later checkpoint
abbrev pub can_advance : StoreState → Bool
can_advance store = store.whole && is_numbered store.files.number

-- no beat is left to be applied
abbrev pub has_none : List Beat → Bool
has_none [] = true
has_none (beat ∷ beats) = false

-- The disk still holds what beats leave once the next beat is applied: none waits behind one that sealed a segment, where there
-- can be a later checkpoint.
abbrev pub stays_whole : StoreState → Bool
stays_whole store = store.whole && (has_none store.waiting || not (can_advance store && has_sealed store.body.last store.tiers))

-- a checkpoint is due: a segment was sealed since the last one, or the journal is long, and there can be a later one
abbrev pub is_due : StoreState → Bool
is_due store = can_advance store && (has_sealed store.body.last store.tiers || nat_le LONG_JOURNAL store.files.journal.bytes)

-- ---- a store of what is stored

-- the store has applied what is stored here, and these beats, the oldest first, are still to be applied
pub record IsStoreAt (past : List Event) (store : StoreState) (stored : Stored) (rest : List Beat) : Type 0 where
  pub contents : Contents
  pub opened : IsOpenOf past store.files contents
  pub has : HasStored contents (stored_with_all stored rest)
  pub body : store.body ≡ contents.body
  pub waiting : store.waiting ≡ rest
  pub count : store.count ≡ count_of stored
  pub tiers : store.tiers ≡ tiers_of stored
  pub going : store.fault ≡ None
  pub whole : store.whole ≡ true

-- the store has applied all that is stored
abbrev pub IsStoreOf : List Event → StoreState → Stored → Type 0
IsStoreOf past store stored = IsStoreAt past store stored []

-- by these settings the store has applied these beats, as tiers see them
abbrev pub HasApplied : Settings → List TierBeat → StoreState → Type 0
HasApplied set beats store = HasTiers set beats store.tiers

-- the tiers after a replay that gave this beat, or none
abbrev pub tiers_after : Option Beat → TiersState → TiersState
tiers_after None tiers = tiers
tiers_after (Some beat) tiers = after_beat beat.moment beat.points tiers

-- what is stored up to the checkpoint
abbrev pub base_of : Stored → Stored
base_of stored = record stored { after = [] }

-- the store stands at its checkpoint, and the beats since, the oldest first, are still to be applied
pub record OpensAt (past : List Event) (store : StoreState) (stored : Stored) : Type 0 where
  pub rest : List Beat
  pub whole : stored_with_all (base_of stored) rest ≡ stored
  pub is_at : IsStoreAt past store (base_of stored) rest

-- the count after a replay that gave this beat, or none
abbrev pub count_after : Option Beat → ℕ → ℕ
count_after None count = count
count_after (Some beat) count = raised count

-- a replay gave the next beat and applied it, or there is none
abbrev pub Replays : List Event → StoreState → Stored → List Beat → Option Beat → Type 0
Replays past store stored [] None = IsStoreAt past store stored []
Replays past store stored [] (Some beat) = ⊥
Replays past store stored (next ∷ rest) None = ⊥
Replays past store stored (next ∷ rest) (Some beat) = (beat ≡ next) × IsStoreAt past store (stored_with stored beat) rest

-- ---- a store of any disk

-- The body and the pages are those of the base of what is stored, and the store has applied the beats since, each of which
-- might follow; others wait.
pub record IsSound (kept : KeptPages) (stored : Stored) (store : StoreState) : Type 0 where
  pub spelt : HasSpelling store.body
  pub paged : HasPagesOfEach store.body kept
  pub number : store.files.number ≡ stored.base.number
  pub settings : store.body.settings ≡ stored.base.settings
  pub base_count : store.body.count ≡ stored.base.count
  pub side : store.body.side ≡ stored.base.side
  pub of_body : AreTiersOfBody store.body kept stored.base.tiers
  pub counted : HaveCounted stored.base.tiers
  pub followed : HaveFollowed stored.base stored.after
  pub count : store.count ≡ count_of stored
  pub tiers : store.tiers ≡ tiers_of stored
  pub waiting : AreNext store.tiers.last store.waiting

-- the files are open, with the checkpoint of this body and these pages, and the records of all beats since
pub record AreOpen (past : List Event) (kept : KeptPages) (stored : Stored) (store : StoreState) : Type 0 where
  pub contents : Contents
  pub opened : IsOpenOf past store.files contents
  pub body : contents.body ≡ store.body
  pub pages : contents.kept ≡ kept
  pub records : contents.records ≡ records_of (stored_with_all stored store.waiting).after

-- the store is of what is stored as far as it has applied it
pub record IsWhole (honest : Type 0) (past : List Event) (store : StoreState) : Type 0 where
  pub whole : store.whole ≡ true
  pub kept : KeptPages
  pub stored : Stored
  pub sound : IsSound kept stored store
  pub opened : store.fault ≡ None → honest → AreOpen past kept stored store

-- The store is of a disk that has the form of a database, and holds what no beats leave. Its tiers are sound all the same, and
-- the beats that wait might follow.
pub record IsLeft (honest : Type 0) (past : List Event) (store : StoreState) : Type 0 where
  pub broken : store.whole ≡ false
  pub tiers : AreSound store.tiers
  pub waiting : AreNext store.tiers.last store.waiting
  pub opened : store.fault ≡ None → honest → IsJournalOpen past store.files

-- what a call of a store requires of its host: it holds after `open` of every image
pub record IsReady (honest : Type 0) (past : List Event) (store : StoreState) : Type 0 where
  pub place : IsPlaced store.files
  pub is : IsWhole honest past store ⊎ IsLeft honest past store
