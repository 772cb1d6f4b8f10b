-- Which disks hold a database: one at most, and none where a part is damaged.
use Rattle.std.proofs.Common.{◌≡◌, ◌⊎◌, ℕ, Bool, true, false, List, [], ◌∷◌, ◌+◌, length, if◌then◌else◌, Option, Some, None, inl, inr, arith, refl, sym, ap, ◌∙◌, subst}
use Rattle.std.specs.Option.{is_some}
use Rattle.std.proofs.lemmas.Option.{same_Some}
use Rattle.host_model.specs.declared.file.File.{File}
use Rattle.host_model.specs.Disks.{EveryDisk}
use Rattle.host_model.specs.Past.{Event, Told}
use Rattle.checkpoint.specs.Files.{checkpoint_in, Slot}
use Rattle.checkpoint_body.specs.declared.body.Body.{Body}
use Rattle.store_core.specs.disk.Contents.{Contents, KeptPages}
use Rattle.store_core.specs.disk.Files.{FilesState, IsOpenOf}
use Rattle.store_core.proofs.DamageLemmas.{form-undamaged, holds-files}
use Rattle.store_core.proofs.DiskProofs.OneLemmas.{one_contents}
use Rattle.store_core.specs.declared.beats.beat.Beat.{Beat}
use Rattle.store_core.specs.beats.Records.{beats_from, with_all}
use Rattle.store_core.specs.Counts.{counted}
use Rattle.store_core.proofs.BeatProofs.RecordLaw.{oldest_first}
use Rattle.store_core.specs.bodies.Tiers.{AreTiersOfBody}
use Rattle.store_core.proofs.BodyProofs.WholeLemmas.{tiers-one}
use Rattle.store_core.specs.Damaged.{HasForm, IsDamagedIn}
use Rattle.store_core.specs.Stands.{is_made, records_of, HasStored, Stands}
use Rattle.store_core.specs.Store.{AreOpen, IsLeft, IsReady, IsReplayed, IsSound, IsStoreAt, IsStoreOf, IsWhole, StoreState}
use Rattle.store_core.specs.Stored.{advanced, count_of, is_numbered, next_base, stored_with_all, tiers_of, Stored}
use Rattle.store_core.proofs.RecordLemmas.{read-again}

-- ---- what is stored

-- the records are read as the beats since, the oldest first
pub records-read : (contents : Contents) (stored : Stored) → HasStored contents stored → (rest : List Beat) → with_all [] rest ≡ stored.after
    → beats_from contents.body.last contents.records ≡ Some rest
records-read contents stored has rest whole =
    ap (λ (last : ℕ). beats_from last contents.records) (sym has.base.tiers.last)
    ∙ ap (beats_from stored.base.tiers.last) has.records
    ∙ read-again stored.base stored.after rest whole has.follow

-- files have stored one thing at most
stored-once : (contents : Contents) (stored others : Stored) → HasStored contents stored → HasStored contents others → stored ≡ others
stored-once contents stored others has also =
    let number : stored.base.number ≡ others.base.number = sym has.base.number ∙ also.base.number in
    let settings : stored.base.settings ≡ others.base.settings = sym has.base.settings ∙ also.base.settings in
    let count : stored.base.count ≡ others.base.count = sym has.base.count ∙ also.base.count in
    let side : stored.base.side ≡ others.base.side = sym has.base.side ∙ also.base.side in
    let tiers : stored.base.tiers ≡ others.base.tiers = tiers-one contents.body contents.kept stored.base.tiers others.base.tiers has.base.tiers also.base.tiers in
    let one = oldest_first stored.after in
    let two = oldest_first others.after in
    let rest : one.rest ≡ two.rest =
    same_Some one.rest two.rest
    (sym (records-read contents stored has one.rest one.whole) ∙ records-read contents others also two.rest two.whole) in
    let after : stored.after ≡ others.after = sym one.whole ∙ ap (λ (beats : List Beat). with_all [] beats) rest ∙ two.whole in
    λ i. record { base = record { number = number i; settings = settings i; count = count i; tiers = tiers i; side = side i }; after = after i }

-- ---- disks

-- the contents are those that the disk is known to hold
pub has-stored : (contents : Contents) (stored : Stored) (disk : File → List ℕ) → (stands : Stands stored disk) → stands.contents ≡ contents → HasStored contents stored
has-stored contents stored disk stands same = subst (λ (c : Contents). HasStored c stored) same stands.has

pub stands-once : (stored others : Stored) (disk : File → List ℕ) → Stands stored disk → Stands others disk → stored ≡ others
stands-once stored others disk stands again =
    stored-once again.contents stored others
    (has-stored again.contents stored disk stands (one_contents stands.contents again.contents disk stands.holds again.holds)) again.has

pub is-made : (disk : File → List ℕ) → is_made disk ≡ is_some (checkpoint_in disk)
unfolding is_made
is-made disk = refl

pub none-made : (disk : File → List ℕ) → checkpoint_in disk ≡ None → is_made disk ≡ false
none-made disk none = is-made disk ∙ ap (λ (slot : Option Slot). is_some slot) none

pub stands-made : (stored : Stored) (disk : File → List ℕ) → Stands stored disk → is_made disk ≡ true
stands-made stored disk stands = is-made disk ∙ ap (λ (slot : Option Slot). is_some slot) stands.holds.checkpoint.checkpoint

-- ---- no database where a part is damaged

-- the disk of a database has its form: the beats since the checkpoint, the oldest first
pub stands-form : (stored : Stored) (disk : File → List ℕ) → (stands : Stands stored disk) → (rest : List Beat) → with_all [] rest ≡ stored.after
    → HasForm stands.contents.body rest disk
stands-form stored disk stands rest whole = record {
  number = stands.contents.number;
  records = stands.contents.records;
  files = holds-files stands.contents disk stands.holds;
  read = records-read stands.contents stored stands.has rest whole;
}

pub never-damaged : (part : ℕ) (stored : Stored) (disk : File → List ℕ) → Stands stored disk → IsDamagedIn part disk → ⊥
never-damaged part stored disk stands =
    let order = oldest_first stored.after in
    form-undamaged stands.contents.body order.rest disk (stands-form stored disk stands order.rest order.whole) part

-- ---- stores

-- each crash leaves all that is stored
pub images-at : (past : List Event) (store : StoreState) (stored : Stored) (rest : List Beat) → IsStoreAt past store stored rest
    → EveryDisk (Stands (stored_with_all stored rest)) past
images-at past store stored rest is_at disk images = record { contents = is_at.contents; holds = is_at.opened.holds disk images; has = is_at.has }

-- a whole store that has applied all beats is one of what is stored
pub store-of : (past : List Event) (kept : KeptPages) (stored : Stored) (store : StoreState) → store.whole ≡ true → IsSound kept stored store → AreOpen past kept stored store
    → store.fault ≡ None → IsReplayed store → IsStoreOf past store stored
store-of past kept stored store whole sound are going replayed = record {
  contents = are.contents;
  opened = are.opened;
  has = record {
    base = record {
      number = sym are.opened.number ∙ sound.number;
      settings = ap (λ (b : Body). b.settings) are.body ∙ sound.settings;
      count = ap (λ (b : Body). b.count) are.body ∙ sound.base_count;
      side = ap (λ (b : Body). b.side) are.body ∙ sound.side;
      tiers =
          subst (λ (b : Body). AreTiersOfBody b are.contents.kept stored.base.tiers) (sym are.body)
          (subst (λ (pages : KeptPages). AreTiersOfBody store.body pages stored.base.tiers) (sym are.pages) sound.of_body);
      counted = sound.counted;
    };
    records = are.records ∙ ap (λ (beats : List Beat). records_of (with_all stored.after beats)) replayed;
    follow = sound.followed;
  };
  body = sym are.body;
  waiting = replayed;
  count = sound.count;
  tiers = sound.tiers;
  going = going;
  whole = whole;
}

told-open : (sent : List ℕ) (past : List Event) (files : FilesState) (contents : Contents) → IsOpenOf past files contents → IsOpenOf (Told sent ∷ past) files contents
told-open sent past files contents opened = record { number = opened.number; place = opened.place; journal = opened.journal; holds = opened.holds }

told-whole : (honest : Type 0) (sent : List ℕ) (past : List Event) (store : StoreState) → IsWhole honest past store → IsWhole honest (Told sent ∷ past) store
told-whole honest sent past store is = record {
  whole = is.whole;
  kept = is.kept;
  stored = is.stored;
  sound = is.sound;
  opened = λ going h.
      let was = is.opened going h in
      record {
        contents = was.contents;
        opened = told-open sent past store.files was.contents was.opened;
        body = was.body;
        pages = was.pages;
        records = was.records;
      };
}

told-left : (honest : Type 0) (sent : List ℕ) (past : List Event) (store : StoreState) → IsLeft honest past store → IsLeft honest (Told sent ∷ past) store
told-left honest sent past store is = record {
  broken = is.broken;
  tiers = is.tiers;
  waiting = is.waiting;
  opened = λ going h. let was = is.opened going h in record { records = was.records; is_open = was.is_open };
}

pub told-ready : (honest : Type 0) (sent : List ℕ) (past : List Event) (store : StoreState) → IsReady honest past store → IsReady honest (Told sent ∷ past) store
told-ready honest sent past store ready = record {
  place = ready.place;
  is = elim ready.is as (λ _. IsWhole honest (Told sent ∷ past) store ⊎ IsLeft honest (Told sent ∷ past) store) [
    | inl whole ↦ inl (told-whole honest sent past store whole)
    | inr left ↦ inr (told-left honest sent past store left)
  ];
}

pub told-at : (sent : List ℕ) (past : List Event) (store : StoreState) (stored : Stored) (rest : List Beat) → IsStoreAt past store stored rest
    → IsStoreAt (Told sent ∷ past) store stored rest
told-at sent past store stored rest is_at = record {
  contents = is_at.contents;
  opened = told-open sent past store.files is_at.contents is_at.opened;
  has = is_at.has;
  body = is_at.body;
  waiting = is_at.waiting;
  count = is_at.count;
  tiers = is_at.tiers;
  going = is_at.going;
  whole = is_at.whole;
}

-- ---- a checkpoint keeps what is stored

counted-once : (n : ℕ) → counted (counted n + 0) ≡ counted n
counted-once n = omega arith

abbrev advanced_if : Bool → Stored → List ℕ → Stored
advanced_if test stored side = if test then record { base = next_base stored side; after = [] } else stored

keeps-if : (test : Bool) (stored : Stored) (side : List ℕ)
    → (tiers_of (advanced_if test stored side) ≡ tiers_of stored) × (count_of (advanced_if test stored side) ≡ count_of stored)
keeps-if true stored side = (refl, counted-once (stored.base.count + length stored.after))
keeps-if false stored side = (refl, refl)

pub advanced-keeps : (stored : Stored) (side : List ℕ) → (tiers_of (advanced stored side) ≡ tiers_of stored) × (count_of (advanced stored side) ≡ count_of stored)
advanced-keeps stored side = keeps-if (is_numbered stored.base.number) stored side
