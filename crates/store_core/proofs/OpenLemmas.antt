-- What a store is when it was made or opened.
use Rattle.std.proofs.Common.{◌≡◌, ◌⊎◌, ℕ, true, false, ◌^◌, ◌<◌, ◌≤◌, ◌+◌, List, [], length, Option, is_some, Some, None, Result, Ok, Err, IfOk, OnOk, inl, inr, arith, refl, sym, ap, ◌∙◌, subst}
use Rattle.std.proofs.lemmas.Option.{none-some, same_Some}
use Rattle.host_model.specs.declared.file.File.{File}
use Rattle.host_model.specs.Disks.{EveryDisk}
use Rattle.host_model.specs.Past.{Event, IsDisk}
use Rattle.beat_tiers.specs.Sound.{AreSound}
use Rattle.beat_tiers.specs.State.{TiersState, no_beats}
use Rattle.checkpoint.specs.Files.{Slot}
use Rattle.checkpoint_body.specs.declared.body.Body.{Body}
use Rattle.checkpoint_body.specs.Body.{body_bytes, HasSpelling}
use Rattle.store_core.specs.disk.Advancing.{NamesNone}
use Rattle.store_core.specs.disk.Contents.{no_pages, new_contents, Contents}
use Rattle.store_core.specs.disk.Files.{IsOpenOf, IsPlaced}
use Rattle.store_core.specs.disk.Files as files
use Rattle.store_core.specs.disk.Formed.{HasFiles}
use Rattle.store_core.specs.disk.Holds.{Holds, HoldsIfMade}
use Rattle.store_core.specs.disk.Kept.{HasPagesOfEach}
use Rattle.store_core.specs.disk.Shares.{share, HasRoom}
use Rattle.store_core.proofs.DiskProofs.OneLemmas.{one_contents}
use Rattle.store_core.proofs.DiskProofs.ShareLemmas.{has_room}
use Rattle.store_core.specs.declared.beats.beat.Beat.{Beat}
use Rattle.store_core.specs.declared.fault.OpenFault.{OpenFault}
use Rattle.store_core.specs.declared.fault.OpenFault.TheVariants.{Damaged, DiskFault, Memory}
use Rattle.store_core.specs.beats.Records.{beats_from, with_all, AreNext}
use Rattle.store_core.specs.Counts.{counted}
use Rattle.store_core.proofs.BeatProofs.RecordLaw.{are-read, oldest_first, AreBytes}
use Rattle.store_core.specs.bodies.First.{first_body}
use Rattle.store_core.specs.bodies.Tiers.{AreTiersOfBody}
use Rattle.store_core.proofs.BodyProofs.WholeLemmas.{tiers-one}
use Rattle.tier_settings.specs.declared.settings.Settings.{Settings}
use Rattle.tier_settings.specs.Settings.{first_tier, other_tiers}
use Rattle.store_core.specs.bodies.Next.{HasCounted}
use Rattle.store_core.specs.Damaged.{HasForm}
use Rattle.store_core.specs.Stands.{is_made, records_of, HasStored, Stands, StandsIfMade}
use Rattle.store_core.specs.Store.{base_of, IsReady, IsWhole, OpensAt, StoreState}
use Rattle.store_core.specs.Stored.{new_database, stored_with_all, Stored}
use Rattle.store_core.proofs.CountLemmas.{body-counted, none-counted, tiers-counted}
use Rattle.store_core.proofs.RecordLemmas.{records-with_all}
use Rattle.store_core.proofs.StandLemmas.{has-stored, images-at, is-made, none-made, records-read}

-- ---- any store

fits-count : (one count of_base : ℕ) → one ≡ count → count ≡ of_base → count < 2 ^ 64 → one ≡ counted (of_base + 0)
fits-count one count of_base same is fits = omega (arith, same, is, fits)

-- a store that stands at the checkpoint of these contents is whole
whole-at : (honest : Type 0) (past : List Event) (store : StoreState) (contents : Contents) → store.whole ≡ true → HasSpelling store.body
    → HasPagesOfEach store.body contents.kept → AreTiersOfBody store.body contents.kept store.tiers → HasCounted store.body → AreNext store.tiers.last store.waiting
    → contents.body ≡ store.body → store.count ≡ store.body.count → contents.records ≡ records_of (with_all [] store.waiting)
    → (honest → IsOpenOf past store.files contents) → IsWhole honest past store
whole-at honest past store contents whole spelt paged tiers counts next same count records opened = record {
  whole = whole;
  kept = contents.kept;
  stored = record {
    base = record { number = store.files.number; settings = store.body.settings; count = store.body.count; tiers = store.tiers; side = store.body.side };
    after = [];
  };
  sound = record {
    spelt = spelt;
    paged = paged;
    number = refl;
    settings = refl;
    base_count = refl;
    side = refl;
    of_body = tiers;
    counted = tiers-counted store.body contents.kept store.tiers tiers counts;
    followed = tt;
    count = fits-count store.count store.body.count store.body.count count refl spelt.fits.count;
    tiers = refl;
    waiting = next;
  };
  opened = λ going h. record { contents = contents; opened = opened h; body = same; pages = refl; records = records };
}

-- and ready
ready-at : (honest : Type 0) (past : List Event) (store : StoreState) (contents : Contents) → store.whole ≡ true → HasSpelling store.body
    → HasPagesOfEach store.body contents.kept → AreTiersOfBody store.body contents.kept store.tiers → HasCounted store.body → IsPlaced store.files → AreNext store.tiers.last store.waiting
    → contents.body ≡ store.body → store.count ≡ store.body.count → contents.records ≡ records_of (with_all [] store.waiting)
    → (honest → IsOpenOf past store.files contents) → IsReady honest past store
ready-at honest past store contents whole spelt paged tiers counts place next same count records opened = record {
  place = place;
  is = inl (whole-at honest past store contents whole spelt paged tiers counts next same count records opened);
}

-- ---- a new store

pub new-stored : (body : Body) (set : Settings) (side : List ℕ) → body ≡ first_body set side → NamesNone body → AreTiersOfBody body no_pages (no_beats (first_tier set) (other_tiers set))
    → HasStored (new_contents body) (new_database set side)
new-stored body set side is none tiers = record {
  base = record {
    number = refl;
    settings = ap (λ (b : Body). b.settings) is;
    count = ap (λ (b : Body). b.count) is;
    side = ap (λ (b : Body). b.side) is;
    tiers = tiers;
    counted = tiers-counted body no_pages (no_beats (first_tier set) (other_tiers set)) tiers (none-counted body none);
  };
  records = refl;
  follow = tt;
}

none-paged : (body : Body) → NamesNone body → HasPagesOfEach body no_pages
none-paged body none = record { points = ap length (sym none.points); minutes = ap length (sym none.minutes); hours = ap length (sym none.hours) }

pub new-ready : (honest : Type 0) (past : List Event) (store : StoreState) (set : Settings) → store.whole ≡ true → HasSpelling store.body → NamesNone store.body
    → AreTiersOfBody store.body no_pages (no_beats (first_tier set) (other_tiers set)) → store.tiers ≡ no_beats (first_tier set) (other_tiers set) → store.waiting ≡ []
    → store.count ≡ store.body.count → IsPlaced store.files → (honest → IsOpenOf past store.files (new_contents store.body)) → IsReady honest past store
new-ready honest past store set whole spelt none tiers same waiting count place opened =
    ready-at honest past store (new_contents store.body) whole spelt (none-paged store.body none) (subst (λ (state : TiersState). AreTiersOfBody store.body no_pages state) (sym same) tiers)
    (none-counted store.body none) place (subst (λ (beats : List Beat). AreNext store.tiers.last beats) (sym waiting) tt) refl count
    (ap (λ (beats : List Beat). records_of (with_all [] beats)) (sym waiting)) opened

-- the first checkpoint fits the shares
pub new-room : (body : Body) (set : Settings) (side : List ℕ) (most : ℕ) → body ≡ first_body set side → HasSpelling body → length side ≤ most → HasRoom (share set most) 0 (body_bytes body)
new-room body set side most is spelt short =
    let beside : body.side ≡ side = ap (λ (b : Body). b.side) is in
    subst (λ (s : Settings). HasRoom (share s most) 0 (body_bytes body)) (ap (λ (b : Body). b.settings) is)
    (has_room most 0 body spelt (subst (λ (l : List ℕ). length l ≤ most) (sym beside) short))

-- a crash left this disk before, or there is no database on it, or the new one
abbrev pub WasOrIsNew : List Event → Settings → List ℕ → (File → List ℕ) → Type 0
WasOrIsNew old set side disk = IsDisk old disk ⊎ StandsIfMade set side disk

pub was-or-new : (old : List Event) (body : Body) (set : Settings) (side : List ℕ) → HasStored (new_contents body) (new_database set side)
    → (disk : File → List ℕ) → IsDisk old disk ⊎ HoldsIfMade body disk → WasOrIsNew old set side disk
was-or-new old body set side has disk (inl was) = inl was
was-or-new old body set side has disk (inr (inl none)) = inr (inl (none-made disk none))
was-or-new old body set side has disk (inr (inr holds)) = inr (inr (record { contents = new_contents body; holds = holds; has = has }))

-- ---- an opened store

pub opens-at : (contents : Contents) (disk : File → List ℕ) (new : List Event) (store : StoreState) → Holds contents disk → IsOpenOf new store.files contents → HasSpelling contents.body
    → store.body ≡ contents.body → store.count ≡ contents.body.count → store.fault ≡ None → store.whole ≡ true → AreTiersOfBody contents.body contents.kept store.tiers
    → beats_from contents.body.last contents.records ≡ Some store.waiting → (stored : Stored) → Stands stored disk → OpensAt new store stored
opens-at contents disk new store holds opened spelt body count going unbroken tiers read stored stands =
    let has = has-stored contents stored disk stands (one_contents stands.contents contents disk stands.holds holds) in
    let order = oldest_first stored.after in
    let all : stored_with_all (base_of stored) order.rest ≡ stored = ap (λ (beats : List Beat). record stored { after = beats }) order.whole in
    record {
      rest = order.rest;
      whole = all;
      is_at = record {
        contents = contents;
        opened = opened;
        has = subst (λ (s : Stored). HasStored contents s) (sym all) has;
        body = body;
        waiting = same_Some store.waiting order.rest (sym read ∙ records-read contents stored has order.rest order.whole);
        count = fits-count store.count contents.body.count stored.base.count count has.base.count spelt.fits.count;
        tiers = tiers-one contents.body contents.kept store.tiers stored.base.tiers tiers has.base.tiers;
        going = going;
        whole = unbroken;
      };
    }

pub opened-ready : (honest : Type 0) (new : List Event) (store : StoreState) (contents : Contents) → store.whole ≡ true → HasSpelling store.body → HasPagesOfEach store.body contents.kept
    → AreTiersOfBody store.body contents.kept store.tiers → HasCounted store.body → IsPlaced store.files → contents.body ≡ store.body → store.count ≡ store.body.count
    → beats_from store.body.last contents.records ≡ Some store.waiting → AreBytes contents.records → (honest → IsOpenOf new store.files contents) → IsReady honest new store
opened-ready honest new store contents whole spelt paged tiers counts place same count read bytes opened =
    let found = are-read store.body.last contents.records store.waiting bytes read in
    let next = subst (λ (last : ℕ). AreNext last store.waiting) (sym tiers.last) found.next in
    ready-at honest new store contents whole spelt paged tiers counts place next same count (found.spelt ∙ sym (records-with_all [] store.waiting)) opened

-- whatever happens to it, what was stored stays
pub opened-images : (past : List Event) (store : StoreState) (stored : Stored) → OpensAt past store stored → EveryDisk (Stands stored) past
opened-images past store stored opens =
    subst (λ (all : Stored). EveryDisk (Stands all) past) opens.whole (images-at past store (base_of stored) opens.rest opens.is_at)

-- ---- a store of what is left

pub left-ready : (honest : Type 0) (new : List Event) (store : StoreState) (last : ℕ) (records : List (List ℕ)) → store.whole ≡ false → AreSound store.tiers → store.tiers.last ≡ last
    → beats_from last records ≡ Some store.waiting → AreBytes records → files.IsReady honest new store.files → IsReady honest new store
left-ready honest new store last records broken sound same read bytes ready = record {
  place = ready.place;
  is = inr (record {
    broken = broken;
    tiers = sound;
    waiting = subst (λ (n : ℕ). AreNext n store.waiting) (sym same) (are-read last records store.waiting bytes read).next;
    opened = λ going h. ready.journal h;
  });
}

pub left-form : (body : Body) (beats : List Beat) (number : ℕ) (records : List (List ℕ)) (disk : File → List ℕ) → HasFiles number body records disk
    → beats_from body.last records ≡ Some beats → HasForm body beats disk
left-form body beats number records disk has read = record { number = number; records = records; files = has; read = read }

-- what cannot be read of whole files is of no database
pub uncounted : (contents : Contents) → (HasCounted contents.body → ⊥) → (stored : Stored) → HasStored contents stored → ⊥
uncounted contents none stored has = none (body-counted contents.body contents.kept stored.base.tiers has.base.tiers has.base.counted)

pub unread : (contents : Contents) → beats_from contents.body.last contents.records ≡ None → (stored : Stored) → HasStored contents stored → ⊥
unread contents none stored has =
    let order = oldest_first stored.after in
    none-some order.rest (sym none ∙ records-read contents stored has order.rest order.whole)

-- there is a database on a disk that is in form
pub form-made : (body : Body) (beats : List Beat) (disk : File → List ℕ) → HasForm body beats disk → is_made disk ≡ true
form-made body beats disk form = is-made disk ∙ ap (λ (slot : Option Slot). is_some slot) form.files.checkpoint.checkpoint

-- where a part is damaged, neither the disk nor memory failed
pub damaged-fails : (fault : OpenFault) (part : ℕ) → fault ≡ Damaged part → (fault ≡ DiskFault) ⊎ (fault ≡ Memory) → ⊥
damaged-fails fault part is (inl failed) = let e : Damaged part ≡ DiskFault = sym is ∙ failed in cc
damaged-fails fault part is (inr full) = let e : Damaged part ≡ Memory = sym is ∙ full in cc

-- what always holds holds at each answer
pub every-ok : {T E : Type 0} {P : T → Type 0} (result : Result T E) → ((value : T) → P value) → IfOk result P
every-ok (Ok value) all = all value
every-ok (Err fault) all = tt

pub each-ok : {T E P : Type 0} (result : Result T E) → P → OnOk result P
each-ok (Ok value) all = all
each-ok (Err fault) all = tt

-- a database that was opened is in form: it is there, and no part of it is damaged
pub from-form : {T E : Type 0} (P Q : Type 0) (result : Result T E) (Form : T → Type 0) → IfOk result (λ value. P → Form value) → ((value : T) → Form value → Q) → OnOk result (P → Q)
from-form P Q (Ok value) Form held all = λ p. all value (held p)
from-form P Q (Err fault) Form held all = tt
