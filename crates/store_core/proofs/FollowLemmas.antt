-- One more beat: what is stored has it, and a sound store stays sound.
use Rattle.std.proofs.Common.{◌≡◌, ℕ, suc, ◌+◌, ◌%◌, ◌<◌, ◌≤◌, ◌^◌, Bool, true, false, ◌&&◌, ◌||◌, cond, nat_eq, nat_le, List, [], ◌∷◌, ◌++◌, length, Option, Some, None, refl, sym, ap, ◌∙◌, subst, ◌⊎◌, inl, inr, arith}
use Rattle.std.specs.Option.{IsSomeAnd}
use Rattle.std.proofs.lemmas.Bool.{leb-false, ltb-true}
use Rattle.host_model.specs.declared.file.File.{File}
use Rattle.host_model.specs.declared.file.File.TheVariants.{JournalA, JournalB}
use Rattle.host_model.specs.Past.{Event, of}
use Rattle.host_model.specs.Disks.{EveryDisk}
use Rattle.host_model.specs.Moments.{Throughout}
use Rattle.host_model.proofs.DiskLemmas.{disks_weaker}
use Rattle.journal_core.specs.Form.{record_size}
use Rattle.journal_core.specs.Journal.{IsOpen}
use Rattle.tier_settings.specs.declared.settings.Settings.{Settings}
use Rattle.beat_tiers.specs.State.{TiersState, after_beat}
use Rattle.checkpoint_body.specs.declared.body.Body.{Body}
use Rattle.checkpoint_body.specs.Body.{HasSpelling}
use Rattle.store_core.specs.disk.Contents.{Contents, KeptPages, with_record}
use Rattle.store_core.specs.disk.Files.{FilesState, IsOpenOf}
use Rattle.store_core.specs.disk.Files as files
use Rattle.store_core.specs.disk.Holds.{journal_file, HoldsAround}
use Rattle.store_core.specs.disk.Kept.{HasPagesOfEach}
use Rattle.store_core.specs.disk.Shares.{share}
use Rattle.store_core.specs.bodies.Tiers.{AreTiersOfBody}
use Rattle.store_core.specs.declared.beats.beat.Beat.{Beat}
use Rattle.store_core.specs.declared.fault.StoreFault.{StoreFault}
use Rattle.store_core.specs.declared.fault.Why.{Why}
use Rattle.store_core.specs.declared.fault.Why.TheVariants as why
use Rattle.store_core.specs.Faults.{cause_of, IsStepFault}
use Rattle.store_core.specs.beats.Beats.{beat_bytes, InForm}
use Rattle.store_core.specs.beats.Records.{is_later, last_after, with_all, AreNext}
use Rattle.store_core.specs.Counts.{counted, raised}
use Rattle.store_core.specs.Stands.{records_of, HasStored, StandsAround}
use Rattle.store_core.specs.Store.{can_advance, is_due, IsLeft, IsReady, IsReplayed, IsSound, IsStoreAt, IsStoreOf, IsWhole, StoreState}
use Rattle.store_core.specs.Stored.{Stored, count_of, has_sealed, is_numbered, stored_with, tiers_of, MayFollow}
use Rattle.store_core.proofs.NextLemmas.{sound-one}
use Rattle.store_core.proofs.RecordLemmas.{last-after}
use Rattle.store_core.proofs.StandLemmas.{images-at}

-- ---- what holds where no checkpoint is due

sealed_where_not_due : (numbered new long : Bool) → (numbered && (new || long)) ≡ false → numbered ≡ true → new ≡ false
sealed_where_not_due true true long due numbered = absurd cc
sealed_where_not_due true false long due numbered = refl
sealed_where_not_due false new long due numbered = absurd cc

long_where_not_due : (numbered new long : Bool) → (numbered && (new || long)) ≡ false → numbered ≡ true → long ≡ false
long_where_not_due true true long due numbered = absurd cc
long_where_not_due true false long due numbered = due
long_where_not_due false new long due numbered = absurd cc

-- no segment was sealed since the checkpoint, where there can be a later one
abbrev pub IsUnsealed : StoreState → Type 0
IsUnsealed store = can_advance store ≡ true → has_sealed store.body.last store.tiers ≡ false

pub can-advance : (store : StoreState) → store.whole ≡ true → is_numbered store.files.number ≡ true → can_advance store ≡ true
can-advance store whole numbered = ap (λ (w : Bool). w && is_numbered store.files.number) whole ∙ numbered

pub unsealed : (store : StoreState) → is_due store ≡ false → IsUnsealed store
unsealed store due goes =
    sealed_where_not_due (can_advance store) (has_sealed store.body.last store.tiers) (nat_le (2 ^ 24) store.files.journal.bytes) due goes

-- and the journal is short
short_journal : (store : StoreState) → is_due store ≡ false → can_advance store ≡ true → store.files.journal.bytes < 2 ^ 24
short_journal store due goes =
    leb-false (2 ^ 24) store.files.journal.bytes
    (long_where_not_due (can_advance store) (has_sealed store.body.last store.tiers) (nat_le (2 ^ 24) store.files.journal.bytes) due goes)

share-journal : (set : Settings) (side : ℕ) (even : Bool) → share set side (cond even JournalA JournalB) ≡ 2 ^ 27
share-journal set side true = refl
share-journal set side false = refl

-- so there is room for a record
room_for_record : (set : Settings) (side number bytes size : ℕ) → bytes < 2 ^ 24 → size ≤ 2 ^ 26 → bytes + (5 + size) ≤ share set side (journal_file number)
room_for_record set side number bytes size short few =
    let fits : bytes + (5 + size) ≤ 2 ^ 27 = omega arith in
    subst (λ (n : ℕ). bytes + (5 + size) ≤ n) (sym (share-journal set side (nat_eq (number % 2) 0))) fits

pub fits_share : (store : StoreState) (side : ℕ) (bytes : List ℕ) (beat : Beat) → is_due store ≡ false → can_advance store ≡ true → bytes ≡ beat_bytes beat
    → length (beat_bytes beat) ≤ 2 ^ 26 → store.files.journal.bytes + record_size bytes ≤ share store.body.settings side (journal_file store.files.number)
fits_share store side bytes beat due goes spelt few =
    room_for_record store.body.settings side store.files.number store.files.journal.bytes (length bytes) (short_journal store due goes)
    (subst (λ (b : List ℕ). length b ≤ 2 ^ 26) (sym spelt) few)

-- ---- a beat that may follow

pub sealed_same : (last other : ℕ) (tiers others : TiersState) → last ≡ other → tiers ≡ others → has_sealed other others ≡ has_sealed last tiers
sealed_same last other tiers others same same_tiers = sym (ap (λ (n : ℕ). has_sealed n tiers) same ∙ ap (λ (t : TiersState). has_sealed other t) same_tiers)

-- a store of what is stored says which beats may follow
pub may_follow : (past : List Event) (store : StoreState) (stored : Stored) (rest : List Beat) (beat : Beat) → IsStoreAt past store stored rest
    → InForm beat → is_later store.tiers.last beat.moment ≡ true → IsUnsealed store → MayFollow stored beat
may_follow past store stored rest beat is_at form later none_new =
    let number : store.files.number ≡ stored.base.number = is_at.opened.number ∙ is_at.has.base.number in
    let last : store.body.last ≡ stored.base.tiers.last = ap (λ (b : Body). b.last) is_at.body ∙ sym is_at.has.base.tiers.last in
    record {
      form = form;
      later = subst (λ (t : TiersState). is_later t.last beat.moment ≡ true) is_at.tiers later;
      unsealed = λ numbered. sealed_same store.body.last stored.base.tiers.last store.tiers (tiers_of stored) last is_at.tiers
          ∙ none_new (can-advance store is_at.whole (subst (λ (n : ℕ). is_numbered n ≡ true) (sym number) numbered));
    }

-- the records with one more are those of one more beat
records-more : (beats : List Beat) (records : List (List ℕ)) (bytes : List ℕ) (beat : Beat) → records ≡ records_of beats → bytes ≡ beat_bytes beat
    → records ++ bytes ∷ [] ≡ records_of (beat ∷ beats)
records-more beats records bytes beat are spelt =
    ap (λ (l : List (List ℕ)). l ++ bytes ∷ []) are ∙ ap (λ (b : List ℕ). records_of beats ++ b ∷ []) spelt

-- the files with one more record have stored the beat too
stored_more : (contents : Contents) (bytes : List ℕ) (stored : Stored) (beat : Beat) → HasStored contents stored → bytes ≡ beat_bytes beat → MayFollow stored beat
    → HasStored (with_record contents bytes) (stored_with stored beat)
stored_more contents bytes stored beat has spelt may = record {
  base = record {
    number = has.base.number;
    settings = has.base.settings;
    count = has.base.count;
    side = has.base.side;
    tiers = has.base.tiers;
    counted = has.base.counted;
  };
  records = records-more stored.after contents.records bytes beat has.records spelt;
  follow = (may, has.follow);
}

not_before : (last : ℕ) (moment : Option ℕ) → is_later last moment ≡ true → IsSomeAnd moment (λ m. m ≤ last) → ⊥
not_before last None later before = before
not_before last (Some moment) later before = omega (arith, ltb-true last moment later)

-- a moment that may follow is not at most the last one
pub later_not_before : (last now : ℕ) (moment : Option ℕ) → last ≡ now → is_later last moment ≡ true → IsSomeAnd moment (λ m. m ≤ now) → ⊥
later_not_before last now moment same later before = not_before now moment (subst (λ (n : ℕ). is_later n moment ≡ true) same later) before

-- ---- what a crash leaves

-- where nothing has happened yet
pub nothing_done : (past : List Event) (store : StoreState) (stored : Stored) (beat : Beat) → IsStoreOf past store stored → EveryDisk (StandsAround stored beat) past
nothing_done past store stored beat is_of disk images = inl (images-at past store stored [] is_of disk images)

around : (contents : Contents) (bytes : List ℕ) (stored : Stored) (beat : Beat) → HasStored contents stored → HasStored (with_record contents bytes) (stored_with stored beat)
    → (disk : File → List ℕ) → HoldsAround contents bytes disk → StandsAround stored beat disk
around contents bytes stored beat has has_more disk (inl without) = inl (record { contents = contents; holds = without; has = has })
around contents bytes stored beat has has_more disk (inr with_one) = inr (record { contents = with_record contents bytes; holds = with_one; has = has_more })

-- the moments of the append are those of the store
pub append_moments : (old new : List Event) (store : StoreState) (bytes : List ℕ) (stored : Stored) (beat : Beat) → IsStoreOf old store stored
    → bytes ≡ beat_bytes beat → MayFollow stored beat
    → ((contents : Contents) → IsOpenOf old store.files contents → Throughout (EveryDisk (HoldsAround contents bytes)) old new)
    → Throughout (EveryDisk (StandsAround stored beat)) old new
append_moments old new store bytes stored beat is_of spelt may moments =
    disks_weaker
    (around is_of.contents bytes stored beat is_of.has (stored_more is_of.contents bytes stored beat is_of.has spelt may))
    (moments is_of.contents is_of.opened)

-- ---- the store with one more beat

counted-more : (base n : ℕ) → raised (counted (base + n)) ≡ counted (base + suc n)
counted-more base n = omega arith

pub count-more : (stored : Stored) (beat : Beat) (count : ℕ) → count ≡ count_of stored → raised count ≡ count_of (stored_with stored beat)
count-more stored beat count same = ap raised same ∙ counted-more stored.base.count (length stored.after)

-- the store after the beat was added
abbrev pub added : StoreState → FilesState → Beat → StoreState
added store opened beat = record store {
  count = raised store.count;
  tiers = after_beat beat.moment beat.points store.tiers;
  files = opened;
}

-- the same of its parts
abbrev pub with_parts : StoreState → ℕ → TiersState → FilesState → StoreState
with_parts store count tiers opened = record store { count = count; tiers = tiers; files = opened }

pub added_is : (inside store : StoreState) (count : ℕ) (tiers : TiersState) (opened : FilesState) (beat : Beat) → inside ≡ store → count ≡ raised inside.count
    → tiers ≡ after_beat beat.moment beat.points store.tiers → with_parts inside count tiers opened ≡ added store opened beat
added_is inside store count tiers opened beat same same_count same_tiers =
    ap (λ (s : StoreState). with_parts s count tiers opened) same
    ∙ ap (λ (n : ℕ). with_parts store n tiers opened) (same_count ∙ ap (λ (s : StoreState). raised s.count) same)
    ∙ ap (λ (t : TiersState). with_parts store (raised store.count) t opened) same_tiers

pub one_more : (old new : List Event) (store : StoreState) (opened : FilesState) (bytes : List ℕ) (stored : Stored) (beat : Beat) → IsStoreOf old store stored → bytes ≡ beat_bytes beat
    → MayFollow stored beat → ((contents : Contents) → IsOpenOf old store.files contents → IsOpenOf new opened (with_record contents bytes))
    → IsStoreOf new (added store opened beat) (stored_with stored beat)
one_more old new store opened bytes stored beat is_of spelt may opens = record {
  contents = with_record is_of.contents bytes;
  opened = opens is_of.contents is_of.opened;
  has = stored_more is_of.contents bytes stored beat is_of.has spelt may;
  body = is_of.body;
  waiting = is_of.waiting;
  count = count-more stored beat store.count is_of.count;
  tiers = ap (λ (t : TiersState). after_beat beat.moment beat.points t) is_of.tiers;
  going = is_of.going;
  whole = is_of.whole;
}

-- ---- a sound store

pub sound_more : (kept : KeptPages) (stored : Stored) (store after : StoreState) (beat : Beat) → store.whole ≡ true → IsSound kept stored store → InForm beat
    → is_later store.tiers.last beat.moment ≡ true → IsUnsealed store
    → after.body ≡ store.body → after.files.number ≡ store.files.number → after.count ≡ raised store.count → after.tiers ≡ after_beat beat.moment beat.points store.tiers
    → AreNext (last_after store.tiers.last beat.moment) after.waiting → IsSound kept (stored_with stored beat) after
sound_more kept stored store after beat whole sound form later none_new same_body same_number one_raised more next =
    let last : store.body.last ≡ stored.base.tiers.last = sym sound.of_body.last in
    let may : MayFollow stored beat = record {
      form = form;
      later = subst (λ (t : TiersState). is_later t.last beat.moment ≡ true) sound.tiers later;
      unsealed = λ numbered. sealed_same store.body.last stored.base.tiers.last store.tiers (tiers_of stored) last sound.tiers
          ∙ none_new (can-advance store whole (subst (λ (n : ℕ). is_numbered n ≡ true) (sym sound.number) numbered));
    } in
    let now_last : last_after store.tiers.last beat.moment ≡ after.tiers.last =
    sym (last-after beat.moment beat.points store.tiers) ∙ ap (λ (t : TiersState). t.last) (sym more) in
    record {
      spelt = subst HasSpelling (sym same_body) sound.spelt;
      paged = subst (λ (b : Body). HasPagesOfEach b kept) (sym same_body) sound.paged;
      number = same_number ∙ sound.number;
      settings = ap (λ (b : Body). b.settings) same_body ∙ sound.settings;
      base_count = ap (λ (b : Body). b.count) same_body ∙ sound.base_count;
      side = ap (λ (b : Body). b.side) same_body ∙ sound.side;
      of_body = subst (λ (b : Body). AreTiersOfBody b kept stored.base.tiers) (sym same_body) sound.of_body;
      counted = sound.counted;
      followed = (may, sound.followed);
      count = one_raised ∙ count-more stored beat store.count sound.count;
      tiers = more ∙ ap (λ (t : TiersState). after_beat beat.moment beat.points t) sound.tiers;
      waiting = subst (λ (n : ℕ). AreNext n after.waiting) now_last next;
    }

-- the journal of open files is open
pub journal-open : (past : List Event) (opened : FilesState) (contents : Contents) → IsOpenOf past opened contents → files.IsJournalOpen past opened
journal-open past opened contents is = record {
  records = contents.records;
  is_open = subst (λ (n : ℕ). IsOpen (of (journal_file n) past) opened.journal contents.records) (sym is.number) is.journal;
}

-- a fault changes nothing of what a store is of
sound_refused : (kept : KeptPages) (stored : Stored) (store : StoreState) (cause : Why) → IsSound kept stored store → IsSound kept stored (record store { fault = Some cause })
sound_refused kept stored store cause sound = record {
  spelt = sound.spelt;
  paged = sound.paged;
  number = sound.number;
  settings = sound.settings;
  base_count = sound.base_count;
  side = sound.side;
  of_body = sound.of_body;
  counted = sound.counted;
  followed = sound.followed;
  count = sound.count;
  tiers = sound.tiers;
  waiting = sound.waiting;
}

pub none_next : (last : ℕ) (waiting : List Beat) → waiting ≡ [] → AreNext last waiting
none_next last waiting none = subst (AreNext last) (sym none) tt

-- the records are those of one more beat, where none waits
records-none_wait : (beats waiting : List Beat) (records : List (List ℕ)) (bytes : List ℕ) (beat : Beat) → waiting ≡ [] → bytes ≡ beat_bytes beat
    → records ≡ records_of (with_all beats waiting) → records ++ bytes ∷ [] ≡ records_of (with_all (beat ∷ beats) waiting)
records-none_wait beats waiting records bytes beat none spelt are =
    records-more beats records bytes beat (are ∙ ap (λ (l : List Beat). records_of (with_all beats l)) none) spelt
    ∙ ap (λ (l : List Beat). records_of (with_all (beat ∷ beats) l)) (sym none)

-- so is a store to which a beat was added
whole_more : (honest : Type 0) (old new : List Event) (store : StoreState) (opened : FilesState) (bytes : List ℕ) (beat : Beat) → IsWhole honest old store → IsReplayed store
    → InForm beat → is_later store.tiers.last beat.moment ≡ true → IsUnsealed store → bytes ≡ beat_bytes beat → store.fault ≡ None → opened.number ≡ store.files.number
    → (honest → (contents : Contents) → IsOpenOf old store.files contents → IsOpenOf new opened (with_record contents bytes))
    → IsWhole honest new (added store opened beat)
whole_more honest old new store opened bytes beat is replayed form later none_new spelt going same_number opens = record {
  whole = is.whole;
  kept = is.kept;
  stored = stored_with is.stored beat;
  sound =
      sound_more is.kept is.stored store (added store opened beat) beat is.whole is.sound form later none_new refl same_number refl refl
      (none_next (last_after store.tiers.last beat.moment) store.waiting replayed);
  opened = λ still h.
      let was = is.opened going h in
      record {
        contents = with_record was.contents bytes;
        opened = opens h was.contents was.opened;
        body = was.body;
        pages = was.pages;
        records = records-none_wait is.stored.after store.waiting was.contents.records bytes beat replayed spelt was.records;
      };
}

left_more : (honest : Type 0) (old new : List Event) (store : StoreState) (opened : FilesState) (beat : Beat) → IsLeft honest old store → IsReplayed store
    → InForm beat → is_later store.tiers.last beat.moment ≡ true → files.IsReady honest new opened → IsLeft honest new (added store opened beat)
left_more honest old new store opened beat is replayed form later placed = record {
  broken = is.broken;
  tiers = sound-one store.tiers beat is.tiers form later;
  waiting = none_next (after_beat beat.moment beat.points store.tiers).last store.waiting replayed;
  opened = λ still h. placed.journal h;
}

pub ready_more : (honest : Type 0) (old new : List Event) (store : StoreState) (opened : FilesState) (bytes : List ℕ) (beat : Beat) → IsReady honest old store → IsReplayed store
    → InForm beat → is_later store.tiers.last beat.moment ≡ true → IsUnsealed store
    → bytes ≡ beat_bytes beat → store.fault ≡ None → opened.number ≡ store.files.number → files.IsReady honest new opened
    → (honest → (contents : Contents) → IsOpenOf old store.files contents → IsOpenOf new opened (with_record contents bytes))
    → IsReady honest new (added store opened beat)
ready_more honest old new store opened bytes beat ready replayed form later none_new spelt going same_number placed opens = record {
  place = placed.place;
  is = elim ready.is as (λ _. IsWhole honest new (added store opened beat) ⊎ IsLeft honest new (added store opened beat)) [
    | inl whole ↦ inl (whole_more honest old new store opened bytes beat whole replayed form later none_new spelt going same_number opens)
    | inr left ↦ inr (left_more honest old new store opened beat left replayed form later placed)
  ];
}

-- what adding a record requires
pub files_ready : (honest : Type 0) (past : List Event) (store : StoreState) → IsReady honest past store → store.fault ≡ None → files.IsReady honest past store.files
files_ready honest past store ready going = record {
  place = ready.place;
  journal = elim ready.is as (λ _. honest → files.IsJournalOpen past store.files) [
    | inl whole ↦ λ h. journal-open past store.files (whole.opened going h).contents (whole.opened going h).opened
    | inr left ↦ λ h. left.opened going h
  ];
}

-- a store that was refused is as ready, since nothing is asked of its host any more
pub ready_refused : (honest : Type 0) (old new : List Event) (store : StoreState) (cause : Why) → IsReady honest old store → IsReady honest new (record store { fault = Some cause })
ready_refused honest old new store cause ready = record {
  place = ready.place;
  is = elim ready.is as (λ _. IsWhole honest new (record store { fault = Some cause }) ⊎ IsLeft honest new (record store { fault = Some cause })) [
    | inl whole ↦ inl (record { whole = whole.whole; kept = whole.kept; stored = whole.stored; sound = sound_refused whole.kept whole.stored store cause whole.sound; opened = λ none h. absurd cc })
    | inr left ↦ inr (record { broken = left.broken; tiers = left.tiers; waiting = left.waiting; opened = λ none h. absurd cc })
  ];
}

-- nor where it was not, and nothing but its fault has changed
pub ready_left : (honest : Type 0) (past : List Event) (store : StoreState) (fault : Option Why) → store.fault ≡ None → IsReady honest past store → IsReady honest past (record store { fault = fault })
ready_left honest past store None going ready = subst (λ (f : Option Why). IsReady honest past (record store { fault = f })) going ready
ready_left honest past store (Some cause) going ready = ready_refused honest past past store cause ready

-- a step that failed leaves its cause
pub step_refused : (honest : Type 0) (old new : List Event) (store after : StoreState) (fault : StoreFault) (cause : Option Why) → IsStepFault fault → after ≡ store → cause ≡ cause_of fault
    → IsReady honest old store → IsReady honest new (record after { fault = cause })
step_refused honest old new store after fault cause (inl is) same from ready =
    let some : cause ≡ Some why.Disk = from ∙ ap cause_of is in
    subst (λ (s : StoreState). IsReady honest new (record s { fault = cause })) (sym same)
    (subst (λ (f : Option Why). IsReady honest new (record store { fault = f })) (sym some) (ready_refused honest old new store why.Disk ready))
step_refused honest old new store after fault cause (inr is) same from ready =
    let some : cause ≡ Some why.Memory = from ∙ ap cause_of is in
    subst (λ (s : StoreState). IsReady honest new (record s { fault = cause })) (sym same)
    (subst (λ (f : Option Why). IsReady honest new (record store { fault = f })) (sym some) (ready_refused honest old new store why.Memory ready))
