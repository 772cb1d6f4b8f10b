-- A disk holds one contents at most, and none where a part of it is damaged.
use Rattle.std.proofs.Common.{◌≡◌, ℕ, zero, suc, ◌+◌, ◌*◌, Bool, false, List, [], ◌∷◌, length, map, drop, Option, Some, None, refl, sym, ap, ◌∙◌, subst}
use Rattle.std.specs.Option.{is_some}
use Rattle.std.proofs.lemmas.Bool.{false≢true}
use Rattle.host_model.specs.declared.file.File.{File}
use Rattle.host_model.specs.declared.file.File.TheVariants.{Tier0, Tier1, Tier2}
use Rattle.extent_file.specs.declared.entry.Entry.{Entry}
use Rattle.extent_file.specs.declared.page.Page.{Page}
use Rattle.extent_file.specs.Pages.{entries_of}
use Rattle.extent_file.specs.Slot.{slot_start}
use Rattle.journal_core.specs.Form.{StandsFor}
use Rattle.journal_core.proofs.GrammarLemmas.{records_once}
use Rattle.checkpoint.specs.Files.{checkpoint_in, new_slot, Slot}
use Rattle.checkpoint_body.specs.declared.body.Body.{Body}
use Rattle.checkpoint_body.specs.declared.body.Extent.{Extent}
use Rattle.checkpoint_body.specs.declared.page.RecordPage.{RecordPage}
use Rattle.checkpoint_body.specs.declared.page.SlotPage.{SlotPage}
use Rattle.checkpoint_body.specs.Body.{body_bytes}
use Rattle.checkpoint_body.proofs.BodyLaw.{one_value}
use Rattle.store_core.specs.disk.Contents.{Contents, KeptPages}
use Rattle.store_core.specs.disk.Damaged.{HasBadBody, HasBadExtent, HasShortFile, IsDamagedAt}
use Rattle.store_core.specs.disk.Holds.{items_of, journal_file, page_of_records, page_of_slots, AreKept, HasCheckpoint, Holds, LiesAs, Lie}
use Rattle.store_core.specs.disk.Reading.{IsNamed, AreNamed}
use Rattle.store_core.proofs.DiskProofs.NamedLemmas.{lies_named, lies_said}

-- ---- pages

one_slots : (tier : ℕ) (bytes : List ℕ) (entry : Entry) (one other : SlotPage) → IsNamed tier bytes entry (page_of_slots one) → IsNamed tier bytes entry (page_of_slots other) → one ≡ other
one_slots tier bytes entry one other first second =
    let head = first.head ∙ sym second.head in
    let series : one.series ≡ other.series = ap (λ (e : Entry). e.series) head in
    let start : one.first ≡ other.first = ap (λ (e : Entry). e.first) head in
    let step : one.step ≡ other.step = ap (λ (e : Entry). e.step) head in
    let words : one.words ≡ other.words = sym first.items.1 ∙ second.items.1 in
    λ i. record { series = series i; first = start i; step = step i; words = words i }

one_records : (tier : ℕ) (bytes : List ℕ) (entry : Entry) (one other : RecordPage) → IsNamed tier bytes entry (page_of_records one) → IsNamed tier bytes entry (page_of_records other) → one ≡ other
one_records tier bytes entry one other first second =
    let head = first.head ∙ sym second.head in
    let series : one.series ≡ other.series = ap (λ (e : Entry). e.series) head in
    let start : one.first ≡ other.first = ap (λ (e : Entry). e.first) head in
    let step : one.step ≡ other.step = ap (λ (e : Entry). e.step) head in
    let records : one.records ≡ other.records = sym first.items.1 ∙ second.items.1 in
    λ i. record { series = series i; first = start i; step = step i; records = records i }

module _ {X : Type 0} (page_of : X → Page) (tier : ℕ) (once : (bytes : List ℕ) (entry : Entry) (one other : X) → IsNamed tier bytes entry (page_of one) → IsNamed tier bytes entry (page_of other) → one ≡ other) where
  one_list : (bytes : List ℕ) (entries : List Entry) (pages others : List X) → AreNamed tier bytes entries (map page_of pages) → AreNamed tier bytes entries (map page_of others) → pages ≡ others
  one_list bytes [] [] [] first second = refl
  one_list bytes [] [] (other ∷ others) first second = absurd second
  one_list bytes [] (page ∷ pages) others first second = absurd first
  one_list bytes (entry ∷ entries) [] others first second = absurd first
  one_list bytes (entry ∷ entries) (page ∷ pages) [] first second = absurd second
  one_list bytes (entry ∷ entries) (page ∷ pages) (other ∷ others) first second =
      let here = once bytes entry page other first.0 second.0 in
      let rest = one_list bytes entries pages others first.1 second.1 in
      ap (λ (x : X). x ∷ pages) here ∙ ap (λ (l : List X). other ∷ l) rest

  one_extent : (items : ℕ) (bytes : List ℕ) (extent : Extent) (pages others : List X) → LiesAs tier items bytes extent (map page_of pages) → LiesAs tier items bytes extent (map page_of others) → pages ≡ others
  one_extent items bytes extent pages others first second =
      let entries : List Entry = entries_of tier (24 + 24 * length (map page_of pages)) (map page_of pages) in
      let said = lies_said tier items bytes extent (map page_of pages) first in
      one_list (drop (slot_start tier items extent.slot) bytes) entries pages others
      (lies_named tier items bytes extent entries (map page_of pages) said first)
      (lies_named tier items bytes extent entries (map page_of others) said second)

  one_kept : (items : ℕ) (bytes : List ℕ) (extents : List Extent) (kept others : List (List X)) → Lie tier items bytes extents (map (map page_of) kept) → Lie tier items bytes extents (map (map page_of) others) → kept ≡ others
  one_kept items bytes [] [] [] first second = refl
  one_kept items bytes [] [] (other ∷ others) first second = absurd second
  one_kept items bytes [] (pages ∷ kept) others first second = absurd first
  one_kept items bytes (extent ∷ extents) [] others first second = absurd first
  one_kept items bytes (extent ∷ extents) (pages ∷ kept) [] first second = absurd second
  one_kept items bytes (extent ∷ extents) (pages ∷ kept) (other ∷ others) first second =
      let here = one_extent items bytes extent pages other first.0 second.0 in
      let rest = one_kept items bytes extents kept others first.1 second.1 in
      ap (λ (x : List X). x ∷ kept) here ∙ ap (λ (l : List (List X)). other ∷ l) rest

one_pages : (body : Body) (kept others : KeptPages) (disk : File → List ℕ) → AreKept body kept disk → AreKept body others disk → kept ≡ others
one_pages body kept others disk first second =
    let points = one_kept page_of_slots 0 (one_slots 0) (items_of body 0) (disk Tier0) body.points.extents kept.points others.points first.points second.points in
    let minutes = one_kept page_of_records 1 (one_records 1) (items_of body 1) (disk Tier1) body.minutes.extents kept.minutes others.minutes first.minutes second.minutes in
    let hours = one_kept page_of_records 2 (one_records 2) (items_of body 2) (disk Tier2) body.hours.extents kept.hours others.hours first.hours second.hours in
    λ i. record { points = points i; minutes = minutes i; hours = hours i }

-- ---- the checkpoint

number_of : Option Slot → ℕ
number_of None = 0
number_of (Some slot) = slot.number

bytes_or : Option (List ℕ) → List ℕ
bytes_or None = []
bytes_or (Some bytes) = bytes

body_of : Option Slot → List ℕ
body_of None = []
body_of (Some slot) = bytes_or slot.body

has_body : Option Slot → Bool
has_body None = false
has_body (Some slot) = is_some slot.body

slot_number : (number other : ℕ) (body bytes : List ℕ) → new_slot number body ≡ new_slot other bytes → number ≡ other
unfolding number_of
slot_number number other body bytes same = ap number_of same

slot_body : (number other : ℕ) (body bytes : List ℕ) → new_slot number body ≡ new_slot other bytes → body ≡ bytes
unfolding body_of bytes_or
slot_body number other body bytes same = ap body_of same

pub one_number : (number other : ℕ) (body bytes : Body) (disk : File → List ℕ) → HasCheckpoint number body disk → HasCheckpoint other bytes disk → number ≡ other
one_number number other body bytes disk first second =
    slot_number number other (body_bytes body) (body_bytes bytes) (sym first.checkpoint ∙ second.checkpoint)

pub one_body : (number other : ℕ) (body bytes : Body) (disk : File → List ℕ) → HasCheckpoint number body disk → HasCheckpoint other bytes disk → body ≡ bytes
one_body number other body bytes disk first second =
    one_value body bytes first.spelt second.spelt
    (slot_body number other (body_bytes body) (body_bytes bytes) (sym first.checkpoint ∙ second.checkpoint))

pub one_contents : (contents others : Contents) (disk : File → List ℕ) → Holds contents disk → Holds others disk → contents ≡ others
one_contents contents others disk first second =
    let number = one_number contents.number others.number contents.body others.body disk first.checkpoint second.checkpoint in
    let body = one_body contents.number others.number contents.body others.body disk first.checkpoint second.checkpoint in
    let kept = one_pages others.body contents.kept others.kept disk (subst (λ (b : Body). AreKept b contents.kept disk) body first.kept) second.kept in
    let records = records_once others.number (disk (journal_file others.number)) contents.records others.records
    (subst (λ (n : ℕ). StandsFor n (disk (journal_file n)) contents.records) number first.journal) second.journal in
    λ i. record { number = number i; body = body i; kept = kept i; records = records i }

-- ---- no contents where a part is damaged

no_body : (number other : ℕ) (bytes : List ℕ) → Some (record { number = number; body = None }) ≡ new_slot other bytes → ⊥
unfolding has_body
no_body number other bytes same = false≢true (ap has_body same)

module _ (disk : File → List ℕ) where
  pub short_file : (number : ℕ) (bytes : List ℕ) → HasShortFile disk → checkpoint_in disk ≡ new_slot number bytes → ⊥
  short_file number bytes short checkpoint = no_body short.ends.number number bytes (sym short.ends.early ∙ checkpoint)

  pub bad_body : (number : ℕ) (body : Body) → HasBadBody disk → HasCheckpoint number body disk → ⊥
  bad_body number body bad checkpoint =
      bad.unspelt body checkpoint.spelt (slot_body bad.number number bad.bytes (body_bytes body) (sym bad.checkpoint ∙ checkpoint.checkpoint))

  bad_extent : (number : ℕ) (body : Body) (kept : KeptPages) → HasBadExtent disk → HasCheckpoint number body disk → AreKept body kept disk → ⊥
  bad_extent number body kept bad checkpoint are =
      bad.unkept kept (subst (λ (b : Body). AreKept b kept disk) (one_body number bad.number body bad.body disk checkpoint bad.checkpoint) are)

  -- a part after the first has a checkpoint, and one after the second a body
  has_bytes : (part : ℕ) → IsDamagedAt (suc (suc part)) disk → (number : ℕ) × (bytes : List ℕ) × (checkpoint_in disk ≡ new_slot number bytes)
  has_bytes zero damaged = (damaged.number, damaged.bytes, damaged.checkpoint)
  has_bytes (suc zero) damaged = (damaged.number, body_bytes damaged.body, damaged.checkpoint.checkpoint)
  has_bytes (suc (suc zero)) damaged = (damaged.number, body_bytes damaged.body, damaged.checkpoint.checkpoint)
  has_bytes (suc (suc (suc part))) damaged = absurd damaged

  has_spelt_body : (part : ℕ) → IsDamagedAt (suc (suc (suc part))) disk → (number : ℕ) × (body : Body) × HasCheckpoint number body disk
  has_spelt_body zero damaged = (damaged.number, damaged.body, damaged.checkpoint)
  has_spelt_body (suc zero) damaged = (damaged.number, damaged.body, damaged.checkpoint)
  has_spelt_body (suc (suc part)) damaged = absurd damaged

  -- a disk has one damaged part
  pub one_part : (part other : ℕ) → IsDamagedAt part disk → IsDamagedAt other disk → part ≡ other
  one_part zero other here there = absurd here
  one_part (suc part) zero here there = absurd there
  one_part (suc zero) (suc zero) here there = refl
  one_part (suc zero) (suc (suc other)) here there =
      let later = has_bytes other there in absurd (short_file later.0 later.1 here later.2)
  one_part (suc (suc part)) (suc zero) here there =
      let later = has_bytes part here in absurd (short_file later.0 later.1 there later.2)
  one_part (suc (suc zero)) (suc (suc zero)) here there = refl
  one_part (suc (suc zero)) (suc (suc (suc other))) here there =
      let later = has_spelt_body other there in absurd (bad_body later.0 later.1 here later.2)
  one_part (suc (suc (suc part))) (suc (suc zero)) here there =
      let later = has_spelt_body part here in absurd (bad_body later.0 later.1 there later.2)
  one_part (suc (suc (suc zero))) (suc (suc (suc zero))) here there = refl
  one_part (suc (suc (suc zero))) (suc (suc (suc (suc zero)))) here there =
      absurd (bad_extent there.number there.body there.kept here there.checkpoint there.extents)
  one_part (suc (suc (suc zero))) (suc (suc (suc (suc (suc other))))) here there = absurd there
  one_part (suc (suc (suc (suc zero)))) (suc (suc (suc zero))) here there =
      absurd (bad_extent here.number here.body here.kept there here.checkpoint here.extents)
  one_part (suc (suc (suc (suc zero)))) (suc (suc (suc (suc zero)))) here there = refl
  one_part (suc (suc (suc (suc zero)))) (suc (suc (suc (suc (suc other))))) here there = absurd there
  one_part (suc (suc (suc (suc (suc part))))) (suc (suc (suc other))) here there = absurd here

pub never_damaged : (part : ℕ) (contents : Contents) (disk : File → List ℕ) → Holds contents disk → IsDamagedAt part disk → ⊥
never_damaged zero contents disk holds damaged = damaged
never_damaged (suc zero) contents disk holds damaged =
    short_file disk contents.number (body_bytes contents.body) damaged holds.checkpoint.checkpoint
never_damaged (suc (suc zero)) contents disk holds damaged = bad_body disk contents.number contents.body damaged holds.checkpoint
never_damaged (suc (suc (suc zero))) contents disk holds damaged =
    bad_extent disk contents.number contents.body contents.kept damaged holds.checkpoint holds.kept
never_damaged (suc (suc (suc (suc zero)))) contents disk holds damaged =
    let number = one_number contents.number damaged.number contents.body damaged.body disk holds.checkpoint damaged.checkpoint in
    damaged.unread contents.records (subst (λ (n : ℕ). StandsFor n (disk (journal_file n)) contents.records) number holds.journal)
never_damaged (suc (suc (suc (suc (suc part))))) contents disk holds damaged = damaged
