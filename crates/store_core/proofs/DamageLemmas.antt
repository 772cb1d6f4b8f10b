-- Which disks have the form of a database: none with a damaged part, and one part is damaged at most.
use Rattle.std.proofs.Common.{◌≡◌, ℕ, zero, suc, List, map, Some, None, refl, sym, ap, ◌∙◌, subst}
use Rattle.std.proofs.lemmas.Option.{none-some, same_Some}
use Rattle.host_model.specs.declared.file.File.{File}
use Rattle.host_model.specs.declared.file.File.TheVariants.{Tier0, Tier1, Tier2}
use Rattle.journal_core.specs.Form.{StandsFor}
use Rattle.journal_core.proofs.GrammarLemmas.{records_once}
use Rattle.checkpoint.specs.Files.{checkpoint_in, new_slot}
use Rattle.checkpoint_body.specs.declared.body.Body.{Body}
use Rattle.checkpoint_body.specs.Body.{body_bytes}
use Rattle.store_core.specs.Damaged.{HasBadDirectory, HasForm, IsDamagedIn}
use Rattle.store_core.specs.declared.beats.beat.Beat.{Beat}
use Rattle.store_core.specs.beats.Records.{beats_from}
use Rattle.store_core.specs.disk.Contents.{Contents, KeptPages}
use Rattle.store_core.specs.disk.Formed.{AreFormed, HasFiles}
use Rattle.store_core.specs.disk.Holds.{items_of, journal_file, page_of_records, page_of_slots, AreKept, HasCheckpoint, Holds}
use Rattle.store_core.proofs.DiskProofs.LeftLemmas.{lie_formed}
use Rattle.store_core.proofs.DiskProofs.OneLemmas.{bad_body, one_body, one_number, short_file}

-- ---- what holds contents is in form

kept_formed : (body : Body) (kept : KeptPages) (disk : File → List ℕ) → AreKept body kept disk → AreFormed body disk
kept_formed body kept disk are = record {
  slots = are.slots;
  points = lie_formed 0 (items_of body 0) (disk Tier0) body.points.extents (map (map page_of_slots) kept.points) are.points;
  minutes = lie_formed 1 (items_of body 1) (disk Tier1) body.minutes.extents (map (map page_of_records) kept.minutes) are.minutes;
  hours = lie_formed 2 (items_of body 2) (disk Tier2) body.hours.extents (map (map page_of_records) kept.hours) are.hours;
}

pub holds-files : (contents : Contents) (disk : File → List ℕ) → Holds contents disk → HasFiles contents.number contents.body contents.records disk
holds-files contents disk holds = record {
  checkpoint = holds.checkpoint;
  extents = kept_formed contents.body contents.kept disk holds.kept;
  journal = holds.journal;
}

-- ---- what is in form has no damaged part

module _ (disk : File → List ℕ) where
  bad_directory : (number : ℕ) (body : Body) → HasBadDirectory disk → HasCheckpoint number body disk → AreFormed body disk → ⊥
  bad_directory number body bad checkpoint are =
      bad.unformed (subst (λ (b : Body). AreFormed b disk) (one_body number bad.number body bad.body disk checkpoint bad.checkpoint) are)

  -- a part after the first has a checkpoint, and one after the second a body
  has_bytes : (part : ℕ) → IsDamagedIn (suc (suc part)) disk → (number : ℕ) × (bytes : List ℕ) × (checkpoint_in disk ≡ new_slot number bytes)
  has_bytes zero damaged = (damaged.number, damaged.bytes, damaged.checkpoint)
  has_bytes (suc zero) damaged = (damaged.number, body_bytes damaged.body, damaged.checkpoint.checkpoint)
  has_bytes (suc (suc zero)) damaged = (damaged.number, body_bytes damaged.body, damaged.checkpoint.checkpoint)
  has_bytes (suc (suc (suc part))) damaged = absurd damaged

  has_spelt_body : (part : ℕ) → IsDamagedIn (suc (suc (suc part))) disk → (number : ℕ) × (body : Body) × HasCheckpoint number body disk
  has_spelt_body zero damaged = (damaged.number, damaged.body, damaged.checkpoint)
  has_spelt_body (suc zero) damaged = (damaged.number, damaged.body, damaged.checkpoint)
  has_spelt_body (suc (suc part)) damaged = absurd damaged

  one_part : (part other : ℕ) → IsDamagedIn part disk → IsDamagedIn other disk → part ≡ other
  one_part zero other here there = absurd here
  one_part (suc part) zero here there = absurd there
  one_part (suc zero) (suc zero) here there = refl
  one_part (suc zero) (suc (suc other)) here there =
      let later = has_bytes other there in absurd (short_file disk later.0 later.1 here later.2)
  one_part (suc (suc part)) (suc zero) here there =
      let later = has_bytes part here in absurd (short_file disk later.0 later.1 there later.2)
  one_part (suc (suc zero)) (suc (suc zero)) here there = refl
  one_part (suc (suc zero)) (suc (suc (suc other))) here there =
      let later = has_spelt_body other there in absurd (bad_body disk later.0 later.1 here later.2)
  one_part (suc (suc (suc part))) (suc (suc zero)) here there =
      let later = has_spelt_body part here in absurd (bad_body disk later.0 later.1 there later.2)
  one_part (suc (suc (suc zero))) (suc (suc (suc zero))) here there = refl
  one_part (suc (suc (suc zero))) (suc (suc (suc (suc zero)))) here there =
      absurd (bad_directory there.number there.body here there.checkpoint there.extents)
  one_part (suc (suc (suc zero))) (suc (suc (suc (suc (suc other))))) here there = absurd there
  one_part (suc (suc (suc (suc zero)))) (suc (suc (suc zero))) here there =
      absurd (bad_directory here.number here.body there here.checkpoint here.extents)
  one_part (suc (suc (suc (suc zero)))) (suc (suc (suc (suc zero)))) here there = refl
  one_part (suc (suc (suc (suc zero)))) (suc (suc (suc (suc (suc other))))) here there = absurd there
  one_part (suc (suc (suc (suc (suc part))))) (suc (suc (suc other))) here there = absurd here

pub one-damaged : (part other : ℕ) (disk : File → List ℕ) → IsDamagedIn part disk → IsDamagedIn other disk → part ≡ other
one-damaged part other disk here there = one_part disk part other here there

pub form-undamaged : (body : Body) (beats : List Beat) (disk : File → List ℕ) → HasForm body beats disk → (part : ℕ) → IsDamagedIn part disk → ⊥
form-undamaged body beats disk form zero damaged = damaged
form-undamaged body beats disk form (suc zero) damaged = short_file disk form.number (body_bytes body) damaged form.files.checkpoint.checkpoint
form-undamaged body beats disk form (suc (suc zero)) damaged = bad_body disk form.number body damaged form.files.checkpoint
form-undamaged body beats disk form (suc (suc (suc zero))) damaged = bad_directory disk form.number body damaged form.files.checkpoint form.files.extents
form-undamaged body beats disk form (suc (suc (suc (suc zero)))) damaged =
    let number = one_number form.number damaged.number body damaged.body disk form.files.checkpoint damaged.checkpoint in
    let same = one_body form.number damaged.number body damaged.body disk form.files.checkpoint damaged.checkpoint in
    damaged.unread form.records beats (subst (λ (n : ℕ). StandsFor n (disk (journal_file n)) form.records) number form.files.journal)
    (subst (λ (b : Body). beats_from b.last form.records ≡ Some beats) same form.read)
form-undamaged body beats disk form (suc (suc (suc (suc (suc part))))) damaged = damaged

-- ---- a disk has one form at most

pub one-form : (body other : Body) (beats others : List Beat) (disk : File → List ℕ) → HasForm body beats disk → HasForm other others disk → (body ≡ other) × (beats ≡ others)
one-form body other beats others disk first second =
    let number = one_number first.number second.number body other disk first.files.checkpoint second.files.checkpoint in
    let same = one_body first.number second.number body other disk first.files.checkpoint second.files.checkpoint in
    let journal = subst (λ (n : ℕ). StandsFor n (disk (journal_file n)) first.records) number first.files.journal in
    let records = records_once second.number (disk (journal_file second.number)) first.records second.records journal second.files.journal in
    let read : beats_from other.last second.records ≡ Some beats =
    ap (λ (l : List (List ℕ)). beats_from other.last l) (sym records) ∙ ap (λ (b : Body). beats_from b.last first.records) (sym same) ∙ first.read in
    (same, same_Some beats others (sym read ∙ second.read))

-- ---- where the records are no beats, the journal is damaged

pub left-records : (part number : ℕ) (body : Body) (records : List (List ℕ)) (disk : File → List ℕ) → HasFiles number body records disk → part ≡ 4
    → beats_from body.last records ≡ None → IsDamagedIn part disk
left-records part number body records disk files four none =
    subst (λ (n : ℕ). IsDamagedIn n disk) (sym four) (record {
      number = number;
      body = body;
      checkpoint = files.checkpoint;
      extents = files.extents;
      unread = λ others beats stands read.
          let same = records_once number (disk (journal_file number)) records others files.journal stands in
          none-some beats (sym none ∙ ap (λ (l : List (List ℕ)). beats_from body.last l) same ∙ read);
    })
