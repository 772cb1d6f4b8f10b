-- Extents in their form, whatever stands in their pages, and which part keeps a disk from being in form.
use Rattle.std.proofs.Common.{◌≡◌, ℕ, zero, suc, ◌+◌, ◌*◌, ◌<◌, ◌≤◌, List, [], ◌∷◌, length, get_or, Result, Ok, Err, sym, ◌∙◌, subst, inl, inr, arith}
use Rattle.std.specs.Result.{IfErr, IsErrOf, OnOk}
use Rattle.std.proofs.lemmas.Result.{IfErr-at_err}
use Rattle.host_model.specs.declared.file.File.{File}
use Rattle.host_model.specs.Past.{Event, of}
use Rattle.host_model.specs.Disks.{reads_as}
use Rattle.extent_file.specs.declared.page.Page.{Page}
use Rattle.extent_file.specs.Pages.{entries_of}
use Rattle.journal_core.specs.Form.{StandsFor}
use Rattle.journal_core.specs.Journal.{IsOpen, JournalState}
use Rattle.checkpoint_body.specs.declared.body.Body.{Body}
use Rattle.checkpoint_body.specs.declared.body.Extent.{Extent}
use Rattle.store_core.specs.Damaged.{IsDamagedIn}
use Rattle.store_core.specs.declared.fault.OpenFault.{OpenFault}
use Rattle.store_core.specs.declared.fault.OpenFault.TheVariants.{DiskFault, Damaged, Memory}
use Rattle.store_core.specs.disk.Damaged.{IsDamagedAt}
use Rattle.store_core.specs.disk.Formed.{AllFormed, AreFormed, HasFiles, IsFormed}
use Rattle.store_core.specs.disk.Holds.{journal_file, HasCheckpoint, Lie}
use Rattle.store_core.specs.disk.Reading.{IsExtentFault, IsPageFault}
use Rattle.store_core.proofs.DiskProofs.NamedLemmas.{lies_said}

-- ---- extents

pub formed_at : (tier items : ℕ) (bytes : List ℕ) (extents : List Extent) (index : ℕ) (d : Extent) → AllFormed tier items bytes extents → index < length extents
    → IsFormed tier items bytes (get_or extents index d)
formed_at tier items bytes [] index d all within = absurd (omega (arith, within))
formed_at tier items bytes (extent ∷ extents) zero d all within = all.0
formed_at tier items bytes (extent ∷ extents) (suc index) d all within = formed_at tier items bytes extents index d all.1 (omega (arith, within))

-- extents that lie with their pages are in their form
pub lie_formed : (tier items : ℕ) (bytes : List ℕ) (extents : List Extent) (kept : List (List Page)) → Lie tier items bytes extents kept → AllFormed tier items bytes extents
lie_formed tier items bytes [] kept lie = tt
lie_formed tier items bytes (extent ∷ extents) [] lie = absurd lie
lie_formed tier items bytes (extent ∷ extents) (pages ∷ kept) lie = (
  record { entries = entries_of tier (24 + 24 * length pages) pages; says = lies_said tier items bytes extent pages lie.0 },
  lie_formed tier items bytes extents kept lie.1,
)

-- ---- faults

pub always : {T E P : Type 0} (result : Result T E) → P → OnOk result P
always (Ok value) held = held
always (Err fault) held = tt

pub page_fault : (fault : OpenFault) → IsPageFault fault → IsExtentFault fault
page_fault fault (inl failed) = inl failed
page_fault fault (inr full) = inr (inl full)

-- no page is damaged where its bytes may be anything
pub never_a_page : {T : Type 0} (result : Result T OpenFault) → IfErr result IsPageFault → IsErrOf result (Damaged 3) → ⊥
never_a_page result faults is = by (IfErr-at_err IsPageFault is faults)
  where
    by : IsPageFault (Damaged 3) → ⊥
    by (inl failed) = absurd cc
    by (inr full) = absurd cc

-- ---- which part is damaged

pub early_part : (part : ℕ) (disk : File → List ℕ) → part ≤ 2 → IsDamagedAt part disk → IsDamagedIn part disk
early_part zero disk early damaged = damaged
early_part (suc zero) disk early damaged = damaged
early_part (suc (suc zero)) disk early damaged = damaged
early_part (suc (suc (suc part))) disk early damaged = absurd (omega (arith, early))

-- a fault of the extents of a body names the part of the extents
pub directory_part : (part : ℕ) (fault : OpenFault) (disk : File → List ℕ) (number : ℕ) (body : Body) → fault ≡ Damaged part → IsExtentFault fault → HasCheckpoint number body disk
    → (fault ≡ Damaged 3 → AreFormed body disk → ⊥) → IsDamagedIn part disk
directory_part part fault disk number body is (inl failed) checkpoint none = absurd (let e : Damaged part ≡ DiskFault = sym is ∙ failed in cc)
directory_part part fault disk number body is (inr (inl full)) checkpoint none = absurd (let e : Damaged part ≡ Memory = sym is ∙ full in cc)
directory_part part fault disk number body is (inr (inr three)) checkpoint none =
    let same : 3 ≡ part = (let e : Damaged 3 ≡ Damaged part = sym three ∙ is in cc) in
    subst (λ (n : ℕ). IsDamagedIn n disk) same (record { number = number; body = body; checkpoint = checkpoint; unformed = none three })

-- and one of the journal that of the journal
pub records_part : (part : ℕ) (disk : File → List ℕ) (number : ℕ) (body : Body) → part ≡ 4 → HasCheckpoint number body disk → AreFormed body disk
    → ((records : List (List ℕ)) → StandsFor number (disk (journal_file number)) records → ⊥) → IsDamagedIn part disk
records_part part disk number body four checkpoint are none =
    subst (λ (n : ℕ). IsDamagedIn n disk) (sym four)
    (record { number = number; body = body; checkpoint = checkpoint; extents = are; unread = λ records beats stands read. none records stands })

-- ---- what was opened

pub opened_files : (number : ℕ) (body : Body) (records : List (List ℕ)) (journal : JournalState) (old new : List Event) → HasCheckpoint number body (reads_as old)
    → AreFormed body (reads_as old) → IsOpen (of (journal_file number) new) journal records → journal.generation ≡ number
    → ((file : File) → reads_as new file ≡ reads_as old file) → HasFiles number body records (reads_as old)
opened_files number body records journal old new checkpoint are stands generation same = record {
  checkpoint = checkpoint;
  extents = are;
  journal =
      subst (λ (l : List ℕ). StandsFor number l records) (same (journal_file number))
      (subst (λ (n : ℕ). StandsFor n (reads_as new (journal_file number)) records) generation stands.stands);
}
