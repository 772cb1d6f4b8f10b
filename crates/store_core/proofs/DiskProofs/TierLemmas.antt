-- The segments of a tier are written while the open checkpoint stays.
use Rattle.std.proofs.Common.{◌≡◌, ℕ, Bool, eq-eqb, cond, List, map, refl, sym, ap, ◌∙◌, subst}
use Rattle.host_model.specs.declared.file.File.{File}
use Rattle.host_model.specs.declared.file.File.TheVariants.{Tier0, Tier1, Tier2}
use Rattle.host_model.specs.Images.{contents, IsImage}
use Rattle.host_model.specs.Past.{Event, file_number, of, IsOther}
use Rattle.host_model.specs.Disks.{EveryDisk, disk_with, reads_as}
use Rattle.host_model.specs.Moments.{Throughout, EveryImage, OnlyOn}
use Rattle.host_model.proofs.DiskLemmas.{beside_both, every_disk, is_disk_with}
use Rattle.extent_file.specs.declared.page.Page.{Page}
use Rattle.extent_file.specs.Slot.{tier_of}
use Rattle.journal_core.specs.Form.{StandsFor}
use Rattle.checkpoint.specs.Files.{checkpoint_in}
use Rattle.tier_settings.specs.declared.settings.Settings.{Settings}
use Rattle.tier_settings.specs.Settings.{tier_with}
use Rattle.checkpoint_body.specs.declared.body.Body.{Body}
use Rattle.checkpoint_body.specs.declared.body.Extent.{Extent}
use Rattle.store_core.specs.declared.disk.sealed.Sealed.{Sealed}
use Rattle.store_core.specs.disk.Contents.{Contents, KeptPages}
use Rattle.store_core.specs.disk.Holds.{items_of, journal_file, page_of_records, page_of_slots, AreKept, Holds, Lie}
use Rattle.store_core.specs.disk.Next.{written_records, written_slots, AreFree, IsNext, Written}
use Rattle.store_core.specs.disk.Standing.{AllStand, AreBeside}
use Rattle.store_core.proofs.DiskProofs.BeginLemmas.{by_journal}
use Rattle.store_core.proofs.DiskProofs.StandLemmas.{free_beside, lie_again, lie_next, lie_stand, segments_of}

-- while the slots of its other extents stay, the contents stay
tier_step : (file : File) (items : ℕ) (extents : List Extent) (pages : List (List Page)) (what : Contents) (new_segments : List Written) (old new : List Event)
    → ((disk : File → List ℕ) → Holds what disk → Lie (tier_of file) items (disk file) extents pages)
    → ((disk : File → List ℕ) (bytes : List ℕ) → Holds what (disk_with file bytes disk) → Lie (tier_of file) items (disk file) extents pages → Holds what disk)
    → ((other : File) → IsImage (of other old) (contents (of other old)))
    → EveryDisk (Holds what) old → OnlyOn file old new → AreFree extents new_segments
    → ((others : List Written) → AreBeside others new_segments → EveryImage file (AllStand (tier_of file) items others) old
    → Throughout (EveryImage file (AllStand (tier_of file) items others)) old new)
    → Throughout (EveryDisk (Holds what)) old new
tier_step file items extents pages what new_segments old new lies puts reads holds only free stays =
    let tier = tier_of file in let others = segments_of extents pages in
    let start : EveryImage file (AllStand tier items others) old =
    (λ bytes image.
    let held = holds (disk_with file bytes (reads_as old)) (is_disk_with old file bytes (reads_as old) image (λ other _. reads other)) in
    let here : disk_with file bytes (reads_as old) file ≡ bytes = ap (λ (b : Bool). cond b bytes (reads_as old file)) (eq-eqb (file_number file) (file_number file) refl) in
    subst (λ (l : List ℕ). AllStand tier items others l) here
    (lie_stand tier items (disk_with file bytes (reads_as old) file) extents pages (lies (disk_with file bytes (reads_as old)) held))) in
    beside_both {A = λ (disk : File → List ℕ). AllStand tier items others (disk file)} {P = Holds what} {Q = Holds what} file only (reads file) holds
    (λ disk stand held.
    puts disk (contents (of file old)) held
    (lie_again tier items (disk_with file (contents (of file old)) disk file) (disk file) extents pages (lies (disk_with file (contents (of file old)) disk) held) stand))
    (every_disk file (λ disk known. known) (stays others (free_beside extents pages new_segments free) start))

-- no file of a tier has a checkpoint or a journal
check_beside : (bytes : List ℕ) (disk : File → List ℕ) → (checkpoint_in (disk_with Tier0 bytes disk) ≡ checkpoint_in disk) × (checkpoint_in (disk_with Tier1 bytes disk) ≡ checkpoint_in disk)
    × (checkpoint_in (disk_with Tier2 bytes disk) ≡ checkpoint_in disk)
unfolding checkpoint_in
check_beside bytes disk = (refl, refl, refl)

journal_beside : (generation : ℕ) (bytes : List ℕ) (disk : File → List ℕ) → (disk_with Tier0 bytes disk (journal_file generation) ≡ disk (journal_file generation))
    × (disk_with Tier1 bytes disk (journal_file generation) ≡ disk (journal_file generation)) × (disk_with Tier2 bytes disk (journal_file generation) ≡ disk (journal_file generation))
journal_beside generation bytes disk =
    by_journal (λ file. (disk_with Tier0 bytes disk file ≡ disk file) × (disk_with Tier1 bytes disk file ≡ disk file) × (disk_with Tier2 bytes disk file ≡ disk file)) generation
    (refl, refl, refl) (refl, refl, refl)

items_same : (what : Contents) (body : Body) (tier items : ℕ) → body.settings ≡ what.body.settings → items ≡ items_of body tier → items ≡ items_of what.body tier
items_same what body tier items same is = is ∙ ap (λ (settings : Settings). (tier_with settings tier).items) same

module _ (what : Contents) (sealed : Sealed) (body : Body) (kept : KeptPages) (next : IsNext what sealed body kept) (items : ℕ) (old new : List Event)
    (reads : (file : File) → IsImage (of file old) (contents (of file old))) (holds : EveryDisk (Holds what) old) where
  pub points_step : items ≡ items_of body 0 → OnlyOn Tier0 old new
      → ((others : List Written) → AreBeside others (map written_slots sealed.points) → EveryImage Tier0 (AllStand 0 items others) old → Throughout (EveryImage Tier0 (AllStand 0 items others)) old new)
      → Throughout (EveryDisk (Holds what)) old new
  points_step is only stays =
      let same = items_same what body 0 items next.settings is in
      let pages = map (map page_of_slots) what.kept.points in
      tier_step Tier0 items what.body.points.extents pages what (map written_slots sealed.points) old new
      (λ disk held. subst (λ (n : ℕ). Lie 0 n (disk Tier0) what.body.points.extents pages) (sym same) held.kept.points)
      (λ disk bytes held lie. record {
        checkpoint = record { checkpoint = sym (check_beside bytes disk).0 ∙ held.checkpoint.checkpoint; spelt = held.checkpoint.spelt };
        kept = record {
          slots = held.kept.slots;
          points = subst (λ (n : ℕ). Lie 0 n (disk Tier0) what.body.points.extents pages) same lie;
          minutes = held.kept.minutes;
          hours = held.kept.hours;
        };
        journal = subst (λ (l : List ℕ). StandsFor what.number l what.records) (journal_beside what.number bytes disk).0 held.journal;
      })
      reads holds only next.points.free stays

  pub minutes_step : items ≡ items_of body 1 → OnlyOn Tier1 old new
      → ((others : List Written) → AreBeside others (map written_records sealed.minutes) → EveryImage Tier1 (AllStand 1 items others) old → Throughout (EveryImage Tier1 (AllStand 1 items others)) old new)
      → Throughout (EveryDisk (Holds what)) old new
  minutes_step is only stays =
      let same = items_same what body 1 items next.settings is in
      let pages = map (map page_of_records) what.kept.minutes in
      tier_step Tier1 items what.body.minutes.extents pages what (map written_records sealed.minutes) old new
      (λ disk held. subst (λ (n : ℕ). Lie 1 n (disk Tier1) what.body.minutes.extents pages) (sym same) held.kept.minutes)
      (λ disk bytes held lie. record {
        checkpoint = record { checkpoint = sym (check_beside bytes disk).1 ∙ held.checkpoint.checkpoint; spelt = held.checkpoint.spelt };
        kept = record {
          slots = held.kept.slots;
          points = held.kept.points;
          minutes = subst (λ (n : ℕ). Lie 1 n (disk Tier1) what.body.minutes.extents pages) same lie;
          hours = held.kept.hours;
        };
        journal = subst (λ (l : List ℕ). StandsFor what.number l what.records) (journal_beside what.number bytes disk).1 held.journal;
      })
      reads holds only next.minutes.free stays

  pub hours_step : items ≡ items_of body 2 → OnlyOn Tier2 old new
      → ((others : List Written) → AreBeside others (map written_records sealed.hours) → EveryImage Tier2 (AllStand 2 items others) old → Throughout (EveryImage Tier2 (AllStand 2 items others)) old new)
      → Throughout (EveryDisk (Holds what)) old new
  hours_step is only stays =
      let same = items_same what body 2 items next.settings is in
      let pages = map (map page_of_records) what.kept.hours in
      tier_step Tier2 items what.body.hours.extents pages what (map written_records sealed.hours) old new
      (λ disk held. subst (λ (n : ℕ). Lie 2 n (disk Tier2) what.body.hours.extents pages) (sym same) held.kept.hours)
      (λ disk bytes held lie. record {
        checkpoint = record { checkpoint = sym (check_beside bytes disk).2 ∙ held.checkpoint.checkpoint; spelt = held.checkpoint.spelt };
        kept = record {
          slots = held.kept.slots;
          points = held.kept.points;
          minutes = held.kept.minutes;
          hours = subst (λ (n : ℕ). Lie 2 n (disk Tier2) what.body.hours.extents pages) same lie;
        };
        journal = subst (λ (l : List ℕ). StandsFor what.number l what.records) (journal_beside what.number bytes disk).2 held.journal;
      })
      reads holds only next.hours.free stays

-- what stands in a file still stands after another was written
pub image_later : (P : List ℕ → Type 0) (file other : File) (old new : List Event) → IsOther file other → OnlyOn other old new → EveryImage file P old → EveryImage file P new
image_later P file other old new apart only held bytes image = held bytes (subst (λ c. IsImage c bytes) (only.others file apart) image)

-- all that the next checkpoint names stands, once the segments of each tier were written
pub kept_next : (what : Contents) (sealed : Sealed) (body : Body) (kept : KeptPages) (points minutes hours : ℕ) (past : List Event) → IsNext what sealed body kept
    → points ≡ items_of body 0 → minutes ≡ items_of body 1 → hours ≡ items_of body 2
    → EveryDisk (Holds what) past
    → EveryImage Tier0 (AllStand 0 points (map written_slots sealed.points)) past
    → EveryImage Tier1 (AllStand 1 minutes (map written_records sealed.minutes)) past
    → EveryImage Tier2 (AllStand 2 hours (map written_records sealed.hours)) past
    → EveryDisk (AreKept body kept) past
kept_next what sealed body kept points minutes hours past next is_points is_minutes is_hours holds zero one two disk images =
    let held = holds disk images in
    let same : (tier : ℕ) → items_of what.body tier ≡ items_of body tier = (λ tier. ap (λ (settings : Settings). (tier_with settings tier).items) (sym next.settings)) in
    record {
      slots = next.slots held.kept.slots;
      points = lie_next 0 (items_of body 0) (disk Tier0) what.body.points.extents (map (map page_of_slots) what.kept.points) (map written_slots sealed.points) body.points.extents (map (map page_of_slots) kept.points) next.points
          (subst (λ (n : ℕ). Lie 0 n (disk Tier0) what.body.points.extents (map (map page_of_slots) what.kept.points)) (same 0) held.kept.points)
          (subst (λ (n : ℕ). AllStand 0 n (map written_slots sealed.points) (disk Tier0)) is_points (zero (disk Tier0) (images Tier0)));
      minutes = lie_next 1 (items_of body 1) (disk Tier1) what.body.minutes.extents (map (map page_of_records) what.kept.minutes) (map written_records sealed.minutes) body.minutes.extents (map (map page_of_records) kept.minutes) next.minutes
          (subst (λ (n : ℕ). Lie 1 n (disk Tier1) what.body.minutes.extents (map (map page_of_records) what.kept.minutes)) (same 1) held.kept.minutes)
          (subst (λ (n : ℕ). AllStand 1 n (map written_records sealed.minutes) (disk Tier1)) is_minutes (one (disk Tier1) (images Tier1)));
      hours = lie_next 2 (items_of body 2) (disk Tier2) what.body.hours.extents (map (map page_of_records) what.kept.hours) (map written_records sealed.hours) body.hours.extents (map (map page_of_records) kept.hours) next.hours
          (subst (λ (n : ℕ). Lie 2 n (disk Tier2) what.body.hours.extents (map (map page_of_records) what.kept.hours)) (same 2) held.kept.hours)
          (subst (λ (n : ℕ). AllStand 2 n (map written_records sealed.hours) (disk Tier2)) is_hours (two (disk Tier2) (images Tier2)));
    }
