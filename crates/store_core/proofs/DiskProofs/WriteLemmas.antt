-- Segments that stand stay while others are written.
use Rattle.std.proofs.Common.{◌≡◌, ◌≢◌, ℕ, zero, suc, ◌+◌, ◌<◌, ◌≤◌, List, [], ◌∷◌, length, take, drop, get_or, refl, sym, ◌∙◌, subst, inl, inr, arith}
use Rattle.std.specs.List.{All}
use Rattle.std.proofs.lemmas.Bool.{cases_lt}
use Rattle.std.proofs.lemmas.List.{get_or-take, length-take}
use Rattle.std.proofs.lemmas.List.Elements.{All-cons, All-nil}
use Rattle.host_model.specs.declared.file.File.{File}
use Rattle.host_model.specs.Images.{Synced, contents, IsSynced}
use Rattle.host_model.specs.Past.{Event, On, of}
use Rattle.host_model.specs.Moments.{Throughout, EveryImage}
use Rattle.host_model.proofs.FileLemmas.{image_when_synced}
use Rattle.host_model.proofs.MomentLemmas.{of-on_same, weakened}
use Rattle.extent_file.specs.Pages.{extent_size}
use Rattle.extent_file.specs.Slot.{slot_size, slot_start, tier_of}
use Rattle.extent_file.specs.Writing.{LiesAt}
use Rattle.store_core.specs.disk.Next.{AreApart, Written}
use Rattle.store_core.specs.disk.Standing.{AllStand, StandsIn}
use Rattle.store_core.proofs.DiskProofs.MomentLemmas.{all_throughout}
use Rattle.store_core.proofs.DiskProofs.StandLemmas.{slot_long, stand_again, stand_lies}

-- a sync leaves the file synced
pub synced_after : (file : File) (old new : List Event) → new ≡ On file Synced ∷ old → IsSynced (of file new)
synced_after file old new is =
    let there : IsSynced (Synced ∷ of file old) = tt in
    subst (λ (p : List Event). IsSynced (of file p)) (sym is) (subst IsSynced (sym (of-on_same file Synced old)) there)

-- what stands in a synced file stands whatever a crash leaves
pub stand_at_start : (file : File) (items : ℕ) (past : List Event) (segments : List Written) → IsSynced (of file past)
    → AllStand (tier_of file) items segments (contents (of file past)) → EveryImage file (AllStand (tier_of file) items segments) past
stand_at_start file items past segments stable stand bytes image =
    subst (λ (l : List ℕ). AllStand (tier_of file) items segments l) (sym (image_when_synced (of file past) bytes stable image)) stand

-- what stands in other slots stays while one is written
pub others_stay : (file : File) (items slot same : ℕ) (old new : List Event) (others : List Written) → same ≡ slot → IsSynced (of file old)
    → ((other : ℕ) (lies : List ℕ) → other ≢ same → length lies ≤ slot_size (tier_of file) items
    → EveryImage file (LiesAt (slot_start (tier_of file) items other) lies) old
    → Throughout (EveryImage file (LiesAt (slot_start (tier_of file) items other) lies)) old new)
    → All (λ (other : Written). other.slot ≢ slot) others
    → AllStand (tier_of file) items others (contents (of file old))
    → Throughout (EveryImage file (AllStand (tier_of file) items others)) old new
others_stay file items slot same old new others is_slot stable stays apart stand =
    let tier = tier_of file in let before = contents (of file old) in
    let each : (k : ℕ) (d : Written) → k < length others → Throughout (EveryImage file (λ (bytes : List ℕ). StandsIn tier items bytes (get_or others k d))) old new =
    (λ k d within.
    let one = get_or others k d in
    let stands = stand k d within in
    let lies = take (extent_size tier one.pages) (drop (slot_start tier items one.slot) before) in
    weakened (λ past held bytes image. stand_again tier items one before bytes stands (held bytes image))
    (stays one.slot lies (λ e. apart k d within (e ∙ is_slot)) (slot_long tier items one before stands)
    (λ bytes image. subst (λ (l : List ℕ). LiesAt (slot_start tier items one.slot) lies l) (sym (image_when_synced (of file old) bytes stable image)) (stand_lies tier items one before stands)))) in
    let some = stays (same + 1) [] (λ e. omega (arith, e)) (omega arith) (λ bytes image. refl) in
    weakened (λ past all bytes image k d within. all k d within bytes image)
    (all_throughout (λ (one : Written) (past : List Event). EveryImage file (λ (bytes : List ℕ). StandsIn tier items bytes one) past) others some each)

-- no segment has the slot of one before it
pub before_apart : (segments : List Written) (index : ℕ) (d : Written) → AreApart segments → index < length segments
    → All (λ (other : Written). other.slot ≢ (get_or segments index d).slot) (take index segments)
before_apart [] index d apart within = absurd (omega (arith, within))
before_apart (one ∷ segments) zero d apart within = All-nil (λ (other : Written). other.slot ≢ one.slot)
before_apart (one ∷ segments) (suc index) d apart within =
    let inside : index < length segments = omega (arith, within) in
    All-cons (λ (other : Written). other.slot ≢ (get_or segments index d).slot) one (take index segments)
    (λ e. apart.0 index d inside (sym e))
    (before_apart segments index d apart.1 inside)

-- those before a place, as a list and one by one
pub stand_before : (tier items : ℕ) (bytes : List ℕ) (segments : List Written) (index : ℕ)
    → ((k : ℕ) (d : Written) → k < index → StandsIn tier items bytes (get_or segments k d)) → AllStand tier items (take index segments) bytes
stand_before tier items bytes segments index each k d within =
    let cut = length-take index segments in
    let less : k < index = omega (arith, cut, within) in
    subst (StandsIn tier items bytes) (sym (get_or-take index segments k d less)) (each k d less)

pub stand_each : (tier items : ℕ) (bytes : List ℕ) (segments : List Written) (index : ℕ) → index ≤ length segments
    → AllStand tier items (take index segments) bytes → (k : ℕ) (d : Written) → k < index → StandsIn tier items bytes (get_or segments k d)
stand_each tier items bytes segments index within all k d less =
    let cut = length-take index segments in
    subst (StandsIn tier items bytes) (get_or-take index segments k d less) (all k d (omega (arith, cut, within, less)))

pub stand_more : (tier items : ℕ) (bytes : List ℕ) (segments : List Written) (index : ℕ)
    → ((k : ℕ) (d : Written) → k < index → StandsIn tier items bytes (get_or segments k d)) → ((d : Written) → StandsIn tier items bytes (get_or segments index d))
    → (k : ℕ) (d : Written) → k < index + 1 → StandsIn tier items bytes (get_or segments k d)
stand_more tier items bytes segments index before here k d less =
    elim (cases_lt k index) [
      | inl earlier ↦ before k d earlier
      | inr last ↦
          let is : index ≡ k = omega (arith, less, last) in
          subst (λ (n : ℕ). StandsIn tier items bytes (get_or segments n d)) is (here d)
    ]
