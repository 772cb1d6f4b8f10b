-- several writes of one file between two syncs: what holds of its images at each moment
use Rattle.std.proofs.Common.{◌≡◌, ℕ, ◌+◌, ◌≤◌, List, ◌∷◌, length, take, Result, sym, ap, ◌∙◌, subst}
use Rattle.std.specs.Result.{OnOk, OnErr}
use Rattle.host_model.specs.declared.file.File.{File}
use Rattle.host_model.specs.Images.{Wrote, Cut, Synced, contents, synced, IsImage, IsSynced}
use Rattle.host_model.specs.Past.{Event, On, of, MayAdd}
use Rattle.host_model.specs.Moments.{Throughout, EveryImage}
use Rattle.host_model.proofs.FileLemmas.{image_when_synced, contents-synced, IsFrom, IsFrom-synced, prefix_kept, IsWithin, IsWithin-synced, KeepsAround, around_kept}
use Rattle.host_model.proofs.MomentLemmas.{at_end, joined, of-on_same}
use Rattle.host_model.proofs.CallLemmas.{changed, settled}

-- a sync that succeeds keeps what holds of each image
pub images_after_sync : (P : List ℕ → Type 0) (file : File) (past : List Event) → IsImage (of file past) (contents (of file past)) → EveryImage file P past
    → EveryImage file P (On file Synced ∷ past)
images_after_sync P file past reads before bytes image =
    let there = rw (of-on_same file Synced past) at image in
    subst P (sym (image_when_synced (Synced ∷ of file past) bytes tt there)) (before (contents (of file past)) reads)

pub synced_after_sync : (file : File) (past : List Event) → IsSynced (of file (On file Synced ∷ past))
synced_after_sync file past = rw (of-on_same file Synced past) tt

-- what holds of each image holds at each moment of a sync
pub images_in_sync : {T E : Type 0} (P : List ℕ → Type 0) (honest : Type 0) (result : Result T E) (file : File) (old new : List Event) → honest
    → OnOk result (honest → new ≡ On file Synced ∷ old) → OnErr result (honest → new ≡ old)
    → IsImage (of file old) (contents (of file old)) → EveryImage file P old → Throughout (EveryImage file P) old new
images_in_sync P honest result file old new h done torn reads before =
    settled (EveryImage file P) honest result file old new h done torn before (images_after_sync P file old reads before)

-- writes and cuts from a place on

-- the file was synced at the old past, and has had only writes and cuts from this place on since
pub record RunsFrom (file : File) (from : ℕ) (old past : List Event) : Type 0 where
  pub changes : IsFrom from (of file past)
  pub base : synced (of file past) ≡ contents (of file old)

pub RunsFrom-start : (file : File) (from : ℕ) (old : List Event) → IsSynced (of file old) → RunsFrom file from old old
RunsFrom-start file from old stable = record {
  changes = IsFrom-synced from (of file old) stable;
  base = sym (contents-synced (of file old) stable);
}

pub RunsFrom-write : (file : File) (from at size : ℕ) (now : List ℕ) (old past : List Event) → from ≤ at → RunsFrom file from old past
    → RunsFrom file from old (On file (Wrote at size now) ∷ past)
RunsFrom-write file from at size now old past behind run = record {
  changes = rw (of-on_same file (Wrote at size now) past) (behind, run.changes);
  base = rw (of-on_same file (Wrote at size now) past) run.base;
}

pub RunsFrom-cut : (file : File) (from len : ℕ) (now : List ℕ) (old past : List Event) → from ≤ len → RunsFrom file from old past
    → RunsFrom file from old (On file (Cut len now) ∷ past)
RunsFrom-cut file from len now old past behind run = record {
  changes = rw (of-on_same file (Cut len now) past) (behind, run.changes);
  base = rw (of-on_same file (Cut len now) past) run.base;
}

-- an image still begins with these bytes
pub record KeepsPrefix (from : ℕ) (old bytes : List ℕ) : Type 0 where
  pub enough : from ≤ length bytes
  pub prefix : take from bytes ≡ take from old

pub RunsFrom-images : (file : File) (from : ℕ) (old past : List Event) → from ≤ length (contents (of file old)) → RunsFrom file from old past
    → EveryImage file (KeepsPrefix from (contents (of file old))) past
RunsFrom-images file from old past within run bytes image =
    let inside : from ≤ length (synced (of file past)) = rw run.base within in
    let kept = prefix_kept from (of file past) bytes run.changes inside image in
    record { enough = kept.0; prefix = kept.1 ∙ ap (λ (l : List ℕ). take from l) run.base }

pub write_from : {T E : Type 0} (honest : Type 0) (result : Result T E) (file : File) (from at : ℕ) (bytes after : List ℕ) (old past new : List Event) → honest → from ≤ at
    → OnOk result (honest → new ≡ On file (Wrote at (length bytes) after) ∷ past)
    → OnErr result (honest → MayAdd (λ now. On file (Wrote at (length bytes) now)) past new)
    → RunsFrom file from old past → Throughout (RunsFrom file from old) past new
write_from honest result file from at bytes after old past new h behind done torn run =
    changed (RunsFrom file from old) honest result (On file (Wrote at (length bytes) after)) (λ now. On file (Wrote at (length bytes) now)) past new h done torn
    run
    (RunsFrom-write file from at (length bytes) after old past behind run)
    (λ now. RunsFrom-write file from at (length bytes) now old past behind run)

pub cut_from : {T E : Type 0} (honest : Type 0) (result : Result T E) (file : File) (from len : ℕ) (after : List ℕ) (old past new : List Event) → honest → from ≤ len
    → OnOk result (honest → new ≡ On file (Cut len after) ∷ past)
    → OnErr result (honest → MayAdd (λ now. On file (Cut len now)) past new)
    → RunsFrom file from old past → Throughout (RunsFrom file from old) past new
cut_from honest result file from len after old past new h behind done torn run =
    changed (RunsFrom file from old) honest result (On file (Cut len after)) (λ now. On file (Cut len now)) past new h done torn
    run
    (RunsFrom-cut file from len after old past behind run)
    (λ now. RunsFrom-cut file from len now old past behind run)

-- writes within a range

-- the file was synced at the old past, and has had only writes within these places since
pub record RunsWithin (file : File) (from to : ℕ) (old past : List Event) : Type 0 where
  pub changes : IsWithin from to (of file past)
  pub base : synced (of file past) ≡ contents (of file old)

pub RunsWithin-start : (file : File) (from to : ℕ) (old : List Event) → IsSynced (of file old) → RunsWithin file from to old old
RunsWithin-start file from to old stable = record {
  changes = IsWithin-synced from to (of file old) stable;
  base = sym (contents-synced (of file old) stable);
}

pub RunsWithin-write : (file : File) (from to at size : ℕ) (now : List ℕ) (old past : List Event) → from ≤ at → at + size ≤ to → RunsWithin file from to old past
    → RunsWithin file from to old (On file (Wrote at size now) ∷ past)
RunsWithin-write file from to at size now old past behind before run = record {
  changes = rw (of-on_same file (Wrote at size now) past) (behind, before, run.changes);
  base = rw (of-on_same file (Wrote at size now) past) run.base;
}

pub RunsWithin-images : (file : File) (from to : ℕ) (old past : List Event) → from ≤ length (contents (of file old)) → RunsWithin file from to old past
    → EveryImage file (KeepsAround from to (contents (of file old))) past
RunsWithin-images file from to old past within run bytes image =
    let inside : from ≤ length (synced (of file past)) = rw run.base within in
    subst (λ l. KeepsAround from to l bytes) run.base (around_kept from to (of file past) bytes run.changes inside image)

pub write_within : {T E : Type 0} (honest : Type 0) (result : Result T E) (file : File) (from to at : ℕ) (bytes after : List ℕ) (old past new : List Event) → honest
    → from ≤ at → at + length bytes ≤ to
    → OnOk result (honest → new ≡ On file (Wrote at (length bytes) after) ∷ past)
    → OnErr result (honest → MayAdd (λ now. On file (Wrote at (length bytes) now)) past new)
    → RunsWithin file from to old past → Throughout (RunsWithin file from to old) past new
write_within honest result file from to at bytes after old past new h behind before done torn run =
    changed (RunsWithin file from to old) honest result (On file (Wrote at (length bytes) after)) (λ now. On file (Wrote at (length bytes) now)) past new h done torn
    run
    (RunsWithin-write file from to at (length bytes) after old past behind before run)
    (λ now. RunsWithin-write file from to at (length bytes) now old past behind before run)

-- one more call

-- one more write from a place on
pub then_from : {T E : Type 0} (honest : Type 0) (result : Result T E) (file : File) (from at : ℕ) (bytes after : List ℕ) (old past new : List Event) → honest → from ≤ at
    → OnOk result (honest → new ≡ On file (Wrote at (length bytes) after) ∷ past)
    → OnErr result (honest → MayAdd (λ now. On file (Wrote at (length bytes) now)) past new)
    → Throughout (RunsFrom file from old) old past → Throughout (RunsFrom file from old) old new
then_from honest result file from at bytes after old past new h behind done torn moments =
    joined moments (write_from honest result file from at bytes after old past new h behind done torn (at_end moments))

-- one more cut to a place at or behind it
pub then_cut : {T E : Type 0} (honest : Type 0) (result : Result T E) (file : File) (from len : ℕ) (after : List ℕ) (old past new : List Event) → honest → from ≤ len
    → OnOk result (honest → new ≡ On file (Cut len after) ∷ past)
    → OnErr result (honest → MayAdd (λ now. On file (Cut len now)) past new)
    → Throughout (RunsFrom file from old) old past → Throughout (RunsFrom file from old) old new
then_cut honest result file from len after old past new h behind done torn moments =
    joined moments (cut_from honest result file from len after old past new h behind done torn (at_end moments))

-- one more write within a range
pub then_within : {T E : Type 0} (honest : Type 0) (result : Result T E) (file : File) (from to at : ℕ) (bytes after : List ℕ) (old past new : List Event) → honest
    → from ≤ at → at + length bytes ≤ to
    → OnOk result (honest → new ≡ On file (Wrote at (length bytes) after) ∷ past)
    → OnErr result (honest → MayAdd (λ now. On file (Wrote at (length bytes) now)) past new)
    → Throughout (RunsWithin file from to old) old past → Throughout (RunsWithin file from to old) old new
then_within honest result file from to at bytes after old past new h behind before done torn moments =
    joined moments (write_within honest result file from to at bytes after old past new h behind before done torn (at_end moments))

-- one more sync
pub then_sync : {T E : Type 0} (P : List ℕ → Type 0) (honest : Type 0) (result : Result T E) (file : File) (old past new : List Event) → honest
    → OnOk result (honest → new ≡ On file Synced ∷ past) → OnErr result (honest → new ≡ past)
    → IsImage (of file past) (contents (of file past))
    → Throughout (EveryImage file P) old past → Throughout (EveryImage file P) old new
then_sync P honest result file old past new h done torn reads moments =
    joined moments (images_in_sync P honest result file past new h done torn reads (at_end moments))
