-- a file that has at most so many bytes after every crash
use Rattle.std.proofs.Common.{◌≡◌, ℕ, ◌+◌, ◌≤◌, List, [], ◌∷◌, length, Result, refl, arith}
use Rattle.std.specs.Result.{OnOk, OnErr}
use Rattle.host_model.specs.declared.file.File.{File}
use Rattle.host_model.specs.Images.{Change, Wrote, Cut, Synced, contents, greatest, IsImage, IsSynced}
use Rattle.host_model.specs.Past.{Event, On, of, MayAdd}
use Rattle.host_model.specs.Moments.{Throughout, EveryImage}
use Rattle.host_model.proofs.MomentLemmas.{at_end, joined, weakened, of-on_same}
use Rattle.host_model.proofs.CallLemmas.{changed, settled}

-- no crash leaves more bytes of the file
abbrev pub StaysWithin : ℕ → File → List Event → Type 0
StaysWithin size file past = greatest (of file past) ≤ size

greatest_when_synced : (past : List Change) → IsSynced past → greatest past ≡ length (contents past)
greatest_when_synced [] stable = refl
greatest_when_synced (Wrote at size now ∷ past) stable = absurd stable
greatest_when_synced (Cut len now ∷ past) stable = absurd stable
greatest_when_synced (Synced ∷ past) stable = refl

pub within_when_synced : (size : ℕ) (past : List Change) → IsSynced past → length (contents past) ≤ size → greatest past ≤ size
within_when_synced size past stable short = omega (arith, greatest_when_synced past stable)

pub within_images : (size : ℕ) (file : File) (old new : List Event) → Throughout (StaysWithin size file) old new
    → Throughout (EveryImage file (λ bytes. length bytes ≤ size)) old new
within_images size file old new moments = weakened (λ past held bytes image. omega (arith, held, image.no_longer)) moments

-- one more write within that size
pub within_write : {T E : Type 0} (honest : Type 0) (result : Result T E) (size : ℕ) (file : File) (at count : ℕ) (after : List ℕ) (old past new : List Event) → honest → at + count ≤ size
    → OnOk result (honest → new ≡ On file (Wrote at count after) ∷ past) → OnErr result (honest → MayAdd (λ now. On file (Wrote at count now)) past new)
    → Throughout (StaysWithin size file) old past → Throughout (StaysWithin size file) old new
within_write honest result size file at count after old past new h fits done torn moments =
    let here : greatest (of file past) ≤ size = at_end moments in
    let shows : (now : List ℕ) → StaysWithin size file (On file (Wrote at count now) ∷ past) =
    λ now. rw (of-on_same file (Wrote at count now) past) (omega arith) in
    joined moments
    (changed (StaysWithin size file) honest result (On file (Wrote at count after)) (λ now. On file (Wrote at count now)) past new h done torn here (shows after) shows)

-- one more cut
pub within_cut : {T E : Type 0} (honest : Type 0) (result : Result T E) (size : ℕ) (file : File) (len : ℕ) (after : List ℕ) (old past new : List Event) → honest
    → OnOk result (honest → new ≡ On file (Cut len after) ∷ past) → OnErr result (honest → MayAdd (λ now. On file (Cut len now)) past new)
    → Throughout (StaysWithin size file) old past → Throughout (StaysWithin size file) old new
within_cut honest result size file len after old past new h done torn moments =
    let here : greatest (of file past) ≤ size = at_end moments in
    let shows : (now : List ℕ) → StaysWithin size file (On file (Cut len now) ∷ past) =
    λ now. rw (of-on_same file (Cut len now) past) here in
    joined moments
    (changed (StaysWithin size file) honest result (On file (Cut len after)) (λ now. On file (Cut len now)) past new h done torn here (shows after) shows)

-- one more sync
pub within_sync : {T E : Type 0} (honest : Type 0) (result : Result T E) (size : ℕ) (file : File) (old past new : List Event) → honest
    → OnOk result (honest → new ≡ On file Synced ∷ past) → OnErr result (honest → new ≡ past)
    → IsImage (of file past) (contents (of file past))
    → Throughout (StaysWithin size file) old past → Throughout (StaysWithin size file) old new
within_sync honest result size file old past new h done torn reads moments =
    let here : greatest (of file past) ≤ size = at_end moments in
    joined moments
    (settled (StaysWithin size file) honest result file past new h done torn here
    (rw (of-on_same file Synced past) (omega (arith, reads.no_longer))))
