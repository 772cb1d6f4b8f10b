-- from the images of one file to those of the whole disk
use Rattle.std.proofs.Common.{◌≡◌, ℕ, Bool, true, false, cond, eqb-true, List, [], ◌∷◌, ◌++◌, length, Result, refl, sym, ap, ◌∙◌, subst, arith, append-nil, length-append}
use Rattle.std.specs.Result.{OnOk, OnErr}
use Rattle.std.proofs.lemmas.List.{nil_from_length}
use Rattle.host_model.specs.declared.file.File.{File}
use Rattle.host_model.specs.Images.{Synced, contents, IsImage}
use Rattle.host_model.specs.Past.{Event, On, Told, file_number, is_same, of, told, IsOther, IsDisk, IsText}
use Rattle.host_model.specs.Moments.{Throughout, EveryImage, EveryCrash, OnlyOn}
use Rattle.host_model.specs.Disks.{EveryDisk, disk_with}
use Rattle.host_model.proofs.FileLemmas.{image_when_synced}
use Rattle.host_model.proofs.MomentLemmas.{Grows, strengthened, weakened, of-on_other, only_on_each, told-append, text_at_start}
use Rattle.host_model.proofs.CallLemmas.{settled}

-- what is shown of the images of one file holds of the disks
pub every_disk : {A : List ℕ → Type 0} {P : (File → List ℕ) → Type 0} {old new : List Event} (file : File)
    → ((disk : File → List ℕ) → A (disk file) → P disk)
    → Throughout (EveryImage file A) old new
    → Throughout (EveryDisk P) old new
every_disk {A} {P} {old} {new} file shows moments =
    weakened (λ past held disk images. shows disk (held (disk file) (images file))) moments

-- the same, where nothing happened to the other files
pub every_disk_around : {A : List ℕ → Type 0} {P : (File → List ℕ) → Type 0} {old new : List Event} (file : File)
    → OnlyOn file old new
    → ((disk : File → List ℕ) → A (disk file) → ((other : File) → IsOther other file → IsImage (of other old) (disk other)) → P disk)
    → Throughout (EveryImage file A) old new
    → Throughout (EveryDisk P) old new
every_disk_around {A} {P} {old} {new} file only shows moments =
    strengthened (λ past from_old to_new held disk images.
    let here = only_on_each file old past new only from_old to_new in
    shows disk (held (disk file) (images file))
    (λ other apart. subst (λ changes. IsImage changes (disk other)) (here.others other apart) (images other))) moments

-- a weaker fact about the disks
pub disks_weaker : {P Q : (File → List ℕ) → Type 0} {old new : List Event} → ((disk : File → List ℕ) → P disk → Q disk)
    → Throughout (EveryDisk P) old new → Throughout (EveryDisk Q) old new
disks_weaker {P} {Q} {old} {new} shows moments = weakened (λ past held disk images. shows disk (held disk images)) moments

nothing_between : (old more later : List ℕ) → (old ++ more) ++ later ≡ old → old ++ more ≡ old
nothing_between old more later e =
    let none : more ≡ [] = nil_from_length more (omega (arith, ap length e, length-append (old ++ more) later, length-append old more)) in
    rw (none, append-nil old) refl

-- where nothing was told in the end, nothing was told at any moment
told_each : (old past new : List Event) → told new ≡ told old → Grows old past → Grows past new → told past ≡ told old
told_each old past new same from_old to_new =
    let here : told past ≡ told old ++ told from_old.more = ap told from_old.whole ∙ told-append from_old.more old in
    let there : told new ≡ told past ++ told to_new.more = ap told to_new.whole ∙ told-append to_new.more past in
    let all : (told old ++ told from_old.more) ++ told to_new.more ≡ told old =
    ap (λ l. l ++ told to_new.more) (sym here) ∙ sym there ∙ same in
    here ∙ nothing_between (told old) (told from_old.more) (told to_new.more) all

-- where nothing was told, what holds of each disk holds at each crash
pub untold : {A : (File → List ℕ) → Type 0} {P : (File → List ℕ) → List ℕ → Type 0} {old new : List Event}
    → told new ≡ told old
    → ((disk : File → List ℕ) (text : List ℕ) → A disk → IsText old text → P disk text)
    → Throughout (EveryDisk A) old new
    → Throughout (EveryCrash P) old new
untold {A} {P} {old} {new} same shows moments =
    strengthened (λ past from_old to_new held disk text images told_by.
    shows disk text (held disk images)
    (text_at_start old past from_old (told_each old past new same from_old to_new) text told_by)) moments

-- one file put back

-- two files of one number have one past
of-same : (file other : File) (past : List Event) → is_same other file ≡ true → of other past ≡ of file past
of-same file other [] same = refl
of-same file other (On third change ∷ past) same =
    rw (eqb-true (file_number other) (file_number file) same, of-same file other past same) refl
of-same file other (Told sent ∷ past) same = of-same file other past same

image_with : (b : Bool) (past : List Event) (file other : File) (bytes : List ℕ) (disk : File → List ℕ) → is_same other file ≡ b
    → IsImage (of file past) bytes → (IsOther other file → IsImage (of other past) (disk other)) → IsImage (of other past) (cond b bytes (disk other))
image_with true past file other bytes disk same here there = subst (λ changes. IsImage changes bytes) (sym (of-same file other past same)) here
image_with false past file other bytes disk apart here there = there apart

-- a disk with an image of a file put in is one that a crash may leave
pub is_disk_with : (past : List Event) (file : File) (bytes : List ℕ) (disk : File → List ℕ)
    → IsImage (of file past) bytes → ((other : File) → IsOther other file → IsImage (of other past) (disk other)) → IsDisk past (disk_with file bytes disk)
is_disk_with past file bytes disk here there other = image_with (is_same other file) past file other bytes disk refl here (there other)

-- a step that touches one file: each disk of each moment, with what the file read as at the start put
-- back, is a disk of the start
pub beside : {P Q : (File → List ℕ) → Type 0} {old new : List Event} (file : File)
    → IsImage (of file old) (contents (of file old)) → EveryDisk P old
    → ((disk : File → List ℕ) → P (disk_with file (contents (of file old)) disk) → Q disk)
    → Throughout (OnlyOn file old) old new
    → Throughout (EveryDisk Q) old new
beside {P} {Q} {old} {new} file reads held shows moments =
    weakened (λ past only disk images.
    shows disk (held (disk_with file (contents (of file old)) disk)
    (is_disk_with old file (contents (of file old)) disk reads
    (λ other apart. subst (λ changes. IsImage changes (disk other)) (only.others other apart) (images other))))) moments

-- the same, where something is known of the file at each moment
pub beside_both : {A P Q : (File → List ℕ) → Type 0} {old new : List Event} (file : File)
    → OnlyOn file old new
    → IsImage (of file old) (contents (of file old)) → EveryDisk P old
    → ((disk : File → List ℕ) → A disk → P (disk_with file (contents (of file old)) disk) → Q disk)
    → Throughout (EveryDisk A) old new
    → Throughout (EveryDisk Q) old new
beside_both {A} {P} {Q} {old} {new} file only reads held shows moments =
    strengthened (λ past from_old to_new known disk images.
    let here = only_on_each file old past new only from_old to_new in
    shows disk (known disk images) (held (disk_with file (contents (of file old)) disk)
    (is_disk_with old file (contents (of file old)) disk reads
    (λ other apart. subst (λ changes. IsImage changes (disk other)) (here.others other apart) (images other))))) moments

-- syncs

image_before : (b : Bool) (past : List Event) (file other : File) (bytes : List ℕ) → is_same other file ≡ b
    → IsImage (of file past) (contents (of file past)) → IsImage (of other (On file Synced ∷ past)) bytes → IsImage (of other past) bytes
image_before true past file other bytes same reads image =
    let there : IsImage (Synced ∷ of other past) bytes = rw same at image in
    let whole : bytes ≡ contents (of other past) = image_when_synced (Synced ∷ of other past) bytes tt there in
    rw (whole, of-same file other past same) reads
image_before false past file other bytes apart reads image =
    subst (λ changes. IsImage changes bytes) (of-on_other file other Synced past apart) image

-- a disk of a sync was one before it
pub disk_before_sync : (file : File) (past : List Event) (disk : File → List ℕ) → IsImage (of file past) (contents (of file past))
    → IsDisk (On file Synced ∷ past) disk → IsDisk past disk
disk_before_sync file past disk reads images other = image_before (is_same other file) past file other (disk other) refl reads (images other)

-- what holds of each disk holds at each moment of a sync
pub disk_in_sync : {T E : Type 0} (P : (File → List ℕ) → Type 0) (honest : Type 0) (result : Result T E) (file : File) (old new : List Event) → honest
    → OnOk result (honest → new ≡ On file Synced ∷ old) → OnErr result (honest → new ≡ old)
    → IsImage (of file old) (contents (of file old)) → EveryDisk P old → Throughout (EveryDisk P) old new
disk_in_sync P honest result file old new h done torn reads before =
    settled (EveryDisk P) honest result file old new h done torn before (λ disk images. before disk (disk_before_sync file old disk reads images))
