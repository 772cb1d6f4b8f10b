-- what each step of a switch leaves of its file, at every moment
use Rattle.std.proofs.Common.{◌≡◌, ◌≢◌, ℕ, ◌+◌, ◌<◌, ◌≤◌, ◌^◌, ◌⊎◌, inl, inr, ⊎_elim, List, [], ◌∷◌, ◌++◌, length, take, drop, get_or, max, Option, refl, sym, ap, ◌∙◌, subst, arith, append_assoc, length-append}
use Rattle.std.proofs.lemmas.Bool.{cases_eq}
use Rattle.std.proofs.lemmas.List.{take_at, drop_at, drop_more, length-take, get_or-take}
use Rattle.host_model.specs.declared.file.File.{File}
use Rattle.host_model.specs.Images.{Change, Synced, contents, written, greatest, IsImage, IsSynced}
use Rattle.host_model.specs.Past.{Event, On, of, IsOther}
use Rattle.host_model.specs.Moments.{Throughout, EveryImage, OnlyOn}
use Rattle.host_model.specs.Disks.{EveryDisk}
use Rattle.host_model.proofs.FileLemmas.{image_when_synced, synced_is_image, length-written, written-behind}
use Rattle.host_model.proofs.MomentLemmas.{joined, weakened, strengthened, only_on_each}
use Rattle.host_model.proofs.CallLemmas.{reads_after}
use Rattle.host_model.proofs.SizeLemmas.{within_when_synced}
use Rattle.host_model.proofs.DiskLemmas.{is_disk_with}
use Rattle.host_model.proofs.RunLemmas.{synced_after_sync, RunsFrom, RunsFrom-images, RunsWithin, RunsWithin-images}
use Rattle.checkpoint.specs.Form.{slot_bytes, IsShut}
use Rattle.checkpoint.specs.Files.{Slot, checkpoint_in, new_slot, slot_file, IsNext, HasOldOrNew}
use Rattle.checkpoint.specs.Switching.{KeepsGate, KeepsBehindGate, IsSameOrShut, IsReplacing}
use Rattle.checkpoint.proofs.SlotLemmas.{switch_step, switch_end, same_with}

-- the gate

-- a write of the gate leaves what stands behind it
pub behind_moments : (file : File) (old new : List Event) → 0 < length (contents (of file old))
    → Throughout (RunsWithin file 0 1 old) old new → Throughout (EveryImage file (KeepsBehindGate (contents (of file old)))) old new
behind_moments file old new inside moments =
    weakened (λ past run bytes image.
    let kept = RunsWithin-images file 0 1 old past (omega arith) run bytes image in
    record { size = omega (arith, kept.no_shorter, kept.no_longer); rest = kept.rest }) moments

-- writes behind the gate leave it
pub gate_moments : (file : File) (old new : List Event) → 0 < length (contents (of file old))
    → Throughout (RunsFrom file 1 old) old new → Throughout (EveryImage file (KeepsGate (contents (of file old)))) old new
gate_moments file old new inside moments =
    weakened (λ past run bytes image.
    let kept = RunsFrom-images file 1 old past (omega arith) run bytes image in
    record { reaches = omega (arith, kept.enough); gate = kept.prefix }) moments

-- the bytes after a gate was written
pub written-gate : (old : List ℕ) (gate : ℕ) → written old 0 (gate ∷ []) ≡ gate ∷ drop 1 old
written-gate old gate = refl

-- a list is its first item and the rest
first_and_rest : (bytes : List ℕ) → 0 < length bytes → bytes ≡ get_or bytes 0 0 ∷ drop 1 bytes
first_and_rest bytes reaches = drop_more bytes 0 0 reaches

-- a gate of 1 that is being closed: the file is as it was, or not open
pub half_closed : (past : List Change) (bytes : List ℕ) → IsSynced past → 0 < length (contents past) → get_or (contents past) 0 0 ≡ 1
    → KeepsBehindGate (contents past) bytes → IsSameOrShut past bytes
half_closed past bytes stable inside is_open kept =
    ⊎_elim
    (λ gate.
    let same : bytes ≡ contents past =
    first_and_rest bytes (omega (arith, kept.size))
    ∙ ap (λ (l : List ℕ). get_or bytes 0 0 ∷ l) kept.rest
    ∙ ap (λ (g : ℕ). g ∷ drop 1 (contents past)) (gate ∙ sym is_open)
    ∙ sym (first_and_rest (contents past) inside) in
    inl (subst (IsImage past) (sym same) (synced_is_image past stable)))
    (λ closed. inr (inr closed))
    (cases_eq (get_or bytes 0 0) 1)

-- an image of the synced file, or a file that is not open, is one of the file before
pub same_before : (old middle : List Change) (bytes : List ℕ) → IsSynced middle → IsImage old (contents middle) → IsSameOrShut middle bytes → IsSameOrShut old bytes
same_before old middle bytes stable reads (inl image) = inl (subst (IsImage old) (sym (image_when_synced middle bytes stable image)) reads)
same_before old middle bytes stable reads (inr shut) = inr shut

-- the moments of a gate that is closed
pub close_moments : (file : File) (old middle new : List Event) → middle ≡ old → IsSynced (of file old) → 0 < length (contents (of file old))
    → get_or (contents (of file old)) 0 0 ≡ 1
    → Throughout (EveryImage file (KeepsBehindGate (contents (of file middle)))) middle new
    → Throughout (EveryImage file (IsSameOrShut (of file old))) old new
close_moments file old middle new same stable inside is_open moments =
    weakened (λ past kept bytes image. half_closed (of file old) bytes stable inside is_open (kept bytes image))
    (subst (λ (m : List Event). Throughout (EveryImage file (KeepsBehindGate (contents (of file m)))) m new) same moments)

-- a gate that was closed
pub closed_now : (old new : List ℕ) → new ≡ written old 0 (0 ∷ []) → get_or new 0 0 ≢ 1
closed_now old new same e =
    let gate : get_or new 0 0 ≡ 0 = ap (λ (l : List ℕ). get_or l 0 0) (same ∙ written-gate old 0) in
    omega arith

pub reaches_now : (old new : List ℕ) (gate : ℕ) → new ≡ written old 0 (gate ∷ []) → 0 < length new
reaches_now old new gate same = omega (arith, ap length (same ∙ written-gate old gate))

-- what the file read as before its sync
pub read_before : (file : File) (old synced middle : List Event) → synced ≡ On file Synced ∷ old → middle ≡ synced → contents (of file middle) ≡ contents (of file old)
read_before file old synced middle done same =
    ap (λ (past : List Event). contents (of file past)) same ∙ reads_after file Synced old synced done

pub synced_before : (file : File) (old synced middle : List Event) → synced ≡ On file Synced ∷ old → middle ≡ synced → IsSynced (of file middle)
synced_before file old synced middle done same =
    subst (λ (past : List Event). IsSynced (of file past)) (sym (same ∙ done)) (synced_after_sync file old)

-- nothing happened after the sync
pub sync_only : (file : File) (old synced middle : List Event) → middle ≡ synced
    → Throughout (EveryImage file (IsSameOrShut (of file old))) old synced
    → Throughout (EveryImage file (IsSameOrShut (of file old))) old middle
sync_only file old synced middle same moments = subst (Throughout (EveryImage file (IsSameOrShut (of file old))) old) (sym same) moments

-- a file too short for a head, that is begun anew
pub begin_moments : (file : File) (old synced middle new : List Event) → synced ≡ On file Synced ∷ old → middle ≡ synced
    → length (contents (of file middle)) < 17
    → ((size : ℕ) → 1 ≤ size → greatest (of file middle) ≤ size → Throughout (λ past. greatest (of file past) ≤ size) middle new)
    → Throughout (EveryImage file (IsSameOrShut (of file old))) old synced
    → Throughout (EveryImage file (IsSameOrShut (of file old))) old new
begin_moments file old synced middle new done same short bound moments =
    joined (sync_only file old synced middle same moments)
    (weakened (λ past within bytes image. inr (inl (omega (arith, within, image.no_longer))))
    (bound 16 (omega arith) (within_when_synced 16 (of file middle) (synced_before file old synced middle done same) (omega arith))))

-- a file with a head, whose gate is closed if it is open
pub open_moments : (file : File) (old synced middle new : List Event) → synced ≡ On file Synced ∷ old → middle ≡ synced
    → IsImage (of file old) (contents (of file old))
    → Throughout (EveryImage file (IsSameOrShut (of file middle))) middle new
    → Throughout (EveryImage file (IsSameOrShut (of file old))) old synced
    → Throughout (EveryImage file (IsSameOrShut (of file old))) old new
open_moments file old synced middle new done same reads after moments =
    let stable = synced_before file old synced middle done same in
    let here : IsImage (of file old) (contents (of file middle)) = subst (IsImage (of file old)) (sym (read_before file old synced middle done same)) reads in
    joined (sync_only file old synced middle same moments)
    (weakened (λ past held bytes image. same_before (of file old) (of file middle) bytes stable here (held bytes image)) after)

-- the moments of a call that follows one that left the past as it was
pub from_same : (P : List Event → Type 0) (old middle new : List Event) → middle ≡ old → P old → (P middle → Throughout P middle new) → Throughout P old new
from_same P old middle new same here after =
    subst (λ (m : List Event). (P m → Throughout P m new) → Throughout P old new) (sym same) (λ follows. follows here) after

-- the rest

-- a head and a body, written behind the gate and cut to their end
pub rested : (head body old first second third : List ℕ) → length head ≡ 16 → 0 < length old
    → first ≡ written old 1 head
    → second ≡ written first 17 body
    → third ≡ take (17 + length body) second
    → third ≡ take 1 old ++ (head ++ body)
rested head body old first second third size inside one two three =
    let prefix = take 1 old in
    let prefix_size : length prefix ≡ 1 = omega (arith, length-take 1 old) in
    let one' : first ≡ (prefix ++ head) ++ drop (1 + length head) old = one in
    let two' : second ≡ ((prefix ++ head) ++ body) ++ drop (length body) (drop (1 + length head) old) =
    two ∙ ap (λ (l : List ℕ). written l 17 body) one'
    ∙ written-behind (prefix ++ head) (drop (1 + length head) old) 17 body (omega (arith, length-append prefix head)) in
    three
    ∙ ap (λ (l : List ℕ). take (17 + length body) l) two'
    ∙ take_at ((prefix ++ head) ++ body) (drop (length body) (drop (1 + length head) old)) (17 + length body)
    (omega (arith, length-append (prefix ++ head) body, length-append prefix head))
    ∙ append_assoc prefix head body

-- the file reaches to the end of the body before it is cut
pub rest_reaches : (head body old first second : List ℕ) → length head ≡ 16 → 0 < length old
    → first ≡ written old 1 head → second ≡ written first 17 body → 17 + length body ≤ length second
rest_reaches head body old first second size inside one two =
    let one_size : length first ≡ max (length old) (1 + length head) = ap length one ∙ length-written old 1 head (omega arith) in
    let two_size : length second ≡ max (length first) (17 + length body) = ap length two ∙ length-written first 17 body (omega arith) in
    omega arith

-- behind a closed gate the file is not open
pub closed_still : (old bytes : List ℕ) → get_or old 0 0 ≢ 1 → KeepsGate old bytes → IsShut bytes
closed_still old bytes closed kept =
    inr (λ gate. closed (sym (get_or-take 1 old 0 0 (omega arith)) ∙ ap (λ (l : List ℕ). get_or l 0 0) (sym kept.gate) ∙ get_or-take 1 bytes 0 0 (omega arith) ∙ gate))

behind_prefix : (old rest : List ℕ) → 0 < length old → drop 1 (take 1 old ++ rest) ≡ rest
behind_prefix old rest inside = drop_at (take 1 old) rest 1 (omega (arith, length-take 1 old))

-- a gate that is being opened
pub half_open : (rest start middle bytes : List ℕ) → 0 < length start → middle ≡ take 1 start ++ rest
    → KeepsBehindGate middle bytes → IsShut bytes ⊎ (bytes ≡ 1 ∷ rest)
half_open rest start middle bytes inside is_middle kept =
    let same : drop 1 bytes ≡ rest = kept.rest ∙ ap (λ (l : List ℕ). drop 1 l) is_middle ∙ behind_prefix start rest inside in
    let reaches : 0 < length bytes =
    omega (arith, kept.size, ap length is_middle, length-append (take 1 start) rest, length-take 1 start) in
    ⊎_elim
    (λ gate. inr (first_and_rest bytes reaches ∙ ap (λ (l : List ℕ). get_or bytes 0 0 ∷ l) same ∙ ap (λ (g : ℕ). g ∷ rest) gate))
    (λ closed. inl (inr closed))
    (cases_eq (get_or bytes 0 0) 1)

-- the gate is open
pub whole_open : (rest start middle new : List ℕ) → 0 < length start → middle ≡ take 1 start ++ rest
    → new ≡ written middle 0 (1 ∷ []) → new ≡ 1 ∷ rest
whole_open rest start middle new inside is_middle opened =
    opened ∙ written-gate middle 1
    ∙ ap (λ (l : List ℕ). 1 ∷ l) (ap (λ (l : List ℕ). drop 1 l) is_middle ∙ behind_prefix start rest inside)

-- a file that is closing is one that is being replaced
pub closing_replaced : (past : List Change) (whole bytes : List ℕ) → IsSameOrShut past bytes → IsReplacing past whole bytes
closing_replaced past whole bytes (inl image) = inl image
closing_replaced past whole bytes (inr shut) = inr (inl shut)

-- the switch

others_at : (file : File) (old past : List Event) (disk : File → List ℕ) → OnlyOn file old past → ((other : File) → IsImage (of other past) (disk other))
    → (other : File) → IsOther other file → IsImage (of other old) (disk other)
others_at file old past disk only images other apart = subst (λ (changes : List Change). IsImage changes (disk other)) (only.others other apart) (images other)

replacing : (number : ℕ) (body : List ℕ) (old : List Event) (before : Option Slot) (disk : File → List ℕ)
    → number < 2 ^ 64 → length body < 2 ^ 64 → IsNext before number
    → IsImage (of (slot_file number) old) (contents (of (slot_file number) old))
    → EveryDisk (λ (d : File → List ℕ). checkpoint_in d ≡ before) old
    → ((other : File) → IsOther other (slot_file number) → IsImage (of other old) (disk other))
    → IsReplacing (of (slot_file number) old) (slot_bytes 1 number body) (disk (slot_file number))
    → HasOldOrNew before number body disk
replacing number body old before disk small fits next reads held others (inl image) =
    inl (sym (same_with number disk) ∙ held _ (is_disk_with old (slot_file number) (disk (slot_file number)) disk image others))
replacing number body old before disk small fits next reads held others (inr state) =
    switch_step number body before (contents (of (slot_file number) old)) disk small fits next
    (held _ (is_disk_with old (slot_file number) (contents (of (slot_file number) old)) disk reads others)) state

pub switch_moments : (number : ℕ) (body : List ℕ) (old new : List Event) (before : Option Slot)
    → number < 2 ^ 64 → length body < 2 ^ 64 → IsNext before number
    → IsImage (of (slot_file number) old) (contents (of (slot_file number) old))
    → OnlyOn (slot_file number) old new
    → EveryDisk (λ (d : File → List ℕ). checkpoint_in d ≡ before) old
    → Throughout (EveryImage (slot_file number) (IsReplacing (of (slot_file number) old) (slot_bytes 1 number body))) old new
    → Throughout (EveryDisk (HasOldOrNew before number body)) old new
switch_moments number body old new before small fits next reads only held moments =
    strengthened (λ past from_old to_new known disk images.
    let here = only_on_each (slot_file number) old past new only from_old to_new in
    replacing number body old before disk small fits next reads held (others_at (slot_file number) old past disk here images)
    (known (disk (slot_file number)) (images (slot_file number)))) moments

pub switch_done : (number : ℕ) (body : List ℕ) (old new : List Event) (before : Option Slot)
    → number < 2 ^ 64 → length body < 2 ^ 64 → IsNext before number
    → IsImage (of (slot_file number) old) (contents (of (slot_file number) old))
    → OnlyOn (slot_file number) old new
    → EveryDisk (λ (d : File → List ℕ). checkpoint_in d ≡ before) old
    → IsSynced (of (slot_file number) new) → contents (of (slot_file number) new) ≡ slot_bytes 1 number body
    → EveryDisk (λ (d : File → List ℕ). checkpoint_in d ≡ new_slot number body) new
switch_done number body old new before small fits next reads only held stable whole disk images =
    switch_end number body before (contents (of (slot_file number) old)) disk small fits next
    (held _ (is_disk_with old (slot_file number) (contents (of (slot_file number) old)) disk reads (others_at (slot_file number) old new disk only images)))
    (image_when_synced (of (slot_file number) new) (disk (slot_file number)) stable (images (slot_file number)) ∙ whole)

-- the same of a file and bytes that are those
pub switch_moments_of : (number : ℕ) (body whole : List ℕ) (file : File) (old new : List Event) (before : Option Slot)
    → file ≡ slot_file number → whole ≡ slot_bytes 1 number body
    → number < 2 ^ 64 → length body < 2 ^ 64 → IsNext before number
    → IsImage (of file old) (contents (of file old))
    → OnlyOn file old new
    → EveryDisk (λ (d : File → List ℕ). checkpoint_in d ≡ before) old
    → Throughout (EveryImage file (IsReplacing (of file old) whole)) old new
    → Throughout (EveryDisk (HasOldOrNew before number body)) old new
switch_moments_of number body whole file old new before is_file is_whole small fits next reads only held moments =
    switch_moments number body old new before small fits next
    (subst (λ (f : File). IsImage (of f old) (contents (of f old))) is_file reads)
    (subst (λ (f : File). OnlyOn f old new) is_file only)
    held
    (subst (λ (w : List ℕ). Throughout (EveryImage (slot_file number) (IsReplacing (of (slot_file number) old) w)) old new) is_whole
    (subst (λ (f : File). Throughout (EveryImage f (IsReplacing (of f old) whole)) old new) is_file moments))

pub switch_done_of : (number : ℕ) (body whole : List ℕ) (file : File) (old new : List Event) (before : Option Slot)
    → file ≡ slot_file number → whole ≡ slot_bytes 1 number body
    → number < 2 ^ 64 → length body < 2 ^ 64 → IsNext before number
    → IsImage (of file old) (contents (of file old))
    → OnlyOn file old new
    → EveryDisk (λ (d : File → List ℕ). checkpoint_in d ≡ before) old
    → IsSynced (of file new) → contents (of file new) ≡ whole
    → EveryDisk (λ (d : File → List ℕ). checkpoint_in d ≡ new_slot number body) new
switch_done_of number body whole file old new before is_file is_whole small fits next reads only held stable is_new =
    switch_done number body old new before small fits next
    (subst (λ (f : File). IsImage (of f old) (contents (of f old))) is_file reads)
    (subst (λ (f : File). OnlyOn f old new) is_file only)
    held
    (subst (λ (f : File). IsSynced (of f new)) is_file stable)
    (subst (λ (f : File). contents (of f new) ≡ slot_bytes 1 number body) is_file (is_new ∙ is_whole))
