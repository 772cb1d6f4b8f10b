-- What stays of a file in which bytes are written, at each moment.
use Rattle.std.proofs.Common.{◌≡◌, ◌⊎◌, ℕ, ◌+◌, ◌*◌, ◌-◌, ◌<◌, ◌≤◌, List, [], ◌∷◌, ◌++◌, length, take, drop, replicate, Result, refl, sym, ap, ◌∙◌, inl, inr, arith}
use Rattle.std.specs.Result.{OnOk, OnErr}
use Rattle.std.proofs.lemmas.List.{length-take, length-drop, take_all, drop-drop, drop-take, take-take, append_assoc, append-nil, length-append, length-replicate, replicate-append-replicate, drop_at}
use Rattle.std.proofs.lemmas.Bool.{cases_lt, cases_order}
use Rattle.std.proofs.Math.Nat.{add-mul}
use Rattle.std.proofs.lemmas.Nat.{mul-le}
use Rattle.host_model.specs.declared.file.File.{File}
use Rattle.host_model.specs.Images.{Wrote, contents, written, greatest}
use Rattle.host_model.specs.Past.{Event, On, of, MayAdd}
use Rattle.host_model.proofs.FileLemmas.{length-written, written-end}
use Rattle.host_model.proofs.CallLemmas.{reads_after}
use Rattle.host_model.specs.Moments.{Throughout, EveryImage}
use Rattle.host_model.proofs.MomentLemmas.{weakened}
use Rattle.host_model.proofs.RunLemmas.{RunsFrom, RunsFrom-images, RunsWithin, RunsWithin-images}
use Rattle.host_model.proofs.SizeLemmas.{within_write}
use Rattle.extent_file.specs.Writing.{LiesAt, KeepsAll, KeepsBeside, filled_to}

pub all_moments : (file : File) (old new : List Event) → Throughout (RunsFrom file (length (contents (of file old))) old) old new
    → Throughout (EveryImage file (KeepsAll (contents (of file old)))) old new
all_moments file old new moments =
    let was = contents (of file old) in
    weakened (λ past run bytes image.
    let kept = RunsFrom-images file (length was) old past (omega arith) run bytes image in
    record { enough = kept.enough; prefix = kept.prefix ∙ take_all (length was) was (omega arith) }) moments

pub beside_moments : (file : File) (from to : ℕ) (old new : List Event) → from ≤ length (contents (of file old)) → Throughout (RunsWithin file from to old) old new
    → Throughout (EveryImage file (KeepsBeside from to (contents (of file old)))) old new
beside_moments file from to old new within moments =
    weakened (λ past run bytes image.
    let kept = RunsWithin-images file from to old past within run bytes image in
    record { prefix = kept.prefix; rest = kept.rest }) moments

-- what lies in a prefix lies in all
lies_in_prefix : (place : ℕ) (lies : List ℕ) (size : ℕ) (bytes : List ℕ) → place + length lies ≤ size → take (length lies) (drop place (take size bytes)) ≡ take (length lies) (drop place bytes)
lies_in_prefix place lies size bytes within =
    ap (λ (n : ℕ). take (length lies) (drop place (take n bytes))) (let e : size ≡ place + (size - place) = omega (arith, within) in e)
    ∙ ap (take (length lies)) (drop-take place (size - place) bytes)
    ∙ take-take (length lies) (size - place) (drop place bytes) (omega (arith, within))

-- where it lies, there is room
lies_within : (place : ℕ) (lies bytes : List ℕ) → LiesAt place lies bytes → 0 < length lies → place + length lies ≤ length bytes
lies_within place lies bytes lie some =
    let long = ap length lie in let cut = length-take (length lies) (drop place bytes) in let left = length-drop place bytes in
    omega (arith, long, cut, left, some)

lies_none : (place : ℕ) (lies bytes : List ℕ) → length lies ≡ 0 → LiesAt place lies bytes
lies_none place [] bytes none = refl
lies_none place (x ∷ lies) bytes none = absurd (omega (arith, none))

pub lies_still : (place : ℕ) (lies old bytes : List ℕ) → LiesAt place lies old → KeepsAll old bytes → LiesAt place lies bytes
lies_still place lies old bytes lie kept =
    elim (cases_lt 0 (length lies)) [
      | inl some ↦
          sym (lies_in_prefix place lies (length old) bytes (lies_within place lies old lie some))
          ∙ ap (λ (l : List ℕ). take (length lies) (drop place l)) kept.prefix ∙ lie
      | inr none ↦ lies_none place lies bytes (omega (arith, none))
    ]

pub lies_beside : (place from to : ℕ) (lies old bytes : List ℕ) → LiesAt place lies old → ((place + length lies ≤ from) ⊎ (to ≤ place)) → KeepsBeside from to old bytes → LiesAt place lies bytes
lies_beside place from to lies old bytes lie (inl before) kept =
    sym (lies_in_prefix place lies from bytes before)
    ∙ ap (λ (l : List ℕ). take (length lies) (drop place l)) kept.prefix
    ∙ lies_in_prefix place lies from old before ∙ lie
lies_beside place from to lies old bytes lie (inr behind) kept =
    let there : to + (place - to) ≡ place = omega (arith, behind) in
    ap (λ (n : ℕ). take (length lies) (drop n bytes)) (sym there)
    ∙ ap (take (length lies)) (sym (drop-drop (place - to) to bytes))
    ∙ ap (λ (l : List ℕ). take (length lies) (drop (place - to) l)) kept.rest
    ∙ ap (take (length lies)) (drop-drop (place - to) to old)
    ∙ ap (λ (n : ℕ). take (length lies) (drop n old)) there ∙ lie

-- a write at the end makes the file longer
pub longer : (file : File) (past new : List Event) (at size : ℕ) (bytes : List ℕ)
    → new ≡ On file (Wrote at (length bytes) (written (contents (of file past)) at bytes)) ∷ past
    → at ≡ length (contents (of file past)) → length bytes ≡ size → at + size ≡ length (contents (of file new))
longer file past new at size bytes done end long =
    let was = contents (of file past) in
    let now : contents (of file new) ≡ written was at bytes = reads_after file (Wrote at (length bytes) (written was at bytes)) past new done in
    let grown = ap length now in let all = length-written was at bytes (omega (arith, end)) in
    omega (arith, grown, all, end, long)

-- a file that has so many bytes is filled already
pub filled_here : (end : ℕ) (bytes : List ℕ) → end ≤ length bytes → bytes ≡ filled_to end bytes
filled_here end bytes within =
    let none : end - length bytes ≡ 0 = omega (arith, within) in
    sym (ap (λ (n : ℕ). bytes ++ replicate n 0) none ∙ append-nil bytes)

pub filled_reaches : (end : ℕ) (bytes : List ℕ) → end ≤ length (filled_to end bytes)
filled_reaches end bytes =
    omega (arith, length-append bytes (replicate (end - length bytes) 0), length-replicate {A = ℕ} (end - length bytes) 0)

-- zeros written at the end of a file that is filled so far
pub filled_more : (file : File) (past new : List Event) (at size : ℕ) (bytes old : List ℕ)
    → new ≡ On file (Wrote at (length bytes) (written (contents (of file past)) at bytes)) ∷ past
    → at ≡ length (contents (of file past)) → bytes ≡ replicate size 0 → length old ≤ at
    → contents (of file past) ≡ filled_to at old → contents (of file new) ≡ filled_to (at + size) old
filled_more file past new at size bytes old done end zeros within so_far =
    let was = contents (of file past) in
    let more : (at - length old) + size ≡ (at + size) - length old = omega (arith, within) in
    reads_after file (Wrote at (length bytes) (written was at bytes)) past new done
    ∙ ap (λ (n : ℕ). written was n bytes) end ∙ written-end was bytes
    ∙ ap (λ (l : List ℕ). l ++ bytes) so_far ∙ ap (λ (l : List ℕ). filled_to at old ++ l) zeros
    ∙ append_assoc old (replicate (at - length old) 0) (replicate size 0)
    ∙ ap (λ (l : List ℕ). old ++ l) (replicate-append-replicate {A = ℕ} (at - length old) size 0)
    ∙ ap (λ (n : ℕ). old ++ replicate n 0) more

-- what was written stands there
pub drop_there : (old : List ℕ) (at : ℕ) (bytes : List ℕ) → at ≤ length old → drop at (written old at bytes) ≡ bytes ++ drop (at + length bytes) old
drop_there old at bytes within =
    let size : length (take at old) ≡ at = omega (arith, length-take at old, within) in
    ap (λ (l : List ℕ). drop at l) (append_assoc (take at old) bytes (drop (at + length bytes) old))
    ∙ drop_at (take at old) (bytes ++ drop (at + length bytes) old) at size

-- another slot is beside this one
pub slots_apart : (other slot size most room : ℕ) → (other ≡ slot → ⊥) → size ≤ room → most ≤ room
    → (other * room + size ≤ slot * room) ⊎ (slot * room + most ≤ other * room)
slots_apart other slot size most room apart fits small =
    elim (cases_order other slot) [
      | inl same ↦ absurd (apart same)
      | inr (inl below) ↦
          let more = mul-le (other + 1) room slot room (omega (arith, below)) (omega arith) in let split = add-mul other 1 room in
          inl (omega (arith, more, split, fits))
      | inr (inr above) ↦
          let more = mul-le (slot + 1) room other room (omega (arith, above)) (omega arith) in let split = add-mul slot 1 room in
          inr (omega (arith, more, split, small))
    ]

-- one more write of so many bytes makes no file too long
pub zeros_within : {T E : Type 0} (honest : Type 0) (result : Result T E) (size : ℕ) (file : File) (at count : ℕ) (bytes now : List ℕ) (old past new : List Event) → honest
    → OnOk result (honest → new ≡ On file (Wrote at (length bytes) now) ∷ past) → OnErr result (honest → MayAdd (λ now. On file (Wrote at (length bytes) now)) past new)
    → length bytes ≡ count → at + count ≤ size
    → Throughout (λ (past : List Event). greatest (of file past) ≤ size) old past → Throughout (λ (past : List Event). greatest (of file past) ≤ size) old new
zeros_within honest result size file at count bytes now old past new h done torn long fits moments =
    within_write honest result size file at (length bytes) now old past new h (omega (arith, long, fits)) done torn moments

pub room_left : (start room long size : ℕ) → start + room ≤ size → long ≤ room → start + long ≤ size
room_left start room long size fits small = omega (arith, fits, small)
