-- the checkpoint of a disk, from what its two files hold
use Rattle.std.proofs.Common.{◌≡◌, ℕ, ◌<◌, ◌^◌, ◌%◌, ◌⊎◌, Bool, true, false, cond, eqb, eqb-true, ltb, List, ◌∷◌, length, drop, Option, Some, None, inl, inr, ⊎_elim, refl, sym, ap, ◌∙◌, subst, arith}
use Rattle.std.specs.Option.{option_map}
use Rattle.std.proofs.lemmas.Bool.{eqb-false}
use Rattle.host_model.specs.declared.file.File.{File}
use Rattle.host_model.specs.declared.file.File.TheVariants.{CheckA, CheckB}
use Rattle.host_model.specs.Images.{Synced}
use Rattle.host_model.specs.Past.{Event, On, of}
use Rattle.host_model.specs.Disks.{EveryDisk, reads_as, disk_with}
use Rattle.host_model.proofs.FileLemmas.{image_when_synced}
use Rattle.checkpoint.specs.declared.head.Head.{Head}
use Rattle.checkpoint.specs.Form.{slot_bytes, head_in, body_in, IsShut}
use Rattle.checkpoint.specs.Files.{Slot, slot_of, slot_in, later_head, later_slot, checkpoint_in, slot_file, new_slot, IsNext, HasOldOrNew}
use Rattle.checkpoint.specs.Loading.{IsFound, AreBoth}
use Rattle.checkpoint.proofs.FormLemmas.{body-slot, head_in-shut, head_in-slot, head_in-odd, body_in-whole}
use Rattle.checkpoint.proofs.CountLemmas.{HasParity, slot_in-parity, counts_first, counts_second, later_slot-none, new_first, new_second}

-- the two cases of a number
file_by : (b : Bool) (P : File → Type 0) (number : ℕ) → eqb (number % 2) 0 ≡ b → (number % 2 ≡ 0 → P CheckA) → (number % 2 ≡ 1 → P CheckB)
    → P (cond b CheckA CheckB)
file_by true P number e even odd = even (eqb-true (number % 2) 0 e)
file_by false P number e even odd =
    let not_zero : number % 2 ≡ 0 → ⊥ = eqb-false (number % 2) 0 e in
    odd (omega (arith, not_zero))

pub by_file : (P : File → Type 0) (number : ℕ) → (number % 2 ≡ 0 → P CheckA) → (number % 2 ≡ 1 → P CheckB) → P (slot_file number)
by_file P number even odd = file_by (eqb (number % 2) 0) P number refl even odd

pub slot_file-even : (number : ℕ) → number % 2 ≡ 0 → slot_file number ≡ CheckA
slot_file-even number e = rw e refl

pub slot_file-odd : (number : ℕ) → number % 2 ≡ 1 → slot_file number ≡ CheckB
slot_file-odd number e = rw e refl

-- a file that is not open holds nothing
pub slot_in-shut : (odd : ℕ) (bytes : List ℕ) → IsShut bytes → slot_in odd bytes ≡ None
slot_in-shut odd bytes shut = rw (head_in-shut odd bytes shut) refl

-- a checkpoint of this number
abbrev slot_with : ℕ → Option (List ℕ) → Option Slot
slot_with number body = Some (record { number = number; body = body })

-- a new checkpoint file holds its body
pub slot_in-slot : (number : ℕ) (body : List ℕ) → number < 2 ^ 64 → length body < 2 ^ 64 → slot_in (number % 2) (slot_bytes 1 number body) ≡ new_slot number body
slot_in-slot number body small fits =
    ap (option_map (slot_of (slot_bytes 1 number body))) (head_in-slot number body small fits)
    ∙ ap (λ (b : Option (List ℕ)). slot_with number b)
    (ap (λ (rest : List ℕ). body_in (length body) rest) (body-slot 1 number body) ∙ body_in-whole body)

-- a file in the midst of a switch, beside the other one
later_is : (one other a b : Option Slot) → one ≡ a → other ≡ b → later_slot one other ≡ later_slot a b
later_is one other a b first second = cc

-- with what the file read as at the start put back, the disk is one of the start, so the other file
-- holds the old checkpoint

even_end : (number : ℕ) (body : List ℕ) (old : Option Slot) (start : List ℕ) (disk : File → List ℕ)
    → number < 2 ^ 64 → length body < 2 ^ 64 → number % 2 ≡ 0 → IsNext old number
    → checkpoint_in (disk_with CheckA start disk) ≡ old → disk CheckA ≡ slot_bytes 1 number body
    → checkpoint_in disk ≡ new_slot number body
unfolding checkpoint_in
even_end number body old start disk small fits even next before whole =
    let own : HasParity (number % 2) (slot_in 0 start) = subst (λ (odd : ℕ). HasParity odd (slot_in 0 start)) (sym even) (slot_in-parity 0 start) in
    let other : slot_in 1 (disk CheckB) ≡ old = counts_second (slot_in 0 start) (slot_in 1 (disk CheckB)) old number own next before in
    let here : slot_in 0 (disk CheckA) ≡ new_slot number body =
    ap (slot_in 0) whole ∙ ap (λ (odd : ℕ). slot_in odd (slot_bytes 1 number body)) (sym even) ∙ slot_in-slot number body small fits in
    later_is (slot_in 0 (disk CheckA)) (slot_in 1 (disk CheckB)) (new_slot number body) old here other ∙ new_first old number body next

odd_end : (number : ℕ) (body : List ℕ) (old : Option Slot) (start : List ℕ) (disk : File → List ℕ)
    → number < 2 ^ 64 → length body < 2 ^ 64 → number % 2 ≡ 1 → IsNext old number
    → checkpoint_in (disk_with CheckB start disk) ≡ old → disk CheckB ≡ slot_bytes 1 number body
    → checkpoint_in disk ≡ new_slot number body
unfolding checkpoint_in
odd_end number body old start disk small fits odd next before whole =
    let own : HasParity (number % 2) (slot_in 1 start) = subst (λ (one : ℕ). HasParity one (slot_in 1 start)) (sym odd) (slot_in-parity 1 start) in
    let other : slot_in 0 (disk CheckA) ≡ old = counts_first (slot_in 1 start) (slot_in 0 (disk CheckA)) old number own next before in
    let here : slot_in 1 (disk CheckB) ≡ new_slot number body =
    ap (slot_in 1) whole ∙ ap (λ (one : ℕ). slot_in one (slot_bytes 1 number body)) (sym odd) ∙ slot_in-slot number body small fits in
    later_is (slot_in 0 (disk CheckA)) (slot_in 1 (disk CheckB)) old (new_slot number body) other here ∙ new_second old number body next

-- the new checkpoint is whole
pub switch_end : (number : ℕ) (body : List ℕ) (old : Option Slot) (start : List ℕ) (disk : File → List ℕ)
    → number < 2 ^ 64 → length body < 2 ^ 64 → IsNext old number
    → checkpoint_in (disk_with (slot_file number) start disk) ≡ old → disk (slot_file number) ≡ slot_bytes 1 number body
    → checkpoint_in disk ≡ new_slot number body
switch_end number body old start disk small fits next =
    by_file (λ file. checkpoint_in (disk_with file start disk) ≡ old → disk file ≡ slot_bytes 1 number body → checkpoint_in disk ≡ new_slot number body) number
    (λ even. even_end number body old start disk small fits even next)
    (λ odd. odd_end number body old start disk small fits odd next)

-- the file is not open, or the new checkpoint is whole
even_step : (number : ℕ) (body : List ℕ) (old : Option Slot) (start : List ℕ) (disk : File → List ℕ)
    → number < 2 ^ 64 → length body < 2 ^ 64 → number % 2 ≡ 0 → IsNext old number
    → checkpoint_in (disk_with CheckA start disk) ≡ old → IsShut (disk CheckA) ⊎ (disk CheckA ≡ slot_bytes 1 number body)
    → HasOldOrNew old number body disk
unfolding checkpoint_in
even_step number body old start disk small fits even next before state =
    let own : HasParity (number % 2) (slot_in 0 start) = subst (λ (odd : ℕ). HasParity odd (slot_in 0 start)) (sym even) (slot_in-parity 0 start) in
    let other : slot_in 1 (disk CheckB) ≡ old = counts_second (slot_in 0 start) (slot_in 1 (disk CheckB)) old number own next before in
    ⊎_elim
    (λ shut. inl (later_is (slot_in 0 (disk CheckA)) (slot_in 1 (disk CheckB)) None old (slot_in-shut 0 (disk CheckA) shut) other))
    (λ whole. inr (even_end number body old start disk small fits even next before whole))
    state

odd_step : (number : ℕ) (body : List ℕ) (old : Option Slot) (start : List ℕ) (disk : File → List ℕ)
    → number < 2 ^ 64 → length body < 2 ^ 64 → number % 2 ≡ 1 → IsNext old number
    → checkpoint_in (disk_with CheckB start disk) ≡ old → IsShut (disk CheckB) ⊎ (disk CheckB ≡ slot_bytes 1 number body)
    → HasOldOrNew old number body disk
unfolding checkpoint_in
odd_step number body old start disk small fits odd next before state =
    let own : HasParity (number % 2) (slot_in 1 start) = subst (λ (one : ℕ). HasParity one (slot_in 1 start)) (sym odd) (slot_in-parity 1 start) in
    let other : slot_in 0 (disk CheckA) ≡ old = counts_first (slot_in 1 start) (slot_in 0 (disk CheckA)) old number own next before in
    ⊎_elim
    (λ shut. inl (later_is (slot_in 0 (disk CheckA)) (slot_in 1 (disk CheckB)) old None other (slot_in-shut 1 (disk CheckB) shut) ∙ later_slot-none old))
    (λ whole. inr (odd_end number body old start disk small fits odd next before whole))
    state

pub switch_step : (number : ℕ) (body : List ℕ) (old : Option Slot) (start : List ℕ) (disk : File → List ℕ)
    → number < 2 ^ 64 → length body < 2 ^ 64 → IsNext old number
    → checkpoint_in (disk_with (slot_file number) start disk) ≡ old → IsShut (disk (slot_file number)) ⊎ (disk (slot_file number) ≡ slot_bytes 1 number body)
    → HasOldOrNew old number body disk
switch_step number body old start disk small fits next =
    by_file (λ file. checkpoint_in (disk_with file start disk) ≡ old → IsShut (disk file) ⊎ (disk file ≡ slot_bytes 1 number body) → HasOldOrNew old number body disk) number
    (λ even. even_step number body old start disk small fits even next)
    (λ odd. odd_step number body old start disk small fits odd next)

-- a disk with a file put in that is there already
same_first : (disk : File → List ℕ) → checkpoint_in (disk_with CheckA (disk CheckA) disk) ≡ checkpoint_in disk
unfolding checkpoint_in
same_first disk = refl

same_second : (disk : File → List ℕ) → checkpoint_in (disk_with CheckB (disk CheckB) disk) ≡ checkpoint_in disk
unfolding checkpoint_in
same_second disk = refl

pub same_with : (number : ℕ) (disk : File → List ℕ) → checkpoint_in (disk_with (slot_file number) (disk (slot_file number)) disk) ≡ checkpoint_in disk
same_with number disk =
    by_file (λ file. checkpoint_in (disk_with file (disk file) disk) ≡ checkpoint_in disk) number (λ even. same_first disk) (λ odd. same_second disk)

-- the checkpoint of two disks that have the same two files
pub checkpoint_in-same : (disk other : File → List ℕ) → AreBoth other disk → checkpoint_in disk ≡ checkpoint_in other
unfolding checkpoint_in
checkpoint_in-same disk other both = rw (both.first, both.second) refl

-- after both files were synced, a crash leaves what they read as
both_now : (old : List Event) → EveryDisk (AreBoth (reads_as old)) (On CheckB Synced ∷ (On CheckA Synced ∷ old))
both_now old disk images = record {
  first = image_when_synced (Synced ∷ of CheckA old) (disk CheckA) tt (images CheckA);
  second = image_when_synced (Synced ∷ of CheckB old) (disk CheckB) tt (images CheckB);
}

pub both_synced : (old new : List Event) → new ≡ On CheckB Synced ∷ (On CheckA Synced ∷ old) → EveryDisk (AreBoth (reads_as old)) new
both_synced old new same = subst (EveryDisk (AreBoth (reads_as old))) (sym same) (both_now old)

-- the head that counts is the head of what counts

-- of two files, by what their heads say
found_both : (b : Bool) (disk : File → List ℕ) (one other : Head) → ltb one.number other.number ≡ b
    → head_in 0 (disk CheckA) ≡ Some one → head_in 1 (disk CheckB) ≡ Some other
    → IsFound (cond b (Some other) (Some one)) disk
unfolding checkpoint_in
found_both true disk one other less first second =
    rw (first, second, less, slot_file-odd other.number (head_in-odd 1 (disk CheckB) other second)) refl
found_both false disk one other less first second =
    rw (first, second, less, slot_file-even one.number (head_in-odd 0 (disk CheckA) one first)) refl

found_by : (disk : File → List ℕ) (first second : Option Head) → head_in 0 (disk CheckA) ≡ first → head_in 1 (disk CheckB) ≡ second
    → IsFound (later_head first second) disk
unfolding checkpoint_in
found_by disk None None first second = rw (first, second) refl
found_by disk None (Some other) first second =
    rw (first, second, slot_file-odd other.number (head_in-odd 1 (disk CheckB) other second)) refl
found_by disk (Some one) None first second =
    rw (first, second, slot_file-even one.number (head_in-odd 0 (disk CheckA) one first)) refl
found_by disk (Some one) (Some other) first second =
    found_both (ltb one.number other.number) disk one other refl first second

both_heads : (one other a b : Option Head) → one ≡ a → other ≡ b → later_head one other ≡ later_head a b
both_heads one other a b first second = cc

pub is_found : (disk : File → List ℕ) → IsFound (later_head (head_in 0 (disk CheckA)) (head_in 1 (disk CheckB))) disk
is_found disk = found_by disk (head_in 0 (disk CheckA)) (head_in 1 (disk CheckB)) refl refl

pub found_of : (disk : File → List ℕ) (first second found : Option Head) → first ≡ head_in 0 (disk CheckA) → second ≡ head_in 1 (disk CheckB)
    → found ≡ later_head first second → IsFound found disk
found_of disk first second found one other is_found_head =
    subst (λ (head : Option Head). IsFound head disk) (sym (is_found_head ∙ both_heads first second (head_in 0 (disk CheckA)) (head_in 1 (disk CheckB)) one other)) (is_found disk)

-- after the syncs, each disk has the checkpoint that the disk read as
pub loaded_disks : (old synced new : List Event) → new ≡ synced → EveryDisk (AreBoth (reads_as old)) synced
    → EveryDisk (λ (disk : File → List ℕ). checkpoint_in disk ≡ checkpoint_in (reads_as old)) new
loaded_disks old synced new same both =
    subst (EveryDisk (λ (disk : File → List ℕ). checkpoint_in disk ≡ checkpoint_in (reads_as old))) (sym same)
    (λ disk images. checkpoint_in-same disk (reads_as old) (both disk images))

-- the file that counts has a body of the length that it says
pub held_of : (old synced : File → List ℕ) (found : Option Head) (head : Head) (file : File) → ((other : File) → synced other ≡ old other)
    → IsFound found synced → found ≡ Some head → file ≡ slot_file head.number → (body : List ℕ) × (body_in head.size (drop 17 (synced file)) ≡ Some body)
    → (number : ℕ) × (body : List ℕ) × (checkpoint_in old ≡ new_slot number body)
held_of old synced found head file same is_found_head is_head is_file held =
    let counts : IsFound (Some head) synced = subst (λ (h : Option Head). IsFound h synced) is_head is_found_head in
    let whole : body_in head.size (drop 17 (synced (slot_file head.number))) ≡ Some held.0 =
    ap (λ (f : File). body_in head.size (drop 17 (synced f))) (sym is_file) ∙ held.1 in (
      head.number,
      held.0,
      checkpoint_in-same old synced (record { first = sym (same CheckA); second = sym (same CheckB) })
          ∙ counts ∙ ap (λ (b : Option (List ℕ)). slot_with head.number b) whole,
    )
