-- Each file stays within its share.
use Rattle.std.proofs.Common.{◌≡◌, ℕ, ◌+◌, ◌*◌, ◌%◌, ◌≤◌, Bool, true, false, cond, eqb, List, ◌++◌, length, take, get_or, replicate, refl, sym, ◌∙◌, subst, arith}
use Rattle.std.proofs.Math.Nat.{mul-le-mul_right}
use Rattle.std.proofs.lemmas.List.{get_or-take, get_or_append_left, length-append, length-replicate, length-take}
use Rattle.host_model.specs.declared.file.File.{File}
use Rattle.host_model.specs.declared.file.File.TheVariants.{CheckA, CheckB, JournalA, JournalB}
use Rattle.host_model.specs.Images.{Change, synced, greatest, IsImage}
use Rattle.host_model.specs.Past.{Event, of, IsDisk}
use Rattle.host_model.specs.Disks.{EveryDisk}
use Rattle.host_model.specs.Moments.{Throughout, OnlyOn}
use Rattle.host_model.proofs.LeftLemmas.{least-greatest}
use Rattle.host_model.proofs.MomentLemmas.{only_on_each, strengthened, weakened}
use Rattle.extent_file.specs.Slot.{slot_size}
use Rattle.checkpoint.specs.Files.{slot_file}
use Rattle.tier_settings.specs.declared.settings.Settings.{Settings}
use Rattle.tier_settings.specs.declared.tier.Tier.{Tier}
use Rattle.tier_settings.specs.Settings.{tier_with}
use Rattle.checkpoint_body.specs.declared.body.Body.{Body}
use Rattle.checkpoint_body.specs.Body.{body_bytes, HasSpelling}
use Rattle.checkpoint_body.specs.Size.{body_limit}
use Rattle.checkpoint_body.proofs.SizeLaws.{body-within}
use Rattle.store_core.specs.declared.disk.sealed.Sealed.{Sealed}
use Rattle.store_core.specs.disk.Holds.{journal_file}
use Rattle.store_core.specs.disk.Next.{Written}
use Rattle.store_core.specs.disk.Opening.{OnlySyncs}
use Rattle.store_core.specs.disk.Shares.{share, tier_share, AreSlotsOf, EndWithin, HasOwnSlots, HasRoom, HasSlotRoom, IsWithin}
use Rattle.store_core.proofs.DiskProofs.SyncLemmas.{by_file}

-- ---- calls

-- a call to one file that keeps that file's share keeps all
pub within_on : (shares : File → ℕ) (file : File) (old new : List Event) → OnlyOn file old new → IsWithin shares old
    → Throughout (λ (past : List Event). greatest (of file past) ≤ shares file) old new → Throughout (IsWithin shares) old new
within_on shares file old new only before moments =
    strengthened (λ past from_old to_new here.
    let still = only_on_each file old past new only from_old to_new in
    by_file (λ (f : File). greatest (of f past) ≤ shares f) file here
    (λ other apart. subst (λ (changes : List Change). greatest changes ≤ shares other) (sym (still.others other apart)) (before other))) moments

-- ---- the longest image

longest : List Change → List ℕ
longest past = take (greatest past) (synced past ++ replicate (greatest past) 0)

length-longest : (past : List Change) → length (longest past) ≡ greatest past
unfolding longest
length-longest past =
    let zeros : List ℕ = replicate (greatest past) 0 in
    omega (arith, length-take (greatest past) (synced past ++ zeros), length-append (synced past) zeros, length-replicate {A = ℕ} (greatest past) 0)

longest_is_image : (past : List Change) → IsImage past (longest past)
unfolding longest
longest_is_image past =
    let zeros : List ℕ = replicate (greatest past) 0 in record {
      no_shorter = omega (arith, length-longest past, least-greatest past);
      no_longer = omega (arith, length-longest past);
      kept = λ place below within untouched.
          get_or-take (greatest past) (synced past ++ zeros) place 0 (omega (arith, within, length-longest past))
          ∙ get_or_append_left (synced past) zeros 0 place below;
    }

-- where a crash leaves no disk that it might not have left before, no file grows
disk_no_longer : (old past : List Event) → EveryDisk (IsDisk old) past → (file : File) → greatest (of file past) ≤ greatest (of file old)
disk_no_longer old past held file =
    let image = held (λ (f : File). longest (of f past)) (λ (f : File). longest_is_image (of f past)) file in
    omega (arith, image.no_longer, length-longest (of file past))

pub within_disks : (shares : File → ℕ) (old new : List Event) → IsWithin shares old → Throughout (EveryDisk (IsDisk old)) old new → Throughout (IsWithin shares) old new
within_disks shares old new before moments =
    weakened (λ past held file. let here = disk_no_longer old past held file in let there = before file in omega (arith, here, there)) moments

pub within_syncs : (shares : File → ℕ) (old new : List Event) → OnlySyncs old new → IsWithin shares old → Throughout (IsWithin shares) old new
within_syncs shares old new only before = within_disks shares old new before only.any_moment

-- ---- the shares of a database

journal_share : (set : Settings) (side number : ℕ) → 17 ≤ share set side (journal_file number)
journal_share set side number = by (eqb (number % 2) 0)
  where
    by : (b : Bool) → 17 ≤ share set side (cond b JournalA JournalB)
    by true = omega arith
    by false = omega arith

check_share : (set : Settings) (side number : ℕ) → share set side (slot_file number) ≡ 17 + body_limit set side
check_share set side number = by (eqb (number % 2) 0)
  where
    by : (b : Bool) → share set side (cond b CheckA CheckB) ≡ 17 + body_limit set side
    by true = refl
    by false = refl

pub has_room : (side number : ℕ) (body : Body) → HasSpelling body → length body.side ≤ side → HasRoom (share body.settings side) number (body_bytes body)
has_room side number body spelt short = record {
  journal = journal_share body.settings side number;
  checkpoint = omega (arith, check_share body.settings side number, body-within body spelt, short);
}

-- a slot ends before the next one begins
slot_ends : (slot count size : ℕ) → slot ≤ count → slot * size + size ≤ (count + 1) * size
slot_ends slot count size below =
    let here : (slot + 1) * size ≤ (count + 1) * size = mul-le-mul_right size (omega (arith, below)) in
    omega (arith, here)

end_within : (number : ℕ) (tier : Tier) (new : List Written) → AreSlotsOf tier new → EndWithin number tier.items (tier_share number tier) new
end_within number tier new are k d within = slot_ends (get_or new k d).slot tier.extents (slot_size number tier.items) (are k d within)

pub has_slot_room : (side : ℕ) (body : Body) (new : Sealed) → HasOwnSlots body new → HasSlotRoom (share body.settings side) body new
has_slot_room side body new are = record {
  points = end_within 0 (tier_with body.settings 0) _ are.points;
  minutes = end_within 1 (tier_with body.settings 1) _ are.minutes;
  hours = end_within 2 (tier_with body.settings 2) _ are.hours;
}
