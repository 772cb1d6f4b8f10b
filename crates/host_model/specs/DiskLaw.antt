-- what a host in memory reads as is one of its images
use Rattle.std.specs.Prelude.{◌≡◌, ℕ, zero, suc, ◌+◌, ◌-◌, ◌<◌, ◌≤◌, ◌⊎◌, Bool, true, false, List, [], ◌∷◌, ◌++◌, length, min, take, drop, get_or, fold, if◌then◌else◌}
use Rattle.std.proofs.Common.{refl, sym, ap, ◌∙◌, inl, inr, arith, length-append}
use Rattle.std.proofs.lemmas.Bool.{eqb-true}
use Rattle.std.proofs.lemmas.List.{length-take, length-drop, get_or-take, get_or-drop, get_or_append_left, get_or-append_right}
use Rattle.host_model.specs.declared.file.File.{File}
use Rattle.host_model.specs.declared.entry.Entry.{Entry}
use Rattle.host_model.specs.declared.entry.Entry.TheVariants.{Write, FailedWrite, CutTo, FailedCutTo, Sync, Tell}
use Rattle.host_model.specs.Images.{Change, Wrote, Cut, Synced, contents, written, synced, least, IsUntouched, IsImage}
use Rattle.host_model.specs.declared.file.File.TheVariants.{CheckA, CheckB, JournalA, JournalB, Tier0, Tier1, Tier2, Tier3, Tier4}
use Rattle.host_model.specs.Past.{Event, file_number, is_same, of}
use Rattle.host_model.specs.Entry.{event_of, past_of}

-- a place that was synced and not touched is within each length since
pub untouched_below_least : (past : List Change) (place : ℕ) → place < length (synced past) → IsUntouched past place → place < least past
untouched_below_least [] place below untouched = below
untouched_below_least (Wrote at size now ∷ past) place below untouched = untouched_below_least past place below untouched.1
untouched_below_least (Cut len now ∷ past) place below untouched =
    let before : place < least past = untouched_below_least past place below untouched.1 in omega (arith, untouched.0)
untouched_below_least (Synced ∷ past) place below untouched = below

length-written : (old : List ℕ) (at : ℕ) (bytes : List ℕ) → length (written old at bytes) ≡ min at (length old) + length bytes + (length old - (at + length bytes))
length-written old at bytes =
    omega (
      arith,
      length-append (take at old ++ bytes) (drop (at + length bytes) old),
      length-append (take at old) bytes,
      length-take at old,
      length-drop (at + length bytes) old,
    )

-- a byte beside those that are written stays
written-kept : (old : List ℕ) (at : ℕ) (bytes : List ℕ) (place : ℕ) → place < length old → ((place < at) ⊎ (at + length bytes ≤ place))
    → get_or (written old at bytes) place 0 ≡ get_or old place 0
written-kept old at bytes place within (inl before) =
    let prefix : place < length (take at old) = omega (arith, length-take at old) in
    let more : place < length (take at old ++ bytes) = omega (arith, length-append (take at old) bytes) in
    get_or_append_left (take at old ++ bytes) (drop (at + length bytes) old) 0 place more
    ∙ get_or_append_left (take at old) bytes 0 place prefix
    ∙ get_or-take at old place 0 before
written-kept old at bytes place within (inr after) =
    let size : length (take at old ++ bytes) ≡ at + length bytes = omega (arith, length-append (take at old) bytes, length-take at old) in
    let there : (at + length bytes) + (place - (at + length bytes)) ≡ place = omega arith in
    get_or-append_right (take at old ++ bytes) (drop (at + length bytes) old) (at + length bytes) place 0 size after
    ∙ get_or-drop (at + length bytes) old (place - (at + length bytes)) 0
    ∙ ap (λ (k : ℕ). get_or old k 0) there

write_image : (past : List Change) (old : List ℕ) (at : ℕ) (bytes : List ℕ) → IsImage past old
    → IsImage (Wrote at (length bytes) (written old at bytes) ∷ past) (written old at bytes)
write_image past old at bytes image = record {
  no_shorter = omega (arith, length-written old at bytes, image.no_shorter);
  no_longer = omega (arith, length-written old at bytes, image.no_longer);
  kept = λ place below _ untouched.
      let within : place < length old = omega (arith, untouched_below_least past place below untouched.1, image.no_shorter) in
      written-kept old at bytes place within untouched.0 ∙ image.kept place below within untouched.1;
}

failed_write_image : (past : List Change) (old : List ℕ) (at size : ℕ) → IsImage past old → IsImage (Wrote at size old ∷ past) old
failed_write_image past old at size image = record {
  no_shorter = image.no_shorter;
  no_longer = omega (arith, image.no_longer);
  kept = λ place below within untouched. image.kept place below within untouched.1;
}

cut_image : (past : List Change) (old : List ℕ) (len : ℕ) → IsImage past old → IsImage (Cut len (take len old) ∷ past) (take len old)
cut_image past old len image = record {
  no_shorter = omega (arith, length-take len old, image.no_shorter);
  no_longer = omega (arith, length-take len old, image.no_longer);
  kept = λ place below within untouched.
      get_or-take len old place 0 untouched.0
      ∙ image.kept place below (omega (arith, length-take len old)) untouched.1;
}

failed_cut_image : (past : List Change) (old : List ℕ) (len : ℕ) → IsImage past old → IsImage (Cut len old ∷ past) old
failed_cut_image past old len image = record {
  no_shorter = omega (arith, image.no_shorter);
  no_longer = image.no_longer;
  kept = λ place below within untouched. image.kept place below within untouched.1;
}

sync_image : (past : List Change) → IsImage (Synced ∷ past) (contents past)
sync_image past = record { no_shorter = omega arith; no_longer = omega arith; kept = λ place below within untouched. refl }

abbrev ReadsAnImage : List Change → Type 0
ReadsAnImage past = IsImage past (contents past)

number_gives : ℕ → File
number_gives zero = CheckA
number_gives (suc zero) = CheckB
number_gives (suc (suc zero)) = JournalA
number_gives (suc (suc (suc zero))) = JournalB
number_gives (suc (suc (suc (suc zero)))) = Tier0
number_gives (suc (suc (suc (suc (suc zero))))) = Tier1
number_gives (suc (suc (suc (suc (suc (suc zero)))))) = Tier2
number_gives (suc (suc (suc (suc (suc (suc (suc zero))))))) = Tier3
number_gives (suc (suc (suc (suc (suc (suc (suc (suc number)))))))) = Tier4

number_gives_back : (file : File) → number_gives (file_number file) ≡ file
unfolding number_gives
number_gives_back CheckA = refl
number_gives_back CheckB = refl
number_gives_back JournalA = refl
number_gives_back JournalB = refl
number_gives_back Tier0 = refl
number_gives_back Tier1 = refl
number_gives_back Tier2 = refl
number_gives_back Tier3 = refl
number_gives_back Tier4 = refl

-- two files of one number are one file
pub same_file : (file other : File) → is_same file other ≡ true → file ≡ other
same_file file other same =
    sym (number_gives_back file) ∙ ap number_gives (eqb-true (file_number file) (file_number other) same) ∙ number_gives_back other

-- a change of this file or of another
either : (b : Bool) (change : Change) (past : List Change) → ReadsAnImage past → (b ≡ true → ReadsAnImage (change ∷ past))
    → ReadsAnImage (if b then change ∷ past else past)
either true change past before after = after refl
either false change past before after = before

same_past : (past : List Event) (file other : File) → is_same file other ≡ true → of other past ≡ of file past
same_past past file other same = ap (λ (f : File). of f past) (sym (same_file file other same))

entry_image : (entry : Entry) (past : List Event) (file : File) → ((other : File) → ReadsAnImage (of other past)) → ReadsAnImage (of file (event_of past entry ∷ past))
entry_image (Write other at bytes) past file before =
    either (is_same file other) (Wrote at (length bytes) (written (contents (of other past)) at bytes)) (of file past) (before file)
    (λ same. rw (same_past past file other same) (write_image (of file past) (contents (of file past)) at bytes (before file)))
entry_image (FailedWrite other at size) past file before =
    either (is_same file other) (Wrote at size (contents (of other past))) (of file past) (before file)
    (λ same. rw (same_past past file other same) (failed_write_image (of file past) (contents (of file past)) at size (before file)))
entry_image (CutTo other len) past file before =
    either (is_same file other) (Cut len (take len (contents (of other past)))) (of file past) (before file)
    (λ same. rw (same_past past file other same) (cut_image (of file past) (contents (of file past)) len (before file)))
entry_image (FailedCutTo other len) past file before =
    either (is_same file other) (Cut len (contents (of other past))) (of file past) (before file)
    (λ same. rw (same_past past file other same) (failed_cut_image (of file past) (contents (of file past)) len (before file)))
entry_image (Sync other) past file before = either (is_same file other) Synced (of file past) (before file) (λ same. sync_image (of file past))
entry_image (Tell bytes) past file before = before file

from_past : (entries : List Entry) (past : List Event) → ((file : File) → ReadsAnImage (of file past))
    → (file : File) → ReadsAnImage (of file (fold (λ earlier entry. event_of earlier entry ∷ earlier) past entries))
from_past [] past before file = before file
from_past (entry ∷ entries) past before file = from_past entries (event_of past entry ∷ past) (λ other. entry_image entry past other before) file

fresh_image : IsImage [] []
fresh_image = record { no_shorter = omega arith; no_longer = omega arith; kept = λ place below within untouched. refl }

pub reads_an_image_of_record : (entries : List Entry) (file : File) → IsImage (of file (past_of entries)) (contents (of file (past_of entries)))
reads_an_image_of_record entries file = from_past entries [] (λ other. fresh_image) file
