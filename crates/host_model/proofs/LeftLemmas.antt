-- what a crash leaves of a file, change by change
use Rattle.std.proofs.Common.{◌≡◌, ℕ, ◌+◌, ◌<◌, ◌≤◌, ◌⊎◌, true, List, [], ◌∷◌, length, min, take, get_or, Option, Some, None, Result, Ok, Err, refl, sym, ap, ◌∙◌, subst, inl, inr, ⊎_elim, arith}
use Rattle.std.specs.Result.{OnOk}
use Rattle.std.proofs.lemmas.Bool.{cases_lt}
use Rattle.host_model.specs.declared.file.File.{File}
use Rattle.host_model.specs.declared.keep.Keep.{Keep}
use Rattle.host_model.specs.declared.keep.Keep.TheVariants.{All, None as Nothing, Fill}
use Rattle.host_model.specs.Images.{Change, Wrote, Cut, Synced, contents, written, synced, least, greatest, IsUntouched, IsImage}
use Rattle.host_model.specs.Past.{Event, On, is_same, of}
use Rattle.host_model.specs.HostState.{write_event, failed_write_event, cut_event, failed_cut_event}
use Rattle.host_model.specs.DiskLaw.{same_file, untouched_below_least}
use Rattle.host_model.specs.Keep.{IsFilled, IsLeftBy}
use Rattle.host_model.specs.Replay.{FillsIn, Touches, IsLeft, Replays}

pub least-greatest : (past : List Change) → least past ≤ greatest past
least-greatest [] = omega arith
least-greatest (Wrote at size now ∷ past) = omega (arith, least-greatest past)
least-greatest (Cut len now ∷ past) = omega (arith, least-greatest past)
least-greatest (Synced ∷ past) = omega arith

-- a place that was synced and not touched lies within the longest image
within_greatest : (past : List Change) (place : ℕ) → place < length (synced past) → IsUntouched past place → place < greatest past
within_greatest past place below untouched = omega (arith, untouched_below_least past place below untouched, least-greatest past)

IsFilled-write : (byte : ℕ) (past : List Change) (at size : ℕ) (now left new : List ℕ) → IsFilled byte past left → FillsIn byte at (at + size) left new
    → IsFilled byte (Wrote at size now ∷ past) new
IsFilled-write byte past at size now left new before fills = record {
  size = omega (arith, before.size, fills.size);
  kept = λ place below untouched.
      let within : place < length left = omega (arith, within_greatest past place below untouched.1, before.size) in
      fills.kept place within untouched.0 ∙ before.kept place below untouched.1;
  filled = λ place inside free.
      let outside : ((place < at) ⊎ (at + size ≤ place)) → get_or new place 0 ≡ byte =
      λ apart. ⊎_elim
      (λ within. fills.kept place within apart ∙ before.filled place within (λ below untouched. free below (apart, untouched)))
      (λ past_end. fills.filled place inside (inl past_end))
      (cases_lt place (length left)) in
      ⊎_elim
      (λ less. outside (inl less))
      (λ more. ⊎_elim
      (λ within. fills.filled place inside (inr (more, within)))
      (λ beyond. outside (inr beyond))
      (cases_lt place (at + size)))
      (cases_lt place at);
}

IsFilled-cut : (byte : ℕ) (past : List Change) (len : ℕ) (now left new : List ℕ) → IsFilled byte past left → FillsIn byte (min len (length left)) (length left) left new
    → IsFilled byte (Cut len now ∷ past) new
IsFilled-cut byte past len now left new before fills = record {
  size = omega (arith, before.size, fills.size);
  kept = λ place below untouched.
      let within : place < length left = omega (arith, within_greatest past place below untouched.1, before.size) in
      fills.kept place within (inl (omega (arith, untouched.0))) ∙ before.kept place below untouched.1;
  filled = λ place inside free.
      let within : place < length left = omega (arith, fills.size) in
      ⊎_elim
      (λ less. fills.kept place within (inl (omega arith)) ∙ before.filled place within (λ below untouched. free below (less, untouched)))
      (λ more. fills.filled place inside (inr (omega arith, within)))
      (cases_lt place len);
}

IsLeft-write : (fill : Option ℕ) (past : List Change) (at size : ℕ) (now left new : List ℕ) → IsLeft fill past left → Touches fill at (at + size) left new
    → IsLeft fill (Wrote at size now ∷ past) new
IsLeft-write None past at size now left new before same = same ∙ before
IsLeft-write (Some byte) past at size now left new before fills = IsFilled-write byte past at size now left new before fills

IsLeft-cut : (fill : Option ℕ) (past : List Change) (len : ℕ) (now left new : List ℕ) → IsLeft fill past left → Touches fill (min len (length left)) (length left) left new
    → IsLeft fill (Cut len now ∷ past) new
IsLeft-cut None past len now left new before same = same ∙ before
IsLeft-cut (Some byte) past len now left new before fills = IsFilled-cut byte past len now left new before fills

-- one change of this file
Replays-change : (fill : Option ℕ) (file other : File) (change : Change) (past : List Event) (now left : List ℕ) → is_same file other ≡ true
    → now ≡ contents (change ∷ of file past) → IsLeft fill (change ∷ of file past) left → Replays fill file (On other change ∷ past) now left
Replays-change fill file other change past now left same reads kept = rw same (reads, kept)

same_contents : (file other : File) (past : List Event) → is_same file other ≡ true → contents (of file past) ≡ contents (of other past)
same_contents file other past same = ap (λ (f : File). contents (of f past)) (same_file file other same)

-- a call that changed this file, from what the steps of a replay ensure
pub Replays-write : {T E : Type 0} (result : Result T E) (fill : Option ℕ) (file other : File) (past : List Event) (now left now' left' : List ℕ) (at : ℕ) (bytes : List ℕ)
    → is_same file other ≡ true → OnOk result (now' ≡ written now at bytes) → OnOk result (Touches fill at (at + length bytes) left left')
    → Replays fill file past now left → OnOk result (Replays fill file (write_event other at bytes past ∷ past) now' left')
Replays-write (Ok value) fill file other past now left now' left' at bytes same reads touched before =
    let after = written (contents (of other past)) at bytes in
    Replays-change fill file other (Wrote at (length bytes) after) past now' left' same
    (reads ∙ ap (λ (l : List ℕ). written l at bytes) (before.0 ∙ same_contents file other past same))
    (IsLeft-write fill (of file past) at (length bytes) after left left' before.1 touched)
Replays-write (Err fault) fill file other past now left now' left' at bytes same reads touched before = tt

pub Replays-fail_write : {T E : Type 0} (result : Result T E) (fill : Option ℕ) (file other : File) (past : List Event) (now left now' left' : List ℕ) (at size : ℕ)
    → is_same file other ≡ true → now' ≡ now → OnOk result (Touches fill at (at + size) left left')
    → Replays fill file past now left → OnOk result (Replays fill file (failed_write_event other at size past ∷ past) now' left')
Replays-fail_write (Ok value) fill file other past now left now' left' at size same reads touched before =
    Replays-change fill file other (Wrote at size (contents (of other past))) past now' left' same
    (reads ∙ before.0 ∙ same_contents file other past same)
    (IsLeft-write fill (of file past) at size (contents (of other past)) left left' before.1 touched)
Replays-fail_write (Err fault) fill file other past now left now' left' at size same reads touched before = tt

pub Replays-cut : {T E : Type 0} (result : Result T E) (fill : Option ℕ) (file other : File) (past : List Event) (now left now' left' : List ℕ) (len : ℕ)
    → is_same file other ≡ true → now' ≡ take len now → OnOk result (Touches fill (min len (length left)) (length left) left left')
    → Replays fill file past now left → OnOk result (Replays fill file (cut_event other len past ∷ past) now' left')
Replays-cut (Ok value) fill file other past now left now' left' len same reads touched before =
    let after = take len (contents (of other past)) in
    Replays-change fill file other (Cut len after) past now' left' same
    (reads ∙ ap (λ (l : List ℕ). take len l) (before.0 ∙ same_contents file other past same))
    (IsLeft-cut fill (of file past) len after left left' before.1 touched)
Replays-cut (Err fault) fill file other past now left now' left' len same reads touched before = tt

pub Replays-fail_cut : {T E : Type 0} (result : Result T E) (fill : Option ℕ) (file other : File) (past : List Event) (now left now' left' : List ℕ) (len : ℕ)
    → is_same file other ≡ true → now' ≡ now → OnOk result (Touches fill (min len (length left)) (length left) left left')
    → Replays fill file past now left → OnOk result (Replays fill file (failed_cut_event other len past ∷ past) now' left')
Replays-fail_cut (Ok value) fill file other past now left now' left' len same reads touched before =
    Replays-change fill file other (Cut len (contents (of other past))) past now' left' same
    (reads ∙ before.0 ∙ same_contents file other past same)
    (IsLeft-cut fill (of file past) len (contents (of other past)) left left' before.1 touched)
Replays-fail_cut (Err fault) fill file other past now left now' left' len same reads touched before = tt

-- what is left is one of the images

least-synced : (past : List Change) → least past ≤ length (synced past)
least-synced [] = omega arith
least-synced (Wrote at size now ∷ past) = least-synced past
least-synced (Cut len now ∷ past) = omega (arith, least-synced past)
least-synced (Synced ∷ past) = omega arith

synced-greatest : (past : List Change) → length (synced past) ≤ greatest past
synced-greatest [] = omega arith
synced-greatest (Wrote at size now ∷ past) = omega (arith, synced-greatest past)
synced-greatest (Cut len now ∷ past) = synced-greatest past
synced-greatest (Synced ∷ past) = omega arith

synced_image : (past : List Change) → IsImage past (synced past)
synced_image past = record { no_shorter = least-synced past; no_longer = synced-greatest past; kept = λ place below within untouched. refl }

filled_image : (byte : ℕ) (past : List Change) (bytes : List ℕ) → IsFilled byte past bytes → IsImage past bytes
filled_image byte past bytes filled = record {
  no_shorter = omega (arith, filled.size, least-greatest past);
  no_longer = omega (arith, filled.size);
  kept = λ place below within untouched. filled.kept place below untouched;
}

pub left_image : (keep : Keep) (past : List Change) (bytes : List ℕ) → IsImage past (contents past) → IsLeftBy keep past bytes → IsImage past bytes
left_image All past bytes reads same = subst (λ l. IsImage past l) (sym same) reads
left_image Nothing past bytes reads same = subst (λ l. IsImage past l) (sym same) (synced_image past)
left_image (Fill byte) past bytes reads filled = filled_image byte past bytes filled
