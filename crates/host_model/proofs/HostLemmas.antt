-- how the kept contents follow the record
use Rattle.std.proofs.Common.{take, ◌≡◌, ◌≢◌, ℕ, ◌<◌, Bool, true, false, List, [], ◌∷◌, ◌++◌, length, get_or, set, Result, Ok, Err, eq-eqb, refl, sym, ap, ◌∙◌}
use Rattle.std.specs.Result.{OnOk, OnErr}
use Rattle.std.proofs.lemmas.Bool.{false≢true, eqb-true}
use Rattle.std.proofs.lemmas.List.{get_or_default, get_or-set_same, get_or-set_other, set-get_or}
use Rattle.std.proofs.lemmas.List.Sums.{fold_push}
use Rattle.host_model.specs.declared.file.File.{File}
use Rattle.host_model.specs.declared.entry.Entry.{Entry}
use Rattle.host_model.specs.declared.entry.Entry.TheVariants.{Write, CutTo}
use Rattle.host_model.specs.Images.{Change, Wrote, Cut, contents, written}
use Rattle.host_model.specs.Past.{Event, On, file_number, is_same, of, told}
use Rattle.host_model.specs.Entry.{event_of, past_of, file_in, KeepsDisk}

past_of-push : (entries : List Entry) (entry : Entry) → past_of (entries ++ entry ∷ []) ≡ event_of (past_of entries) entry ∷ past_of entries
past_of-push entries entry = fold_push (λ past e. event_of past e ∷ past) [] entries entry

-- after a change of one file
file_in-set : (b : Bool) (disk : List (List ℕ)) (past : List Event) (file other : File) (change : Change) (bytes : List ℕ)
    → is_same other file ≡ b → file_number file < length disk → KeepsDisk disk past → ((earlier : List Change) → contents (change ∷ earlier) ≡ bytes)
    → file_in (set disk (file_number file) bytes) other ≡ contents (of other (On file change ∷ past))
file_in-set true disk past file other change bytes same within kept reads =
    rw (same, eqb-true (file_number other) (file_number file) same, get_or-set_same disk (file_number file) bytes [] within)
    (sym (reads (of other past)))
file_in-set false disk past file other change bytes apart within kept reads =
    let places : file_number other ≢ file_number file = λ e. false≢true (sym apart ∙ eq-eqb (file_number other) (file_number file) e) in
    rw (apart, get_or-set_other disk (file_number file) (file_number other) bytes [] places) (kept other)

KeepsDisk-change : (disk : List (List ℕ)) (past : List Event) (file : File) (change : Change) (bytes : List ℕ)
    → file_number file < length disk → KeepsDisk disk past → ((earlier : List Change) → contents (change ∷ earlier) ≡ bytes)
    → KeepsDisk (set disk (file_number file) bytes) (On file change ∷ past)
KeepsDisk-change disk past file change bytes within kept reads other =
    file_in-set (is_same other file) disk past file other change bytes refl within kept reads

-- after nothing
KeepsDisk-same : (disk : List (List ℕ)) (past : List Event) (place : ℕ) (spare : List ℕ)
    → KeepsDisk disk past → place < length disk → KeepsDisk (set disk place (get_or disk place spare)) past
KeepsDisk-same disk past place spare kept within = rw (set-get_or disk place spare) kept

-- what was kept of a file is what it reads as
file_in-read : (disk : List (List ℕ)) (past : List Event) (file : File) (spare : List ℕ)
    → file_number file < length disk → KeepsDisk disk past → get_or disk (file_number file) spare ≡ contents (of file past)
file_in-read disk past file spare within kept = get_or_default disk (file_number file) spare [] within ∙ kept file

-- a write that is recorded and done, or neither
pub KeepsDisk-write : {T E : Type 0} (result : Result T E) (disk : List (List ℕ)) (entries after : List Entry) (file : File) (place at : ℕ) (bytes spare now : List ℕ)
    → place ≡ file_number file → place < length disk → KeepsDisk disk (past_of entries)
    → OnOk result (after ≡ entries ++ Write file at bytes ∷ []) → OnOk result (now ≡ written (get_or disk place spare) at bytes)
    → OnErr result (after ≡ entries) → OnErr result (now ≡ get_or disk place spare)
    → KeepsDisk (set disk place now) (past_of after)
KeepsDisk-write (Ok value) disk entries after file place at bytes spare now number within kept recorded done _ _ =
    let past = past_of entries in
    let inside : file_number file < length disk = rw number at within in
    let reads : written (contents (of file past)) at bytes ≡ now =
    sym ((rw number at done) ∙ ap (λ (l : List ℕ). written l at bytes) (file_in-read disk past file spare inside kept)) in
    rw (number, recorded, past_of-push entries (Write file at bytes))
    (KeepsDisk-change disk past file (Wrote at (length bytes) (written (contents (of file past)) at bytes)) now inside kept (λ _. reads))
KeepsDisk-write (Err fault) disk entries after file place at bytes spare now number within kept _ _ recorded same =
    rw (recorded, same) (KeepsDisk-same disk (past_of entries) place spare kept within)

-- a cut that is recorded and done, or neither
pub KeepsDisk-cut : {T E : Type 0} (result : Result T E) (disk : List (List ℕ)) (entries after : List Entry) (file : File) (place len : ℕ) (spare now : List ℕ)
    → place ≡ file_number file → place < length disk → KeepsDisk disk (past_of entries)
    → OnOk result (after ≡ entries ++ CutTo file len ∷ []) → OnOk result (now ≡ take len (get_or disk place spare))
    → OnErr result (after ≡ entries) → OnErr result (now ≡ get_or disk place spare)
    → KeepsDisk (set disk place now) (past_of after)
KeepsDisk-cut (Ok value) disk entries after file place len spare now number within kept recorded done _ _ =
    let past = past_of entries in
    let inside : file_number file < length disk = rw number at within in
    let reads : take len (contents (of file past)) ≡ now =
    sym ((rw number at done) ∙ ap (λ (l : List ℕ). take len l) (file_in-read disk past file spare inside kept)) in
    rw (number, recorded, past_of-push entries (CutTo file len))
    (KeepsDisk-change disk past file (Cut len (take len (contents (of file past)))) now inside kept (λ _. reads))
KeepsDisk-cut (Err fault) disk entries after file place len spare now number within kept _ _ recorded same =
    rw (recorded, same) (KeepsDisk-same disk (past_of entries) place spare kept within)

-- a call that records one entry that tells nothing, or leaves the record as it was
pub told-write : {T E : Type 0} (result : Result T E) (entries after : List Entry) (file : File) (at : ℕ) (bytes output : List ℕ)
    → output ≡ told (past_of entries) → OnOk result (after ≡ entries ++ Write file at bytes ∷ []) → OnErr result (after ≡ entries) → output ≡ told (past_of after)
told-write (Ok value) entries after file at bytes output kept recorded _ = rw (recorded, past_of-push entries (Write file at bytes)) kept
told-write (Err fault) entries after file at bytes output kept _ recorded = rw recorded kept

pub told-cut : {T E : Type 0} (result : Result T E) (entries after : List Entry) (file : File) (len : ℕ) (output : List ℕ)
    → output ≡ told (past_of entries) → OnOk result (after ≡ entries ++ CutTo file len ∷ []) → OnErr result (after ≡ entries) → output ≡ told (past_of after)
told-cut (Ok value) entries after file len output kept recorded _ = rw (recorded, past_of-push entries (CutTo file len)) kept
told-cut (Err fault) entries after file len output kept _ recorded = rw recorded kept
