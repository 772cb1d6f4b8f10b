-- The law of entries, made of the laws of their fields.
use Rattle.std.proofs.Common.{◌≡◌, ℕ, zero, suc, Bool, true, false, ◌&&◌, cond, eqb, List, [], ◌∷◌, ◌++◌, length, ◌⊎◌, inl, inr, Result, Ok, Err, refl, sym, ap, subst, ◌∙◌}
use Rattle.std.specs.Prelude.{IfOk, IfErr}
use Rattle.std.proofs.lemmas.Bool.{and_parts, eqb-true}
use Rattle.std.proofs.lemmas.List.{append-nil, nil_from_length}
use Rattle.field_codec.specs.Field.{IsBytes, IsField}
use Rattle.field_codec.specs.Reading.{ReadOf}
use Rattle.field_codec.proofs.Fields.{bytes_field}
use Rattle.entry_codec.specs.declared.entry.Entry.{Entry}
use Rattle.entry_codec.specs.declared.entry.Entry.TheVariants as entry
use Rattle.entry_codec.specs.declared.fault.EntryFault.{EntryFault}
use Rattle.entry_codec.specs.declared.fault.EntryFault.TheVariants.{NotCanonical}
use Rattle.entry_codec.specs.Entries.{entry_as, entry_bytes, is_canonical, read_entry, read_fields, whole_entry, EntryRead, HasSpelling, IsNoSpelling, IsShort}
use Rattle.entry_codec.proofs.Fields.{collected_field, copied_field, gap_field}

abbrev done : Entry × List ℕ → EntryRead
done read = Ok read

done_is : (a b : Entry × List ℕ) → done a ≡ done b → a ≡ b
done_is a b e = cc

abbrev found_entry : Entry → Result Entry EntryFault
found_entry e = Ok e

found_is : (a b : Entry) → found_entry a ≡ found_entry b → a ≡ b
found_is a b e = cc

-- a spelling reads as its fields, whatever follows
fields_again : (e : Entry) (rest : List ℕ) → IsShort e → read_fields (entry_bytes e ++ rest) ≡ Ok (e, rest)
unfolding read_fields entry_bytes
fields_again (entry.Collected c) rest fits = rw (collected_field.reads_back c rest fits) refl
fields_again (entry.Copied c) rest fits = rw (copied_field.reads_back c rest fits) refl
fields_again (entry.Health bytes) rest fits = rw (bytes_field.reads_back bytes rest fits) refl
fields_again (entry.Gap g) rest fits = rw (gap_field.reads_back g rest fits) refl

-- what was read before the entry was made of it
entry_as-ok : {X : Type 0} (make : X → Entry) (read : ReadOf X) (e : Entry) (rest : List ℕ) → entry_as make read ≡ Ok (e, rest)
    → (x : X) × (read ≡ Ok (x, rest)) × (make x ≡ e)
entry_as-ok {X} make (Ok found) e rest is =
    let same = done_is (make found.0, found.1) (e, rest) is in
    let end : found.1 ≡ rest = ap (λ (p : Entry × List ℕ). p.1) same in
    let read : List ℕ → ReadOf X = λ after. Ok (found.0, after) in
    (found.0, ap read end, ap (λ (p : Entry × List ℕ). p.0) same)
entry_as-ok make (Err fault) e rest is = absurd cc

kind_taken : {X : Type 0} {V : X → Type 0} {s : X → List ℕ} {r : List ℕ → ReadOf X} (field : IsField V s r) (make : X → Entry) (kind : ℕ) (bytes : List ℕ) (e : Entry) (rest : List ℕ)
    → ((x : X) → V x → IsShort (make x)) → ((x : X) → kind ∷ s x ≡ entry_bytes (make x)) → IsBytes bytes
    → entry_as make (r bytes) ≡ Ok (e, rest) → IsShort e × (kind ∷ bytes ≡ entry_bytes e ++ rest)
kind_taken {s = s} {r = r} field make kind bytes e rest short spelt fits is =
    let found = entry_as-ok make (r bytes) e rest is in
    let prefix : kind ∷ bytes ≡ entry_bytes (make found.0) ++ rest =
    ap (λ (after : List ℕ). kind ∷ after) (field.is_spelt bytes found.0 rest fits found.1)
    ∙ ap (λ (all : List ℕ). all ++ rest) (spelt found.0) in
    subst (λ (made : Entry). IsShort made × (kind ∷ bytes ≡ entry_bytes made ++ rest)) found.2
    (short found.0 (field.has_spelling bytes found.0 rest fits found.1), prefix)

-- what bytes read as, they begin with
fields_taken : (bytes : List ℕ) (e : Entry) (rest : List ℕ) → IsBytes bytes → read_fields bytes ≡ Ok (e, rest) → IsShort e × (bytes ≡ entry_bytes e ++ rest)
unfolding read_fields entry_bytes
fields_taken [] e rest fits is = absurd cc
fields_taken (zero ∷ bytes) e rest fits is = absurd cc
fields_taken (suc zero ∷ bytes) e rest fits is =
    kind_taken collected_field entry.Collected 1 bytes e rest (λ x short. short) (λ x. refl) (λ place. fits (suc place)) is
fields_taken (suc (suc zero) ∷ bytes) e rest fits is =
    kind_taken copied_field entry.Copied 2 bytes e rest (λ x short. short) (λ x. refl) (λ place. fits (suc place)) is
fields_taken (suc (suc (suc zero)) ∷ bytes) e rest fits is =
    kind_taken bytes_field entry.Health 3 bytes e rest (λ x short. short) (λ x. refl) (λ place. fits (suc place)) is
fields_taken (suc (suc (suc (suc zero))) ∷ bytes) e rest fits is =
    kind_taken gap_field entry.Gap 4 bytes e rest (λ x short. short) (λ x. refl) (λ place. fits (suc place)) is
fields_taken (suc (suc (suc (suc (suc _)))) ∷ bytes) e rest fits is = absurd cc

-- a whole entry passed both tests
chosen : (test : Bool) (a b : Entry) → cond test (found_entry a) (Err NotCanonical) ≡ Ok b → (test ≡ true) × (a ≡ b)
chosen true a b is = (refl, cc)
chosen false a b is = absurd cc

whole_entry-ok : (read : EntryRead) (e : Entry) → whole_entry read ≡ Ok e → (read ≡ Ok (e, [])) × (is_canonical e ≡ true)
whole_entry-ok (Ok found) e is =
    let known = chosen (eqb (length found.1) 0 && is_canonical found.0) found.0 e is in
    let tests = and_parts (eqb (length found.1) 0) (is_canonical found.0) known.0 in
    let nothing : found.1 ≡ [] = nil_from_length found.1 (eqb-true _ _ tests.0) in (
      ap (λ (made : Entry). done (made, found.1)) known.1 ∙ ap (λ (rest : List ℕ). done (e, rest)) nothing,
      ap is_canonical (sym known.1) ∙ tests.1,
    )
whole_entry-ok (Err fault) e is = absurd cc

pub reads_back : (e : Entry) → HasSpelling e → read_entry (entry_bytes e) ≡ Ok e
unfolding read_entry
reads_back e fits =
    let fields : read_fields (entry_bytes e) ≡ Ok (e, []) = ap read_fields (sym (append-nil (entry_bytes e))) ∙ fields_again e [] fits.short in
    rw (fields, fits.canonical) refl

-- what bytes read as has them as its spelling
pub is_read : (bytes : List ℕ) (e : Entry) → IsBytes bytes → read_entry bytes ≡ Ok e → HasSpelling e × (bytes ≡ entry_bytes e)
unfolding read_entry
is_read bytes e fits is =
    let known = whole_entry-ok (read_fields bytes) e is in
    let taken = fields_taken bytes e [] fits known.0 in
    (record { short = taken.0; canonical = known.1 }, taken.1 ∙ append-nil (entry_bytes e))

pub one_value : (a b : Entry) → HasSpelling a → HasSpelling b → entry_bytes a ≡ entry_bytes b → a ≡ b
one_value a b fits_a fits_b same = found_is a b (sym (reads_back a fits_a) ∙ ap read_entry same ∙ reads_back b fits_b)

-- bytes that are refused are no spelling
no_spelling : (bytes : List ℕ) (fault : EntryFault) → read_entry bytes ≡ Err fault → IsNoSpelling bytes
no_spelling bytes fault refused e fits spelt =
    differ e fault (sym (reads_back e fits) ∙ ap read_entry (sym spelt) ∙ refused)
  where
    differ : (e : Entry) (fault : EntryFault) → found_entry e ≡ Err fault → ⊥
    differ e fault same = cc

-- what a call that read an entry knows of it
pub found_fits : (bytes : List ℕ) (result : Result Entry EntryFault) → IsBytes bytes → IfOk result (λ e. read_entry bytes ≡ Ok e) → IfOk result HasSpelling
found_fits bytes (Ok e) fits is = (is_read bytes e fits is).0
found_fits bytes (Err fault) fits is = tt

pub found_spelling : (bytes : List ℕ) (result : Result Entry EntryFault) → IsBytes bytes → IfOk result (λ e. read_entry bytes ≡ Ok e) → IfOk result (λ e. bytes ≡ entry_bytes e)
found_spelling bytes (Ok e) fits is = (is_read bytes e fits is).1
found_spelling bytes (Err fault) fits is = tt

pub refused : (bytes : List ℕ) (full : EntryFault) (result : Result Entry EntryFault) → IfErr result (λ fault. (fault ≡ full) ⊎ (read_entry bytes ≡ Err fault))
    → IfErr result (λ fault. (fault ≡ full) ⊎ IsNoSpelling bytes)
refused bytes full (Ok e) is = tt
refused bytes full (Err fault) (inl is_full) = inl is_full
refused bytes full (Err fault) (inr is) = inr (no_spelling bytes fault is)
