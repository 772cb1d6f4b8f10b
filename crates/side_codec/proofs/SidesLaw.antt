-- The law of sides, made of the laws of their fields.
use Rattle.std.proofs.Common.{◌≡◌, ℕ, ◌==◌, Bool, true, false, cond, List, [], length, ◌⊎◌, inl, inr, Some, None, Result, Ok, Err, refl, sym, ap, ◌∙◌}
use Rattle.std.specs.Prelude.{IfOk, IfErr}
use Rattle.std.proofs.lemmas.Bool.{eqb-true}
use Rattle.std.proofs.lemmas.List.{append-nil, nil_from_length}
use Rattle.field_codec.specs.Field.{IsBytes}
use Rattle.field_codec.specs.Reading.{ReadOf}
use Rattle.field_codec.proofs.Combined.{done}
use Rattle.side_codec.specs.declared.fault.SideFault.{SideFault}
use Rattle.side_codec.specs.declared.side.Side.{Side}
use Rattle.side_codec.specs.Sides.{read_fields, read_side, side_bytes, whole_side, HasSpelling, IsNoSpelling}
use Rattle.side_codec.proofs.Fields.{side_field}

pub reads_back : (s : Side) → HasSpelling s → read_side (side_bytes s) ≡ Some s
unfolding read_side
reads_back s fits = ap whole_side (ap read_fields (sym (append-nil (side_bytes s))) ∙ side_field.reads_back s [] fits)

taken : (b : Bool) (a s : Side) → cond b (Some a) None ≡ Some s → (b ≡ true) × (a ≡ s)
taken true a s e = (refl, cc)
taken false a s e = absurd cc

-- a side is whole where nothing follows
whole-some : (read : ReadOf Side) (s : Side) → whole_side read ≡ Some s → read ≡ Ok (s, [])
whole-some (Ok read) s e =
    let found = taken (length read.1 == 0) read.0 s e in
    let end : read.1 ≡ [] = nil_from_length read.1 (eqb-true (length read.1) 0 found.0) in
    ap (λ (rest : List ℕ). done (read.0, rest)) end ∙ ap (λ (a : Side). done (a, [])) found.1
whole-some (Err fault) s e = absurd cc

pub is_read : (bytes : List ℕ) (s : Side) → IsBytes bytes → read_side bytes ≡ Some s → HasSpelling s × (bytes ≡ side_bytes s)
unfolding read_side
is_read bytes s fits e =
    let found = whole-some (read_fields bytes) s e in
    (side_field.has_spelling bytes s [] fits found, side_field.is_spelt bytes s [] fits found ∙ append-nil (side_bytes s))

pub one_value : (a b : Side) → HasSpelling a → HasSpelling b → side_bytes a ≡ side_bytes b → a ≡ b
one_value a b fits_a fits_b same = some_is a b (sym (reads_back a fits_a) ∙ ap read_side same ∙ reads_back b fits_b)
  where
    some_is : (a b : Side) → Some a ≡ Some b → a ≡ b
    some_is a b e = cc

-- bytes that no side is read of are no spelling
no_spelling : (bytes : List ℕ) → read_side bytes ≡ None → IsNoSpelling bytes
no_spelling bytes none s fits spelt = differ s (sym (reads_back s fits) ∙ ap read_side (sym spelt) ∙ none)
  where
    differ : (s : Side) → Some s ≡ None → ⊥
    differ s same = cc

-- what a call that read a side knows of it
pub found_fits : (bytes : List ℕ) (result : Result Side SideFault) → IsBytes bytes → IfOk result (λ s. read_side bytes ≡ Some s) → IfOk result HasSpelling
found_fits bytes (Ok s) fits is = (is_read bytes s fits is).0
found_fits bytes (Err fault) fits is = tt

pub found_spelling : (bytes : List ℕ) (result : Result Side SideFault) → IsBytes bytes → IfOk result (λ s. read_side bytes ≡ Some s) → IfOk result (λ s. bytes ≡ side_bytes s)
found_spelling bytes (Ok s) fits is = (is_read bytes s fits is).1
found_spelling bytes (Err fault) fits is = tt

pub refused : (bytes : List ℕ) (full bad : SideFault) (result : Result Side SideFault)
    → IfErr result (λ fault. (fault ≡ full) ⊎ ((fault ≡ bad) × (read_side bytes ≡ None)))
    → IfErr result (λ fault. (fault ≡ full) ⊎ ((fault ≡ bad) × IsNoSpelling bytes))
refused bytes full bad (Ok s) is = tt
refused bytes full bad (Err fault) (inl is_full) = inl is_full
refused bytes full bad (Err fault) (inr is) = inr (is.0, no_spelling bytes is.1)
