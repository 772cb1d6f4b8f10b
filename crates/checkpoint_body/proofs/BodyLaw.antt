-- The law of bodies, made of the law of their fields.
use Rattle.std.proofs.Common.{◌≡◌, ℕ, Bool, true, false, ◌&&◌, cond, eqb, List, [], length, ◌⊎◌, inl, inr, Some, None, Result, Ok, Err, refl, sym, ap, ◌∙◌}
use Rattle.std.specs.Prelude.{IfOk, IfErr}
use Rattle.std.proofs.lemmas.Bool.{and_from, and_parts, eqb-true}
use Rattle.std.proofs.lemmas.List.{append-nil, nil_from_length}
use Rattle.tier_settings.specs.Limits.{are_tiers}
use Rattle.tier_settings.specs.Settings.{tier_with}
use Rattle.field_codec.specs.Field.{IsBytes}
use Rattle.field_codec.specs.Reading.{ReadOf}
use Rattle.checkpoint_body.specs.declared.body.Body.{Body}
use Rattle.checkpoint_body.specs.declared.fault.BodyFault.{BodyFault}
use Rattle.checkpoint_body.specs.Body.{body_bytes, is_canonical, read_body, read_fields, whole_body, FitsBody, HasSpelling, IsNoSpelling}
use Rattle.checkpoint_body.specs.Canonical.{is_point_tier, is_record_tier}
use Rattle.checkpoint_body.proofs.FieldLaws.{body_field}

-- ---- the tests of a body

canonical_from : (b : Body) → HasSpelling b → is_canonical b ≡ true
unfolding is_canonical
canonical_from b has =
    let first = are_tiers b.settings in
    let second = is_point_tier (tier_with b.settings 0) b.points in
    let third = is_record_tier (tier_with b.settings 1) b.minutes in
    let fourth = is_record_tier (tier_with b.settings 2) b.hours in
    and_from (first && second && third) fourth
    (and_from (first && second) third (and_from first second has.settings.tiers has.points) has.minutes) has.hours

has_from : (b : Body) → FitsBody b → is_canonical b ≡ true → HasSpelling b
unfolding is_canonical
has_from b fits canonical =
    let first = are_tiers b.settings in
    let second = is_point_tier (tier_with b.settings 0) b.points in
    let third = is_record_tier (tier_with b.settings 1) b.minutes in
    let fourth = is_record_tier (tier_with b.settings 2) b.hours in
    let last = and_parts (first && second && third) fourth canonical in
    let next = and_parts (first && second) third last.0 in
    let prefix = and_parts first second next.0 in
    record {
      fits = fits;
      settings = record { id = fits.settings.id; widths = fits.settings.widths; tiers = prefix.0 };
      points = prefix.1;
      minutes = next.1;
      hours = last.1;
    }

-- ---- a whole body

found_is : (a b : Body) → Some a ≡ Some b → a ≡ b
found_is a b e = cc

chosen : (test : Bool) (a b : Body) → cond test (Some a) None ≡ Some b → (test ≡ true) × (a ≡ b)
chosen true a b e = (refl, cc)
chosen false a b e = absurd cc

done : Body × List ℕ → ReadOf Body
done read = Ok read

whole_body-some : (read : ReadOf Body) (b : Body) → whole_body read ≡ Some b → (read ≡ Ok (b, [])) × (is_canonical b ≡ true)
unfolding done
whole_body-some (Ok found) b is =
    let known = chosen (eqb (length found.1) 0 && is_canonical found.0) found.0 b is in
    let tests = and_parts (eqb (length found.1) 0) (is_canonical found.0) known.0 in
    let nothing : found.1 ≡ [] = nil_from_length found.1 (eqb-true _ _ tests.0) in (
      ap (λ (made : Body). done (made, found.1)) known.1 ∙ ap (λ (rest : List ℕ). done (b, rest)) nothing,
      ap is_canonical (sym known.1) ∙ tests.1,
    )
whole_body-some (Err fault) b is = absurd cc

pub reads_back : (b : Body) → HasSpelling b → read_body (body_bytes b) ≡ Some b
unfolding read_body
reads_back b has =
    let fields : read_fields (body_bytes b) ≡ Ok (b, []) = ap read_fields (sym (append-nil (body_bytes b))) ∙ body_field.reads_back b [] has.fits in
    let canonical = canonical_from b has in
    rw (fields, canonical) refl

-- what bytes read as has them as its spelling
pub is_read : (bytes : List ℕ) (b : Body) → IsBytes bytes → read_body bytes ≡ Some b → HasSpelling b × (bytes ≡ body_bytes b)
unfolding read_body
is_read bytes b fits is =
    let known = whole_body-some (read_fields bytes) b is in
    let has = has_from b (body_field.has_spelling bytes b [] fits known.0) known.1 in
    (has, body_field.is_spelt bytes b [] fits known.0 ∙ append-nil (body_bytes b))

pub one_value : (a b : Body) → HasSpelling a → HasSpelling b → body_bytes a ≡ body_bytes b → a ≡ b
one_value a b has_a has_b same = found_is a b (sym (reads_back a has_a) ∙ ap read_body same ∙ reads_back b has_b)

-- bytes that read as none are no spelling
no_spelling : (bytes : List ℕ) → read_body bytes ≡ None → IsNoSpelling bytes
no_spelling bytes none b has spelt = differ b (sym (reads_back b has) ∙ ap read_body (sym spelt) ∙ none)
  where
    differ : (b : Body) → Some b ≡ None → ⊥
    differ b same = cc

-- ---- what a call that read a body knows of it

pub found_has : (bytes : List ℕ) (result : Result Body BodyFault) → IsBytes bytes → IfOk result (λ b. read_body bytes ≡ Some b) → IfOk result HasSpelling
found_has bytes (Ok b) fits is = (is_read bytes b fits is).0
found_has bytes (Err fault) fits is = tt

pub found_spelling : (bytes : List ℕ) (result : Result Body BodyFault) → IsBytes bytes → IfOk result (λ b. read_body bytes ≡ Some b) → IfOk result (λ b. bytes ≡ body_bytes b)
found_spelling bytes (Ok b) fits is = (is_read bytes b fits is).1
found_spelling bytes (Err fault) fits is = tt

pub refused : (bytes : List ℕ) (full : BodyFault) (result : Result Body BodyFault) → IfErr result (λ fault. (fault ≡ full) ⊎ (read_body bytes ≡ None))
    → IfErr result (λ fault. (fault ≡ full) ⊎ IsNoSpelling bytes)
refused bytes full (Ok b) is = tt
refused bytes full (Err fault) (inl is_full) = inl is_full
refused bytes full (Err fault) (inr none) = inr (no_spelling bytes none)
