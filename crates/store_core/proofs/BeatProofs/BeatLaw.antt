-- The law of beats: the bytes of a beat in form read as it, and what bytes read as has them.
use Rattle.std.proofs.Common.{◌≡◌, ℕ, zero, suc, ◌+◌, ◌*◌, ◌^◌, ◌<◌, Bool, true, false, cond, List, [], ◌∷◌, ◌++◌, length, Option, Some, None, Ok, Err, refl, sym, ap, ◌∙◌, arith, length-append}
use Rattle.std.specs.List.{flat_map}
use Rattle.std.proofs.lemmas.List.{append-nil}
use Rattle.std.proofs.lemmas.List.Concat.{flat_map-cons}
use Rattle.field_codec.specs.Field.{IsBytes, IsField}
use Rattle.field_codec.specs.Reading.{ReadOf}
use Rattle.field_codec.specs.Spelling.{sized_bytes, u32_bytes, list_bytes}
use Rattle.field_codec.proofs.Fields.{bytes_field, u32_field}
use Rattle.field_codec.proofs.Lists.{◌⊗◌, list_field, made_of}
use Rattle.field_codec.proofs.Lengths.{length-u32_bytes}
use Rattle.store_core.specs.declared.beats.beat.Beat.{Beat}
use Rattle.beat_tiers.specs.declared.item.BeatPoint.{BeatPoint}
use Rattle.store_core.specs.beats.Beats.{beat_bytes, beat_in, beat_of, has_form, moment_bytes, moment_number, moment_of, point_bytes, point_of, read_fields, read_moment, read_point, whole_beat, InForm, IsMoment, IsPoint, IsShort}

moment_there : (n : ℕ) → n < 2 ^ 32 → IsMoment (moment_of n) × (moment_number (moment_of n) ≡ n)
moment_there zero small = (tt, refl)
moment_there (suc n) small = ((omega arith, small), refl)

moment_back : (moment : Option ℕ) → IsMoment moment → (moment_number moment < 2 ^ 32) × (moment_of (moment_number moment) ≡ moment)
moment_back None fits = (omega arith, refl)
moment_back (Some zero) fits = absurd (omega (arith, fits.0))
moment_back (Some (suc n)) fits = (fits.1, refl)

pub moment_field : IsField IsMoment moment_bytes read_moment
unfolding moment_bytes read_moment
moment_field = made_of IsMoment moment_of moment_number u32_field moment_there moment_back

pub point_field : IsField IsPoint point_bytes read_point
unfolding point_bytes read_point
point_field =
    made_of IsPoint point_of (λ p. ((p.series, p.step), p.word)) (u32_field ⊗ u32_field ⊗ u32_field)
    (λ x fits. (record { series = fits.0.0; step = fits.0.1; word = fits.1 }, refl))
    (λ p fits. (((fits.series, fits.step), fits.word), refl))

pub fields_field : IsField IsShort beat_bytes read_fields
unfolding beat_bytes read_fields
fields_field =
    made_of IsShort beat_of (λ b. ((b.moment, b.points), b.note)) (moment_field ⊗ list_field point_field ⊗ bytes_field)
    (λ x fits. (record { moment = fits.0.0; points = fits.0.1; note = fits.1 }, refl))
    (λ b fits. (((fits.moment, fits.points), fits.note), refl))

-- the bytes of a beat in form read as it
pub beat_again : (beat : Beat) → InForm beat → beat_in (beat_bytes beat) ≡ Some beat
unfolding beat_in
beat_again beat fits =
    let fields : read_fields (beat_bytes beat) ≡ Ok (beat, []) =
    ap read_fields (sym (append-nil (beat_bytes beat))) ∙ fields_field.reads_back beat [] fits.short in
    rw (fields, fits.form) refl

abbrev some_beat : Beat → Option Beat
some_beat beat = Some beat

chosen : (test : Bool) (a b : Beat) → cond test (some_beat a) None ≡ Some b → (test ≡ true) × (a ≡ b)
chosen true a b is = (refl, cc)
chosen false a b is = absurd cc

abbrev read_done : Beat × List ℕ → ReadOf Beat
read_done read = Ok read

whole_beat-some : (read : ReadOf Beat) (beat : Beat) → whole_beat read ≡ Some beat → (read ≡ Ok (beat, [])) × (has_form beat ≡ true)
whole_beat-some (Ok (found, [])) beat is =
    let known = chosen (has_form found) found beat is in
    (ap (λ (made : Beat). read_done (made, [])) known.1, ap has_form (sym known.1) ∙ known.0)
whole_beat-some (Ok (found, byte ∷ rest)) beat is = absurd cc
whole_beat-some (Err fault) beat is = absurd cc

-- what bytes read as is in form, and has them
pub beat_found : (bytes : List ℕ) (beat : Beat) → IsBytes bytes → beat_in bytes ≡ Some beat → InForm beat × (bytes ≡ beat_bytes beat)
unfolding beat_in
beat_found bytes beat fits is =
    let known = whole_beat-some (read_fields bytes) beat is in (
      record { short = fields_field.has_spelling bytes beat [] fits known.0; form = known.1 },
      fields_field.is_spelt bytes beat [] fits known.0 ∙ append-nil (beat_bytes beat),
    )

-- ---- the size of a beat

length-point_bytes : (p : BeatPoint) → length (point_bytes p) ≡ 12
unfolding point_bytes u32_bytes
length-point_bytes p = refl

length-points : (points : List BeatPoint) → length (flat_map point_bytes points) ≡ 12 * length points
length-points [] = refl
length-points (p ∷ points) =
    omega (
      arith,
      ap length (flat_map-cons point_bytes p points),
      length-append (point_bytes p) (flat_map point_bytes points),
      length-point_bytes p,
      length-points points,
    )

pub beat_size : (b : Beat) → length (beat_bytes b) ≡ 12 + 12 * length b.points + length b.note
unfolding beat_bytes moment_bytes list_bytes sized_bytes
beat_size b =
    omega (
      arith,
      length-append (u32_bytes (moment_number b.moment) ++ (u32_bytes (length b.points) ++ flat_map point_bytes b.points)) (u32_bytes (length b.note) ++ b.note),
      length-append (u32_bytes (moment_number b.moment)) (u32_bytes (length b.points) ++ flat_map point_bytes b.points),
      length-append (u32_bytes (length b.points)) (flat_map point_bytes b.points),
      length-append (u32_bytes (length b.note)) b.note,
      length-u32_bytes (moment_number b.moment),
      length-u32_bytes (length b.points),
      length-u32_bytes (length b.note),
      length-points b.points,
    )
