-- From one field of a form to the next, and from what was seen of some bytes to the bytes.
use Rattle.std.proofs.Common.{◌≡◌, ℕ, ◌+◌, ◌-◌, ◌≤◌, List, ◌++◌, take, drop, Ok, Err, refl, sym, ap, ◌∙◌, subst, inl, inr, arith}
use Rattle.std.proofs.lemmas.List.{length-take, length-drop, drop-drop, drop-take, take-take}
use Rattle.byteorder.specs.Endian.{little_number}
use Rattle.byteorder.specs.Numbers.{little_from-take}
use Rattle.extent_file.specs.declared.field.Field.{Field}
use Rattle.extent_file.specs.Fields.{IsAllowed, IsValue, GoesOn, IsFirstWrong}
use Rattle.extent_file.specs.Form.{Form, Next, Says, StopsAt, Leads, GoesTo}

pub leads_here : (form : Form) (bytes : List ℕ) → Leads form bytes 0 form
leads_here form bytes = record {
  inside = omega arith;
  says = λ entries said. said;
  stops = λ place stop. subst (StopsAt form bytes) (let e : place ≡ 0 + place = omega arith in e) stop;
}

leads_field : (form : Form) (bytes : List ℕ) (at : ℕ) (field : Field) (after : ℕ → Form) (value : ℕ)
    → Leads form bytes at (Next field after) → IsValue field (drop at bytes) value → Leads form bytes (at + field.width) (after value)
leads_field form bytes at field after value leads is =
    let cut = length-drop at bytes in let inside = leads.inside in let within = is.within in
    let there : drop field.width (drop at bytes) ≡ drop (at + field.width) bytes = drop-drop field.width at bytes in
    record {
      inside = omega (arith, cut, inside, within);
      says = λ entries said.
          leads.says entries (
            is.within,
            subst (IsAllowed field) is.is is.allowed,
            subst (λ (v : ℕ). Says (after v) (drop field.width (drop at bytes)) entries) is.is
                (subst (λ (l : List ℕ). Says (after value) l entries) (sym there) said),
          );
      stops = λ place stop.
          subst (StopsAt form bytes) (let e : at + (field.width + place) ≡ at + field.width + place = omega arith in e)
          (leads.stops (field.width + place) (inr (
            is.within,
            subst (IsAllowed field) is.is is.allowed,
            (
              place,
              refl,
              subst (λ (v : ℕ). StopsAt (after v) (drop field.width (drop at bytes)) place) is.is
                  (subst (λ (l : List ℕ). StopsAt (after value) l place) (sym there) stop),
            ),
          )));
    }

value_of_prefix : (field : Field) (n : ℕ) (bytes : List ℕ) (value : ℕ) → field.width ≤ n → IsValue field (take n bytes) value → IsValue field bytes value
value_of_prefix field n bytes value enough is =
    let long = length-take n bytes in let within = is.within in
    record {
      within = omega (arith, long, within);
      is = is.is ∙ little_from-take 0 field.width n bytes (omega (arith, enough));
      allowed = is.allowed;
    }

goes_on-prefix : (field : Field) (n k : ℕ) (bytes : List ℕ) → k ≤ n → GoesOn field k (take n bytes) → GoesOn field k bytes
goes_on-prefix field n k bytes short goes = record {
  more = goes.more;
  size = goes.size;
  are_bytes = goes.are_bytes;
  allowed = subst (λ (l : List ℕ). IsAllowed field (little_number field.width (l ++ goes.more))) (take-take k n bytes short) goes.allowed;
}

goes_on-back : (field : Field) (n k : ℕ) (bytes : List ℕ) → k ≤ n → GoesOn field k bytes → GoesOn field k (take n bytes)
goes_on-back field n k bytes short goes = record {
  more = goes.more;
  size = goes.size;
  are_bytes = goes.are_bytes;
  allowed = subst (λ (l : List ℕ). IsAllowed field (little_number field.width (l ++ goes.more))) (sym (take-take k n bytes short)) goes.allowed;
}

wrong_of_prefix : (field : Field) (n : ℕ) (bytes : List ℕ) (place : ℕ) → field.width ≤ n → IsFirstWrong field (take n bytes) place → IsFirstWrong field bytes place
wrong_of_prefix field n bytes place enough wrong =
    let long = length-take n bytes in let reaches = wrong.reaches in let within = wrong.within in
    record {
      within = within;
      reaches = omega (arith, long, reaches);
      before = λ some. goes_on-prefix field n place bytes (omega (arith, within, enough)) (wrong.before some);
      here = λ inside goes. wrong.here (omega (arith, long, inside, within, enough)) (goes_on-back field n (place + 1) bytes (omega (arith, within, enough)) goes);
      refused = λ whole allowed.
          wrong.refused (omega (arith, long, whole, enough))
          (subst (IsAllowed field) (sym (little_from-take 0 field.width n bytes (omega (arith, enough)))) allowed);
    }

module _ (form : Form) (seen bytes : List ℕ) (at size : ℕ) (field : Field) (after : ℕ → Form) (prefix : seen ≡ take size bytes)
    (enough : at + field.width ≤ size) (leads : Leads form bytes at (Next field after)) where
  cut_prefix : drop at seen ≡ take (size - at) (drop at bytes)
  cut_prefix =
      ap (drop at) (prefix ∙ ap (λ (n : ℕ). take n bytes) (let e : size ≡ at + (size - at) = omega (arith, enough) in e))
      ∙ drop-take at (size - at) bytes

  pub field_read : (value : ℕ) → IsValue field (drop at seen) value → Leads form bytes (at + field.width) (after value)
  field_read value is =
      leads_field form bytes at field after value leads
      (value_of_prefix field (size - at) (drop at bytes) value (omega (arith, enough)) (subst (λ (l : List ℕ). IsValue field l value) cut_prefix is))

  pub field_stops : (place : ℕ) → IsFirstWrong field (drop at seen) place → StopsAt form bytes (at + place)
  field_stops place wrong =
      leads.stops place (inl (wrong_of_prefix field (size - at) (drop at bytes) place (omega (arith, enough))
      (subst (λ (l : List ℕ). IsFirstWrong field l place) cut_prefix wrong)))

-- one field on, as `read_at` says it
pub ahead : (seen bytes : List ℕ) (at next size : ℕ) (form : Form) (field same : Field) (after : ℕ → Form) (value : ℕ)
    → seen ≡ take size bytes → next ≡ at + field.width → next ≤ size → same ≡ field
    → GoesTo {T = ℕ} seen at (at + same.width) (Next same after) after (Ok value)
    → Leads form bytes at (Next field after) → Leads form bytes next (after value)
ahead seen bytes at next size form field same after value prefix step enough is read leads =
    let there : GoesTo {T = ℕ} seen at (at + field.width) (Next field after) after (Ok value) =
    subst (λ (f : Field). GoesTo {T = ℕ} seen at (at + f.width) (Next f after) after (Ok value)) is read in
    subst (λ (n : ℕ). Leads form bytes n (after value)) (sym step) (there bytes size form prefix (omega (arith, step, enough)) leads)

pub fails : (seen bytes : List ℕ) (at size : ℕ) (form : Form) (field same : Field) (after : ℕ → Form) (place : ℕ)
    → seen ≡ take size bytes → at + field.width ≤ size → same ≡ field
    → GoesTo {T = ℕ} seen at (at + same.width) (Next same after) after (Err place)
    → Leads form bytes at (Next field after) → StopsAt form bytes place
fails seen bytes at size form field same after place prefix enough is read leads =
    let there : GoesTo {T = ℕ} seen at (at + field.width) (Next field after) after (Err place) =
    subst (λ (f : Field). GoesTo {T = ℕ} seen at (at + f.width) (Next f after) after (Err place)) is read in
    there bytes size form prefix enough leads
