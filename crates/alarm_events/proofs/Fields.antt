-- The law of each thing that kept alarms have, made of the laws of its fields.
use Rattle.std.proofs.Common.{◌≡◌, ℕ, zero, suc, ◌^◌, ◌<◌, ◌==◌, Bool, true, false, ◌&&◌, cond, List, [], ◌∷◌, ◌++◌, Option, Some, None, ℤ, Ok, refl, sym, ap, subst, ◌∙◌, arith}
use Rattle.std.specs.Prelude.{FitsSigned}
use Rattle.std.specs.Int.{w128}
use Rattle.std.proofs.lemmas.Bool.{and_parts, eqb-true}
use Rattle.field_codec.specs.declared.fault.FieldFault.TheVariants.{Range}
use Rattle.field_codec.specs.Field.{IsBytes, IsField}
use Rattle.field_codec.specs.Reading.{read_passing, read_u8, read_i128}
use Rattle.field_codec.specs.Spelling.{u8_bytes, i128_bytes}
use Rattle.field_codec.proofs.Combined.{done_is, field_from, passing_field, read_as-ok, same_values}
use Rattle.field_codec.proofs.Fields.{u32_field, u64_field, i128_field, flag_field, bytes_field}
use Rattle.field_codec.proofs.Lists.{◌⊗◌, made_of, list_field, short_text_field}
use Rattle.health_expr.specs.declared.value.Value.{Value}
use Rattle.health_expr.specs.declared.value.Value.TheVariants.{Nan, Inf, Fixed}
use Rattle.alarm_events.specs.declared.status.Status.{Status}
use Rattle.alarm_events.specs.declared.status.Status.TheVariants.{Removed, Undefined, Uninitialized, Clear, Warning, Critical}
use Rattle.alarm_events.specs.Status.{number, status_of}
use Rattle.alarm_events.specs.declared.delay.Delay.{Delay}
use Rattle.alarm_events.specs.Alarms.{alarms_of, alarms_bytes, are_few, read_fields, read_kept, AreFields, HasSpelling}
use Rattle.alarm_events.specs.Delays as delays
use Rattle.alarm_events.specs.Delays.{Parts, delay_bytes, read_delay, is_delay, delay_of, IsSpelledDelay}
use Rattle.alarm_events.specs.Dues.{due_bytes, read_due, is_due, due_of, parts_of, IsSpelledDue}
use Rattle.alarm_events.specs.Events.{event_of, event_bytes, read_event, IsEvent}
use Rattle.alarm_events.specs.States.{state_of, state_bytes, read_state, IsState}
use Rattle.alarm_events.specs.Statuses.{status_bytes, read_status, status_or}
use Rattle.alarm_events.specs.Values.{value_bytes, read_value, read_fixed, is_within, IsSpelledValue}

IsBytes-tail : (byte : ℕ) (bytes : List ℕ) → IsBytes (byte ∷ bytes) → IsBytes bytes
IsBytes-tail byte bytes fits = λ place. fits (suc place)

-- ---- statuses

by_test : (s t : Status) (n k : ℕ) (other : Option Status) (b : Bool) → (n == k) ≡ b → number t ≡ k → (other ≡ Some s → number s ≡ n)
    → cond b (Some t) other ≡ Some s → number s ≡ n
by_test s t n k other true is at next e =
    let same : t ≡ s = cc in
    ap number (sym same) ∙ at ∙ sym (eqb-true n k is)
by_test s t n k other false is at next e = next e

abbrev from_6 : ℕ → Option Status
from_6 n = cond (n == 6) (Some Critical) None

abbrev from_5 : ℕ → Option Status
from_5 n = cond (n == 5) (Some Warning) (from_6 n)

abbrev from_3 : ℕ → Option Status
from_3 n = cond (n == 3) (Some Clear) (from_5 n)

abbrev from_2 : ℕ → Option Status
from_2 n = cond (n == 2) (Some Uninitialized) (from_3 n)

abbrev from_1 : ℕ → Option Status
from_1 n = cond (n == 1) (Some Undefined) (from_2 n)

none_is : (s : Status) (n : ℕ) → None ≡ Some s → number s ≡ n
none_is s n e = absurd cc

-- a number is that of the status that it stands for
number_again : (n : ℕ) (s : Status) → status_of n ≡ Some s → number s ≡ n
number_again n s e =
    by_test s Removed n 0 (from_1 n) (n == 0) refl refl
    (by_test s Undefined n 1 (from_2 n) (n == 1) refl refl
    (by_test s Uninitialized n 2 (from_3 n) (n == 2) refl refl
    (by_test s Clear n 3 (from_5 n) (n == 3) refl refl
    (by_test s Warning n 5 (from_6 n) (n == 5) refl refl
    (by_test s Critical n 6 None (n == 6) refl refl (none_is s n)))))) e

status_again : (s : Status) (rest : List ℕ) → read_status (status_bytes s ++ rest) ≡ Ok (s, rest)
unfolding status_bytes read_status read_u8 u8_bytes
status_again Removed rest = refl
status_again Undefined rest = refl
status_again Uninitialized rest = refl
status_again Clear rest = refl
status_again Warning rest = refl
status_again Critical rest = refl

status_found : (n : ℕ) (after : List ℕ) (o : Option Status) (s : Status) (rest : List ℕ) → status_of n ≡ o → status_or o after ≡ Ok (s, rest)
    → n ∷ after ≡ number s ∷ rest
status_found n after None s rest is e = absurd cc
status_found n after (Some found) s rest is e =
    let at = done_is (found, after) (s, rest) e in
    let same : number found ≡ n = number_again n found is in
    let prefix : n ∷ after ≡ number found ∷ after = ap (λ (m : ℕ). m ∷ after) (sym same) in
    prefix ∙ ap (λ (read : Status × List ℕ). number read.0 ∷ read.1) at

status_taken : (bytes : List ℕ) (s : Status) (rest : List ℕ) → read_status bytes ≡ Ok (s, rest) → bytes ≡ status_bytes s ++ rest
unfolding status_bytes read_status read_u8 u8_bytes
status_taken [] s rest e = absurd cc
status_taken (byte ∷ after) s rest e = status_found byte after (status_of byte) s rest refl e

pub status_field : IsField (λ (s : Status). Unit {0}) status_bytes read_status
status_field =
    field_from (λ (s : Status). Unit {0}) status_bytes read_status
    (λ s rest fits. status_again s rest)
    (λ bytes s rest fits e. (tt, status_taken bytes s rest e))

-- ---- values

units_field : IsField (λ units. FitsSigned w128 units × (is_within units ≡ true)) i128_bytes (λ bytes. read_passing is_within Range (read_i128 bytes))
units_field = passing_field (FitsSigned w128) i128_bytes read_i128 is_within Range i128_field

value_again : (v : Value) (rest : List ℕ) → IsSpelledValue v → read_value (value_bytes v ++ rest) ≡ Ok (v, rest)
unfolding value_bytes read_value read_fixed read_u8 u8_bytes
value_again Nan rest fits = refl
value_again (Inf false) rest fits = refl
value_again (Inf true) rest fits = refl
value_again (Fixed units) rest fits = rw (units_field.reads_back units rest fits) refl

abbrev IsValueOf : List ℕ → Value × List ℕ → Type 0
IsValueOf bytes read = IsSpelledValue read.0 × (bytes ≡ value_bytes read.0 ++ read.1)

value_taken : (bytes : List ℕ) (v : Value) (rest : List ℕ) → IsBytes bytes → read_value bytes ≡ Ok (v, rest) → IsValueOf bytes (v, rest)
unfolding value_bytes read_value read_fixed read_u8 u8_bytes
value_taken [] v rest fits e = absurd cc
value_taken (zero ∷ after) v rest fits e = subst (IsValueOf (0 ∷ after)) (done_is (Nan, after) (v, rest) e) (tt, refl)
value_taken (suc zero ∷ after) v rest fits e = subst (IsValueOf (1 ∷ after)) (done_is (Inf false, after) (v, rest) e) (tt, refl)
value_taken (suc (suc zero) ∷ after) v rest fits e = subst (IsValueOf (2 ∷ after)) (done_is (Inf true, after) (v, rest) e) (tt, refl)
value_taken (suc (suc (suc zero)) ∷ after) v rest fits e =
    let make : ℤ → Value = λ units. Fixed units in
    let found = read_as-ok make (read_passing is_within Range (read_i128 after)) v rest e in
    let tail : IsBytes after = IsBytes-tail 3 after fits in
    subst (λ (value : Value). IsValueOf (3 ∷ after) (value, rest)) found.2
    (units_field.has_spelling after found.0 rest tail found.1, ap (λ (bytes : List ℕ). 3 ∷ bytes) (units_field.is_spelt after found.0 rest tail found.1))
value_taken (suc (suc (suc (suc byte))) ∷ after) v rest fits e = absurd cc

pub value_field : IsField IsSpelledValue value_bytes read_value
value_field = field_from IsSpelledValue value_bytes read_value value_again value_taken

-- ---- what may be missing

abbrev FitsParts : Parts → Type 0
FitsParts p = ((Unit {0} × (p.0.0.1 < 2 ^ 32)) × (p.0.1 < 2 ^ 32)) × (p.1 < 2 ^ 32)

pub delay_field : IsField IsSpelledDelay delay_bytes read_delay
unfolding delay_bytes read_delay
delay_field =
    made_of IsSpelledDelay delay_of delays.parts_of (passing_field _ _ _ is_delay Range (flag_field ⊗ u32_field ⊗ u32_field ⊗ u32_field)) there back
  where
    there : (p : Parts) → FitsParts p × (is_delay p ≡ true) → IsSpelledDelay (delay_of p) × (delays.parts_of (delay_of p) ≡ p)
    there (((true, up), down), due) fits = (record { up = fits.0.0.0.1; down = fits.0.0.1; due = fits.0.1 }, refl)
    there (((false, up), down), due) fits =
        let first = and_parts (up == 0) ((down == 0) && (due == 0)) fits.1 in
        let second = and_parts (down == 0) (due == 0) first.1 in
        let a : up ≡ 0 = eqb-true up 0 first.0 in
        let b : down ≡ 0 = eqb-true down 0 second.0 in
        let c : due ≡ 0 = eqb-true due 0 second.1 in
        let make : ℕ → ℕ → ℕ → Parts = λ x y z. (((false, x), y), z) in
        (tt, ap (λ x. make x 0 0) (sym a) ∙ ap (λ y. make up y 0) (sym b) ∙ ap (λ z. make up down z) (sym c))

    small : 0 < 2 ^ 32
    small = omega arith

    back : (d : Option Delay) → IsSpelledDelay d → (FitsParts (delays.parts_of d) × (is_delay (delays.parts_of d) ≡ true)) × (delay_of (delays.parts_of d) ≡ d)
    back None fits = ((((((tt, small), small), small)), refl), refl)
    back (Some d) fits = (((((tt, fits.up), fits.down), fits.due), refl), refl)

pub due_field : IsField IsSpelledDue due_bytes read_due
unfolding due_bytes read_due
due_field = made_of IsSpelledDue due_of parts_of (passing_field _ _ _ is_due Range (flag_field ⊗ u32_field)) there back
  where
    there : (p : Bool × ℕ) → (Unit {0} × (p.1 < 2 ^ 32)) × (is_due p ≡ true) → IsSpelledDue (due_of p) × (parts_of (due_of p) ≡ p)
    there (true, moment) fits = (fits.0.1, refl)
    there (false, moment) fits =
        let zero_is : moment ≡ 0 = eqb-true moment 0 fits.1 in
        let make : ℕ → Bool × ℕ = λ n. (false, n) in
        (tt, ap make (sym zero_is))

    small : 0 < 2 ^ 32
    small = omega arith

    back : (d : Option ℕ) → IsSpelledDue d → ((Unit {0} × ((parts_of d).1 < 2 ^ 32)) × (is_due (parts_of d) ≡ true)) × (due_of (parts_of d) ≡ d)
    back None fits = (((tt, small), refl), refl)
    back (Some moment) fits = (((tt, fits), refl), refl)

-- ---- what alarms have

pub state_field : IsField IsState state_bytes read_state
unfolding state_bytes read_state
state_field =
    made_of IsState state_of (λ s. ((((s.alarm, s.chart), s.status), s.value), s.delay)) (short_text_field ⊗ u32_field ⊗ status_field ⊗ value_field ⊗ delay_field)
    (λ x fits. (record { alarm = fits.0.0.0.0; chart = fits.0.0.0.1; value = fits.0.1; delay = fits.1 }, refl))
    (λ s fits. (((((fits.alarm, fits.chart), tt), fits.value), fits.delay), refl))

pub event_field : IsField IsEvent event_bytes read_event
unfolding event_bytes read_event
event_field =
    made_of IsEvent event_of (λ e. (((((((e.id, e.moment), e.chart), e.alarm), e.old), e.new), e.value), e.due)) (u64_field ⊗ u32_field ⊗ short_text_field ⊗ short_text_field ⊗ status_field ⊗ status_field ⊗ value_field ⊗ due_field)
    (λ x fits. (record { id = fits.0.0.0.0.0.0.0; moment = fits.0.0.0.0.0.0.1; chart = fits.0.0.0.0.0.1; alarm = fits.0.0.0.0.1; value = fits.0.1; due = fits.1 }, refl))
    (λ e fits. ((((((((fits.id, fits.moment), fits.chart), fits.alarm), tt), tt), fits.value), fits.due), refl))

pub alarms_field : IsField AreFields alarms_bytes read_fields
unfolding alarms_bytes read_fields
alarms_field =
    made_of AreFields alarms_of (λ k. (((k.text, k.states), k.dropped), k.events)) (bytes_field ⊗ list_field state_field ⊗ u64_field ⊗ list_field event_field)
    (λ x fits. (record { text = fits.0.0.0; states = fits.0.0.1; dropped = fits.0.1; events = fits.1 }, refl))
    (λ k fits. ((((fits.text, fits.states), fits.dropped), fits.events), refl))

-- the alarms that have a spelling, with whatever follows them
pub kept_field : IsField HasSpelling alarms_bytes read_kept
unfolding read_kept
kept_field =
    same_values (λ k. AreFields k × (are_few k ≡ true)) HasSpelling alarms_bytes read_kept
    (λ k fits. record { fields = fits.0; few = fits.1 })
    (λ k fits. (fits.fields, fits.few))
    (passing_field AreFields alarms_bytes read_fields are_few Range alarms_field)
