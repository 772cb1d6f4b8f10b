-- The law of each thing that a side has lists of, and of its role, made of the laws of their fields.
use Rattle.std.proofs.Common.{◌≡◌, ℕ, zero, suc, ◌^◌, ◌<◌, ◌==◌, true, false, ◌||◌, nat_lt, ℤ, pos, Option, Some, None, refl, sym, ap, ◌∙◌, arith}
use Rattle.std.specs.Prelude.{FitsSigned}
use Rattle.std.specs.Int.{w64}
use Rattle.std.specs.Ordering.{int_eq}
use Rattle.std.proofs.lemmas.Bool.{and_parts, eqb-true, ltb-true}
use Rattle.std.proofs.lemmas.Bool.Decides.{Decides-int_eq}
use Rattle.field_codec.specs.declared.fault.FieldFault.TheVariants.{Range}
use Rattle.field_codec.specs.Field.{IsField}
use Rattle.field_codec.proofs.Combined.{passing_field}
use Rattle.field_codec.proofs.Fields.{u8_field, u32_field, u64_field, i64_field, flag_field}
use Rattle.field_codec.proofs.Lists.{◌⊗◌, made_of}
use Rattle.algorithms.specs.declared.last.Last.{Last}
use Rattle.side_codec.specs.declared.last_point.LastPoint.{LastPoint}
use Rattle.side_codec.specs.declared.role.SideRole.{SideRole}
use Rattle.side_codec.specs.declared.role.SideRole.TheVariants.{Undecided, Collects, Copies}
use Rattle.side_codec.specs.Gaps.{gap_of, gap_bytes, read_gap, IsGap}
use Rattle.side_codec.specs.LastPoints as points
use Rattle.side_codec.specs.LastPoints.{last_point_bytes, read_last_point, is_point, point_of, IsLastPoint}
use Rattle.side_codec.specs.LastRows as rows
use Rattle.side_codec.specs.LastRows.{last_row_bytes, read_last_row, is_last, last_of, IsLastRow}
use Rattle.side_codec.specs.Roles as roles
use Rattle.side_codec.specs.Roles.{role_bytes, read_role, is_role, role_of, IsRole}

small : 0 < 2 ^ 32
small = omega arith

-- ---- the role

abbrev FitsRole : ℕ × ℕ → Type 0
FitsRole p = (p.0 < 2 ^ 8) × (p.1 < 2 ^ 64)

abbrev with_child : ℕ → ℕ → ℕ × ℕ
with_child number child = (number, child)

no_child : (number child : ℕ) → (child == 0) ≡ true → with_child number 0 ≡ with_child number child
no_child number child is = ap (with_child number) (sym (eqb-true child 0 is))

-- no other byte is that of a role
no_role : (number child : ℕ) → is_role (suc (suc (suc number)), child) ≡ true → ⊥
no_role number child is =
    let n : ℕ = suc (suc (suc number)) in
    let below = ltb-true n 3 (and_parts (nat_lt n 3) ((n == 2) || (child == 0)) is).0 in
    omega arith

pub role_field : IsField IsRole role_bytes read_role
unfolding role_bytes read_role
role_field = made_of IsRole role_of roles.parts_of (passing_field _ _ _ is_role Range (u8_field ⊗ u64_field)) there back
  where
    there : (p : ℕ × ℕ) → FitsRole p × (is_role p ≡ true) → IsRole (role_of p) × (roles.parts_of (role_of p) ≡ p)
    there (zero, child) fits = (tt, no_child 0 child fits.1)
    there (suc zero, child) fits = (tt, no_child 1 child fits.1)
    there (suc (suc zero), child) fits = (fits.0.1, refl)
    there (suc (suc (suc number)), child) fits = absurd (no_role number child fits.1)

    back : (r : SideRole) → IsRole r → (FitsRole (roles.parts_of r) × (is_role (roles.parts_of r) ≡ true)) × (role_of (roles.parts_of r) ≡ r)
    back Undecided fits = (((omega arith, omega arith), refl), refl)
    back Collects fits = (((omega arith, omega arith), refl), refl)
    back (Copies child) fits = (((omega arith, fits), refl), refl)

-- ---- what may be missing

none_fits : FitsSigned w64 (pos 0)
none_fits = record { sfits = omega arith }

abbrev FitsRow : rows.Parts → Type 0
FitsRow p = (Unit {0} × (p.0.1 < 2 ^ 32)) × FitsSigned w64 p.1

pub last_row_field : IsField IsLastRow last_row_bytes read_last_row
unfolding last_row_bytes read_last_row
last_row_field = made_of IsLastRow last_of rows.parts_of (passing_field _ _ _ is_last Range (flag_field ⊗ u32_field ⊗ i64_field)) there back
  where
    there : (p : rows.Parts) → FitsRow p × (is_last p ≡ true) → IsLastRow (last_of p) × (rows.parts_of (last_of p) ≡ p)
    there ((true, moment), value) fits = (record { moment = fits.0.0.1; value = fits.0.1 }, refl)
    there ((false, moment), value) fits =
        let both = and_parts (moment == 0) (int_eq value (pos 0)) fits.1 in
        let a : moment ≡ 0 = eqb-true moment 0 both.0 in
        let b : value ≡ pos 0 = (Decides-int_eq value (pos 0)).0 both.1 in
        let make : ℕ → ℤ → rows.Parts = λ m v. ((false, m), v) in
        (tt, ap (λ m. make m (pos 0)) (sym a) ∙ ap (λ v. make moment v) (sym b))

    back : (l : Option Last) → IsLastRow l → (FitsRow (rows.parts_of l) × (is_last (rows.parts_of l) ≡ true)) × (last_of (rows.parts_of l) ≡ l)
    back None fits = ((((tt, small), none_fits), refl), refl)
    back (Some last) fits = ((((tt, fits.moment), fits.value), refl), refl)

abbrev FitsPoint : points.Parts → Type 0
FitsPoint p = (Unit {0} × (p.0.1 < 2 ^ 32)) × (p.1 < 2 ^ 32)

pub last_point_field : IsField IsLastPoint last_point_bytes read_last_point
unfolding last_point_bytes read_last_point
last_point_field = made_of IsLastPoint point_of points.parts_of (passing_field _ _ _ is_point Range (flag_field ⊗ u32_field ⊗ u32_field)) there back
  where
    there : (p : points.Parts) → FitsPoint p × (is_point p ≡ true) → IsLastPoint (point_of p) × (points.parts_of (point_of p) ≡ p)
    there ((true, moment), word) fits = (record { moment = fits.0.0.1; small = fits.0.1; word = fits.1 }, refl)
    there ((false, moment), word) fits =
        let both = and_parts (moment == 0) (word == 0) fits.1 in
        let a : moment ≡ 0 = eqb-true moment 0 both.0 in
        let b : word ≡ 0 = eqb-true word 0 both.1 in
        let make : ℕ → ℕ → points.Parts = λ m w. ((false, m), w) in
        (tt, ap (λ m. make m 0) (sym a) ∙ ap (λ w. make moment w) (sym b))

    back : (l : Option LastPoint) → IsLastPoint l → (FitsPoint (points.parts_of l) × (is_point (points.parts_of l) ≡ true)) × (point_of (points.parts_of l) ≡ l)
    back None fits = ((((tt, small), small), refl), refl)
    back (Some point) fits = ((((tt, fits.moment), fits.small), fits.word), refl)

-- ---- gaps

pub gap_field : IsField IsGap gap_bytes read_gap
unfolding gap_bytes read_gap
gap_field =
    made_of IsGap gap_of (λ g. (g.from, g.to)) (u32_field ⊗ u32_field)
    (λ x fits. (record { from = fits.0; to = fits.1 }, refl))
    (λ g fits. ((fits.from, fits.to), refl))
