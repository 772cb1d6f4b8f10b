use Rattle.std.proofs.Common.{◌≡◌, ℕ, zero, suc, ◌+◌, ◌-◌, ◌<◌, Bool, true, false, cond, ltb, Option, Some, None, refl, arith}
use Rattle.std.specs.Option.{option_and_then}
use Rattle.std.specs.List.{find, slice_get}
use Rattle.storage_number.specs.Step.{steps}
use Rattle.storage_number.specs.Word.{is_shown_as}

pub below_eight : (P : ℕ → Type 0) → P 0 → P 1 → P 2 → P 3 → P 4 → P 5 → P 6 → P 7 → (n : ℕ) → n < 8 → P n
below_eight P a b c d e f g i zero h = a
below_eight P a b c d e f g i (suc zero) h = b
below_eight P a b c d e f g i (suc (suc zero)) h = c
below_eight P a b c d e f g i (suc (suc (suc zero))) h = d
below_eight P a b c d e f g i (suc (suc (suc (suc zero)))) h = e
below_eight P a b c d e f g i (suc (suc (suc (suc (suc zero))))) h = f
below_eight P a b c d e f g i (suc (suc (suc (suc (suc (suc zero)))))) h = g
below_eight P a b c d e f g i (suc (suc (suc (suc (suc (suc (suc zero))))))) h = i
below_eight P a b c d e f g i (suc (suc (suc (suc (suc (suc (suc (suc n)))))))) h = absurd (omega arith)

-- the place of the step that is shown in a way
unfoldable pub shown_place : Bool → Bool → ℕ → Option ℕ
shown_place false false e = Some (7 - e)
shown_place false true e = None
shown_place true false e = cond (ltb 0 e) (Some (7 + e)) None
shown_place true true e = cond (ltb 3 e) (Some (11 + e)) None

pub shown : (multiplies hundreds : Bool) (e : ℕ) → e < 8 → find (is_shown_as multiplies hundreds e) steps ≡ option_and_then (slice_get steps) (shown_place multiplies hundreds e)
unfolding steps shown_place
shown false false e h = below_eight (λ e. find (is_shown_as false false e) steps ≡ option_and_then (slice_get steps) (shown_place false false e)) refl refl refl refl refl refl refl refl e h
shown false true e h = below_eight (λ e. find (is_shown_as false true e) steps ≡ option_and_then (slice_get steps) (shown_place false true e)) refl refl refl refl refl refl refl refl e h
shown true false e h = below_eight (λ e. find (is_shown_as true false e) steps ≡ option_and_then (slice_get steps) (shown_place true false e)) refl refl refl refl refl refl refl refl e h
shown true true e h = below_eight (λ e. find (is_shown_as true true e) steps ≡ option_and_then (slice_get steps) (shown_place true true e)) refl refl refl refl refl refl refl refl e h
