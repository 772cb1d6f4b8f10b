-- The windows of a span.
use Rattle.std.proofs.Common.{◌≡◌, ℕ, ◌+◌, ◌-◌, ◌*◌, ◌<◌, ◌≤◌, ◌↔◌, Bool, true, false, nat_lt, refl, arith}
use Rattle.std.proofs.lemmas.Bool.Decides.{nat_tests}
use Rattle.std.proofs.lemmas.Grind.{div_ceil_times}
use Rattle.std.proofs.Math.Nat.{mul-le-mul_right}
use Rattle.query_text.specs.Asked.{windows}

starts : (after before window i rows : ℕ) → before - after ≤ rows * window → rows * window < (before - after) + window → i < rows
    → (i + 1) * window ≤ rows * window → after + i * window < before
starts after before window i rows all last below times = omega (arith, all, last, times)

counted : (after before window i rows : ℕ) (below : Bool) → nat_lt i rows ≡ below → before - after ≤ rows * window → after + i * window < before
    → (rows ≤ i → rows * window ≤ i * window) → i < rows
counted after before window i rows true is all start times = grind (arith, nat_tests)
counted after before window i rows false is all start times =
    let past : rows ≤ i = grind (arith, nat_tests) in
    let more = times past in
    absurd (omega (arith, all, start, more))

-- just those windows are counted that start before the end
pub windows_are : (after before window i : ℕ) → 0 < window → (i < windows after before window) ↔ (after + i * window < before)
windows_are after before window i some =
    let bounds = div_ceil_times (before - after) window some in (
      λ below. starts after before window i (windows after before window) bounds.0 bounds.1 below (mul-le-mul_right window (omega (arith, below))),
      λ start. counted after before window i (windows after before window) _ refl bounds.0 start (λ above. mul-le-mul_right window above),
    )
