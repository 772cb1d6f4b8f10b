-- the form of a journal, worked out by hand
use Rattle.std.proofs.Common.{◌≡◌, ◌++◌, [], ◌∷◌, refl, lit<, lit≤, arith}
use Rattle.journal_core.specs.Form.{header, length_field, opened, StandsFor, FailsAt}
use Rattle.journal_core.proofs.HeaderLemmas.{header_fails}

generation_seven : header 7 ≡ 78 ∷ 68 ∷ 65 ∷ 74 ∷ 82 ∷ 78 ∷ 76 ∷ 49 ∷ 7 ∷ 0 ∷ 0 ∷ 0 ∷ 0 ∷ 0 ∷ 0 ∷ 0 ∷ []
unfolding header
generation_seven = refl

three_bytes : opened ((97 ∷ 98 ∷ 99 ∷ []) ∷ []) ≡ 1 ∷ 3 ∷ 0 ∷ 0 ∷ 0 ∷ 97 ∷ 98 ∷ 99 ∷ []
unfolding length_field
three_bytes = refl

-- a record of 66,000 bytes has the length 208 1 1 0
long_record : length_field 66000 ≡ 208 ∷ 1 ∷ 1 ∷ 0 ∷ []
unfolding length_field
long_record = refl

-- an empty record, and bytes behind the last gate
with_an_empty_record : StandsFor 7 (header 7 ++ 1 ∷ 0 ∷ 0 ∷ 0 ∷ 0 ∷ 9 ∷ 1 ∷ 2 ∷ []) ([] ∷ [])
unfolding length_field
with_an_empty_record = record { gate = 9; rest = 1 ∷ 2 ∷ []; form = refl; closed = λ e. cc; fits = (lit≤ tt, tt) }

-- an empty file fails at its end, and a file whose first byte is another at that byte
empty_file : FailsAt 7 [] 0
empty_file = header_fails 7 [] 0 (lit< tt) (lit≤ tt) refl (λ inside _. absurd (omega arith))

other_file : FailsAt 7 (0 ∷ 1 ∷ []) 0
unfolding header
other_file = header_fails 7 (0 ∷ 1 ∷ []) 0 (lit< tt) (lit≤ tt) refl (λ _ e. cc)
