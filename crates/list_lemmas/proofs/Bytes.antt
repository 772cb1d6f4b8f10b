-- Lists of bytes.
use Rattle.std.proofs.Common.{ℕ, zero, suc, ◌+◌, ◌<◌, List, [], ◌∷◌, ◌++◌, take, drop, get_or, arith}
use Rattle.std.proofs.lemmas.List.{get_or-drop}

-- each number is a byte
abbrev pub AreBytes : List ℕ → Type 0
AreBytes bytes = (i : ℕ) → get_or bytes i 0 < 256

pub bytes-drop : (n : ℕ) (bytes : List ℕ) → AreBytes bytes → AreBytes (drop n bytes)
bytes-drop n bytes are i = rw (get_or-drop n bytes i 0) (are (n + i))

pub bytes-take : (n : ℕ) (bytes : List ℕ) → AreBytes bytes → AreBytes (take n bytes)
bytes-take zero bytes are i = omega arith
bytes-take (suc n) [] are i = omega arith
bytes-take (suc n) (byte ∷ bytes) are zero = are zero
bytes-take (suc n) (byte ∷ bytes) are (suc i) = bytes-take n bytes (λ k. are (suc k)) i

pub bytes-append : (xs ys : List ℕ) → AreBytes xs → AreBytes ys → AreBytes (xs ++ ys)
bytes-append [] ys first second i = second i
bytes-append (byte ∷ xs) ys first second zero = first zero
bytes-append (byte ∷ xs) ys first second (suc i) = bytes-append xs ys (λ k. first (suc k)) second i
