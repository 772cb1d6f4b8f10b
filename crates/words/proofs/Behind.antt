-- What follows the first word of a line.
use Rattle.std.proofs.Common.{◌≡◌, ◌≢◌, ◌==◌, ◌<◌, ℕ, suc, ◌+◌, Bool, true, false, cond, not, List, [], ◌∷◌, ◌++◌, length, drop, refl, sym, ap, ◌∙◌, arith, one-add, eq-eqb}
use Rattle.std.proofs.lemmas.Bool.Decides.{nat_tests}
use Rattle.std.proofs.lemmas.List.Elements.{All-head, All-tail}
use Rattle.std.specs.List.{position_or_len, prefix_len}
use Rattle.words.specs.Words.{rest_from, behind_first, is_separator, Bare, Quoted}
use Rattle.words.specs.Quoting.{HasNo}
use Rattle.words.proofs.Places.{place_behind-separator}

drop_separators_step : (byte n : ℕ) (bytes : List ℕ) (b : Bool) → is_separator byte ≡ b → behind_first (drop n bytes) ≡ behind_first bytes
    → behind_first (drop (cond b (1 + n) 0) (byte ∷ bytes)) ≡ behind_first (byte ∷ bytes)
drop_separators_step byte n bytes true e rest = rw one-add (rest ∙ sym (ap (λ p. rest_from p bytes) (place_behind-separator byte e)))
drop_separators_step byte n bytes false e rest = refl

-- the separators that a line begins with change nothing
pub behind_first-separators : (line : List ℕ) → behind_first (drop (prefix_len is_separator line) line) ≡ behind_first line
behind_first-separators [] = refl
behind_first-separators (byte ∷ bytes) = drop_separators_step byte _ bytes _ refl (behind_first-separators bytes)

bare_step : (word : List ℕ) (byte n : ℕ) (bytes : List ℕ) (b : Bool) → is_separator byte ≡ b → rest_from (Bare (word ++ byte ∷ [])) bytes ≡ drop n bytes
    → cond b (byte ∷ bytes) (rest_from (Bare (word ++ byte ∷ [])) bytes) ≡ drop (cond (not b) (1 + n) 0) (byte ∷ bytes)
bare_step word byte n bytes true e rest = refl
bare_step word byte n bytes false e rest = rw one-add rest

-- a word that began with no quote is followed by the next separator
pub rest_from-bare : (word bytes : List ℕ) → rest_from (Bare word) bytes ≡ drop (position_or_len is_separator bytes) bytes
rest_from-bare word [] = refl
rest_from-bare word (byte ∷ bytes) = bare_step word byte _ bytes _ refl (rest_from-bare (word ++ byte ∷ []) bytes)

quoted_step : (quote : ℕ) (word : List ℕ) (byte n : ℕ) (bytes : List ℕ) (b : Bool) → (byte == quote) ≡ b
    → (n < length bytes → rest_from (Quoted quote (word ++ byte ∷ [])) bytes ≡ drop (suc n) bytes)
    → cond (not b) (1 + n) 0 < length (byte ∷ bytes)
    → cond b bytes (rest_from (Quoted quote (word ++ byte ∷ [])) bytes) ≡ drop (suc (cond (not b) (1 + n) 0)) (byte ∷ bytes)
quoted_step quote word byte n bytes true e rest within = refl
quoted_step quote word byte n bytes false e rest within = rw one-add (rest (omega arith))

-- and one that began with a quote by what stands behind the next such quote
pub rest_from-quoted : (quote : ℕ) (word bytes : List ℕ) → let n = position_or_len (λ byte. byte == quote) bytes in
    n < length bytes → rest_from (Quoted quote word) bytes ≡ drop (suc n) bytes
rest_from-quoted quote word [] within = absurd (omega arith)
rest_from-quoted quote word (byte ∷ bytes) within = quoted_step quote word byte _ bytes _ refl (rest_from-quoted quote (word ++ byte ∷ []) bytes) within

is_other : (byte quote : ℕ) → byte ≢ quote → (byte == quote) ≡ false
is_other byte quote other = grind (arith, nat_tests)

-- so is a text in quotes, whatever follows it
pub rest_from-over : (quote : ℕ) (word text rest : List ℕ) → HasNo quote text → rest_from (Quoted quote word) (text ++ quote ∷ rest) ≡ rest
rest_from-over quote word [] rest none =
    ap (λ b. cond b rest (rest_from (Quoted quote (word ++ quote ∷ [])) rest)) (eq-eqb quote quote refl)
rest_from-over quote word (byte ∷ text) rest none =
    ap (λ b. cond b (text ++ quote ∷ rest) (rest_from (Quoted quote (word ++ byte ∷ [])) (text ++ quote ∷ rest))) (is_other byte quote (All-head (λ b. b ≢ quote) byte text none))
    ∙ rest_from-over quote (word ++ byte ∷ []) text rest (All-tail (λ b. b ≢ quote) byte text none)
