-- What is left of a word without its `!`.
use Rattle.std.proofs.Common.{◌≡◌, ◌≢◌, ◌==◌, ◌+◌, ℕ, List, [], ◌∷◌, length, drop, refl, sym, ap, Option, Some, None, MatchOption, Bor, lit<, unwrap_or}
use Rattle.std.proofs.lemmas.Bool.{cond-false, ne_eqb}
use Rattle.std.proofs.lemmas.Str.Pattern.{strip_prefix_char}
use Rattle.std.specs.Str.Pattern.{FindsCharPrefix}
use Rattle.simple_pattern.specs.Pattern.{glob_of}

glob_of-plain : (word : List ℕ) → ((rest : List ℕ) → word ≢ 33 ∷ rest) → word ≡ glob_of word
glob_of-plain [] lacks = refl
glob_of-plain (byte ∷ word) lacks = sym (cond-false (byte == 33) word (byte ∷ word) (ne_eqb byte 33 (λ e. lacks word (ap (λ b. b ∷ word) e))))

glob_of_cases : (word : Bor (List ℕ)) (r : Option (Bor (List ℕ))) → MatchOption r ((rest : List ℕ) → word.now ≢ 33 ∷ rest) (λ x. word.now ≡ 33 ∷ x.now)
    → (unwrap_or r word).now ≡ glob_of word.now
glob_of_cases word None lacks = glob_of-plain word.now lacks
glob_of_cases word (Some rest) found = sym (ap glob_of found)

pub glob_of_answer : (word : Bor (List ℕ)) (r : Option (Bor (List ℕ)))
    → MatchOption r (FindsCharPrefix 33 word.now None) (λ x. (n : ℕ) × FindsCharPrefix 33 word.now (Some n) × (x.now ≡ drop n word.now) × (length x.now + n ≡ length word.now))
    → (unwrap_or r word).now ≡ glob_of word.now
glob_of_answer word r is = glob_of_cases word r (strip_prefix_char 33 word.now r is (lit< tt))
