-- How the words of a text follow from those of its rest.
use Rattle.std.proofs.Common.{◌≡◌, ◌<◌, ◌≤◌, ℕ, zero, suc, ◌+◌, Bool, true, false, cond, not, List, [], ◌∷◌, length, ◌==◌, take, drop, get_or, filter, refl, sym, ap, ◌∙◌, subst, arith, one-add, add-one, add-zero, ⊎_elim, drop-cons}
use Rattle.std.proofs.lemmas.Bool.{cases_lt, not-false}
use Rattle.std.proofs.lemmas.Bool.Decides.{nat_tests}
use Rattle.std.proofs.lemmas.List.{length-drop, get_or-drop, take_all, drop_all}
use Rattle.std.proofs.lemmas.List.Elements.{All-from_get_or}
use Rattle.std.proofs.lemmas.List.Splits.{slice_split-cons_yes, slice_split_none, slice_split_first}
use Rattle.std.proofs.lemmas.List.Sums.{prefix_len_passes, prefix_len-le-length, prefix_len_stops, fails_before_first}
use Rattle.std.proofs.lemmas.Str.{IsCharBoundary-start, IsCharBoundary-after_ascii}
use Rattle.std.specs.List.{slice_split, onto_first, prefix_len, position_or_len}
use Rattle.std.specs.Str.{IsUtf8, IsCharBoundary}
use Rattle.simple_pattern.specs.Words.{is_separator, is_word, words}

separator_ascii : (commas : Bool) (byte : ℕ) → is_separator commas byte ≡ true → byte < 128
separator_ascii commas byte e = grind (arith, nat_tests)

module _ (commas : Bool) where
  boundary_step : (text : List ℕ) (n m : ℕ) → IsUtf8 text → n ≡ prefix_len (is_separator commas) text → n ≡ m + 1 → IsCharBoundary text n
  boundary_step text n m utf8 e after =
      let within = prefix_len-le-length (is_separator commas) text in
      let passes = prefix_len_passes (is_separator commas) text m 0 (omega arith) in
      subst (IsCharBoundary text) (sym after) (IsCharBoundary-after_ascii text m utf8 (omega arith) (separator_ascii commas _ passes))

  -- a text may be cut behind the separators that it begins with
  pub behind_separators : (text : List ℕ) (n : ℕ) → IsUtf8 text → n ≡ prefix_len (is_separator commas) text → IsCharBoundary text n
  behind_separators text zero utf8 e = IsCharBoundary-start text utf8
  behind_separators text (suc n) utf8 e = boundary_step text (suc n) n utf8 e (omega arith)

  -- a separator in front of a text makes no word
  words-separator : (byte : ℕ) (text : List ℕ) → is_separator commas byte ≡ true → words commas (byte ∷ text) ≡ words commas text
  words-separator byte text e = ap (filter is_word) (slice_split-cons_yes (is_separator commas) byte text e)

  words-drop_step : (byte n : ℕ) (text : List ℕ) (b : Bool) → is_separator commas byte ≡ b → words commas (drop n text) ≡ words commas text
      → words commas (drop (cond b (1 + n) 0) (byte ∷ text)) ≡ words commas (byte ∷ text)
  words-drop_step byte n text true e rest = rw one-add (rest ∙ sym (words-separator byte text e))
  words-drop_step byte n text false e rest = refl

  words-drop : (text : List ℕ) → words commas (drop (prefix_len (is_separator commas) text) text) ≡ words commas text
  words-drop [] = refl
  words-drop (byte ∷ text) = words-drop_step byte _ text _ refl (words-drop text)

  pub words-behind : (text rest : List ℕ) (n : ℕ) → rest ≡ drop n text → n ≡ prefix_len (is_separator commas) text → words commas rest ≡ words commas text
  words-behind text rest n is place = rw (is, place) (words-drop text)

  pub first_behind : (text rest : List ℕ) (n : ℕ) → rest ≡ drop n text → n ≡ prefix_len (is_separator commas) text → 0 < length rest → is_separator commas (get_or rest 0 0) ≡ false
  first_behind text rest n is place some =
      let len = ap length is ∙ length-drop n text in
      rw (is, get_or-drop, add-zero, place) (prefix_len_stops (is_separator commas) text 0 (omega arith))

  some_part : (text : List ℕ) (n : ℕ) → 0 < length text → 0 < n → is_word (take n text) ≡ true
  some_part [] n some far = absurd (omega arith)
  some_part (byte ∷ text) zero some far = absurd (omega arith)
  some_part (byte ∷ text) (suc n) some far = refl

  some_len : (text : List ℕ) → 0 < length text → is_separator commas (get_or text 0 0) ≡ false → 0 < position_or_len (is_separator commas) text
  some_len [] some first = absurd (omega arith)
  some_len (byte ∷ text) some first = rw first (omega arith)

  -- the first word, where a separator ends it
  word_ended : (text : List ℕ) → 0 < position_or_len (is_separator commas) text → position_or_len (is_separator commas) text < length text
      → let n = position_or_len (is_separator commas) text in words commas text ≡ take n text ∷ words commas (drop n text)
  word_ended text far within =
      let n = position_or_len (is_separator commas) text in
      let stop = not-false _ (prefix_len_stops (λ b. not (is_separator commas b)) text 0 within) in
      let behind : words commas (drop n text) ≡ words commas (drop (suc n) text) =
      ap (words commas) (drop-cons text n 0 within) ∙ words-separator (get_or text n 0) (drop (suc n) text) stop in
      ap (filter is_word) (slice_split_first (is_separator commas) text 0 within)
      ∙ ap (λ b. cond b (take n text ∷ words commas (drop (n + 1) text)) (words commas (drop (n + 1) text))) (some_part text n (omega arith) far)
      ∙ rw add-one (ap (λ more. take n text ∷ more) (sym behind))

  alone : (text : List ℕ) → 0 < length text → filter is_word (text ∷ []) ≡ text ∷ []
  alone [] some = absurd (omega arith)
  alone (byte ∷ text) some = refl

  -- the first word, where the text ends with it
  word_last : (text : List ℕ) (n : ℕ) → 0 < length text → n ≡ position_or_len (is_separator commas) text → length text ≤ n
      → words commas text ≡ take n text ∷ words commas (drop n text)
  word_last text n some place past =
      let none = All-from_get_or (λ b. is_separator commas b ≡ false) text 0 (λ k below. fails_before_first (is_separator commas) text k 0 (omega arith)) in
      let whole : take n text ≡ text = take_all n text past in
      let nothing : drop n text ≡ [] = drop_all n text past in
      rw (whole, nothing) (ap (filter is_word) (slice_split_none (is_separator commas) text none) ∙ alone text some)

  pub words-first : (text : List ℕ) (n : ℕ) → 0 < length text → is_separator commas (get_or text 0 0) ≡ false → n ≡ position_or_len (is_separator commas) text
      → words commas text ≡ take n text ∷ words commas (drop n text)
  words-first text n some first place =
      ⊎_elim (λ within. rw place (word_ended text (some_len text some first) (rw place at within))) (λ past. word_last text n some place past) (cases_lt n (length text))

  -- the first word of a text behind the separators that it begins with
  pub first_word_is : (text from word rest : List ℕ) (n : ℕ) → words commas from ≡ words commas text → (0 < length from → is_separator commas (get_or from 0 0) ≡ false)
      → false ≡ (length from == 0) → n ≡ position_or_len (is_separator commas) from → word ≡ take n from → rest ≡ drop n from
      → words commas text ≡ word ∷ words commas rest
  first_word_is text from word rest n same first not_empty place is_word is_rest =
      let some : 0 < length from = grind (arith, nat_tests) in
      rw (is_word, is_rest) (sym same ∙ words-first from n some (first some) place)

  len_step : (byte : ℕ) (parts : List (List ℕ)) (b : Bool) → length (filter is_word (cond b ([] ∷ parts) (onto_first byte parts))) ≤ length (filter is_word parts) + 1
  len_step byte parts true = omega arith
  len_step byte [] false = omega arith
  len_step byte ([] ∷ parts) false = omega arith
  len_step byte ((first ∷ part) ∷ parts) false = omega arith

  -- a text has at most as many words as bytes
  pub length-words : (text : List ℕ) → length (words commas text) ≤ length text
  length-words [] = omega arith
  length-words (byte ∷ text) = omega (arith, length-words text, len_step byte (slice_split (is_separator commas) text) (is_separator commas byte))
