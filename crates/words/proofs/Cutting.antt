use Rattle.std.proofs.Common.{◌≡◌, ◌==◌, ◌<◌, ◌≤◌, ℕ, suc, ◌+◌, Bool, true, false, cond, not, List, [], ◌∷◌, ◌++◌, length, take, drop, get_or, refl, sym, ap, ◌∙◌, arith, append_assoc, one-add, add-one, add-zero, nat_lt, position, Some, None, ◌-◌, subst}
use Rattle.std.proofs.lemmas.Bool.Decides.{nat_tests}
use Rattle.std.proofs.lemmas.List.{append-nil, length-drop, get_or-drop}
use Rattle.std.proofs.lemmas.List.Sums.{prefix_len_stops}
use Rattle.std.proofs.lemmas.Option.{none-some}
use Rattle.std.specs.List.{position_or_len, prefix_len}
use Rattle.words.specs.Words.{Place, words, words_from, has_open_quote, is_open_from, rest_from, is_separator, is_quote, Between, Bare, Quoted}
use Rattle.words.specs.Cut.{Cuts, StaysOpen}
use Rattle.words.proofs.Behind.{rest_from-bare, rest_from-quoted}
use Rattle.words.proofs.Places.{place_behind-separator, place_behind-bare, place_behind-quote}

-- the bytes from one place on read as other bytes do from another
pub record ReadsAs (place : Place) (bytes : List ℕ) (place' : Place) (bytes' : List ℕ) : Type 0 where
  pub all : words_from place bytes ≡ words_from place' bytes'
  pub open_quote : is_open_from place bytes ≡ is_open_from place' bytes'

-- the bytes from a place on complete this word, and go on with a rest
pub record Completes (place : Place) (bytes word rest : List ℕ) : Type 0 where
  pub all : words_from place bytes ≡ word ∷ words rest
  pub open_quote : is_open_from place bytes ≡ has_open_quote rest

-- two places that are one
pub ReadsAs-place : (bytes : List ℕ) (place place' : Place) → place ≡ place' → ReadsAs place bytes place' bytes
ReadsAs-place bytes place place' e = record { all = ap (λ p. words_from p bytes) e; open_quote = ap (λ p. is_open_from p bytes) e }

-- the separators that a line begins with say nothing
drop_separators_step : (byte n : ℕ) (bytes : List ℕ) (b : Bool) → is_separator byte ≡ b → ReadsAs Between (drop n bytes) Between bytes → ReadsAs Between (drop (cond b (1 + n) 0) (byte ∷ bytes)) Between (byte ∷ bytes)
drop_separators_step byte n bytes true e rest =
    let same = ReadsAs-place bytes _ _ (place_behind-separator byte e) in
    rw one-add (record { all = rest.all ∙ sym same.all; open_quote = rest.open_quote ∙ sym same.open_quote })
drop_separators_step byte n bytes false e rest = record { all = refl; open_quote = refl }

pub drop_separators : (line : List ℕ) → ReadsAs Between (drop (prefix_len is_separator line) line) Between line
drop_separators [] = record { all = refl; open_quote = refl }
drop_separators (byte ∷ bytes) = drop_separators_step byte _ bytes _ refl (drop_separators bytes)

-- a byte ends a word, or stands in it
bare_ends : (word : List ℕ) (byte : ℕ) (bytes : List ℕ) → is_separator byte ≡ true → Completes (Bare word) (byte ∷ bytes) word bytes
bare_ends word byte bytes e = record {
  all = ap (λ b. cond b (word ∷ words bytes) (words_from (Bare (word ++ byte ∷ [])) bytes)) e;
  open_quote = ap (λ b. cond b (has_open_quote bytes) (is_open_from (Bare (word ++ byte ∷ [])) bytes)) e;
}

bare_goes_on : (word : List ℕ) (byte : ℕ) (bytes : List ℕ) → is_separator byte ≡ false → ReadsAs (Bare word) (byte ∷ bytes) (Bare (word ++ byte ∷ [])) bytes
bare_goes_on word byte bytes e = record {
  all = ap (λ b. cond b (word ∷ words bytes) (words_from (Bare (word ++ byte ∷ [])) bytes)) e;
  open_quote = ap (λ b. cond b (has_open_quote bytes) (is_open_from (Bare (word ++ byte ∷ [])) bytes)) e;
}

pub quoted_ends : (quote : ℕ) (word : List ℕ) (byte : ℕ) (bytes : List ℕ) → (byte == quote) ≡ true → Completes (Quoted quote word) (byte ∷ bytes) word bytes
quoted_ends quote word byte bytes e = record {
  all = ap (λ b. cond b (word ∷ words bytes) (words_from (Quoted quote (word ++ byte ∷ [])) bytes)) e;
  open_quote = ap (λ b. cond b (has_open_quote bytes) (is_open_from (Quoted quote (word ++ byte ∷ [])) bytes)) e;
}

pub quoted_goes_on : (quote : ℕ) (word : List ℕ) (byte : ℕ) (bytes : List ℕ) → (byte == quote) ≡ false → ReadsAs (Quoted quote word) (byte ∷ bytes) (Quoted quote (word ++ byte ∷ [])) bytes
quoted_goes_on quote word byte bytes e = record {
  all = ap (λ b. cond b (word ∷ words bytes) (words_from (Quoted quote (word ++ byte ∷ [])) bytes)) e;
  open_quote = ap (λ b. cond b (has_open_quote bytes) (is_open_from (Quoted quote (word ++ byte ∷ [])) bytes)) e;
}

-- one more byte of a word, before what completes it
pub one_more : (place place' : Place) (word : List ℕ) (byte : ℕ) (bytes bytes' more rest : List ℕ) → ReadsAs place bytes place' bytes'
    → Completes place' bytes' ((word ++ byte ∷ []) ++ more) rest → Completes place bytes (word ++ byte ∷ more) rest
one_more place place' word byte bytes bytes' more rest on then = record {
  all = on.all ∙ then.all ∙ ap (λ w. w ∷ words rest) (append_assoc word (byte ∷ []) more);
  open_quote = on.open_quote ∙ then.open_quote;
}

-- a word that began with no quote is what stands before the next separator
bare_step : (word : List ℕ) (byte n : ℕ) (bytes : List ℕ) (b : Bool) → is_separator byte ≡ b
    → Completes (Bare (word ++ byte ∷ [])) bytes ((word ++ byte ∷ []) ++ take n bytes) (drop n bytes)
    → Completes (Bare word) (byte ∷ bytes) (word ++ take (cond (not b) (1 + n) 0) (byte ∷ bytes)) (drop (cond (not b) (1 + n) 0) (byte ∷ bytes))
bare_step word byte n bytes true e rest =
    let ended = bare_ends word byte bytes e in
    let same = ReadsAs-place bytes _ _ (place_behind-separator byte e) in
    rw append-nil (record { all = ended.all ∙ ap (λ more. word ∷ more) (sym same.all); open_quote = ended.open_quote ∙ sym same.open_quote })
bare_step word byte n bytes false e rest =
    rw one-add (one_more _ _ word byte (byte ∷ bytes) bytes _ _ (bare_goes_on word byte bytes e) rest)

bare : (word bytes : List ℕ) → let n = position_or_len is_separator bytes in Completes (Bare word) bytes (word ++ take n bytes) (drop n bytes)
bare word [] = record { all = ap (λ w. w ∷ []) (sym (append-nil word)); open_quote = refl }
bare word (byte ∷ bytes) = bare_step word byte _ bytes _ refl (bare (word ++ byte ∷ []) bytes)

-- a word that began with a quote is what stands before the next such quote
abbrev quote_place : ℕ → List ℕ → ℕ
quote_place quote bytes = position_or_len (λ byte. byte == quote) bytes

quoted_step : (quote : ℕ) (word : List ℕ) (byte n : ℕ) (bytes : List ℕ) (b : Bool) → (byte == quote) ≡ b
    → (n < length bytes → Completes (Quoted quote (word ++ byte ∷ [])) bytes ((word ++ byte ∷ []) ++ take n bytes) (drop (suc n) bytes))
    → cond (not b) (1 + n) 0 < length (byte ∷ bytes)
    → Completes (Quoted quote word) (byte ∷ bytes) (word ++ take (cond (not b) (1 + n) 0) (byte ∷ bytes)) (drop (suc (cond (not b) (1 + n) 0)) (byte ∷ bytes))
quoted_step quote word byte n bytes true e rest within = rw append-nil (quoted_ends quote word byte bytes e)
quoted_step quote word byte n bytes false e rest within =
    rw one-add (one_more _ _ word byte (byte ∷ bytes) bytes _ _ (quoted_goes_on quote word byte bytes e) (rest (omega arith)))

quoted : (quote : ℕ) (word bytes : List ℕ) → quote_place quote bytes < length bytes → Completes (Quoted quote word) bytes (word ++ take (quote_place quote bytes) bytes) (drop (suc (quote_place quote bytes)) bytes)
quoted quote word [] within = absurd (omega arith)
quoted quote word (byte ∷ bytes) within = quoted_step quote word byte _ bytes _ refl (quoted quote (word ++ byte ∷ []) bytes) within

-- where no such quote follows, the word is not complete
record LeavesOpen (place : Place) (bytes : List ℕ) : Type 0 where
  none : words_from place bytes ≡ []
  open_quote : is_open_from place bytes ≡ true

stays_open_step : (quote : ℕ) (word : List ℕ) (byte n : ℕ) (bytes : List ℕ) (b : Bool) → (byte == quote) ≡ b
    → (length bytes ≤ n → LeavesOpen (Quoted quote (word ++ byte ∷ [])) bytes)
    → length (byte ∷ bytes) ≤ cond (not b) (1 + n) 0
    → LeavesOpen (Quoted quote word) (byte ∷ bytes)
stays_open_step quote word byte n bytes true e rest past = absurd (omega arith)
stays_open_step quote word byte n bytes false e rest past =
    let on = quoted_goes_on quote word byte bytes e in
    let left = rest (omega arith) in
    record { none = on.all ∙ left.none; open_quote = on.open_quote ∙ left.open_quote }

stays_open : (quote : ℕ) (word bytes : List ℕ) → length bytes ≤ quote_place quote bytes → LeavesOpen (Quoted quote word) bytes
stays_open quote word [] past = record { none = refl; open_quote = refl }
stays_open quote word (byte ∷ bytes) past = stays_open_step quote word byte _ bytes _ refl (stays_open quote (word ++ byte ∷ []) bytes) past

-- the first word of a text that begins with a bare one
bare_cut_step : (byte n : ℕ) (bytes : List ℕ) → is_separator byte ≡ false → is_quote byte ≡ false
    → Completes (Bare (byte ∷ [])) bytes (byte ∷ take n bytes) (drop n bytes)
    → rest_from (Bare (byte ∷ [])) bytes ≡ drop n bytes
    → Cuts (byte ∷ bytes) (take (cond (not (is_separator byte)) (1 + n) 0) (byte ∷ bytes)) (drop (cond (not (is_separator byte)) (1 + n) 0) (byte ∷ bytes))
bare_cut_step byte n bytes s q rest left =
    let same = ReadsAs-place bytes _ _ (place_behind-bare byte s q) in
    let behind = ap (λ p. rest_from p bytes) (place_behind-bare byte s q) in
    rw (s, one-add) (record { first = same.all ∙ rest.all; open_quote = sym (same.open_quote ∙ rest.open_quote); behind = behind ∙ left; end = record { from = suc n; is = refl } })

bare_cut_at : (text : List ℕ) → 0 < length text → is_separator (get_or text 0 0) ≡ false → is_quote (get_or text 0 0) ≡ false
    → Cuts text (take (position_or_len is_separator text) text) (drop (position_or_len is_separator text) text)
bare_cut_at [] some s q = absurd (omega arith)
bare_cut_at (byte ∷ bytes) some s q = bare_cut_step byte _ bytes s q (bare (byte ∷ []) bytes) (rest_from-bare (byte ∷ []) bytes)

pub bare_cut : (text word rest : List ℕ) (n : ℕ) → 0 < length text → is_separator (get_or text 0 0) ≡ false → is_quote (get_or text 0 0) ≡ false
    → n ≡ position_or_len is_separator text → word ≡ take n text → rest ≡ drop n text → Cuts text word rest
bare_cut text word rest n some s q place w r = rw (w, r, place) (bare_cut_at text some s q)

position_found : (m n all : ℕ) (b : Bool) → nat_lt m all ≡ b → Some n ≡ cond b (Some m) None → (n ≡ m) × (n < all)
position_found m n all true t e =
    let same : n ≡ m = cc in
    (same, grind (arith, nat_tests))
position_found m n all false t e = absurd (none-some n (sym e))

position_missing : (m all : ℕ) (b : Bool) → nat_lt m all ≡ b → None ≡ cond b (Some m) None → all ≤ m
position_missing m all true t e = absurd (none-some m e)
position_missing m all false t e = grind (arith, nat_tests)

-- the first word of a text that begins with a quote
quoted_cut_at : (quote n : ℕ) (inside : List ℕ) → is_quote quote ≡ true → n ≡ quote_place quote inside → n < length inside
    → Cuts (quote ∷ inside) (take n inside) (drop (suc n) inside)
quoted_cut_at quote n inside q place within =
    let same = ReadsAs-place inside _ _ (place_behind-quote quote q) in
    let rest = quoted quote [] inside (omega arith) in
    let behind = ap (λ p. rest_from p inside) (place_behind-quote quote q) in
    let left = rest_from-quoted quote [] inside (omega arith) in
    rw place (record { first = same.all ∙ rest.all; open_quote = sym (same.open_quote ∙ rest.open_quote); behind = behind ∙ left; end = record { from = suc (suc (quote_place quote inside)); is = refl } })

pub quoted_cut : (text inside word rest : List ℕ) (quote n : ℕ) → 0 < length text → get_or text 0 0 ≡ quote → is_quote quote ≡ true → inside ≡ drop 1 text
    → Some n ≡ position (λ byte. byte == quote) inside → word ≡ take (n - 0) inside → rest ≡ drop (n + 1) inside → Cuts text word rest
quoted_cut [] inside word rest quote n some e q i place w r = absurd (omega arith)
quoted_cut (byte ∷ bytes) inside word rest quote n some e q i place w r =
    let at = position_found (quote_place quote inside) n (length inside) _ refl place in
    let start : n - 0 ≡ n = omega arith in
    rw (w, r, start, add-one) (subst (λ b. Cuts (b ∷ bytes) (take n inside) (drop (suc n) inside)) (sym e) (subst (λ bs. Cuts (quote ∷ bs) (take n inside) (drop (suc n) inside)) i (quoted_cut_at quote n inside q at.0 at.1)))

pub quoted_open : (text inside : List ℕ) (quote : ℕ) → 0 < length text → get_or text 0 0 ≡ quote → is_quote quote ≡ true → inside ≡ drop 1 text
    → None ≡ position (λ byte. byte == quote) inside → StaysOpen text
quoted_open [] inside quote some e q i place = absurd (omega arith)
quoted_open (byte ∷ bytes) inside quote some e q i place =
    let past = position_missing (quote_place quote inside) (length inside) _ refl place in
    let same = ReadsAs-place bytes _ _ (place_behind-quote byte (subst (λ b. is_quote b ≡ true) (sym e) q)) in
    let rest = stays_open quote [] inside past in
    let rest = subst (λ bs. LeavesOpen (Quoted quote []) bs) i rest in
    let rest = subst (λ b. LeavesOpen (Quoted b []) bytes) (sym e) rest in
    record { none = same.all ∙ rest.none; open_quote = same.open_quote ∙ rest.open_quote }

-- what stands behind the separators is none
pub first_stays : (line rest : List ℕ) (n : ℕ) → rest ≡ drop n line → n ≡ prefix_len is_separator line → 0 < length rest → is_separator (get_or rest 0 0) ≡ false
first_stays line rest n r place some =
    let len = ap length r ∙ length-drop n line in
    rw (r, get_or-drop, add-zero, place) (prefix_len_stops is_separator line 0 (omega arith))
