-- Pushes into an empty page give it the slots, or the records, of a page.
use Rattle.std.proofs.Common.{◌≡◌, ℕ, zero, suc, ◌+◌, ◌-◌, ◌*◌, ◌<◌, ◌≤◌, ◌^◌, true, List, [], ◌∷◌, ◌++◌, length, take, drop, replicate, get_or, Result, Ok, Err, refl, sym, ap, ◌∙◌, subst, inl, inr, arith}
use Rattle.std.proofs.Math.Nat.{mul-le-mul_right}
use Rattle.std.proofs.lemmas.Bool.{and_parts, ltb-true, eqb-true, cases_order}
use Rattle.std.proofs.lemmas.List.{append-nil, append_assoc, length-append, length-replicate, length-take, replicate_more, drop_more, drop_all, take_all, take_more, nil_from_length}
use Rattle.std.specs.Prelude.{nat_lt, IsOk}
use Rattle.std.specs.Result.{OnOk}
use Rattle.page_buffer.specs.Page.{Page, page_of}
use Rattle.page_buffer.specs.Slots.{spaced, reach, with_point, HasRoom, Skips}
use Rattle.page_buffer.proofs.SlotLemmas.{before_end}

-- the moment of each place is below 2^32, where that of the last one is
pub in_time : (first step place count : ℕ) → place < count → (0 < count → first + (count - 1) * step < 2 ^ 32) → first + place * step < 2 ^ 32
in_time first step place count within ends =
    before_end first step (count - 1) place (omega (arith, within)) (ends (omega (arith, within)))

-- how many slots count as empty before the next one: behind none of a page no empty one may stand
pub gap : ℕ → ℕ → ℕ
gap zero empty = 6
gap (suc _) empty = empty

gap_below : (count empty : ℕ) → gap count empty < 6 → (0 < count) × (gap count empty ≡ empty)
unfolding gap
gap_below zero empty less = absurd (omega (arith, less))
gap_below (suc n) empty less = (omega arith, refl)

gap_some : (count empty : ℕ) → 0 < count → gap count empty ≡ empty
unfolding gap
gap_some zero empty some = absurd (omega (arith, some))
gap_some (suc n) empty some = refl

gap_none : (count empty : ℕ) → gap count empty ≡ 0 → (0 < count) × (empty ≡ 0)
unfolding gap
gap_none zero empty none = absurd (omega (arith, none))
gap_none (suc n) empty none = (omega arith, none)

-- so many of the words were taken: those that the page has, and empty slots behind them
pub record IsUpTo (items words : List ℕ) (place : ℕ) : Type 0 where
  pub empty : ℕ
  pub most : empty ≤ 6
  pub first : length items ≡ 0 → empty ≡ 0
  pub prefix : items ++ replicate empty 0 ≡ take place words
  pub rest : 0 < length words → spaced (gap (length items) empty) (drop place words) ≡ true

pub no_words : (words : List ℕ) → (0 < length words → spaced 6 words ≡ true) → IsUpTo [] words 0
unfolding gap
no_words words spread = record { empty = 0; most = omega arith; first = λ _. refl; prefix = refl; rest = spread }

spaced_empty : (before : ℕ) (rest : List ℕ) → spaced before (0 ∷ rest) ≡ true → (before < 6) × (spaced (before + 1) rest ≡ true)
spaced_empty before rest spread =
    let parts = and_parts (nat_lt before 6) (spaced (before + 1) rest) spread in (ltb-true before 6 parts.0, parts.1)

spaced_word : (before word : ℕ) (rest : List ℕ) → 0 < word → spaced before (word ∷ rest) ≡ true → spaced 0 rest ≡ true
spaced_word before zero rest some spread = absurd (omega (arith, some))
spaced_word before (suc word) rest some spread = spread

-- an empty slot more
pub empty_slot : (items words : List ℕ) (place : ℕ) → place < length words → get_or words place 0 ≡ 0 → IsUpTo items words place → IsUpTo items words (place + 1)
empty_slot items words place within none up =
    let some : 0 < length words = omega (arith, within) in
    let ahead : drop place words ≡ 0 ∷ drop (place + 1) words = drop_more words place 0 within ∙ ap (λ (w : ℕ). w ∷ drop (place + 1) words) none in
    let parts = spaced_empty (gap (length items) up.empty) (drop (place + 1) words) (subst (λ (l : List ℕ). spaced (gap (length items) up.empty) l ≡ true) ahead (up.rest some)) in
    let is = gap_below (length items) up.empty parts.0 in
    let few = parts.0 in let same = is.1 in let filled = is.0 in
    let next : gap (length items) up.empty + 1 ≡ gap (length items) (up.empty + 1) = ap (λ (n : ℕ). n + 1) is.1 ∙ sym (gap_some (length items) (up.empty + 1) is.0) in
    record {
      empty = up.empty + 1;
      most = omega (arith, few, same);
      first = λ nothing. absurd (omega (arith, nothing, filled));
      prefix =
          ap (λ (z : List ℕ). items ++ z) (sym (replicate_more up.empty 0)) ∙ sym (append_assoc items (replicate up.empty 0) (0 ∷ []))
          ∙ ap (λ (l : List ℕ). l ++ 0 ∷ []) up.prefix ∙ ap (λ (w : ℕ). take place words ++ w ∷ []) (sym none) ∙ sym (take_more words place 0 within);
      rest = λ _. subst (λ (n : ℕ). spaced n (drop (place + 1) words) ≡ true) next parts.1;
    }

-- how many slots there are so far
pub count_up : (items words : List ℕ) (place : ℕ) → place ≤ length words → (up : IsUpTo items words place) → length items + up.empty ≡ place
count_up items words place within up =
    let sizes = ap length up.prefix in let joined = length-append items (replicate up.empty 0) in let zeros = length-replicate {A = ℕ} up.empty 0 in let cut = length-take place words in
    omega (arith, sizes, joined, zeros, cut, within)

-- a point more
pub word_slot : (items words : List ℕ) (place empty word : ℕ) → place < length words → get_or words place 0 ≡ word → 0 < word → (up : IsUpTo items words place)
    → empty ≡ up.empty → IsUpTo (items ++ (replicate empty 0 ++ word ∷ [])) words (place + 1)
word_slot items words place empty word within is some up same =
    let any : 0 < length words = omega (arith, within) in
    let ahead : drop place words ≡ word ∷ drop (place + 1) words = drop_more words place 0 within ∙ ap (λ (w : ℕ). w ∷ drop (place + 1) words) is in
    let spread = spaced_word (gap (length items) up.empty) word (drop (place + 1) words) some (subst (λ (l : List ℕ). spaced (gap (length items) up.empty) l ≡ true) ahead (up.rest any)) in
    let outer = length-append items (replicate empty 0 ++ word ∷ []) in let inner = length-append (replicate empty 0) (word ∷ []) in
    let filled : 0 < length (items ++ (replicate empty 0 ++ word ∷ [])) = omega (arith, outer, inner) in
    record {
      empty = 0;
      most = omega arith;
      first = λ _. refl;
      prefix =
          append-nil (items ++ (replicate empty 0 ++ word ∷ [])) ∙ sym (append_assoc items (replicate empty 0) (word ∷ []))
          ∙ ap (λ (n : ℕ). (items ++ replicate n 0) ++ word ∷ []) same
          ∙ ap (λ (l : List ℕ). l ++ word ∷ []) up.prefix ∙ ap (λ (w : ℕ). take place words ++ w ∷ []) (sym is) ∙ sym (take_more words place 0 within);
      rest = λ _. subst (λ (n : ℕ). spaced n (drop (place + 1) words) ≡ true) (sym (gap_some (length (items ++ (replicate empty 0 ++ word ∷ []))) 0 filled)) spread;
    }

-- all words are in the page
pub all_words : (items words : List ℕ) → IsUpTo items words (length words) → items ≡ words
all_words items [] up =
    let sizes = ap length up.prefix in let joined = length-append items (replicate up.empty 0) in
    nil_from_length items (omega (arith, sizes, joined))
all_words items (word ∷ words) up =
    let end : drop (length (word ∷ words)) (word ∷ words) ≡ [] = drop_all (length (word ∷ words)) (word ∷ words) (omega arith) in
    let spread : spaced (gap (length items) up.empty) [] ≡ true = subst (λ (l : List ℕ). spaced (gap (length items) up.empty) l ≡ true) end (up.rest (omega arith)) in
    let none = gap_none (length items) up.empty (eqb-true (gap (length items) up.empty) 0 spread) in
    sym (append-nil items) ∙ ap (λ (n : ℕ). items ++ replicate n 0) (sym none.1) ∙ up.prefix ∙ take_all (length (word ∷ words)) (word ∷ words) (omega arith)

reached : (count empty : ℕ) → empty ≤ 6 → (count ≡ 0 → empty ≡ 0) → empty < reach count
reached zero empty most none = let e = none refl in omega (arith, e)
reached (suc n) empty most none = omega (arith, most)

-- the next point is as many steps ahead as slots are empty before it
pub skips_up : (page : Page ℕ) (words : List ℕ) (place moment : ℕ) → place ≤ length words → (up : IsUpTo page.items words place)
    → moment ≡ page.first + place * page.step → Skips page moment up.empty
skips_up page words place moment within up is =
    let count = count_up page.items words place within up in
    (reached (length page.items) up.empty up.most up.first, is ∙ ap (λ (n : ℕ). page.first + n * page.step) (sym count))

-- a moment leaves one number of slots empty
less_empty : (first step count one other : ℕ) → 0 < step → one < other → first + (count + one) * step ≡ first + (count + other) * step → ⊥
less_empty first step count one other some less same =
    let grown = mul-le-mul_right step (let more : count + one + 1 ≤ count + other = omega (arith, less) in more) in
    omega (arith, grown, same, some)

pub one_skip : (page : Page ℕ) (moment one other : ℕ) → 0 < page.step → Skips page moment one → Skips page moment other → one ≡ other
one_skip page moment one other some first second =
    let same : page.first + (length page.items + one) * page.step ≡ page.first + (length page.items + other) * page.step = sym first.1 ∙ second.1 in
    elim (cases_order one other) [
      | inl is ↦ is
      | inr (inl less) ↦ absurd (less_empty page.first page.step (length page.items) one other some less same)
      | inr (inr more) ↦ absurd (less_empty page.first page.step (length page.items) other one some more (sym same))
    ]

ok_of : {T E P : Type 0} (result : Result T E) → IsOk result → OnOk result P → P
ok_of (Ok value) is held = held
ok_of (Err fault) is held = absurd cc

-- the push of a word that is not 0
pub pushed_word : {T E : Type 0} (series first step : ℕ) (page new : Page ℕ) (words : List ℕ) (place word moment : ℕ) (result : Result T E)
    → page ≡ page_of series first step page.items → IsUpTo page.items words place → length words ≤ 1024 → place < length words → get_or words place 0 ≡ word → 0 < word → 0 < step
    → moment ≡ first + place * step
    → ((empty : ℕ) → Skips page moment empty → HasRoom page empty → IsOk result)
    → OnOk result ((empty : ℕ) × Skips page moment empty × HasRoom page empty × (new ≡ with_point page empty word))
    → (new ≡ page_of series first step new.items) × IsUpTo new.items words (place + 1)
pushed_word series first step page new words place word moment result whole up most within is some steps at succeeds ok =
    let starts : page.first ≡ first = ap (λ (p : Page ℕ). p.first) whole in
    let goes : page.step ≡ step = ap (λ (p : Page ℕ). p.step) whole in
    let here : moment ≡ page.first + place * page.step = at ∙ ap (λ (n : ℕ). n + place * step) (sym starts) ∙ ap (λ (n : ℕ). page.first + place * n) (sym goes) in
    let skips = skips_up page words place moment (omega (arith, within)) up here in
    let count = count_up page.items words place (omega (arith, within)) up in
    let done = ok_of result (succeeds up.empty skips (omega (arith, count, within, most))) ok in
    let same = one_skip page moment done.0 up.empty (omega (arith, goes, steps)) done.1 skips in
    let items : new.items ≡ page.items ++ (replicate done.0 0 ++ word ∷ []) = ap (λ (p : Page ℕ). p.items) done.3 in
    let grown : new ≡ page_of series first step (page.items ++ (replicate done.0 0 ++ word ∷ [])) =
    done.3 ∙ ap (λ (p : Page ℕ). page_of p.series p.first p.step (page.items ++ (replicate done.0 0 ++ word ∷ []))) whole in (
      grown ∙ ap (λ (l : List ℕ). page_of series first step l) (sym items),
      subst (λ (l : List ℕ). IsUpTo l words (place + 1)) (sym items) (word_slot page.items words place done.0 word within is some up same),
    )
