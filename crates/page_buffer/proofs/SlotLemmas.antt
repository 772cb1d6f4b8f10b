-- Slots and pushes: what is spaced comes of pushes, and what comes of pushes is spaced.
use Rattle.std.proofs.Common.{◌≡◌, ℕ, zero, suc, ◌+◌, ◌-◌, ◌*◌, ◌<◌, ◌≤◌, ◌^◌, Bool, true, false, ◌&&◌, List, [], ◌∷◌, ◌++◌, length, drop, replicate, Some, refl, sym, ap, ◌∙◌, subst, arith}
use Rattle.std.proofs.Math.Nat.{mul-le-mul_right}
use Rattle.std.proofs.lemmas.List.{append-nil, append_assoc, length-append, length-replicate, replicate_more, drop_more}
use Rattle.std.proofs.lemmas.Option.{slice_get_within, get_or_from_slice_get}
use Rattle.std.proofs.lemmas.Bool.{and_parts, and_from, ltb-true, lt-ltb, le-ltb, eqb-true}
use Rattle.std.specs.Prelude.{nat_lt, slice_get}
use Rattle.page_buffer.specs.Page.{page_of}
use Rattle.page_buffer.specs.Slots.{spaced, AreSlots, Skips, HasRoom, reach, IsPushed, none, more}

-- every place's moment is below 2^32 where the last one's is
pub before_end : (first step last place : ℕ) → place ≤ last → first + last * step < 2 ^ 32 → first + place * step < 2 ^ 32
before_end first step last place earlier ends = let grown = mul-le-mul_right step earlier in omega (arith, grown, ends)

abbrev zeros : ℕ → List ℕ
zeros n = replicate n 0

module _ (series first step : ℕ) where
  -- slots before the rest, of which the last so many are empty
  abbrev joined : List ℕ → ℕ → List ℕ → List ℕ
  joined words empty rest = words ++ (zeros empty ++ rest)

  joined-empty : (words : List ℕ) (empty : ℕ) (rest : List ℕ) → joined words (empty + 1) rest ≡ joined words empty (0 ∷ rest)
  joined-empty words empty rest =
      ap (λ (some : List ℕ). words ++ (some ++ rest)) (sym (replicate_more {X = ℕ} empty 0))
      ∙ ap (λ (ws : List ℕ). words ++ ws) (append_assoc (zeros empty) (0 ∷ []) rest)

  joined-word : (words : List ℕ) (empty word : ℕ) (rest : List ℕ) → joined words empty (word ∷ []) ++ rest ≡ joined words empty (word ∷ rest)
  joined-word words empty word rest =
      append_assoc words (zeros empty ++ word ∷ []) rest ∙ ap (λ (ws : List ℕ). words ++ ws) (append_assoc (zeros empty) (word ∷ []) rest)

  length-joined : (words : List ℕ) (empty : ℕ) (rest : List ℕ) → length (joined words empty rest) ≡ length words + empty + length rest
  length-joined words empty rest =
      let outer = length-append words (zeros empty ++ rest) in let inner = length-append (zeros empty) rest in
      let none = length-replicate {A = ℕ} empty 0 in omega (arith, outer, inner, none)

  abbrev Fits : ℕ → Type 0
  Fits len = (len ≤ 1024) × (first + (len - 1) * step < 2 ^ 32)

  -- one push more
  pushed : (words : List ℕ) (empty word rest : ℕ) → empty < reach (length words) → IsPushed series first step words
      → Fits (length words + empty + suc rest) → IsPushed series first step (joined words empty (suc word ∷ []))
  pushed words empty word rest near was fits =
      let moment : ℕ = first + (length words + empty) * step in
      let in_time : moment < 2 ^ 32 = before_end first step (length words + empty + suc rest - 1) (length words + empty) (omega arith) fits.1 in
      more words moment empty (suc word) was (omega arith) in_time (near, refl) (omega (arith, fits.0))

  pushes_from : (w : ℕ) (ws : List ℕ) (empty : ℕ) (rest : List ℕ) → spaced empty rest ≡ true → empty ≤ 6 → IsPushed series first step (w ∷ ws)
      → Fits (length (w ∷ ws) + empty + length rest) → IsPushed series first step (joined (w ∷ ws) empty rest)
  pushes_from w ws empty [] sp few was fits =
      let no_more : empty ≡ 0 = eqb-true empty 0 sp in
      subst (λ (e : ℕ). IsPushed series first step (joined (w ∷ ws) e [])) (sym no_more)
      (subst (λ (l : List ℕ). IsPushed series first step l) (sym (append-nil (w ∷ ws))) was)
  pushes_from w ws empty (zero ∷ rest) sp few was fits =
      let parts = and_parts (nat_lt empty 6) (spaced (empty + 1) rest) sp in let less = ltb-true empty 6 parts.0 in
      subst (λ (l : List ℕ). IsPushed series first step l) (joined-empty (w ∷ ws) empty rest)
      (pushes_from w ws (empty + 1) rest parts.1 (omega (arith, less)) was
      (subst Fits (let e : length (w ∷ ws) + empty + length (zero ∷ rest) ≡ length (w ∷ ws) + (empty + 1) + length rest = omega arith in e) fits))
  pushes_from w ws empty (suc v ∷ rest) sp few was fits =
      let ws' : List ℕ = ws ++ (zeros empty ++ suc v ∷ []) in
      let now : IsPushed series first step (w ∷ ws') = pushed (w ∷ ws) empty v (length rest) (omega (arith, few)) was fits in
      let long = length-joined (w ∷ ws) empty (suc v ∷ []) in
      subst (λ (l : List ℕ). IsPushed series first step l) (joined-word (w ∷ ws) empty (suc v) rest)
      (pushes_from w ws' 0 rest sp (omega arith) now
      (subst Fits (let e : length (w ∷ ws) + empty + length (suc v ∷ rest) ≡ length (w ∷ ws') + 0 + length rest = omega (arith, long) in e) fits))

  pub slots-pushed : (words : List ℕ) → AreSlots first step words → IsPushed series first step words
  slots-pushed [] are = none
  slots-pushed (zero ∷ rest) are = absurd (let sp : (nat_lt 6 6 && spaced 7 rest) ≡ true = are.1 (omega arith) in cc)
  slots-pushed (suc v ∷ rest) are =
      let fits : Fits (0 + 0 + suc (length rest)) =
      (let len = are.0 in omega (arith, len), subst (λ (k : ℕ). first + k * step < 2 ^ 32) (let e : length (suc v ∷ rest) - 1 ≡ 0 + 0 + suc (length rest) - 1 = omega arith in e) (are.2 (omega arith))) in
      let one : IsPushed series first step (suc v ∷ []) = pushed [] 0 v (length rest) (omega arith) none fits in
      pushes_from (suc v) [] 0 rest (are.1 (omega arith)) (omega arith) one
      (subst Fits (let e : 0 + 0 + suc (length rest) ≡ length (suc v ∷ []) + 0 + length rest = omega arith in e) fits)

  -- after so many empty slots, so many more and a word
  spaced-zeros : (before empty word : ℕ) → before + empty ≤ 6 → spaced before (zeros empty ++ suc word ∷ []) ≡ true
  spaced-zeros before zero word few = refl
  spaced-zeros before (suc empty) word few =
      and_from (nat_lt before 6) (spaced (before + 1) (zeros empty ++ suc word ∷ [])) (lt-ltb before 6 (omega (arith, few))) (spaced-zeros (before + 1) empty word (omega (arith, few)))

  spaced-push : (before : ℕ) (words : List ℕ) (empty word : ℕ) → empty < 7 → spaced before words ≡ true → spaced before (joined words empty (suc word ∷ [])) ≡ true
  spaced-push before [] empty word few sp =
      let no_more : before ≡ 0 = eqb-true before 0 sp in spaced-zeros before empty word (omega (arith, few, no_more))
  spaced-push before (zero ∷ words) empty word few sp =
      let parts = and_parts (nat_lt before 6) (spaced (before + 1) words) sp in
      and_from (nat_lt before 6) (spaced (before + 1) (joined words empty (suc word ∷ []))) parts.0 (spaced-push (before + 1) words empty word few parts.1)
  spaced-push before (suc v ∷ words) empty word few sp = spaced-push 0 words empty word few sp

  -- the first push, and a later one
  first-spaced : (words : List ℕ) (empty word : ℕ) → empty < reach (length words) → (0 < length words → spaced 6 words ≡ true) → spaced 6 (joined words empty (suc word ∷ [])) ≡ true
  first-spaced [] zero word near sp = refl
  first-spaced [] (suc empty) word near sp = absurd (omega (arith, near))
  first-spaced (w ∷ ws) empty word near sp = spaced-push 6 (w ∷ ws) empty word near (sp (omega arith))

  pub one_more : (words : List ℕ) (moment empty word : ℕ) → AreSlots first step words → 0 < word → moment < 2 ^ 32
      → Skips (page_of series first step words) moment empty → HasRoom (page_of series first step words) empty → AreSlots first step (joined words empty (word ∷ []))
  one_more words moment empty zero are some in_time skips room = absurd (omega (arith, some))
  one_more words moment empty (suc word) are some in_time skips room =
      let long = length-joined words empty (suc word ∷ []) in
      let last : first + (length (joined words empty (suc word ∷ [])) - 1) * step ≡ moment =
      ap (λ (k : ℕ). first + k * step) (let e : length (joined words empty (suc word ∷ [])) - 1 ≡ length words + empty = omega (arith, long) in e) ∙ sym skips.1 in
      (omega (arith, long, room), (λ _. first-spaced words empty word skips.0 are.1), λ _. subst (λ (m : ℕ). m < 2 ^ 32) (sym last) in_time)

  pub pushed-slots : (words : List ℕ) → IsPushed series first step words → AreSlots first step words
  pushed-slots ws none = (omega arith, (λ h. absurd (omega (arith, h))), λ h. absurd (omega (arith, h)))
  pushed-slots ws (more words moment empty word was some in_time skips room) = one_more words moment empty word (pushed-slots words was) some in_time skips room

-- the words from a place on
drop_is : (words : List ℕ) (place word : ℕ) → slice_get words place ≡ Some word → drop place words ≡ word ∷ drop (place + 1) words
drop_is words place word got =
    drop_more words place word (slice_get_within words place word got)
    ∙ ap (λ (w : ℕ). w ∷ drop (place + 1) words) (get_or_from_slice_get words place word word got)

pub empty_next : (before place : ℕ) (words : List ℕ) (word : ℕ) → slice_get words place ≡ Some word → word ≡ 0
    → spaced before (drop place words) ≡ (nat_lt before 6 && spaced (before + 1) (drop (place + 1) words))
empty_next before place words word got is_zero = ap (spaced before) (drop_is words place word got ∙ ap (λ (w : ℕ). w ∷ drop (place + 1) words) is_zero)

pub point_next : (before place : ℕ) (words : List ℕ) (word : ℕ) → slice_get words place ≡ Some word → (word ≡ 0 → ⊥)
    → spaced before (drop place words) ≡ spaced 0 (drop (place + 1) words)
point_next before place words zero got some = absurd (some refl)
point_next before place words (suc word) got some = ap (spaced before) (drop_is words place (suc word) got)

pub empty_ends : (before : ℕ) (rest : List ℕ) → 6 ≤ before → (nat_lt before 6 && spaced (before + 1) rest) ≡ false
empty_ends before rest many = ap (λ (b : Bool). b && spaced (before + 1) rest) (le-ltb before 6 many)

pub empty_goes_on : (before : ℕ) (rest : List ℕ) → before < 6 → (nat_lt before 6 && spaced (before + 1) rest) ≡ spaced (before + 1) rest
empty_goes_on before rest few = ap (λ (b : Bool). b && spaced (before + 1) rest) (lt-ltb before 6 few)

-- pushes of empty slots, and then of a word
pub word_behind : (old between new : List ℕ) (empty word : ℕ) → between ≡ old ++ replicate empty 0 → new ≡ between ++ word ∷ []
    → new ≡ old ++ (replicate empty 0 ++ word ∷ [])
word_behind old between new empty word first last = last ∙ ap (λ (ws : List ℕ). ws ++ word ∷ []) first ∙ append_assoc old (zeros empty) (word ∷ [])

pub one_zero_more : (old between new : List ℕ) (empty : ℕ) → between ≡ old ++ replicate empty 0 → new ≡ between ++ 0 ∷ [] → new ≡ old ++ replicate (empty + 1) 0
one_zero_more old between new empty first last =
    last ∙ ap (λ (ws : List ℕ). ws ++ 0 ∷ []) first ∙ append_assoc old (zeros empty) (0 ∷ []) ∙ ap (λ (ws : List ℕ). old ++ ws) (replicate_more {X = ℕ} empty 0)

pub with_zeros_length : (old between : List ℕ) (empty : ℕ) → between ≡ old ++ replicate empty 0 → length between ≡ length old + empty
with_zeros_length old between empty is =
    let all = ap length is in let parts = length-append old (zeros empty) in let none = length-replicate {A = ℕ} empty 0 in omega (arith, all, parts, none)
