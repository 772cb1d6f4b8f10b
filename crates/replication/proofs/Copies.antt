-- Copies stay copies, and what was true of a child stays true, over beats of any kind.
use Rattle.std.proofs.Common.{◌≡◌, ℕ, zero, suc, ◌==◌, ◌+◌, ◌-◌, ◌<◌, ◌≤◌, Bool, true, false, not, ◌&&◌, ◌||◌, ltb, leb, max, List, [], ◌∷◌, ◌++◌, length, take, inl, inr, refl, sym, ap, subst, ◌∙◌, arith, Some, None, slice_get}
use Rattle.std.specs.List.{AllByRecursion, list_any}
use Rattle.std.proofs.Math.Seq.{take-nil}
use Rattle.std.proofs.lemmas.List.{append-nil, take-take}
use Rattle.std.proofs.lemmas.List.Elements.{filter-append}
use Rattle.std.proofs.lemmas.List.Folds.{list_any-append}
use Rattle.std.proofs.lemmas.Bool.{cases_lt, cases_Bool, cond-true, cond-false, and_from, and_left, and_right, le-leb, lt-leb, lt-ltb, le-ltb, or_from, or_left, or_right, or_cases}
use Rattle.list_lemmas.proofs.Every.{all-append}
use Rattle.replication.specs.declared.gap.Gap.{Gap}
use Rattle.replication.specs.Copies.{is_in, is_outside, EndsBy, had_floor, Message, gap_of, first_gaps, first_beats, RisesFrom, latest, last_with, up_to, above, between, IsCopy, IsTrueOf}

-- some prefix of the list
abbrev pub IsPrefixOf : {B : Type 0} → List B → List B → Type 0
IsPrefixOf prefix all = (n : ℕ) × (prefix ≡ take n all)

-- a prefix of a prefix is a prefix
take-of-prefix : {B : Type 0} (m : ℕ) (prefix all : List B) → IsPrefixOf prefix all → IsPrefixOf (take m prefix) all
take-of-prefix m prefix all (n, is) =
    elim (cases_lt m n) [
      | inl below ↦ (m, ap (take m) is ∙ take-take m n all (omega arith))
      | inr above ↦ (n, ap (take m) is ∙ take-above m n all above)
    ]
  where
    take-above : {B : Type 0} (m n : ℕ) (xs : List B) → n ≤ m → take m (take n xs) ≡ take n xs
    take-above m zero xs le = take-nil m
    take-above m (suc n) [] le = take-nil m
    take-above zero (suc n) (x ∷ xs) le = absurd (omega arith)
    take-above (suc m) (suc n) (x ∷ xs) le = ap (λ rest. x ∷ rest) (take-above m n xs (omega arith))

-- an item of a list is there
pub get-some : {X : Type 0} (xs : List X) (i : ℕ) → i < length xs → slice_get xs i ≡ None → ⊥
get-some [] i lt none = omega arith
get-some (x ∷ xs) zero lt none = cc
get-some (x ∷ xs) (suc i) lt none = get-some xs i (omega arith) none

-- ---- gaps and floors
pub all-map : {X : Type 0} (P Q : X → Type 0) (xs : List X) → ((x : X) → P x → Q x) → AllByRecursion P xs → AllByRecursion Q xs
all-map P Q [] each all = tt
all-map P Q (x ∷ xs) each all = (each x all.0, all-map P Q xs each all.1)

-- a moment after the end of all gaps lies in none
outside-after : (last : ℕ) (gaps : List Gap) → AllByRecursion (EndsBy last) gaps → (n : ℕ) → last < n → is_outside gaps n ≡ true
outside-after last gaps ends n lt = ap not (none gaps ends)
  where
    none : (gaps : List Gap) → AllByRecursion (EndsBy last) gaps → list_any (is_in n) gaps ≡ false
    none [] ends = refl
    none (gap ∷ gaps) ends = or_from _ _ (and_right _ _ (lt-leb n gap.to (omega (arith, ends.0)))) (none gaps ends.1)

inside-more : (gaps : List Gap) (gap : Gap) (n : ℕ) → is_in n gap ≡ true → is_outside (gaps ++ gap ∷ []) n ≡ false
inside-more gaps gap n is = ap not (list_any-append (is_in n) gaps (gap ∷ []) ∙ or_right _ _ (or_left _ _ is))

outside-more : (gaps : List Gap) (gap : Gap) (n : ℕ) → is_in n gap ≡ false → is_outside (gaps ++ gap ∷ []) n ≡ is_outside gaps n
outside-more gaps gap n not_in = ap not (list_any-append (is_in n) gaps (gap ∷ []) ∙ or-none (list_any (is_in n) gaps) (is_in n gap) not_in)
  where
    or-none : (a b : Bool) → b ≡ false → (a || (b || false)) ≡ a
    or-none true b none = refl
    or-none false false none = refl
    or-none false true none = absurd (cc)

had_floor-more : (floors : List ℕ) (set floor : ℕ) → had_floor floors floor ≡ true → had_floor (floors ++ set ∷ []) floor ≡ true
had_floor-more floors set floor had =
    elim (or_cases (floor == 0) (list_any (λ one. floor == one) floors) had) [
      | inl none ↦ or_left _ _ none
      | inr one ↦ or_right _ _ (list_any-append (λ one. floor == one) floors (set ∷ []) ∙ or_left _ _ one)
    ]

-- ---- the first things of a message
at-none : {B : Type 0} (P : List Gap → List B → Type 0) (n : ℕ) (gaps : List Gap) (all : List B) → gaps ≡ [] → ((m : ℕ) → P [] (take m all)) → P (take n gaps) (take (n - length gaps) all)
at-none P n gaps all is each =
    subst (λ gaps. P (take n gaps) (take (n - length gaps) all)) (sym is) (subst (λ gaps. P gaps (take (n - length {A = Gap} []) all)) (sym (take-nil n)) (each (n - length {A = Gap} [])))

at-gap : {B : Type 0} (P : List Gap → List B → Type 0) (n : ℕ) (gap : Gap) (gaps : List Gap) (all : List B) → gaps ≡ gap ∷ [] → ((m : ℕ) → P (gap ∷ []) (take m all)) → P [] [] → P (take n gaps) (take (n - length gaps) all)
at-gap P zero gap gaps all is each none =
    let never : 0 - length gaps ≡ 0 = omega arith in
    subst (λ m. P [] (take m all)) (sym never) none
at-gap P (suc n) gap gaps all is each none =
    subst (λ gaps. P (take (suc n) gaps) (take (suc n - length gaps) all)) (sym is) (subst (λ rest. P (gap ∷ rest) (take (suc n - length (gap ∷ [])) all)) (sym (take-nil n)) (each (suc n - length (gap ∷ []))))

-- they are beats alone, where it begins at the end of the copy; else none, or the gap and then beats
by-first : {B : Type 0} (P : List Gap → List B → Type 0) (n last : ℕ) (message : Message B) → message.prev ≡ last → last ≤ message.from
    → ((m : ℕ) → message.from ≡ last → P [] (take m message.beats))
    → ((m : ℕ) → last < message.from → P (record { from = last; to = message.from } ∷ []) (take m message.beats))
    → P [] []
    → P (first_gaps n message) (first_beats n message)
by-first P n last message prev le beats both none =
    elim (cases_lt message.prev message.from) [
      | inl lt ↦ let is : gap_of message ≡ record { from = last; to = message.from } ∷ [] = cond-true _ _ _ (lt-ltb _ _ lt) ∙ ap (λ (from : ℕ). record { from = from; to = message.from } ∷ []) prev in
          at-gap P n (record { from = last; to = message.from }) (gap_of message) message.beats is (λ m. both m (omega arith)) none
      | inr ge ↦ let is : gap_of message ≡ [] = cond-false _ _ _ (le-ltb _ _ ge) in
          at-none P n (gap_of message) message.beats is (λ m. beats m (omega arith))
    ]

module _ {B : Type 0} (moment : B → ℕ) where
  -- ---- what the filters do at one beat
  takes-in : (test : ℕ → Bool) (last : ℕ) (x : B) (xs : List B) → moment x ≤ last → test (moment x) ≡ true → up_to moment test last (x ∷ xs) ≡ x ∷ up_to moment test last xs
  takes-in test last x xs le passes = cond-true _ _ _ (and_from _ _ (le-leb _ _ le) passes)

  passes-by : (test : ℕ → Bool) (last : ℕ) (x : B) (xs : List B) → last < moment x → up_to moment test last (x ∷ xs) ≡ up_to moment test last xs
  passes-by test last x xs lt = cond-false _ _ _ (and_left _ _ (lt-leb _ _ lt))

  leaves-out : (test : ℕ → Bool) (last : ℕ) (x : B) (xs : List B) → test (moment x) ≡ false → up_to moment test last (x ∷ xs) ≡ up_to moment test last xs
  leaves-out test last x xs fails = cond-false _ _ _ (and_right _ _ fails)

  pub above-in : (from : ℕ) (x : B) (xs : List B) → from < moment x → above moment from (x ∷ xs) ≡ x ∷ above moment from xs
  above-in from x xs lt = cond-true _ _ _ (lt-ltb _ _ lt)

  pub above-out : (from : ℕ) (x : B) (xs : List B) → moment x ≤ from → above moment from (x ∷ xs) ≡ above moment from xs
  above-out from x xs le = cond-false _ _ _ (le-ltb _ _ le)

  -- ---- beats that rise
  pub above-all : (low last : ℕ) (xs : List B) → RisesFrom moment low xs → last ≤ low → above moment last xs ≡ xs
  above-all low last [] rises le = refl
  above-all low last (x ∷ xs) rises le =
      above-in last x xs (omega (arith, rises.0)) ∙ ap (λ rest. x ∷ rest) (above-all (moment x) last xs rises.1 (omega (arith, rises.0)))

  up_to-none : (test : ℕ → Bool) (low last : ℕ) (xs : List B) → RisesFrom moment low xs → last ≤ low → up_to moment test last xs ≡ []
  up_to-none test low last [] rises le = refl
  up_to-none test low last (x ∷ xs) rises le =
      passes-by test last x xs (omega (arith, rises.0)) ∙ up_to-none test (moment x) last xs rises.1 (omega (arith, rises.0))

  pub RisesFrom-above : (low last : ℕ) (xs : List B) → RisesFrom moment low xs → RisesFrom moment last (above moment last xs)
  RisesFrom-above low last [] rises = tt
  RisesFrom-above low last (x ∷ xs) rises =
      elim (cases_lt last (moment x)) [
        | inl lt ↦ subst (RisesFrom moment last) (sym (above-in last x xs lt ∙ ap (λ rest. x ∷ rest) (above-all (moment x) last xs rises.1 (omega arith)))) (lt, rises.1)
        | inr le ↦ subst (RisesFrom moment last) (sym (above-out last x xs le)) (RisesFrom-above (moment x) last xs rises.1)
      ]

  pub rises-take : (from n : ℕ) (xs : List B) → RisesFrom moment from xs → RisesFrom moment from (take n xs)
  rises-take from zero xs rises = tt
  rises-take from (suc n) [] rises = tt
  rises-take from (suc n) (x ∷ xs) rises = (rises.0, rises-take (moment x) n xs rises.1)

  latest-take-ge : (low m : ℕ) (xs : List B) → RisesFrom moment low xs → low ≤ latest moment low (take m xs)
  latest-take-ge low zero xs rises = omega arith
  latest-take-ge low (suc m) [] rises = omega arith
  latest-take-ge low (suc m) (x ∷ xs) rises = omega (arith, rises.0, latest-take-ge (moment x) m xs rises.1)

  latest-take-le : (low m : ℕ) (xs : List B) → RisesFrom moment low xs → latest moment low (take m xs) ≤ latest moment low xs
  latest-take-le low zero xs rises = latest-ge low xs rises
    where
      latest-ge : (low : ℕ) (xs : List B) → RisesFrom moment low xs → low ≤ latest moment low xs
      latest-ge low [] rises = omega arith
      latest-ge low (x ∷ xs) rises = omega (arith, rises.0, latest-ge (moment x) xs rises.1)
  latest-take-le low (suc m) [] rises = omega arith
  latest-take-le low (suc m) (x ∷ xs) rises = latest-take-le (moment x) m xs rises.1

  -- the prefix of a child whose beats all pass is what lies up to its last moment
  up_to-prefix : (test : ℕ → Bool) (low m : ℕ) (xs : List B) → ((n : ℕ) → low < n → test n ≡ true) → RisesFrom moment low xs → up_to moment test (latest moment low (take m xs)) xs ≡ take m xs
  up_to-prefix test low zero xs passes rises = up_to-none test low low xs rises (omega arith)
  up_to-prefix test low (suc m) [] passes rises = refl
  up_to-prefix test low (suc m) (x ∷ xs) passes rises =
      takes-in test _ x xs (latest-take-ge (moment x) m xs rises.1) (passes (moment x) rises.0)
      ∙ ap (λ rest. x ∷ rest) (up_to-prefix test (moment x) m xs (λ n lt. passes n (omega (arith, rises.0))) rises.1)

  -- what a copy up to `last` is, once the next beats are taken on
  pub longer : (test : ℕ → Bool) (low last m : ℕ) (child : List B) → ((n : ℕ) → last < n → test n ≡ true) → RisesFrom moment low child
      → up_to moment test (latest moment last (take m (above moment last child))) child ≡ up_to moment test last child ++ take m (above moment last child)
  longer test low last m [] passes rises = sym (take-nil m)
  longer test low last m (x ∷ xs) passes rises =
      elim (cases_lt last (moment x)) [
        | inl lt ↦
            let all : above moment last (x ∷ xs) ≡ x ∷ xs = above-in last x xs lt ∙ ap (λ rest. x ∷ rest) (above-all (moment x) last xs rises.1 (omega arith)) in
            let none : up_to moment test last (x ∷ xs) ≡ [] = up_to-none test last last (x ∷ xs) (lt, rises.1) (omega arith) in
            let P : List B → List B → Type 0 = λ next before. up_to moment test (latest moment last (take m next)) (x ∷ xs) ≡ before ++ take m next in
            subst (λ next. P next (up_to moment test last (x ∷ xs))) (sym all) (subst (λ before. P (x ∷ xs) before) (sym none) (up_to-prefix test last m (x ∷ xs) passes (lt, rises.1)))
        | inr le ↦
            let out : above moment last (x ∷ xs) ≡ above moment last xs = above-out last x xs le in
            let P : List B → Type 0 = λ next. up_to moment test (latest moment last (take m next)) (x ∷ xs) ≡ up_to moment test last (x ∷ xs) ++ take m next in
            let end = latest moment last (take m (above moment last xs)) in
            let ends : last ≤ end = latest-take-ge last m (above moment last xs) (RisesFrom-above (moment x) last xs rises.1) in
            let rest = longer test (moment x) last m xs passes rises.1 in
            subst P (sym out) (elim (cases_Bool (test (moment x))) [
              | inl passes ↦ takes-in test end x xs (omega arith) passes ∙ ap (λ more. x ∷ more) rest ∙ ap (λ more. more ++ take m (above moment last xs)) (sym (takes-in test last x xs le passes))
              | inr fails ↦ leaves-out test end x xs fails ∙ rest ∙ ap (λ more. more ++ take m (above moment last xs)) (sym (leaves-out test last x xs fails))
            ])
      ]

  -- ---- what a message has
  between-same : (from : ℕ) (xs : List B) → between moment from from xs ≡ []
  between-same from [] = refl
  between-same from (x ∷ xs) =
      elim (cases_lt from (moment x)) [
        | inl lt ↦ passes-by (ltb from) from x xs lt ∙ between-same from xs
        | inr le ↦ leaves-out (ltb from) from x xs (le-ltb _ _ le) ∙ between-same from xs
      ]

  -- the next beats are all that lie up to the last of them
  prefix-between : (low from n : ℕ) (child : List B) → RisesFrom moment low child → take n (above moment from child) ≡ between moment from (latest moment from (take n (above moment from child))) child
  prefix-between low from n child rises =
      sym (longer (ltb from) low from n child (λ n lt. lt-ltb _ _ lt) rises ∙ ap (λ none. none ++ take n (above moment from child)) (between-same from child))

  up_to-is_prefix : (test : ℕ → Bool) (low last : ℕ) (xs : List B) → ((n : ℕ) → low < n → test n ≡ true) → RisesFrom moment low xs → IsPrefixOf (up_to moment test last xs) xs
  up_to-is_prefix test low last [] passes rises = (0, refl)
  up_to-is_prefix test low last (x ∷ xs) passes rises =
      elim (cases_lt last (moment x)) [
        | inl lt ↦ (0, passes-by test last x xs lt ∙ up_to-none test (moment x) last xs rises.1 (omega arith))
        | inr le ↦ let rest = up_to-is_prefix test (moment x) last xs (λ n lt. passes n (omega (arith, rises.0))) rises.1 in
            (suc rest.0, takes-in test last x xs le (passes (moment x) rises.0) ∙ ap (λ more. x ∷ more) rest.1)
      ]

  -- what lies between two moments is a prefix of what lies above the first
  between-is_prefix : (low from upto : ℕ) (child : List B) → RisesFrom moment low child → IsPrefixOf (between moment from upto child) (above moment from child)
  between-is_prefix low from upto [] rises = (0, refl)
  between-is_prefix low from upto (x ∷ xs) rises =
      elim (cases_lt from (moment x)) [
        | inl lt ↦ subst (λ all. IsPrefixOf (between moment from upto (x ∷ xs)) all) (sym (above-in from x xs lt ∙ ap (λ rest. x ∷ rest) (above-all (moment x) from xs rises.1 (omega arith))))
            (up_to-is_prefix (ltb from) from upto (x ∷ xs) (λ n lt. lt-ltb _ _ lt) (lt, rises.1))
        | inr le ↦ let rest = between-is_prefix (moment x) from upto xs rises.1 in
            (rest.0, leaves-out (ltb from) upto x xs (le-ltb _ _ le) ∙ rest.1 ∙ ap (take rest.0) (sym (above-out from x xs le)))
      ]

  -- a prefix of the beats of a true message is a prefix of what lies above its begin
  message-prefix : (low m : ℕ) (floors : List ℕ) (child : List B) (message : Message B) → RisesFrom moment low child → IsTrueOf moment floors child message → IsPrefixOf (take m message.beats) (above moment message.from child)
  message-prefix low m floors child message rises truth =
      take-of-prefix m message.beats (above moment message.from child)
      (subst (λ beats. IsPrefixOf beats (above moment message.from child)) (sym truth.beats) (between-is_prefix low message.from message.upto child rises))

  -- ---- a copy takes things on
  copy-gap : (floors : List ℕ) (child held : List B) (gaps : List Gap) (last to : ℕ) → last ≤ to → had_floor floors (to + 1) ≡ true → IsCopy moment floors child held gaps last
      → IsCopy moment floors child held (gaps ++ record { from = last; to = to } ∷ []) to
  copy-gap floors child held gaps last to le had copies = record {
    beats = copies.beats ∙ same child;
    ends = all-append (λ gap. had_floor floors (gap.to + 1) ≡ true) gaps (record { from = last; to = to } ∷ []) copies.ends (had, tt);
  }
    where
      gap_at : (n : ℕ) → last < n → n ≤ to → is_in n (record { from = last; to = to }) ≡ true
      gap_at n lt le = and_from _ _ (lt-ltb last n lt) (le-leb n to le)

      same : (xs : List B) → up_to moment (is_outside gaps) last xs ≡ up_to moment (is_outside (gaps ++ record { from = last; to = to } ∷ [])) to xs
      same [] = refl
      same (x ∷ xs) =
          elim (cases_lt to (moment x)) [
            | inl past ↦ passes-by (is_outside gaps) last x xs (omega arith) ∙ same xs ∙ sym (passes-by (is_outside (gaps ++ record { from = last; to = to } ∷ [])) to x xs past)
            | inr by ↦ elim (cases_lt last (moment x)) [
              | inl lt ↦ passes-by (is_outside gaps) last x xs lt ∙ same xs
                  ∙ sym (leaves-out (is_outside (gaps ++ record { from = last; to = to } ∷ [])) to x xs (inside-more gaps (record { from = last; to = to }) (moment x) (gap_at (moment x) lt by)))
              | inr le ↦ at x xs by le (same xs) (outside-more gaps (record { from = last; to = to }) (moment x) (and_left _ _ (le-ltb last (moment x) le)))
            ]
          ]
        where
          at : (x : B) (xs : List B) → moment x ≤ to → moment x ≤ last → up_to moment (is_outside gaps) last xs ≡ up_to moment (is_outside (gaps ++ record { from = last; to = to } ∷ [])) to xs
              → is_outside (gaps ++ record { from = last; to = to } ∷ []) (moment x) ≡ is_outside gaps (moment x)
              → up_to moment (is_outside gaps) last (x ∷ xs) ≡ up_to moment (is_outside (gaps ++ record { from = last; to = to } ∷ [])) to (x ∷ xs)
          at x xs by le rest alike =
              elim (cases_Bool (is_outside gaps (moment x))) [
                | inl out ↦ takes-in (is_outside gaps) last x xs le out ∙ ap (λ more. x ∷ more) rest ∙ sym (takes-in (is_outside (gaps ++ record { from = last; to = to } ∷ [])) to x xs by (alike ∙ out))
                | inr inside ↦ leaves-out (is_outside gaps) last x xs inside ∙ rest ∙ sym (leaves-out (is_outside (gaps ++ record { from = last; to = to } ∷ [])) to x xs (alike ∙ inside))
              ]

  copy-beats : (low : ℕ) (floors : List ℕ) (child held : List B) (gaps : List Gap) (last : ℕ) (next : List B) → RisesFrom moment low child → AllByRecursion (EndsBy last) gaps
      → IsCopy moment floors child held gaps last → IsPrefixOf next (above moment last child) → IsCopy moment floors child (held ++ next) gaps (latest moment last next)
  copy-beats low floors child held gaps last next rises ends copies (n, is) =
      subst (λ next. IsCopy moment floors child (held ++ next) gaps (latest moment last next)) (sym is) (record {
        beats = ap (λ held. held ++ take n (above moment last child)) copies.beats ∙ sym (longer (is_outside gaps) low last n child (outside-after last gaps ends) rises);
        ends = copies.ends;
      })

  all-ends : (last to : ℕ) (gaps : List Gap) → last ≤ to → AllByRecursion (EndsBy last) gaps → AllByRecursion (EndsBy to) gaps
  all-ends last to gaps le ends = all-map (EndsBy last) (EndsBy to) gaps (λ gap by. omega arith) ends

  -- A copy that takes on the first things of a true message which begins where it ends is a copy still.
  pub keeps-copy : (low : ℕ) (floors : List ℕ) (child held : List B) (gaps : List Gap) (last : ℕ) (message : Message B) (most : ℕ)
      → RisesFrom moment low child → AllByRecursion (EndsBy last) gaps → IsCopy moment floors child held gaps last → IsTrueOf moment floors child message → message.prev ≡ last
      → IsCopy moment floors child (held ++ first_beats most message) (gaps ++ first_gaps most message) (last_with moment last (first_gaps most message) (first_beats most message))
  keeps-copy low floors child held gaps last message most rises ends copies truth prev =
      by-first (λ more next. IsCopy moment floors child (held ++ next) (gaps ++ more) (last_with moment last more next)) most last message prev (omega (arith, truth.from))
      (λ m from. subst (λ gaps. IsCopy moment floors child (held ++ take m message.beats) gaps (latest moment last (take m message.beats))) (sym (append-nil gaps))
      (copy-beats low floors child held gaps last (take m message.beats) rises ends copies (subst (λ from. IsPrefixOf (take m message.beats) (above moment from child)) from (message-prefix low m floors child message rises truth))))
      (λ m lt. copy-beats low floors child held (gaps ++ record { from = last; to = message.from } ∷ []) message.from (take m message.beats) rises
      (all-append (EndsBy message.from) gaps (record { from = last; to = message.from } ∷ []) (all-ends last message.from gaps (omega arith) ends) (omega arith, tt))
      (copy-gap floors child held gaps last message.from (omega arith) (let floor : message.floor ≡ message.from + 1 = omega (arith, truth.from) in subst (λ floor. had_floor floors floor ≡ true) floor truth.floor) copies)
      (message-prefix low m floors child message rises truth))
      (subst (λ held. IsCopy moment floors child held (gaps ++ []) last) (sym (append-nil held)) (subst (λ gaps. IsCopy moment floors child held gaps last) (sym (append-nil gaps)) copies))

  latest-prefix-ge : (low from : ℕ) (child next : List B) → RisesFrom moment low child → IsPrefixOf next (above moment from child) → from ≤ latest moment from next
  latest-prefix-ge low from child next rises (n, is) =
      subst (λ next. from ≤ latest moment from next) (sym is) (latest-take-ge from n (above moment from child) (RisesFrom-above low from child rises))

  -- and its gaps end where it ends
  pub keeps-ends : (low : ℕ) (floors : List ℕ) (child : List B) (gaps : List Gap) (last : ℕ) (message : Message B) (most : ℕ)
      → RisesFrom moment low child → AllByRecursion (EndsBy last) gaps → IsTrueOf moment floors child message → message.prev ≡ last
      → AllByRecursion (EndsBy (last_with moment last (first_gaps most message) (first_beats most message))) (gaps ++ first_gaps most message)
  keeps-ends low floors child gaps last message most rises ends truth prev =
      by-first (λ more next. AllByRecursion (EndsBy (last_with moment last more next)) (gaps ++ more)) most last message prev (omega (arith, truth.from))
      (λ m from. let ge = latest-prefix-ge low message.from child (take m message.beats) rises (message-prefix low m floors child message rises truth) in
      let ge' : last ≤ latest moment last (take m message.beats) = subst (λ from. from ≤ latest moment from (take m message.beats)) from ge in
      subst (λ gaps. AllByRecursion (EndsBy (latest moment last (take m message.beats))) gaps) (sym (append-nil gaps)) (all-ends last _ gaps ge' ends))
      (λ m lt. let ge = latest-prefix-ge low message.from child (take m message.beats) rises (message-prefix low m floors child message rises truth) in
      all-append (EndsBy (latest moment message.from (take m message.beats))) gaps (record { from = last; to = message.from } ∷ []) (all-ends last _ gaps (omega arith) ends) (ge, tt))
      (subst (λ gaps. AllByRecursion (EndsBy last) gaps) (sym (append-nil gaps)) ends)

  -- and it does not end below where it ended
  pub keeps-last : (low : ℕ) (floors : List ℕ) (child : List B) (last : ℕ) (message : Message B) (most : ℕ) → RisesFrom moment low child
      → IsTrueOf moment floors child message → message.prev ≡ last → last ≤ last_with moment last (first_gaps most message) (first_beats most message)
  keeps-last low floors child last message most rises truth prev =
      by-first (λ more next. last ≤ last_with moment last more next) most last message prev (omega (arith, truth.from))
      (λ m from. subst (λ from. from ≤ latest moment from (take m message.beats)) from (goes-on m))
      (λ m lt. let ge = goes-on m in omega (arith, lt, ge))
      (omega arith)
    where
      goes-on : (m : ℕ) → message.from ≤ latest moment message.from (take m message.beats)
      goes-on m = latest-prefix-ge low message.from child (take m message.beats) rises (message-prefix low m floors child message rises truth)

  -- ---- a child goes on
  latest-above-le : (low from : ℕ) (child : List B) → RisesFrom moment low child → latest moment from (above moment from child) ≤ max from (latest moment low child)
  latest-above-le low from [] rises = omega arith
  latest-above-le low from (x ∷ xs) rises =
      elim (cases_lt from (moment x)) [
        | inl lt ↦ subst (λ all. latest moment from all ≤ max from (latest moment (moment x) xs)) (sym (above-in from x xs lt ∙ ap (λ rest. x ∷ rest) (above-all (moment x) from xs rises.1 (omega arith)))) (omega arith)
        | inr le ↦ subst (λ all. latest moment from all ≤ max from (latest moment (moment x) xs)) (sym (above-out from x xs le)) (latest-above-le (moment x) from xs rises.1)
      ]

  -- a true message ends within the child
  pub ends-within : (low : ℕ) (floors : List ℕ) (child : List B) (message : Message B) → RisesFrom moment low child → IsTrueOf moment floors child message → message.upto ≤ latest moment low child
  ends-within low floors child message rises truth =
      let prefix = between-is_prefix low message.from message.upto child rises in
      let all = above moment message.from child in
      let upto : message.upto ≡ latest moment message.from (take prefix.0 all) = truth.upto ∙ ap (latest moment message.from) (truth.beats ∙ prefix.1) in
      omega (arith, truth.some, latest-take-le message.from prefix.0 all (RisesFrom-above low message.from child rises), latest-above-le low message.from child rises)

  -- and so does a copy that takes on its first things
  pub keeps-within : (low : ℕ) (floors : List ℕ) (child : List B) (last : ℕ) (message : Message B) (most : ℕ) → RisesFrom moment low child → last ≤ latest moment low child
      → IsTrueOf moment floors child message → message.prev ≡ last → last_with moment last (first_gaps most message) (first_beats most message) ≤ latest moment low child
  keeps-within low floors child last message most rises within truth prev =
      by-first (λ more next. last_with moment last more next ≤ latest moment low child) most last message prev (omega (arith, truth.from))
      (λ m from. subst (λ from. latest moment from (take m message.beats) ≤ latest moment low child) from (by-upto m))
      (λ m lt. by-upto m)
      within
    where
      by-upto : (m : ℕ) → latest moment message.from (take m message.beats) ≤ latest moment low child
      by-upto m =
          let beats : RisesFrom moment message.from message.beats = rises-message in
          omega (arith, latest-take-le message.from m message.beats beats, truth.upto, ends-within low floors child message rises truth)
        where
          rises-message : RisesFrom moment message.from message.beats
          rises-message =
              let prefix = between-is_prefix low message.from message.upto child rises in
              subst (RisesFrom moment message.from) (sym (truth.beats ∙ prefix.1)) (rises-take message.from prefix.0 (above moment message.from child) (RisesFrom-above low message.from child rises))

  up_to-later : (test : ℕ → Bool) (last : ℕ) (child : List B) (later : B) → last < moment later → up_to moment test last (child ++ later ∷ []) ≡ up_to moment test last child
  up_to-later test last child later lt =
      filter-append (λ beat. leb (moment beat) last && test (moment beat)) child (later ∷ []) ∙ ap (λ none. up_to moment test last child ++ none) (passes-by test last later [] lt) ∙ append-nil (up_to moment test last child)

  pub copy-later : (floors : List ℕ) (child held : List B) (gaps : List Gap) (last floor : ℕ) (later : B) → last < moment later → IsCopy moment floors child held gaps last
      → IsCopy moment (floors ++ floor ∷ []) (child ++ later ∷ []) held gaps last
  copy-later floors child held gaps last floor later lt copies = record {
    beats = copies.beats ∙ sym (up_to-later (is_outside gaps) last child later lt);
    ends = all-map (λ gap. had_floor floors (gap.to + 1) ≡ true) (λ gap. had_floor (floors ++ floor ∷ []) (gap.to + 1) ≡ true) gaps (λ gap had. had_floor-more floors floor (gap.to + 1) had) copies.ends;
  }

  pub true-later : (floors : List ℕ) (child : List B) (floor : ℕ) (later : B) (message : Message B) → message.upto < moment later → IsTrueOf moment floors child message
      → IsTrueOf moment (floors ++ floor ∷ []) (child ++ later ∷ []) message
  true-later floors child floor later message lt truth = record {
    floor = had_floor-more floors floor message.floor truth.floor;
    from = truth.from;
    some = truth.some;
    upto = truth.upto;
    beats = truth.beats ∙ sym (up_to-later (ltb message.from) message.upto child later lt);
  }

  pub rises-later : (low : ℕ) (child : List B) (later : B) → RisesFrom moment low child → latest moment low child < moment later → RisesFrom moment low (child ++ later ∷ [])
  rises-later low [] later rises lt = (lt, tt)
  rises-later low (x ∷ xs) later rises lt = (rises.0, rises-later (moment x) xs later rises.1 lt)

  pub latest-later : (low : ℕ) (child : List B) (later : B) → latest moment low (child ++ later ∷ []) ≡ moment later
  latest-later low [] later = refl
  latest-later low (x ∷ xs) later = latest-later (moment x) xs later

  -- the last moment is that of the last beat, or the one before
  pub latest-some : (before : ℕ) (xs : List B) (x : B) → slice_get xs (length xs - 1) ≡ Some x → moment x ≡ latest moment before xs
  latest-some before [] x is = absurd (cc)
  latest-some before (y ∷ []) x is =
      let at : length (y ∷ []) - 1 ≡ 0 = omega arith in
      let found : Some y ≡ Some x = sym (ap (slice_get (y ∷ [])) at) ∙ is in
      let same : x ≡ y = cc in
      ap moment same
  latest-some before (y ∷ z ∷ zs) x is =
      let at : length (y ∷ z ∷ zs) - 1 ≡ suc (length (z ∷ zs) - 1) = omega arith in
      latest-some (moment y) (z ∷ zs) x (sym (ap (slice_get (y ∷ z ∷ zs)) at) ∙ is)

  pub latest-none : (before : ℕ) (xs : List B) → slice_get xs (length xs - 1) ≡ None → before ≡ latest moment before xs
  latest-none before [] is = refl
  latest-none before (y ∷ ys) is = absurd (get-some (y ∷ ys) (length (y ∷ ys) - 1) (omega arith) is)

  -- ---- answers
  -- a prefix of the beats above a moment is a true message, if it has a beat
  pub prefix-true : (low prev floor n : ℕ) (floors : List ℕ) (child : List B) (x : B) (xs : List B) → RisesFrom moment low child → had_floor floors floor ≡ true
      → x ∷ xs ≡ take n (above moment (max prev (floor - 1)) child)
      → IsTrueOf moment floors child (record { prev = prev; from = max prev (floor - 1); upto = latest moment (max prev (floor - 1)) (x ∷ xs); floor = floor; beats = x ∷ xs })
  prefix-true low prev floor n floors child x xs rises had is = record {
    floor = had;
    from = refl;
    some = latest-gt (max prev (floor - 1)) x xs (subst (RisesFrom moment (max prev (floor - 1))) (sym is) (rises-take (max prev (floor - 1)) n (above moment (max prev (floor - 1)) child) (RisesFrom-above low (max prev (floor - 1)) child rises)));
    upto = refl;
    beats = subst (λ beats. beats ≡ between moment (max prev (floor - 1)) (latest moment (max prev (floor - 1)) beats) child) (sym is) (prefix-between low (max prev (floor - 1)) n child rises);
  }
    where
      latest-gt : (from : ℕ) (x : B) (xs : List B) → RisesFrom moment from (x ∷ xs) → from < latest moment from (x ∷ xs)
      latest-gt from x [] rises = rises.0
      latest-gt from x (y ∷ ys) rises = let further = latest-gt (moment x) y ys rises.1 in omega (arith, rises.0)
