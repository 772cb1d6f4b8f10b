use Rattle.std.proofs.Common.{◌≡◌, ◌≢◌, ℕ, zero, suc, ◌+◌, ◌-◌, ◌%◌, ◌<◌, ◌≤◌, inl, inr, Bool, true, false, not, eqb, ltb, leb, ◌&&◌, ◌||◌, List, [], ◌∷◌, length, get_or, Option, Some, arith, refl, sym, ap, subst, ◌∙◌}
use Rattle.std.proofs.lemmas.Bool.{and_parts, and_from, and_left, and_right, or_cases, or_from, or_left, or_right, not_from_true, not_from_false, ltb-true, le-leb, lt-leb, eqb-true, ne_eqb, cond-true, cond-false, cases_eq, cases_lt, both_ways}
use Rattle.std.specs.Option.{unwrap_or}
use Rattle.std.specs.List.{find, list_all}
use Rattle.query_engine.specs.Points.{are_above, are_widths}
use Rattle.query_engine.specs.Planning.{IsLowestTier}
use Rattle.query_engine.specs.Windows.{may_read, below, is_lowest, lowest_tier}

-- ---- widths

pub record Widths (widths : List ℕ) : Type 0 where
  pub some : 0 < length widths
  pub few : length widths ≤ 256
  pub positive : (tier : ℕ) → tier < length widths → 0 < get_or widths tier 0

above_positive : (number : ℕ) (widths : List ℕ) → are_above number widths ≡ true → (tier : ℕ) → tier < length widths → 0 < get_or widths tier 0
above_positive number [] h tier inside = absurd (omega arith)
above_positive number (next ∷ others) h zero inside =
    let lt : number < next = ltb-true number next (and_parts (ltb number next) (are_above next others) h).0 in omega arith
above_positive number (next ∷ others) h (suc tier) inside =
    above_positive next others (and_parts (ltb number next) (are_above next others) h).1 tier (omega arith)

pub widths_are : (widths : List ℕ) → are_widths widths ≡ true → Widths widths
widths_are [] h = absurd (cc)
widths_are (first ∷ others) h =
    let two = and_parts (eqb first 1 && are_above first others) (ltb (length others) 256) h in
    let one = and_parts (eqb first 1) (are_above first others) two.0 in
    let is : first ≡ 1 = eqb-true first 1 one.0 in
    record {
      some = omega arith;
      few = let lt : length others < 256 = ltb-true (length others) 256 two.1 in omega arith;
      positive = positive is one.1;
    }
  where
    positive : first ≡ 1 → are_above first others ≡ true → (tier : ℕ) → tier < suc (length others) → 0 < get_or (first ∷ others) tier 0
    positive is above zero inside = omega arith
    positive is above (suc tier) inside = above_positive first others above tier (omega arith)

-- ---- which tier may be read

pub may_parts : (widths : List ℕ) (after window tier : ℕ) → may_read widths after window tier ≡ true → tier ≢ 0
    → (after % get_or widths tier 0 ≡ 0) × (window % get_or widths tier 0 ≡ 0)
may_parts widths after window tier h not =
    let w = get_or widths tier 0 in
    elim (or_cases (eqb tier 0) (eqb (after % w) 0 && eqb (window % w) 0) h) [
      | inl none ↦ absurd (not (eqb-true tier 0 none))
      | inr both ↦ let parts = and_parts (eqb (after % w) 0) (eqb (window % w) 0) both in (eqb-true (after % w) 0 parts.0, eqb-true (window % w) 0 parts.1)
    ]

pub may_not : (widths : List ℕ) (after window tier : ℕ) → 0 < tier → (eqb (after % get_or widths tier 0) 0 && eqb (window % get_or widths tier 0) 0) ≡ false
    → may_read widths after window tier ≡ false
may_not widths after window tier some h =
    or_from (eqb tier 0) (eqb (after % get_or widths tier 0) 0 && eqb (window % get_or widths tier 0) 0) (ne_eqb tier 0 (λ e. omega arith)) h

-- what the code tests of a width is what the definition tests of the tier
pub divided : (widths seen : List ℕ) (after window tier : ℕ) (result : Bool) → seen ≡ widths
    → result ≡ (eqb (after % get_or seen tier 0) 0 && eqb (window % get_or seen tier 0) 0) → result ≡ false
    → (eqb (after % get_or widths tier 0) 0 && eqb (window % get_or widths tier 0) 0) ≡ false
divided widths seen after window tier result same is failed =
    ap (λ (ws : List ℕ). eqb (after % get_or ws tier 0) 0 && eqb (window % get_or ws tier 0) 0) (sym same) ∙ sym is ∙ failed

-- ---- the lowest

module _ (floor : ℕ → ℕ) (may : ℕ → Bool) where
  pub first_lowest : may 0 ≡ true → IsLowestTier floor may 1 0
  first_lowest h = record {
    inside = omega arith;
    allowed = h;
    lowest = λ other inside allowed. subst (λ i. floor 0 ≤ floor i) (first other inside) (omega arith);
    highest = λ other inside allowed above. absurd (omega arith);
  }
    where
      first : (other : ℕ) → other < 1 → 0 ≡ other
      first other inside = omega arith

  pub lowest_taken : (count tier : ℕ) → IsLowestTier floor may count tier → may count ≡ true → floor count ≤ floor tier → IsLowestTier floor may (count + 1) count
  lowest_taken count tier is allowed low = record {
    inside = omega arith;
    allowed = allowed;
    lowest = λ other inside may_other. elim (cases_eq other count) [
      | inl same ↦ subst (λ i. floor count ≤ floor i) (sym same) (omega arith)
      | inr apart ↦ let least : floor tier ≤ floor other = is.lowest other (omega arith) may_other in omega arith
    ];
    highest = λ other inside may_other above. absurd (omega arith);
  }

  pub lowest_left : (count tier : ℕ) → IsLowestTier floor may count tier → (may count ≡ true → floor tier < floor count) → IsLowestTier floor may (count + 1) tier
  lowest_left count tier is high = record {
    inside = omega (arith, is.inside);
    allowed = is.allowed;
    lowest = λ other inside may_other. elim (cases_eq other count) [
      | inl same ↦ let lt : floor tier < floor count = high (subst (λ i. may i ≡ true) same may_other) in subst (λ i. floor tier ≤ floor i) (sym same) (omega arith)
      | inr apart ↦ is.lowest other (omega arith) may_other
    ];
    highest = λ other inside may_other above. elim (cases_eq other count) [
      | inl same ↦ subst (λ i. floor tier < floor i) (sym same) (high (subst (λ i. may i ≡ true) same may_other))
      | inr apart ↦ is.highest other (omega arith) may_other above
    ];
  }

  all_below : (p : ℕ → Bool) (n : ℕ) → ((k : ℕ) → k < n → p k ≡ true) → list_all p (below n) ≡ true
  all_below p zero h = refl
  all_below p (suc n) h = and_from (p n) (list_all p (below n)) (h n (omega arith)) (all_below p n (λ k l. h k (omega arith)))

  not_all_below : (p : ℕ → Bool) (n k : ℕ) → k < n → p k ≡ false → list_all p (below n) ≡ false
  not_all_below p zero k l e = absurd (omega arith)
  not_all_below p (suc n) k l e = elim (cases_eq k n) [
    | inl same ↦ and_left (p n) (list_all p (below n)) (subst (λ i. p i ≡ false) same e)
    | inr apart ↦ and_right (p n) (list_all p (below n)) (not_all_below p n k (omega arith) e)
  ]

  find_below : (p : ℕ → Bool) (n k : ℕ) → k < n → p k ≡ true → ((j : ℕ) → k < j → j < n → p j ≡ false) → find p (below n) ≡ Some k
  find_below p zero k l e h = absurd (omega arith)
  find_below p (suc n) k l e h = elim (cases_eq k n) [
    | inl same ↦ cond-true (p n) (Some n) (find p (below n)) (subst (λ i. p i ≡ true) same e) ∙ ap Some (sym same)
    | inr apart ↦ cond-false (p n) (Some n) (find p (below n)) (h n (omega arith) (omega arith)) ∙ find_below p n k (omega arith) e (λ j above inside. h j above (omega arith))
  ]

  -- the definition's tier is the one that is lowest
  pub lowest_is : (count tier : ℕ) → IsLowestTier floor may count tier → lowest_tier floor may count ≡ tier
  lowest_is count tier is =
      ap (λ (o : Option ℕ). unwrap_or o 0) (find_below test count tier is.inside (and_from (may tier) (is_lowest floor may count tier) is.allowed low) higher)
    where
      test : ℕ → Bool
      test k = may k && is_lowest floor may count k

      low : is_lowest floor may count tier ≡ true
      low = all_below (λ other. not (may other) || leb (floor tier) (floor other)) count (λ other inside. at other inside (may other) refl)
        where
          at : (other : ℕ) → other < count → (b : Bool) → may other ≡ b → (not (may other) || leb (floor tier) (floor other)) ≡ true
          at other inside true e = or_right (not (may other)) (leb (floor tier) (floor other)) (le-leb (floor tier) (floor other) (is.lowest other inside e))
          at other inside false e = or_left (not (may other)) (leb (floor tier) (floor other)) (not_from_false (may other) e)

      higher : (j : ℕ) → tier < j → j < count → test j ≡ false
      higher j above inside = at (may j) refl
        where
          at : (b : Bool) → may j ≡ b → test j ≡ false
          at false e = and_left (may j) (is_lowest floor may count j) e
          at true e =
              let lt : floor tier < floor j = is.highest j inside e above in
              let fails : (not (may tier) || leb (floor j) (floor tier)) ≡ false =
              or_from (not (may tier)) (leb (floor j) (floor tier)) (not_from_true (may tier) is.allowed) (lt-leb (floor j) (floor tier) lt) in
              and_right (may j) (is_lowest floor may count j) (not_all_below (λ other. not (may other) || leb (floor j) (floor other)) count tier is.inside fails)

  -- there is one
  lowest_there : (n count : ℕ) → n + 1 ≡ count → may 0 ≡ true → (tier : ℕ) × IsLowestTier floor may count tier
  lowest_there zero count e h = (0, subst (λ i. IsLowestTier floor may i 0) e (first_lowest h))
  lowest_there (suc n) count e h = go (lowest_there n (n + 1) refl h)
    where
      next : n + 1 + 1 ≡ count
      next = omega (arith, e)

      go : (tier : ℕ) × IsLowestTier floor may (n + 1) tier → (tier : ℕ) × IsLowestTier floor may count tier
      go (tier, is) = by (may (n + 1)) refl
        where
          by : (b : Bool) → may (n + 1) ≡ b → (tier : ℕ) × IsLowestTier floor may count tier
          by false e = (tier, subst (λ i. IsLowestTier floor may i tier) next (lowest_left (n + 1) tier is (λ yes. absurd (both_ways (may (n + 1)) e yes))))
          by true e = elim (cases_lt (floor tier) (floor (n + 1))) [
            | inl lt ↦ (tier, subst (λ i. IsLowestTier floor may i tier) next (lowest_left (n + 1) tier is (λ yes. lt)))
            | inr le ↦ (n + 1, subst (λ i. IsLowestTier floor may i (n + 1)) next (lowest_taken (n + 1) tier is e le))
          ]

  pub lowest_chosen : (count : ℕ) → may 0 ≡ true → 0 < count → IsLowestTier floor may count (lowest_tier floor may count)
  lowest_chosen count h some =
      let there = lowest_there (count - 1) count (omega arith) h in
      subst (IsLowestTier floor may count) (sym (lowest_is count there.0 there.1)) there.1
