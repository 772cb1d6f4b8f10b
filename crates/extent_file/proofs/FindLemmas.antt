-- A directory in order has the pages before a moment of a series first, and so halving finds the first one.
use Rattle.std.proofs.Common.{◌≡◌, ◌⊎◌, ℕ, zero, suc, ◌<◌, ◌≤◌, Bool, true, false, not, List, [], ◌∷◌, length, get_or, Some, None, refl, sym, ◌∙◌, inl, inr, arith}
use Rattle.std.specs.List.{prefix_len, position}
use Rattle.std.specs.List.Sorted.{IsPartitionedBy}
use Rattle.std.specs.List.{AllWithin}
use Rattle.std.proofs.lemmas.Bool.{lt-ltb, le-ltb, false≢true, cases_lt, cases_Bool}
use Rattle.std.proofs.lemmas.Bool.Decides.{nat_tests}
use Rattle.extent_file.specs.declared.entry.Entry.{Entry}
use Rattle.extent_file.specs.declared.entry.Before.{Before}
use Rattle.extent_file.specs.Directory.{last_of, after_entry, Follows, AreInOrder}
use Rattle.extent_file.specs.Find.{is_wanted, is_before}

-- a page may come anywhere after these
abbrev pub IsAfter : Before → Entry → Type 0
IsAfter before entry = (before.series < entry.series) ⊎ ((before.series ≡ entry.series) × (before.free ≤ entry.first))

last-first : (entry : Entry) → entry.first ≤ last_of entry
last-first entry = omega arith

follows_after : (tier : ℕ) (before : Before) (entry : Entry) → Follows tier before entry → IsAfter before entry
follows_after tier before entry follows =
    let series = follows.series in let free = follows.free in
    grind arith

after_more : (tier : ℕ) (before : Before) (entry later : Entry) → Follows tier before entry → IsAfter (after_entry tier entry) later → IsAfter before later
after_more tier before entry later follows (inl less) = inl (omega (arith, follows.series))
after_more tier before entry later follows (inr (same, free)) =
    let series = follows.series in let low = follows.free in let long = last-first entry in
    grind arith

-- each entry comes after what stands before all of them
pub all_after : (tier : ℕ) (before : Before) (entries : List Entry) (k : ℕ) (d : Entry) → AreInOrder tier before entries → k < length entries
    → IsAfter before (get_or entries k d)
all_after tier before [] k d order within = absurd (omega (arith, within))
all_after tier before (entry ∷ entries) zero d order within = follows_after tier before entry order.0
all_after tier before (entry ∷ entries) (suc k) d order within =
    after_more tier before entry (get_or entries k d) order.0
    (all_after tier (after_entry tier entry) entries k d order.1 (omega (arith, within)))

-- of a page and one after it, where the later is before the moment, the earlier is
before_too : (tier series moment : ℕ) (entry later : Entry) → IsAfter (after_entry tier entry) later → is_before series moment later ≡ true → is_before series moment entry ≡ true
before_too tier series moment entry later after held =
    let long = last-first later in
    grind (arith, nat_tests)

pub partitioned : (tier series moment : ℕ) (before : Before) (entries : List Entry) → AreInOrder tier before entries → IsPartitionedBy (is_before series moment) entries
partitioned tier series moment before [] order i j d less within held = absurd (omega (arith, within))
partitioned tier series moment before (entry ∷ entries) order zero zero d less within held = held
partitioned tier series moment before (entry ∷ entries) order zero (suc j) d less within held =
    before_too tier series moment entry (get_or entries j d)
    (all_after tier (after_entry tier entry) entries j d order.1 (omega (arith, within))) held
partitioned tier series moment before (entry ∷ entries) order (suc i) zero d less within held = absurd (omega (arith, less))
partitioned tier series moment before (entry ∷ entries) order (suc i) (suc j) d less within held =
    partitioned tier series moment (after_entry tier entry) entries order.1 i j d (omega (arith, less)) (omega (arith, within)) held

-- where the first entries fail a test and the next passes it
module _ (p : Entry → Bool) where
  first_is : (entries : List Entry) (i : ℕ) → i < length entries → ((k : ℕ) (d : Entry) → k < i → p (get_or entries k d) ≡ false)
      → ((d : Entry) → p (get_or entries i d) ≡ true) → prefix_len (λ (x : Entry). not (p x)) entries ≡ i
  first_is [] i within fail pass = absurd (omega (arith, within))
  first_is (entry ∷ entries) zero within fail pass = rw (pass entry) refl
  first_is (entry ∷ entries) (suc i) within fail pass =
      let rest = first_is entries i (omega (arith, within)) (λ k d less. fail (suc k) d (omega (arith, less))) pass in
      rw (fail zero entry (omega arith), rest) (omega arith)

  none_is : (entries : List Entry) → ((k : ℕ) (d : Entry) → k < length entries → p (get_or entries k d) ≡ false)
      → prefix_len (λ (x : Entry). not (p x)) entries ≡ length entries
  none_is [] fail = refl
  none_is (entry ∷ entries) fail =
      let rest = none_is entries (λ k d less. fail (suc k) d (omega (arith, less))) in
      rw (fail zero entry (omega arith), rest) (omega arith)

  pub found_at : (entries : List Entry) (i : ℕ) → i < length entries → ((k : ℕ) (d : Entry) → k < i → p (get_or entries k d) ≡ false)
      → ((d : Entry) → p (get_or entries i d) ≡ true) → Some i ≡ position p entries
  found_at entries i within fail pass =
      let place = first_is entries i within fail pass in
      sym (rw (place, lt-ltb i (length entries) within) refl)

  pub found_none : (entries : List Entry) → ((k : ℕ) (d : Entry) → k < length entries → p (get_or entries k d) ≡ false) → None ≡ position p entries
  found_none entries fail =
      let place = none_is entries fail in
      sym (rw (place, le-ltb (length entries) (length entries) (omega arith)) refl)

-- what halving gives
module _ (tier series moment : ℕ) (before : Before) (entries : List Entry) (i : ℕ) (order : AreInOrder tier before entries)
    (prefix : AllWithin (λ (entry : Entry). is_before series moment entry ≡ true) entries 0 i)
    (rest : AllWithin (λ (entry : Entry). is_before series moment entry ≡ false) entries i (length entries)) where
  passed : (entry : Entry) → is_before series moment entry ≡ true → is_wanted series moment entry ≡ false
  passed entry held = grind (arith, nat_tests)

  reached : (entry : Entry) → is_before series moment entry ≡ false → entry.series ≡ series → is_wanted series moment entry ≡ true
  reached entry held same = grind (arith, nat_tests)

  above : (entry : Entry) → is_before series moment entry ≡ false → ¬ (entry.series ≡ series) → is_before (suc series) 0 entry ≡ false
  above entry held other = grind (arith, nat_tests)

  wanted_low : (entry : Entry) → is_wanted series moment entry ≡ true → is_before (suc series) 0 entry ≡ true
  wanted_low entry held = grind (arith, nat_tests)

  unwanted : (entry : Entry) → (is_wanted series moment entry ≡ true → ⊥) → is_wanted series moment entry ≡ false
  unwanted entry never = elim (cases_Bool (is_wanted series moment entry)) [ inl held ↦ absurd (never held) | inr failed ↦ failed ]

  pub found : i < length entries → ((d : Entry) → (get_or entries i d).series ≡ series) → Some i ≡ position (is_wanted series moment) entries
  found within same =
      found_at (is_wanted series moment) entries i within
      (λ k d less. passed (get_or entries k d) (prefix k d (omega arith) less))
      (λ d. reached (get_or entries i d) (rest i d (omega arith) within) (same d))

  pub found_other : i < length entries → ((d : Entry) → ¬ ((get_or entries i d).series ≡ series)) → None ≡ position (is_wanted series moment) entries
  found_other within other =
      found_none (is_wanted series moment) entries
      (λ k d less. elim (cases_lt k i) [
        | inl low ↦ passed (get_or entries k d) (prefix k d (omega arith) low)
        | inr high ↦ unwanted (get_or entries k d) (λ wanted.
            false≢true (sym (above (get_or entries i d) (rest i d (omega arith) within) (other d))
            ∙ partitioned tier (suc series) 0 before entries order i k d high less (wanted_low (get_or entries k d) wanted)))
      ])

  pub found_end : length entries ≤ i → None ≡ position (is_wanted series moment) entries
  found_end end =
      found_none (is_wanted series moment) entries
      (λ k d less. passed (get_or entries k d) (prefix k d (omega arith) (omega (arith, less, end))))
