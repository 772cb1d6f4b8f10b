-- What the marks of the values of a block tell of them, and the bits of the marks.
use Rattle.std.proofs.Common.{arith, ◌≡◌, ℕ, zero, suc, ◌-◌, ◌<◌, Bool, true, false, bit_and, List, [], ◌∷◌, map, set, get_or, take, drop, length, position, Some, None, refl, sym, ap, ◌∙◌}
use Rattle.std.specs.List.{remove}
use Rattle.std.proofs.lemmas.List.{length-map, get_or-map, length-set, get_or-set_same}
use Rattle.std.proofs.lemmas.List.Elements.{All-append, All-take, All-drop, All-same}
use Rattle.std.proofs.lemmas.Nat.{and_le_r}
use Rattle.std.proofs.lemmas.Option.{slice_get-get_or}
use Rattle.history.specs.declared.beat.OpenValue.{OpenValue}
use Rattle.history.specs.Looking.{is_value, same_value}
use Rattle.indexmap.proofs.SetLemmas.{map-remove}
use Rattle.chart_registry.proofs.Lists.{position-missed}
use Rattle.chart_registry.proofs.Places.{map-set_kept}
use Rattle.chart_registry.proofs.RowsLemmas.{same_text}
use Rattle.collect_block.specs.Marks.{mark_of, has_bit, AreMarksOf, AreSeen}
use Rattle.chart_registry.proofs.TablesLemmas.{place-within, passes-place}

abbrev own_mark : OpenValue → ℕ
own_mark value = mark_of value.id

module _ (marks : List ℕ) (values : List OpenValue) (marked : AreMarksOf marks values) where
  pub length-marks : length marks ≡ length values
  length-marks = ap length marked ∙ length-map values own_mark

  -- where another mark stands, there is another dimension
  pub mark-apart : (id : List ℕ) (k : ℕ) → k < length values → (mark_of id ≡ get_or marks k 0 → ⊥) → (d : OpenValue) → is_value id (get_or values k d) ≡ false
  mark-apart id k within apart d = by (is_value id (get_or values k d)) refl
    where
      beside : get_or marks k 0 ≡ own_mark (get_or values k d)
      beside = ap (λ marks. get_or marks k 0) marked ∙ get_or-map own_mark values k d 0 within

      by : (b : Bool) → is_value id (get_or values k d) ≡ b → is_value id (get_or values k d) ≡ false
      by true e = absurd (apart (ap mark_of (same_text id (get_or values k d).id e) ∙ sym beside))
      by false e = e

  -- a value in the place of an earlier one of the same dimension leaves the marks
  pub marks-replaced : (value : OpenValue) (n : ℕ) → position (same_value value) values ≡ Some n → AreMarksOf marks (set values n value)
  marks-replaced value n found =
      let old = get_or values n value in
      let same : value.id ≡ old.id = same_text value.id old.id (passes-place (same_value value) values n found value) in
      marked ∙ sym (map-set_kept own_mark values n old value (slice_get-get_or values n value (place-within (same_value value) values n found)) (ap mark_of same))

  -- a value leaves with its mark
  pub marks-removed : (n : ℕ) (marks' : List ℕ) (values' : List OpenValue) → marks' ≡ remove marks n → values' ≡ remove values n → AreMarksOf marks' values'
  marks-removed n marks' values' without without' = without ∙ ap (λ marks. remove marks n) marked ∙ sym (map-remove own_mark values n) ∙ ap (map own_mark) (sym without')

  -- where the bit of an id's mark is not set, its dimension is not among the values
  pub values-unseen : (bits : List Bool) (id : List ℕ) → AreSeen bits marks → has_bit bits (mark_of id) ≡ false → position (is_value id) values ≡ None
  values-unseen bits id seen unset =
      position-missed (is_value id) values (length values) (λ k within d.
      mark-apart id k within (λ same.
      let on : has_bit bits (get_or marks k 0) ≡ true = seen k 0 (omega (arith, length-marks)) in
      let off : has_bit bits (get_or marks k 0) ≡ false = ap (has_bit bits) (sym same) ∙ unset in
      cc) d) (omega arith)

-- ---- the bits of marks
-- a bit that is set stays so
kept : (bits : List Bool) (n k : ℕ) → get_or bits k false ≡ true → get_or (set bits n true) k false ≡ true
kept [] n k was = was
kept (bit ∷ bits) zero zero was = refl
kept (bit ∷ bits) zero (suc k) was = was
kept (bit ∷ bits) (suc n) zero was = was
kept (bit ∷ bits) (suc n) (suc k) was = kept bits n k was

module _ (bits : List Bool) (mark : ℕ) where
  -- the bit of a mark
  abbrev own_bit : ℕ
  own_bit = bit_and mark (length bits - 1)

  pub bit-set : 0 < length bits → has_bit (set bits own_bit true) mark ≡ true
  unfolding has_bit
  bit-set some =
      ap (λ n. get_or (set bits own_bit true) (bit_and mark (n - 1)) false) (length-set bits own_bit true)
      ∙ get_or-set_same bits own_bit true false (omega (arith, and_le_r mark (length bits - 1)))

  pub bit-kept : (n : ℕ) → has_bit bits mark ≡ true → has_bit (set bits n true) mark ≡ true
  unfolding has_bit
  bit-kept n was =
      ap (λ length. get_or (set bits n true) (bit_and mark (length - 1)) false) (length-set bits n true) ∙ kept bits n own_bit was

abbrev HasBit : List Bool → ℕ → Type 0
HasBit bits mark = has_bit bits mark ≡ true

module _ (bits : List Bool) (marks : List ℕ) (seen : AreSeen bits marks) where
  -- a mark leaves
  pub seen-removed : (n : ℕ) (marks' : List ℕ) → marks' ≡ remove marks n → AreSeen bits marks'
  seen-removed n marks' without =
      All-same (HasBit bits) marks' (remove marks n) without
      (All-append (HasBit bits) (take n marks) (drop (suc n) marks) (All-take (HasBit bits) n marks seen) (All-drop (HasBit bits) (suc n) marks seen))
