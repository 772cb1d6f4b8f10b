-- Which slots extents have, and how many.
use Rattle.std.proofs.Common.{◌≡◌, ◌≢◌, ℕ, zero, suc, ◌<◌, ◌≤◌, Bool, true, false, ◌||◌, eqb, List, [], ◌∷◌, length, map, get_or, refl, sym, ap, ◌∙◌, subst, ◌+◌, ◌⊎◌, inl, inr, arith}
use Rattle.std.proofs.lemmas.Bool.{eqb-false, false≢true, ne_eqb, or_parts}
use Rattle.std.proofs.lemmas.Bool.Decides.{eqb_tells}
use Rattle.std.proofs.lemmas.List.{length-map}
use Rattle.std.proofs.lemmas.List.Folds.{list_any_none}
use Rattle.std.proofs.lemmas.Map.Steps.{le-length_from_below}
use Rattle.std.specs.List.{list_any}
use Rattle.checkpoint_body.specs.declared.body.Extent.{Extent}
use Rattle.store_core.specs.disk.Slots.{is_used, IsUnused}

used_slots : (extents : List Extent) (slot : ℕ) → list_any (eqb slot) (map (λ (extent : Extent). extent.slot) extents) ≡ is_used extents slot
used_slots [] slot = refl
used_slots (extent ∷ extents) slot = ap (λ (b : Bool). eqb slot extent.slot || b) (used_slots extents slot)

-- extents that have each slot below a number are that many at least
pub used_most : (extents : List Extent) (count : ℕ) → ((slot : ℕ) → slot < count → is_used extents slot ≡ true) → count ≤ length extents
used_most extents count each =
    let long = length-map extents (λ (extent : Extent). extent.slot) in
    let most = le-length_from_below (map (λ (extent : Extent). extent.slot) extents) count (λ slot below. used_slots extents slot ∙ each slot below) in
    omega (arith, long, most)

-- and with one more slot one more
pub used_more : (extents : List Extent) (count : ℕ) → ((slot : ℕ) → slot < count → is_used extents slot ≡ true) → is_used extents count ≡ true → count < length extents
used_more extents count each here = (let most = used_most extents (count + 1) (λ slot below. at slot below (eqb_tells slot count)) in omega (arith, most))
  where
    at : (slot : ℕ) → slot < count + 1 → ((eqb slot count ≡ true) × (slot ≡ count)) ⊎ ((eqb slot count ≡ false) × (slot ≢ count)) → is_used extents slot ≡ true
    at slot below (inl same) = subst (λ (n : ℕ). is_used extents n ≡ true) (sym same.1) here
    at slot below (inr apart) = (let other = apart.1 in each slot (omega (arith, other, below)))

pub unused : (extents : List Extent) (slot : ℕ) → is_used extents slot ≡ false → IsUnused extents slot
unused [] slot none k extent within = absurd (omega (arith, within))
unused (first ∷ extents) slot none zero extent within = λ same. eqb-false slot first.slot (or_parts (eqb slot first.slot) (is_used extents slot) none).0 (sym same)
unused (first ∷ extents) slot none (suc k) extent within =
    unused extents slot (or_parts (eqb slot first.slot) (is_used extents slot) none).1 k extent (omega (arith, within))

pub never_unused : (extents : List Extent) (slot : ℕ) → is_used extents slot ≡ true → IsUnused extents slot → ⊥
never_unused extents slot used none =
    false≢true (sym (list_any_none (λ (extent : Extent). eqb slot extent.slot) extents (λ k extent within. ne_eqb slot (get_or extents k extent).slot (λ same. none k extent within (sym same)))) ∙ used)
