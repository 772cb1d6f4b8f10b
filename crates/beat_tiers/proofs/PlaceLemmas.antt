-- How many places items have is how many beats gave them.
use Rattle.std.proofs.Common.{◌≡◌, ℕ, ◌+◌, ◌≤◌, Bool, true, false, not, cond, List, [], ◌∷◌, ◌++◌, length, filter, Option, Some, None, arith, refl, sym, ap, ◌∙◌}
use Rattle.std.specs.List.{AllByRecursion}
use Rattle.std.proofs.lemmas.Bool.{cond_both, cond-true, cond-false, eq-eqb, lt-ltb, ltb-true, ne_eqb}
use Rattle.beat_tiers.specs.declared.item.Item.{Item}
use Rattle.beat_tiers.specs.Beats.{TierBeat}
use Rattle.beat_tiers.specs.Segments.{is_elsewhere, places_behind}
use Rattle.beat_tiers.specs.State.{point_items}
use Rattle.beat_tiers.specs.Tiers.{Group, is_after, items_in, points_given, with_group}
use Rattle.beat_tiers.proofs.GivenLemmas.{AreAt, AreBelow, ArePlaced, placed_below}
use Rattle.beat_tiers.proofs.GroupLemmas.{items_cons}

elsewhere : (before : Option ℕ) (place : ℕ) → is_after before place ≡ true → is_elsewhere before place ≡ true
elsewhere None place after = refl
elsewhere (Some before) place after = ap not (ne_eqb before place (λ e. let lt = ltb-true before place after in omega (arith, e, lt)))

module _ {T : Type 0} where
  abbrev pub HaveItems : List (Group T) → Type 0
  HaveItems groups = AllByRecursion (λ (group : Group T). 1 ≤ length group.items) groups

  pub have_filter : (test : Group T → Bool) (groups : List (Group T)) → HaveItems groups → HaveItems (filter test groups)
  have_filter test [] have = tt
  have_filter test (group ∷ groups) have =
      cond_both (test group) (group ∷ filter test groups) (filter test groups) HaveItems (λ _. (have.0, have_filter test groups have.1)) (λ _. have_filter test groups have.1)

  pub have_with : (moment : ℕ) (items : List (Item T)) (groups : List (Group T)) → HaveItems groups → HaveItems (with_group moment items groups)
  have_with moment [] groups have = have
  have_with moment (item ∷ items) groups have = (omega arith, have)

  same_place : (place least : ℕ) (items : List (Item T)) → AreAt place least items → places_behind (Some place) items ≡ 0
  same_place place least [] at = refl
  same_place place least (item ∷ items) at =
      let still : is_elsewhere (Some place) item.place ≡ false = ap not (eq-eqb place item.place (sym at.0)) in
      let none : cond {A = ℕ} (is_elsewhere (Some place) item.place) 1 0 ≡ 0 = cond-false _ _ _ still in
      let rest : places_behind (Some item.place) items ≡ 0 = ap (λ n. places_behind (Some n) items) at.0 ∙ same_place place (item.series + 1) items at.2 in
      omega (arith, none, rest)

  -- items at a later place have one place more
  one_more : (before : Option ℕ) (place least : ℕ) (xs ys : List (Item T)) → AreBelow place xs → is_after before place ≡ true → AreAt place least ys → 1 ≤ length ys
      → places_behind before (xs ++ ys) ≡ places_behind before xs + 1
  one_more before place least [] [] below after at some = absurd (omega (arith, some))
  one_more before place least [] (y ∷ ys) below after at some =
      let new : cond {A = ℕ} (is_elsewhere before y.place) 1 0 ≡ 1 = cond-true _ _ _ (ap (is_elsewhere before) at.0 ∙ elsewhere before place after) in
      let rest : places_behind (Some y.place) ys ≡ 0 = ap (λ n. places_behind (Some n) ys) at.0 ∙ same_place place (y.series + 1) ys at.2 in
      omega (arith, new, rest)
  one_more before place least (x ∷ xs) ys below after at some =
      omega (arith, one_more (Some x.place) place least xs ys below.1 (lt-ltb x.place place below.0) at some)

  -- groups at places of their own
  pub places_are : (limit : ℕ) (groups : List (Group T)) → ArePlaced limit groups → HaveItems groups → places_behind None (items_in groups) ≡ length groups
  places_are limit [] placed have = refl
  places_are limit (group ∷ groups) placed have =
      ap (places_behind None) (items_cons group groups)
      ∙ one_more None placed.0 0 (items_in groups) group.items (placed_below placed.0 groups placed.3) refl placed.2 have.0
      ∙ omega (arith, places_are placed.0 groups placed.3 have.1)

pub points_have : (beats : List TierBeat) → HaveItems (points_given beats)
points_have [] = tt
points_have (beat ∷ beats) = by beat.moment (points_have beats)
  where
    by : (moment : Option ℕ) → HaveItems (points_given beats) → HaveItems (points_given (record { moment = moment; points = beat.points } ∷ beats))
    by None rest = rest
    by (Some moment) rest = have_with moment (point_items moment beat.points) (points_given beats) rest
