-- Lists of which no item is the same as a later one, and the sets of keys by which they are tested.
use Rattle.std.proofs.Common.{◌≡◌, ℕ, ◌+◌, ◌<◌, Bool, true, false, cond, not, ◌||◌, ◌&&◌, ◌==◌, List, [], ◌∷◌, ◌++◌, length, take, drop, get_or, refl, sym, ap, subst, ◌∙◌, Bor, bytes_eq}
use Rattle.std.specs.BTreeMap.{is_at}
use Rattle.std.specs.BTreeSet.{BTreeSet, contains, Updates}
use Rattle.std.specs.Cmp.{IsEquivalence, both_tied, unsigned_ties}
use Rattle.std.specs.Cmp.Lexicographic.{slice_cmp, nat_list_eq_equiv}
use Rattle.std.specs.List.{list_any, AllByRecursion, IsDistinct}
use Rattle.std.specs.Ordering.{is_eq, nat_cmp, ordering_then}
use Rattle.std.specs.declared.cmp.Ordering.{Ordering}
use Rattle.std.proofs.lemmas.Cmp.{on_equiv, and_equiv, nat_eq_equiv}
use Rattle.std.proofs.lemmas.List.{drop_more, take_more, take-append-drop}
use Rattle.std.proofs.lemmas.List.Folds.{list_any-append}
use Rattle.std.proofs.lemmas.Map.Keys.{IsDistinct-push}
use Rattle.std.proofs.lemmas.Map.Text.{is_eq-slice_cmp}
use Rattle.replication.specs.declared.names.ChartName.{ChartName}
use Rattle.replication.specs.declared.names.DimName.{DimName}
use Rattle.link_frames.specs.DataForm.{same_chart, same_dimension}

-- what holds of each item holds of one in the midst
all-middle : {X : Type 0} (P : X → Type 0) (xs rest : List X) (x : X) → AllByRecursion P (xs ++ x ∷ rest) → P x
all-middle P [] rest x all = all.0
all-middle P (y ∷ xs) rest x all = all-middle P xs rest x all.1

or-false : (a b : Bool) → a ≡ false → (a || b) ≡ b
or-false a b is = ap (λ (a : Bool). a || b) is

cond-or : (a b : Bool) → cond b true a ≡ (a || (b || false))
cond-or true true = refl
cond-or true false = refl
cond-or false true = refl
cond-or false false = refl

pub none-apart : {X : Type 0} (same : X → X → Bool) → IsDistinct same []
unfolding IsDistinct
none-apart same = tt

was-there : (b : Bool) → not b ≡ false → b ≡ true
was-there true is = refl
was-there false is = absurd cc

was-not : (b : Bool) → not b ≡ true → b ≡ false
was-not true is = absurd cc
was-not false is = refl

module _ {X : Type 0} {same : X → X → Bool} (laws : IsEquivalence same) where
  -- an item that is the same as one before it
  twice : (xs rest : List X) (x : X) → list_any (same x) xs ≡ true → IsDistinct same (xs ++ x ∷ rest) → ⊥
  unfolding IsDistinct
  twice [] rest x any apart = absurd cc
  twice (y ∷ xs) rest x any apart =
      let other : same x y ≡ false = laws.symm x y ∙ all-middle (λ z. same y z ≡ false) xs rest x apart.0 in
      twice xs rest x (sym (or-false (same x y) (list_any (same x) xs) other) ∙ any) apart.1

  pub seen-before : (xs : List X) (i : ℕ) (d : X) → i < length xs → list_any (same (get_or xs i d)) (take i xs) ≡ true → IsDistinct same xs → ⊥
  seen-before xs i d within any apart =
      let split : take i xs ++ get_or xs i d ∷ drop (i + 1) xs ≡ xs = ap (λ (ys : List X). take i xs ++ ys) (sym (drop_more xs i d within)) ∙ take-append-drop i xs in
      twice (take i xs) (drop (i + 1) xs) (get_or xs i d) any (subst (IsDistinct same) (sym split) apart)

  pub one-more : (xs : List X) (i : ℕ) (d : X) → i < length xs → IsDistinct same (take i xs) → list_any (same (get_or xs i d)) (take i xs) ≡ false → IsDistinct same (take (i + 1) xs)
  one-more xs i d within apart none =
      subst (IsDistinct same) (sym (take_more xs i d within)) (IsDistinct-push laws (take i xs) (get_or xs i d) apart none)

-- a set that has the keys of these items has the one that was put in too
grown : {X K : Type 0} (cmp : K → K → Ordering) (is : K → X → Bool) (s n : BTreeSet K) (key : K) (xs : List X) (x : X) → ((q : K) → contains cmp s q ≡ list_any (is q) xs)
    → Updates cmp s n key true → ((q : K) → is_eq (cmp key q) ≡ is q x) → (q : K) → contains cmp n q ≡ list_any (is q) (xs ++ x ∷ [])
grown cmp is s n key xs x has updates at q =
    updates.0 q ∙ (λ i. cond (at q i) true (has q i)) ∙ cond-or (list_any (is q) xs) (is q x) ∙ sym (list_any-append (is q) xs (x ∷ []))

-- ---- charts, by their ids
pub charts_equiv : IsEquivalence same_chart
charts_equiv = on_equiv (λ (c : ChartName). c.id) nat_list_eq_equiv

abbrev pub text_cmp : Bor (List ℕ) → Bor (List ℕ) → Ordering
text_cmp x y = slice_cmp nat_cmp x.now y.now

abbrev pub is_id_of : Bor (List ℕ) → ChartName → Bool
is_id_of q chart = bytes_eq q.now chart.id

-- the set has the ids of these charts
abbrev pub HasIds : BTreeSet (Bor (List ℕ)) → List ChartName → Type 0
HasIds seen charts = (q : Bor (List ℕ)) → contains text_cmp seen q ≡ list_any (is_id_of q) charts

pub ids-grown : (s n : BTreeSet (Bor (List ℕ))) (key : Bor (List ℕ)) (xs : List ChartName) (x : ChartName) → HasIds s xs → key.now ≡ x.id → Updates text_cmp s n key true → HasIds n (xs ++ x ∷ [])
ids-grown s n key xs x has at updates =
    grown text_cmp is_id_of s n key xs x has updates (λ q. is_eq-slice_cmp key.now q.now ∙ nat_list_eq_equiv.symm key.now q.now ∙ ap (bytes_eq q.now) at)

pub ids-seen : (s : BTreeSet (Bor (List ℕ))) (key : Bor (List ℕ)) (xs : List ChartName) (x : ChartName) → HasIds s xs → key.now ≡ x.id → contains text_cmp s key ≡ list_any (same_chart x) xs
ids-seen s key xs x has at = has key ∙ ap (λ (id : List ℕ). list_any (λ (c : ChartName). bytes_eq id c.id) xs) at

pub ids-none : (s : BTreeSet (Bor (List ℕ))) → s.keys ≡ [] → HasIds s []
ids-none s empty = λ q. ap (list_any (is_at (text_cmp q))) empty

module _ (s : BTreeSet (Bor (List ℕ))) (key : Bor (List ℕ)) (xs : List ChartName) (i : ℕ) (x : ChartName) (within : i < length xs) (is : x ≡ get_or xs i x) (has : HasIds s (take i xs)) where
  pub ids-next : (n : BTreeSet (Bor (List ℕ))) → key.now ≡ x.id → Updates text_cmp s n key true → HasIds n (take (i + 1) xs)
  ids-next n at updates = subst (HasIds n) (sym (take_more xs i x within)) (ids-grown s n key (take i xs) (get_or xs i x) has (at ∙ ap (λ (c : ChartName). c.id) is) updates)

  pub ids-new : (added : Bool) → key.now ≡ x.id → IsDistinct same_chart (take i xs) → added ≡ not (contains text_cmp s key) → added ≡ true → IsDistinct same_chart (take (i + 1) xs)
  ids-new added at apart told new =
      one-more charts_equiv xs i x within apart (sym (ids-seen s key (take i xs) (get_or xs i x) has (at ∙ ap (λ (c : ChartName). c.id) is)) ∙ was-not (contains text_cmp s key) (sym told ∙ new))

  pub ids-twice : (added : Bool) → key.now ≡ x.id → added ≡ not (contains text_cmp s key) → added ≡ false → IsDistinct same_chart xs → ⊥
  ids-twice added at told old apart =
      seen-before charts_equiv xs i x within (sym (ids-seen s key (take i xs) (get_or xs i x) has (at ∙ ap (λ (c : ChartName). c.id) is)) ∙ was-there (contains text_cmp s key) (sym told ∙ old)) apart

-- ---- dimensions, by their charts and ids
pub dimensions_equiv : IsEquivalence same_dimension
dimensions_equiv = and_equiv (on_equiv (λ (d : DimName). d.chart) nat_eq_equiv) (on_equiv (λ (d : DimName). d.id) nat_list_eq_equiv)

abbrev pub key_cmp : ℕ × Bor (List ℕ) → ℕ × Bor (List ℕ) → Ordering
key_cmp x y = ordering_then (nat_cmp x.0 y.0) (slice_cmp nat_cmp x.1.now y.1.now)

abbrev pub is_key_of : ℕ × Bor (List ℕ) → DimName → Bool
is_key_of q dimension = (q.0 == dimension.chart) && bytes_eq q.1.now dimension.id

-- the set has the charts and ids of these dimensions
abbrev pub HasKeys : BTreeSet (ℕ × Bor (List ℕ)) → List DimName → Type 0
HasKeys seen dimensions = (q : ℕ × Bor (List ℕ)) → contains key_cmp seen q ≡ list_any (is_key_of q) dimensions

pub keys-grown : (s n : BTreeSet (ℕ × Bor (List ℕ))) (key : ℕ × Bor (List ℕ)) (xs : List DimName) (x : DimName) → HasKeys s xs → key.0 ≡ x.chart → key.1.now ≡ x.id → Updates key_cmp s n key true → HasKeys n (xs ++ x ∷ [])
keys-grown s n key xs x has chart id updates =
    grown key_cmp is_key_of s n key xs x has updates (λ q.
    sym (both_tied (key.0 == q.0) (bytes_eq key.1.now q.1.now) (nat_cmp key.0 q.0) (slice_cmp nat_cmp key.1.now q.1.now) (unsigned_ties key.0 q.0) (sym (is_eq-slice_cmp key.1.now q.1.now)))
    ∙ dimensions_equiv.symm (named key.0 key.1.now) (named q.0 q.1.now) ∙ (λ i. (q.0 == chart i) && bytes_eq q.1.now (id i)))
  where
    named : ℕ → List ℕ → DimName
    named chart id = record { chart = chart; id = id; hidden = false }

pub keys-seen : (s : BTreeSet (ℕ × Bor (List ℕ))) (key : ℕ × Bor (List ℕ)) (xs : List DimName) (x : DimName) → HasKeys s xs → key.0 ≡ x.chart → key.1.now ≡ x.id → contains key_cmp s key ≡ list_any (same_dimension x) xs
keys-seen s key xs x has chart id = has key ∙ (λ i. list_any (λ (d : DimName). (chart i == d.chart) && bytes_eq (id i) d.id) xs)

pub keys-none : (s : BTreeSet (ℕ × Bor (List ℕ))) → s.keys ≡ [] → HasKeys s []
keys-none s empty = λ q. ap (list_any (is_at (key_cmp q))) empty

module _ (s : BTreeSet (ℕ × Bor (List ℕ))) (key : ℕ × Bor (List ℕ)) (xs : List DimName) (i : ℕ) (x : DimName) (within : i < length xs) (is : x ≡ get_or xs i x) (has : HasKeys s (take i xs)) where
  pub keys-next : (n : BTreeSet (ℕ × Bor (List ℕ))) → key.0 ≡ x.chart → key.1.now ≡ x.id → Updates key_cmp s n key true → HasKeys n (take (i + 1) xs)
  keys-next n chart id updates = subst (HasKeys n) (sym (take_more xs i x within)) (keys-grown s n key (take i xs) (get_or xs i x) has (chart ∙ ap (λ (d : DimName). d.chart) is) (id ∙ ap (λ (d : DimName). d.id) is) updates)

  pub keys-new : (added : Bool) → key.0 ≡ x.chart → key.1.now ≡ x.id → IsDistinct same_dimension (take i xs) → added ≡ not (contains key_cmp s key) → added ≡ true → IsDistinct same_dimension (take (i + 1) xs)
  keys-new added chart id apart told new =
      one-more dimensions_equiv xs i x within apart (sym (keys-seen s key (take i xs) (get_or xs i x) has (chart ∙ ap (λ (d : DimName). d.chart) is) (id ∙ ap (λ (d : DimName). d.id) is)) ∙ was-not (contains key_cmp s key) (sym told ∙ new))

  pub keys-twice : (added : Bool) → key.0 ≡ x.chart → key.1.now ≡ x.id → added ≡ not (contains key_cmp s key) → added ≡ false → IsDistinct same_dimension xs → ⊥
  keys-twice added chart id told old apart =
      seen-before dimensions_equiv xs i x within (sym (keys-seen s key (take i xs) (get_or xs i x) has (chart ∙ ap (λ (d : DimName). d.chart) is) (id ∙ ap (λ (d : DimName). d.id) is)) ∙ was-there (contains key_cmp s key) (sym told ∙ old)) apart
