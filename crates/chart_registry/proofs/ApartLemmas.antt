-- Lists in which each thing stands once. A registry has each dimension once, so each has its place as its number.
use Rattle.std.proofs.Common.{◌≡◌, ℕ, zero, suc, ◌+◌, Bool, true, false, ◌&&◌, ◌||◌, List, [], ◌∷◌, ◌++◌, drop, cond, slice_get, Some, refl, sym, ap, ◌∙◌, true≢false, if◌then◌else◌}
use Rattle.std.specs.List.{filter, list_any}
use Rattle.std.specs.Str.{bytes_eq}
use Rattle.std.proofs.lemmas.Bool.{and_parts}
use Rattle.std.proofs.lemmas.List.Folds.{list_any-append}
use Rattle.std.proofs.lemmas.Option.{same_Some, none-some}
use Rattle.history.specs.declared.beat.OpenDim.{OpenDim}
use Rattle.history.specs.declared.chart.ChartDef.{ChartDef}
use Rattle.history.specs.History.{Beat, collected, copied, health, missing, registry_of}
use Rattle.history.specs.Put.{put, put_all}
use Rattle.history.specs.Registry.{Registry, is_chart, is_dimension, same_chart, same_dimension, series_of}
use Rattle.chart_registry.proofs.Applying.{any-put, same_chart-alike}
use Rattle.chart_registry.proofs.Places.{IsFirst, first-from_position, position-first}
use Rattle.chart_registry.proofs.RegistryLemmas.{or_false}
use Rattle.chart_registry.proofs.RowsLemmas.{same_text, bytes_eq_same}
use Rattle.history.specs.Regular.{AreApart}
use Rattle.chart_registry.proofs.Growing.{same_dimension-alike}

-- ---- the same dimension
pub same-parts : (x y : OpenDim) → same_dimension x y ≡ true → (x.chart ≡ y.chart) × (x.def.id ≡ y.def.id)
same-parts x y e =
    let parts = and_parts (bytes_eq x.chart y.chart) (bytes_eq x.def.id y.def.id) e in
    (same_text x.chart y.chart parts.0, same_text x.def.id y.def.id parts.1)

same-from : (x y : OpenDim) → x.chart ≡ y.chart → x.def.id ≡ y.def.id → same_dimension x y ≡ true
same-from x y chart id = ap (λ (b : Bool). b && bytes_eq x.def.id y.def.id) (bytes_eq_same x.chart y.chart chart) ∙ bytes_eq_same x.def.id y.def.id id

-- ---- things of which none is the same as a later one
-- those that pass a test
pub any-filter : {A : Type 0} (p q : A → Bool) (xs : List A) → list_any p xs ≡ false → list_any p (filter q xs) ≡ false
any-filter p q [] none = refl
any-filter p q (x ∷ xs) none = let parts = or_false (p x) (list_any p xs) none in by (q x) parts.0 (any-filter p q xs parts.1)
  where
    by : (b : Bool) → p x ≡ false → list_any p (filter q xs) ≡ false → list_any p (cond b (x ∷ filter q xs) (filter q xs)) ≡ false
    by true here rest = λ i. here i || rest i
    by false here rest = rest

pub apart-filter : {A : Type 0} (same : A → A → Bool) (q : A → Bool) (xs : List A) → AreApart same xs → AreApart same (filter q xs)
apart-filter same q [] apart = tt
apart-filter same q (x ∷ xs) apart = by (q x) (apart-filter same q xs apart.1)
  where
    by : (b : Bool) → AreApart same (filter q xs) → AreApart same (cond b (x ∷ filter q xs) (filter q xs))
    by true rest = (any-filter (same x) q xs apart.0, rest)
    by false rest = rest

module _ {A : Type 0} (same : A → A → Bool) (itself : (x : A) → same x x ≡ true) (left : (x y : A) → same x y ≡ true → same x ≡ same y) where
  pub turned : (x y : A) → same x y ≡ false → same y x ≡ false
  turned x y e = by (same y x) refl
    where
      by : (b : Bool) → same y x ≡ b → same y x ≡ false
      by true t = absurd (true≢false (sym (itself y) ∙ ap (λ (p : A → Bool). p y) (left y x t) ∙ e))
      by false t = t

  -- one more at the end
  pub apart-push : (xs : List A) (x : A) → AreApart same xs → list_any (same x) xs ≡ false → AreApart same (xs ++ x ∷ [])
  apart-push [] x apart none = (refl, tt)
  apart-push (y ∷ xs) x apart none =
      let parts = or_false (same x y) (list_any (same x) xs) none in
      (list_any-append (same y) xs (x ∷ []) ∙ (λ i. apart.0 i || (turned x y parts.0 i || false)), apart-push xs x apart.1 parts.1)

  -- one more in its place
  module _ (right : (z x y : A) → same x y ≡ true → same z x ≡ same z y) where
    pub apart-put : (xs : List A) (x : A) → AreApart same xs → AreApart same (put same xs x)
    apart-put [] x apart = (refl, tt)
    apart-put (y ∷ xs) x apart = by (same x y) refl (apart-put xs x apart.1)
      where
        by : (b : Bool) → same x y ≡ b → AreApart same (put same xs x) → AreApart same (if b then x ∷ xs else y ∷ put same xs x)
        by true e rest = (ap (λ (p : A → Bool). list_any p xs) (left x y e) ∙ apart.0, apart.1)
        by false e rest = (any-put same (same y) (right y) xs x ∙ (λ i. apart.0 i || turned x y e i), rest)

-- ---- what is put stays apart
pub itself : (x : OpenDim) → same_dimension x x ≡ true
itself x = same-from x x refl refl

pub left : (x y : OpenDim) → same_dimension x y ≡ true → same_dimension x ≡ same_dimension y
left x y e = let parts = same-parts x y e in λ i. is_dimension (parts.0 i) (parts.1 i)

apart-put_all : (ds xs : List OpenDim) → AreApart same_dimension ds → AreApart same_dimension (put_all same_dimension ds xs)
apart-put_all ds [] apart = apart
apart-put_all ds (x ∷ xs) apart = apart-put_all (put same_dimension ds x) xs (apart-put same_dimension itself left (λ z. same_dimension-alike z.chart z.def.id) ds x apart)

pub apart-registry : (h : List Beat) → AreApart same_dimension (registry_of h).dimensions
apart-registry [] = tt
apart-registry (collected moment beat ∷ h) = apart-put_all (registry_of h).dimensions beat.dimensions (apart-registry h)
apart-registry (copied copy ∷ h) = apart-put_all (registry_of h).dimensions copy.dimensions (apart-registry h)
apart-registry (health text ∷ h) = apart-registry h
apart-registry (missing gap ∷ h) = apart-registry h

-- a registry has each chart once
pub chart-left : (x y : ChartDef) → same_chart x y ≡ true → same_chart x ≡ same_chart y
chart-left x y e = λ i. is_chart (same_text x.id y.id e i)

charts-put_all : (cs xs : List ChartDef) → AreApart same_chart cs → AreApart same_chart (put_all same_chart cs xs)
charts-put_all cs [] apart = apart
charts-put_all cs (x ∷ xs) apart = charts-put_all (put same_chart cs x) xs (apart-put same_chart (λ x. bytes_eq_same x.id x.id refl) chart-left (λ z. same_chart-alike z.id) cs x apart)

pub apart-charts : (h : List Beat) → AreApart same_chart (registry_of h).charts
apart-charts [] = tt
apart-charts (collected moment beat ∷ h) = charts-put_all (registry_of h).charts beat.charts (apart-charts h)
apart-charts (copied copy ∷ h) = charts-put_all (registry_of h).charts copy.charts (apart-charts h)
apart-charts (health text ∷ h) = apart-charts h
apart-charts (missing gap ∷ h) = apart-charts h

-- ---- the number of a place
none-at : (p : OpenDim → Bool) (ds : List OpenDim) (n : ℕ) (d : OpenDim) → list_any p ds ≡ false → slice_get ds n ≡ Some d → p d ≡ false
none-at p [] n d none at = absurd (none-some d at)
none-at p (x ∷ ds) zero d none at = ap p (sym (same_Some x d at)) ∙ (or_false (p x) (list_any p ds) none).0
none-at p (x ∷ ds) (suc n) d none at = none-at p ds n d (or_false (p x) (list_any p ds) none).1 at

first-apart : (ds : List OpenDim) (n : ℕ) (d : OpenDim) → AreApart same_dimension ds → slice_get ds n ≡ Some d → IsFirst (same_dimension d) ds n
first-apart [] n d apart at = absurd (none-some d at)
first-apart (x ∷ ds) zero d apart at = let same = same_Some x d at in same-from d x (ap (λ (d : OpenDim). d.chart) (sym same)) (ap (λ (d : OpenDim). d.def.id) (sym same))
first-apart (x ∷ ds) (suc n) d apart at = (turned same_dimension itself left x d (none-at (same_dimension x) ds n d apart.0 at), first-apart ds n d apart.1 at)

pub own-series : (registry : Registry) (n : ℕ) (d : OpenDim) → AreApart same_dimension registry.dimensions → slice_get registry.dimensions n ≡ Some d → series_of registry d.chart d.def.id ≡ Some n
own-series registry n d apart at = position-first (same_dimension d) registry.dimensions n (first-apart registry.dimensions n d apart at)

pub apart-drop : {A : Type 0} (same : A → A → Bool) (xs : List A) (n : ℕ) → AreApart same xs → AreApart same (drop n xs)
apart-drop same xs zero apart = apart
apart-drop same [] (suc n) apart = tt
apart-drop same (x ∷ xs) (suc n) apart = apart-drop same xs n apart.1

-- ---- a series has one chart and one id
one_dimension : (chart id chart' id' : List ℕ) (dimensions : List OpenDim) (n : ℕ) → IsFirst (is_dimension chart id) dimensions n → IsFirst (is_dimension chart' id') dimensions n → (chart ≡ chart') × (id ≡ id')
one_dimension chart id chart' id' [] n h h' = absurd h
one_dimension chart id chart' id' (x ∷ xs) zero h h' =
    let parts = and_parts (bytes_eq chart x.chart) (bytes_eq id x.def.id) h in
    let parts' = and_parts (bytes_eq chart' x.chart) (bytes_eq id' x.def.id) h' in
    (same_text chart x.chart parts.0 ∙ sym (same_text chart' x.chart parts'.0), same_text id x.def.id parts.1 ∙ sym (same_text id' x.def.id parts'.1))
one_dimension chart id chart' id' (x ∷ xs) (suc n) h h' = one_dimension chart id chart' id' xs n h.1 h'.1

pub one_series : (registry : Registry) (chart id chart' id' : List ℕ) (n : ℕ) → series_of registry chart id ≡ Some n → series_of registry chart' id' ≡ Some n → (chart ≡ chart') × (id ≡ id')
one_series registry chart id chart' id' n e e' =
    one_dimension chart id chart' id' registry.dimensions n (first-from_position (is_dimension chart id) registry.dimensions n e) (first-from_position (is_dimension chart' id') registry.dimensions n e')
