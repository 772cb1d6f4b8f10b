-- What a registry that has grown says of the definitions of a beat.
use Rattle.std.proofs.Common.{◌≡◌, ℕ, ◌≤◌, Bool, true, false, cond, not, ◌&&◌, ◌||◌, List, [], ◌∷◌, refl, sym, ap, ◌∙◌, arith, true≢false}
use Rattle.std.specs.List.{list_any, count_by}
use Rattle.std.proofs.lemmas.List.Sums.{sum_by-cons}
use Rattle.history.specs.declared.beat.OpenDim.{OpenDim}
use Rattle.history.specs.declared.chart.ChartDef.{ChartDef}
use Rattle.history.specs.Refusal.{is_new_chart, is_new_dimension, is_new_of}
use Rattle.history.specs.Registry.{Registry, is_chart, is_of, is_dimension, same_chart, same_dimension, with_definitions}
use Rattle.chart_registry.proofs.Applying.{any-put_all, same_chart-alike}
use Rattle.chart_registry.proofs.Growing.{same_dimension-alike}
use Rattle.collect_block.specs.declared.feed.Feed.{Feed}
use Rattle.collect_block.specs.Feed.{CountsFor}
use Rattle.collect_block.specs.Grown.{HasAllOf}

or-kept : (a b : Bool) → a ≡ true → (a || b) ≡ true
or-kept a b e = ap (λ a. a || b) e

-- a test that passes only where another does
not-fewer : (a b : Bool) → (a ≡ true → b ≡ true) → cond {A = ℕ} (not b) 1 0 ≤ cond (not a) 1 0
not-fewer true true all = omega arith
not-fewer true false all = absurd (true≢false (sym (all refl)))
not-fewer false true all = omega arith
not-fewer false false all = omega arith

and_not-fewer : (o a b : Bool) → (a ≡ true → b ≡ true) → cond {A = ℕ} (o && not b) 1 0 ≤ cond (o && not a) 1 0
and_not-fewer true a b all = not-fewer a b all
and_not-fewer false a b all = omega arith

count-fewer : {A : Type 0} (p q : A → Bool) → ((x : A) → cond {A = ℕ} (q x) 1 0 ≤ cond (p x) 1 0) → (xs : List A) → count_by q xs ≤ count_by p xs
count-fewer p q fewer [] = omega arith
count-fewer p q fewer (x ∷ xs) = omega (arith, sum_by-cons (λ x. cond (p x) 1 0) x xs, sum_by-cons (λ x. cond (q x) 1 0) x xs, fewer x, count-fewer p q fewer xs)

module _ (registry later : Registry) (all : HasAllOf registry later) where
  fewer-charts : (charts : List ChartDef) → count_by (is_new_chart later) charts ≤ count_by (is_new_chart registry) charts
  fewer-charts = count-fewer (is_new_chart registry) (is_new_chart later)
      (λ def. not-fewer (list_any (is_chart def.id) registry.charts) (list_any (is_chart def.id) later.charts) (all.charts def.id))

  has_all : (x : OpenDim) → list_any (same_dimension x) registry.dimensions ≡ true → list_any (same_dimension x) later.dimensions ≡ true
  has_all x = all.dimensions x.chart x.def.id

  fewer-dimensions : (dimensions : List OpenDim) → count_by (is_new_dimension later) dimensions ≤ count_by (is_new_dimension registry) dimensions
  fewer-dimensions = count-fewer (is_new_dimension registry) (is_new_dimension later)
      (λ x. not-fewer (list_any (same_dimension x) registry.dimensions) (list_any (same_dimension x) later.dimensions) (has_all x))

  fewer-each : (chart : List ℕ) (dimensions : List OpenDim)
      → count_by (is_new_of later chart) dimensions ≤ count_by (is_new_of registry chart) dimensions
  fewer-each chart = count-fewer (is_new_of registry chart) (is_new_of later chart)
      (λ x. and_not-fewer (is_of chart x) (list_any (same_dimension x) registry.dimensions) (list_any (same_dimension x) later.dimensions) (has_all x))

  pub counts-later : (feed : Feed) → CountsFor feed registry → CountsFor feed later
  counts-later feed counts = record {
    beat = record {
      charts = omega (arith, counts.beat.charts, fewer-charts feed.beat.charts);
      dimensions = omega (arith, counts.beat.dimensions, fewer-dimensions feed.beat.dimensions);
      each = λ chart. omega (arith, counts.beat.each chart, fewer-each chart feed.beat.dimensions);
    };
  }

pub grown-has_all : (registry : Registry) (charts : List ChartDef) (dimensions : List OpenDim) → HasAllOf registry (with_definitions registry charts dimensions)
grown-has_all registry charts dimensions = record {
  charts = λ id there. any-put_all same_chart (is_chart id) (same_chart-alike id) registry.charts charts ∙ or-kept (list_any (is_chart id) registry.charts) (list_any (is_chart id) charts) there;
  dimensions = λ chart id there.
      any-put_all same_dimension (is_dimension chart id) (same_dimension-alike chart id) registry.dimensions dimensions
      ∙ or-kept (list_any (is_dimension chart id) registry.dimensions) (list_any (is_dimension chart id) dimensions) there;
}
