-- The series of a chart, one dimension after the other.
use Rattle.std.proofs.Common.{◌≡◌, ℕ, ◌+◌, Bool, true, false, List, [], ◌∷◌, ◌++◌, length, count_by, if◌then◌else◌, refl, sym, ◌∙◌, arith}
use Rattle.std.proofs.lemmas.List.Sums.{sum_by-cons}
use Rattle.history.specs.declared.beat.OpenDim.{OpenDim}
use Rattle.history.specs.Registry.{Registry, is_of}
use Rattle.chart_registry.specs.Defining.{chart_id}
use Rattle.alarm_core.specs.Series.{series_from, series_of_chart}

pub first_series : (chart : List ℕ) (first : ℕ) (dimension : OpenDim) (others : List OpenDim) (kept test : Bool)
    → kept ≡ test → is_of chart dimension ≡ test
    → series_from chart first (dimension ∷ others) ≡ (if kept then first ∷ [] else []) ++ series_from chart (first + 1) others
first_series chart first dimension others true true same is = rw is refl
first_series chart first dimension others false false same is = rw is refl
first_series chart first dimension others true false same is = cc
first_series chart first dimension others false true same is = cc

count_first : (chart : List ℕ) (first : ℕ) (dimension : OpenDim) (others : List OpenDim) (test : Bool) → is_of chart dimension ≡ test
    → length (series_from chart (first + 1) others) ≡ count_by (is_of chart) others
    → length (series_from chart first (dimension ∷ others)) ≡ (if test then 1 else 0) + count_by (is_of chart) others
count_first chart first dimension others true is more = rw is (omega (arith, more))
count_first chart first dimension others false is more = rw is (omega (arith, more))

-- a chart has as many series as dimensions
pub series_count : (chart : List ℕ) (first : ℕ) (dimensions : List OpenDim) → length (series_from chart first dimensions) ≡ count_by (is_of chart) dimensions
series_count chart first [] = refl
series_count chart first (dimension ∷ others) =
    count_first chart first dimension others (is_of chart dimension) refl (series_count chart (first + 1) others)
    ∙ sym (sum_by-cons (λ (one : OpenDim). if is_of chart one then 1 else 0) dimension others)

pub chart_count : (registry : Registry) (chart : ℕ) → length (series_of_chart registry chart) ≡ count_by (is_of (chart_id registry chart)) registry.dimensions
unfolding series_of_chart
chart_count registry chart = series_count (chart_id registry chart) 0 registry.dimensions
