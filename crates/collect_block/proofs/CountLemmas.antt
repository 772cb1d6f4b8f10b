-- How many things of a list pass a test, once one thing more is put in.
use Rattle.std.proofs.Common.{◌≡◌, ℕ, ◌+◌, ◌≤◌, Bool, true, false, cond, not, ◌&&◌, ◌||◌, List, [], ◌∷◌, length, min, Option, Some, Result, Ok, OnOk, unwrap_or, refl, sym, ap, subst, ◌∙◌, arith, if◌then◌else◌}
use Rattle.std.specs.declared.alloc.Global.{Global}
use Rattle.std.specs.declared.string.String.{String}
use Rattle.std.specs.List.{list_any, count_by}
use Rattle.std.specs.Str.{bytes_eq}
use Rattle.std.proofs.lemmas.Bool.{and_parts}
use Rattle.std.proofs.lemmas.List.Sums.{sum_by-cons, count_by-le-length}
use Rattle.history.specs.declared.beat.OpenDim.{OpenDim}
use Rattle.history.specs.declared.chart.ChartDef.{ChartDef}
use Rattle.history.specs.Put.{put}
use Rattle.history.specs.Refusal.{has_chart, has_dimension, is_new_chart, is_new_dimension, is_new_of}
use Rattle.history.specs.Registry.{Registry, is_chart, is_of, is_dimension, same_chart, same_dimension}
use Rattle.chart_registry.proofs.Applying.{has_chart-any}
use Rattle.chart_registry.proofs.RowsLemmas.{same_text}
use Rattle.collect_block.specs.declared.beat_tables.BeatTables.{BeatTables}
use Rattle.collect_block.specs.BeatTables.{beat_of, CountsNew}
use Rattle.chart_registry.specs.Places.{count_in, with_count}
use Rattle.chart_registry.proofs.TablesLemmas.{bytes_eq_turned}

and-none : (a : Bool) → cond {A = ℕ} (a && false) 1 0 ≡ 0
and-none true = refl
and-none false = refl

and-all : (a : Bool) → cond {A = ℕ} (a && true) 1 0 ≡ cond a 1 0
and-all true = refl
and-all false = refl

at_most : (b : Bool) → cond b 1 0 ≤ 1
at_most true = omega arith
at_most false = omega arith

module _ {A : Type 0} (same : A → A → Bool) (p : A → Bool) (alike : (x y : A) → same x y ≡ true → p x ≡ p y) where
  -- one thing more counts where it passes, and is not there
  count-put : (xs : List A) (x : A) → count_by p (put same xs x) ≡ count_by p xs + cond (p x && not (list_any (same x) xs)) 1 0
  count-put [] x = sum_by-cons (λ x. cond (p x) 1 0) x [] ∙ omega (arith, and-all (p x))
  count-put (y ∷ ys) x = by (same x y) refl (count-put ys x)
    where
      by : (b : Bool) → same x y ≡ b → count_by p (put same ys x) ≡ count_by p ys + cond (p x && not (list_any (same x) ys)) 1 0
          → count_by p (if b then x ∷ ys else y ∷ put same ys x) ≡ count_by p (y ∷ ys) + cond (p x && not (b || list_any (same x) ys)) 1 0
      by true e rest =
          let passes : cond (p x) 1 0 ≡ cond (p y) 1 0 = ap (λ b. cond {A = ℕ} b 1 0) (alike x y e) in
          omega (arith, sum_by-cons (λ x. cond (p x) 1 0) x ys, sum_by-cons (λ x. cond (p x) 1 0) y ys, passes, and-none (p x))
      by false e rest =
          omega (arith, sum_by-cons (λ x. cond (p x) 1 0) y (put same ys x), sum_by-cons (λ x. cond (p x) 1 0) y ys, rest)

  module _ (xs : List A) (x : A) (n : ℕ) (counted : count_by p xs ≤ n) where
    -- a thing that does not pass, or is there, counts no more
    pub count-put_old : (p x && not (list_any (same x) xs)) ≡ false → count_by p (put same xs x) ≤ n
    count-put_old old =
        let none : cond {A = ℕ} (p x && not (list_any (same x) xs)) 1 0 ≡ 0 = ap (λ b. cond {A = ℕ} b 1 0) old in
        omega (arith, count-put xs x, none)

    -- a thing more counts at most as one
    pub count-put_new : count_by p (put same xs x) ≤ min (n + 1) (length (put same xs x))
    count-put_new =
        omega (arith, count-put xs x, at_most (p x && not (list_any (same x) xs)), count_by-le-length p (put same xs x))

-- ---- tables of counts
pub ok-holds : {T E P : Type 0} (r : Result T E) (x : T) → r ≡ Ok x → OnOk r P → P
ok-holds {T} {E} {P} r x is holds = subst (λ (r : Result T E). OnOk r P) is holds

-- a count that is set
pub count-updated : (here : Bool) (n : ℕ) (old : Option ℕ) → unwrap_or (cond here (Some n) old) 0 ≡ (if here then n else unwrap_or old 0)
count-updated true n old = refl
count-updated false n old = refl

-- ---- charts
new_chart-alike : (registry : Registry) (x y : ChartDef) → same_chart x y ≡ true → is_new_chart registry x ≡ is_new_chart registry y
new_chart-alike registry x y same = ap (λ (id : List ℕ). not (list_any (is_chart id) registry.charts)) (same_text x.id y.id same)

not-new : (a b : Bool) → (a || b) ≡ true → (not b && not a) ≡ false
not-new true true e = refl
not-new true false e = refl
not-new false true e = refl
not-new false false e = sym e

module _ (registry : Registry) (tables : BeatTables) (counts : CountsNew tables registry) (def : ChartDef) (charts : List ChartDef) (defined : charts ≡ put same_chart tables.charts def) where
  -- a definition of a chart that was there
  pub chart-old : has_chart registry (beat_of tables) def.id ≡ true → CountsNew (record tables { charts = charts }) registry
  chart-old there = record {
    charts = subst (λ (charts : List ChartDef). count_by (is_new_chart registry) charts ≤ tables.counted_charts) (sym defined)
        (count-put_old same_chart (is_new_chart registry) (new_chart-alike registry) tables.charts def tables.counted_charts counts.charts
        (not-new (list_any (is_chart def.id) tables.charts) (list_any (is_chart def.id) registry.charts) (sym (has_chart-any registry (beat_of tables) def.id) ∙ there)));
    dimensions = counts.dimensions;
    each = counts.each;
  }

  -- a definition of a chart that is counted
  pub chart-new : CountsNew (record tables { charts = charts; counted_charts = min (tables.counted_charts + 1) (length charts) }) registry
  chart-new = record {
    charts = subst (λ (charts : List ChartDef). count_by (is_new_chart registry) charts ≤ min (tables.counted_charts + 1) (length charts)) (sym defined)
        (count-put_new same_chart (is_new_chart registry) (new_chart-alike registry) tables.charts def tables.counted_charts counts.charts);
    dimensions = counts.dimensions;
    each = counts.each;
  }

-- ---- dimensions
module _ (registry : Registry) (x y : OpenDim) (same : same_dimension x y ≡ true) where
  same_chart_of : x.chart ≡ y.chart
  same_chart_of = same_text x.chart y.chart (and_parts (bytes_eq x.chart y.chart) (bytes_eq x.def.id y.def.id) same).0

  same_id : x.def.id ≡ y.def.id
  same_id = same_text x.def.id y.def.id (and_parts (bytes_eq x.chart y.chart) (bytes_eq x.def.id y.def.id) same).1

  new_dimension-alike : is_new_dimension registry x ≡ is_new_dimension registry y
  new_dimension-alike i = not (list_any (is_dimension (same_chart_of i) (same_id i)) registry.dimensions)

  new_of-alike : (chart : List ℕ) → is_new_of registry chart x ≡ is_new_of registry chart y
  new_of-alike chart i = bytes_eq chart (same_chart_of i) && new_dimension-alike i

not-new_of : (o a b : Bool) → (b || a) ≡ true → ((o && not b) && not a) ≡ false
not-new_of true true true e = refl
not-new_of true true false e = refl
not-new_of true false true e = refl
not-new_of true false false e = sym e
not-new_of false a b e = refl

module _ (registry : Registry) (tables : BeatTables) (counts : CountsNew tables registry) (x : OpenDim) (dimensions : List OpenDim) (defined : dimensions ≡ put same_dimension tables.dimensions x) where
  -- a definition of a dimension that was there
  pub dimension-old : has_dimension registry (beat_of tables) x.chart x.def.id ≡ true → CountsNew (record tables { dimensions = dimensions }) registry
  dimension-old there = record {
    charts = counts.charts;
    dimensions = subst (λ (ds : List OpenDim). count_by (is_new_dimension registry) ds ≤ tables.counted_dimensions) (sym defined)
        (count-put_old same_dimension (is_new_dimension registry) (new_dimension-alike registry) tables.dimensions x tables.counted_dimensions counts.dimensions
        (not-new_of true (list_any (same_dimension x) tables.dimensions) (list_any (same_dimension x) registry.dimensions) there));
    each = λ chart.
        subst (λ (ds : List OpenDim). count_by (is_new_of registry chart) ds ≤ count_in tables.counted_of chart) (sym defined)
        (count-put_old same_dimension (is_new_of registry chart) (λ x y same. new_of-alike registry x y same chart) tables.dimensions x (count_in tables.counted_of chart) (counts.each chart)
        (not-new_of (is_of chart x) (list_any (same_dimension x) tables.dimensions) (list_any (same_dimension x) registry.dimensions) there));
  }

  module _ (counted : List (String Global × ℕ)) (raises : (chart : List ℕ) → count_in counted chart
      ≡ with_count tables.counted_of x.chart (min (count_in tables.counted_of x.chart + 1) (length dimensions)) chart) where
    each-new : (chart : List ℕ) → count_by (is_new_of registry chart) dimensions ≤ count_in counted chart
    each-new chart = by (bytes_eq x.chart chart) refl
      where
        of_put : count_by (is_new_of registry chart) dimensions ≡ count_by (is_new_of registry chart) (put same_dimension tables.dimensions x)
        of_put = ap (count_by (is_new_of registry chart)) defined

        by : (b : Bool) → bytes_eq x.chart chart ≡ b → count_by (is_new_of registry chart) dimensions ≤ count_in counted chart
        by true e =
            let now : count_in counted chart ≡ min (count_in tables.counted_of x.chart + 1) (length dimensions)
            = raises chart ∙ ap (λ b. if b then min (count_in tables.counted_of x.chart + 1) (length dimensions) else count_in tables.counted_of chart) e in
            let own : count_in tables.counted_of x.chart ≡ count_in tables.counted_of chart = ap (count_in tables.counted_of) (same_text x.chart chart e) in
            let more = count-put_new same_dimension (is_new_of registry chart) (λ x y same. new_of-alike registry x y same chart) tables.dimensions x (count_in tables.counted_of chart) (counts.each chart) in
            omega (arith, now, own, more, of_put, ap length defined)
        by false e =
            let now : count_in counted chart ≡ count_in tables.counted_of chart
            = raises chart ∙ ap (λ b. if b then min (count_in tables.counted_of x.chart + 1) (length dimensions) else count_in tables.counted_of chart) e in
            let fewer = count-put_old same_dimension (is_new_of registry chart) (λ x y same. new_of-alike registry x y same chart) tables.dimensions x (count_in tables.counted_of chart) (counts.each chart)
            (ap (λ b. (b && is_new_dimension registry x) && not (list_any (same_dimension x) tables.dimensions)) (bytes_eq_turned x.chart chart e)) in
            omega (arith, now, fewer, of_put)

    -- a definition of a dimension that is counted
    pub dimension-new : CountsNew (record tables { dimensions = dimensions; counted_dimensions = min (tables.counted_dimensions + 1) (length dimensions); counted_of = counted }) registry
    dimension-new = record {
      charts = counts.charts;
      dimensions = subst (λ (ds : List OpenDim). count_by (is_new_dimension registry) ds ≤ min (tables.counted_dimensions + 1) (length ds)) (sym defined)
          (count-put_new same_dimension (is_new_dimension registry) (new_dimension-alike registry) tables.dimensions x tables.counted_dimensions counts.dimensions);
      each = each-new;
    }
