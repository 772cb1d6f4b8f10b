-- What a registry takes by number, and what it is with it.
use Rattle.std.proofs.Common.{◌≡◌, ℕ, ◌+◌, ◌<◌, ◌≤◌, Bool, true, false, not, ◌&&◌, nat_eq, nat_le, nat_lt, List, [], ◌∷◌, length, map, position, take, get_or, slice_get, Option, Some, None, IfSome, is_none, is_some, true≢false, refl, sym, ap, subst, ◌∙◌, arith, if◌then◌else◌}
use Rattle.std.specs.Str.{bytes_eq}
use Rattle.std.proofs.lemmas.Bool.{and_parts, eqb-true, ltb-true, lt-ltb, le-ltb, leb-false, leb-true}
use Rattle.std.proofs.lemmas.List.{map-append}
use Rattle.std.proofs.lemmas.Option.{same_Some, slice_get_within}
use Rattle.history.specs.declared.numbered.NumberedChart.{NumberedChart}
use Rattle.history.specs.declared.numbered.NumberedDimension.{NumberedDimension}
use Rattle.history.specs.declared.beat.OpenDim.{OpenDim}
use Rattle.history.specs.declared.chart.ChartDef.{ChartDef}
use Rattle.history.specs.declared.fault.BlockFault.TheVariants as block
use Rattle.history.specs.Limits.{chart_keeps_limits, dimension_keeps_limits}
use Rattle.history.specs.Put.{put, put_all}
use Rattle.history.specs.Refusal.{chart_refusal, dimension_refusal, dimensions_full}
use Rattle.history.specs.Registry.{Registry, is_chart, is_dimension, same_chart, same_dimension, chart_of, series_of}
use Rattle.chart_registry.specs.Defining.{chart_id, nothing_open}
use Rattle.chart_registry.specs.Taking.{chart_def, dimension_back, is_number, takes_chart, takes_dimension, with_chart, with_charts, with_dimension, with_dimensions}
use Rattle.chart_registry.proofs.ApartLemmas.{one_series}
use Rattle.chart_registry.proofs.Applying.{put_all-push, same_chart-alike}
use Rattle.chart_registry.proofs.Finding.{nat_eq_same, nat_eq_other}
use Rattle.chart_registry.proofs.Growing.{first-put, same_dimension-alike}
use Rattle.chart_registry.proofs.Places.{first-at, first-from_position, position-first, position-push, put-absent}
use Rattle.chart_registry.proofs.RegistryLemmas.{chart_id-chart_of, chart_of-within, chart_refusal-present, chart_refusal-absent, dimension_refusal-present, dimension_refusal-absent, series_of-within}
use Rattle.chart_registry.proofs.RowsLemmas.{bytes_eq_same, same_text}
use Rattle.chart_registry.proofs.Steps.{and-no, number-is, number-yes, take-prefix}

-- ---- one definition more
mapped-push : {X A : Type 0} (f : X → A) (same : A → A → Bool) (ys : List A) (xs : List X) (i : ℕ) (x : X) → i < length xs → get_or xs i x ≡ x
    → put_all same (put_all same ys (map f (take i xs))) (f x ∷ []) ≡ put_all same ys (map f (take (i + 1) xs))
mapped-push f same ys xs i x within at =
    sym (put_all-push same ys (map f (take i xs)) (f x))
    ∙ ap (put_all same ys) (sym (map-append f (take i xs) (x ∷ [])) ∙ ap (map f) (take-prefix xs i x within at))

pub charts-pushed : (first old new : Registry) (charts : List NumberedChart) (i : ℕ) (chart : NumberedChart) → i < length charts → get_or charts i chart ≡ chart
    → old ≡ with_charts first (take i charts) → new ≡ with_chart old chart → new ≡ with_charts first (take (i + 1) charts)
charts-pushed first old new charts i chart within at before made =
    made ∙ ap (λ (r : Registry). with_chart r chart) before
    ∙ ap (λ (defs : List ChartDef). record { charts = defs; dimensions = first.dimensions }) (mapped-push chart_def same_chart first.charts charts i chart within at)

pub dimensions-pushed : (first old new : Registry) (dimensions : List NumberedDimension) (i : ℕ) (dimension : NumberedDimension) → i < length dimensions → get_or dimensions i dimension ≡ dimension
    → old ≡ with_dimensions first (take i dimensions) → new ≡ with_dimension old dimension → new ≡ with_dimensions first (take (i + 1) dimensions)
dimensions-pushed first old new dimensions i dimension within at before made =
    made ∙ ap (λ (r : Registry). with_dimension r dimension) before
    ∙ ap (λ (opens : List OpenDim). record { charts = first.charts; dimensions = opens }) (mapped-push (dimension_back first) same_dimension first.dimensions dimensions i dimension within at)

-- ---- tests
none-if : {A : Type 0} (b : Bool) (x : A) → is_none (if b then Some x else None) ≡ not b
none-if true x = refl
none-if false x = refl

none-unless : {A : Type 0} (b : Bool) (x : A) → is_none (if b then None else Some x) ≡ b
none-unless true x = refl
none-unless false x = refl

and-turned : (a b : Bool) → (a && b) ≡ (b && a)
and-turned true true = refl
and-turned true false = refl
and-turned false true = refl
and-turned false false = refl

pub none-told : (r : Bool) (found : Option ℕ) → is_some found ≡ not r → r ≡ is_none found
none-told true None e = refl
none-told true (Some n) e = e
none-told false None e = e
none-told false (Some n) e = refl

pub and-apart : (a b c d : Bool) → (a && b && c && d) ≡ ((a && b) && (c && d))
and-apart true true c d = refl
and-apart true false c d = refl
and-apart false b c d = refl

not-le : (m n : ℕ) → not (nat_le m n) ≡ nat_lt n m
not-le m n = by (nat_le m n) refl
  where
    by : (b : Bool) → nat_le m n ≡ b → not b ≡ nat_lt n m
    by true e = sym (le-ltb n m (leb-true m n e))
    by false e = sym (lt-ltb n m (leb-false m n e))

not-true : (b : Bool) → not b ≡ true → b ≡ false
not-true true e = sym e
not-true false e = refl

and-yes : (b : Bool) → (b && true) ≡ b
and-yes true = refl
and-yes false = refl

-- ---- what has a number
-- the chart with an id, where the one with a number is known
pub number-told : (r : Registry) (number : ℕ) (id own : List ℕ) → chart_id r number ≡ own → chart_of r own ≡ Some number → bytes_eq id own ≡ is_number number (chart_of r id)
number-told r number id own named there = by (bytes_eq id own) refl
  where
    other : (bytes_eq id own ≡ false) → (found : Option ℕ) → chart_of r id ≡ found → false ≡ is_number number found
    other apart None e = refl
    other apart (Some n) e =
        sym (nat_eq_other number n (λ same.
        let at : chart_id r n ≡ id = subst (λ (found : Option ℕ). IfSome found (λ n. chart_id r n ≡ id)) e (chart_id-chart_of r id) in
        true≢false (sym (bytes_eq_same id own (sym at ∙ ap (chart_id r) (sym same) ∙ named)) ∙ apart)))

    by : (b : Bool) → bytes_eq id own ≡ b → b ≡ is_number number (chart_of r id)
    by true e = sym (number-yes number number (chart_of r id) (ap (chart_of r) (same_text id own e) ∙ there) refl)
    by false e = other e (chart_of r id) refl

-- the dimension with an id, where the one with a series is known
module _ (r : Registry) (series : ℕ) (chart id : List ℕ) where
  pub series-told : (own : List ℕ) → series_of r chart own ≡ Some series → bytes_eq id own ≡ is_number series (series_of r chart id)
  series-told own there = by (bytes_eq id own) refl
    where
      other : (bytes_eq id own ≡ false) → (found : Option ℕ) → series_of r chart id ≡ found → false ≡ is_number series found
      other apart None e = refl
      other apart (Some n) e =
          sym (nat_eq_other series n (λ same. true≢false (sym (bytes_eq_same id own (one_series r chart id chart own n e (there ∙ ap Some same)).1) ∙ apart)))

      by : (b : Bool) → bytes_eq id own ≡ b → b ≡ is_number series (series_of r chart id)
      by true e = sym (number-yes series series (series_of r chart id) (ap (series_of r chart) (same_text id own e) ∙ there) refl)
      by false e = other e (series_of r chart id) refl

  pub series-apart : (owner own : List ℕ) → series_of r owner own ≡ Some series → (chart ≡ owner → ⊥) → is_number series (series_of r chart id) ≡ false
  series-apart owner own there apart = by (series_of r chart id) refl
    where
      by : (found : Option ℕ) → series_of r chart id ≡ found → is_number series found ≡ false
      by None e = refl
      by (Some n) e = nat_eq_other series n (λ same. apart (one_series r chart id owner own n e (there ∙ ap Some same)).0)

-- ---- charts
module _ (r : Registry) (chart : NumberedChart) where
  abbrev id : List ℕ
  id = chart.def.id

  -- the chart may be defined, and has its number then
  abbrev has_place : Bool
  has_place = is_none (chart_refusal r nothing_open chart.def) && is_number chart.number (chart_of (with_chart r chart) id)

  chart-kept : (n : ℕ) → chart_of r id ≡ Some n → chart_of (with_chart r chart) id ≡ Some n
  chart-kept n found =
      position-first (is_chart id) (put same_chart r.charts chart.def) n
      (first-put same_chart (is_chart id) (same_chart-alike id) r.charts chart.def n (first-from_position (is_chart id) r.charts n found))

  chart-added : chart_of r id ≡ None → chart_of (with_chart r chart) id ≡ Some (length r.charts)
  chart-added none =
      ap (λ (charts : List ChartDef). position (is_chart id) charts) (put-absent same_chart chart.def r.charts none)
      ∙ position-push (is_chart id) r.charts chart.def none (bytes_eq_same id id refl)

  place-known : (n : ℕ) (old : ChartDef) → chart_of r id ≡ Some n → slice_get r.charts n ≡ Some old → has_place ≡ (nat_eq old.update_every chart.def.update_every && nat_eq chart.number n)
  place-known n old found at =
      let grid = ap is_none (chart_refusal-present r chart.def old n found at) ∙ none-unless (nat_eq old.update_every chart.def.update_every) block.GridChanged in
      let number = ap (is_number chart.number) (chart-kept n found) in
      λ i. grid i && number i

  place-new : chart_of r id ≡ None → has_place ≡ (nat_lt (length r.charts) 4096 && nat_eq chart.number (length r.charts))
  place-new none =
      let room = ap is_none (chart_refusal-absent r chart.def none) ∙ none-if (nat_le 4096 (length r.charts)) block.TooManyCharts ∙ not-le 4096 (length r.charts) in
      let number = ap (is_number chart.number) (chart-added none) in
      λ i. room i && number i

  pub same-chart : (at : ChartDef) → slice_get r.charts chart.number ≡ Some at → has_place ≡ (is_number chart.number (chart_of r id) && nat_eq at.update_every chart.def.update_every)
  same-chart at here = by (chart_of r id) refl
    where
      there : chart.number < length r.charts
      there = slice_get_within r.charts chart.number at here

      by : (found : Option ℕ) → chart_of r id ≡ found → has_place ≡ (is_number chart.number found && nat_eq at.update_every chart.def.update_every)
      by None e =
          place-new e ∙ ap (λ (b : Bool). nat_lt (length r.charts) 4096 && b) (nat_eq_other chart.number (length r.charts) (λ same. absurd (omega (arith, same, there))))
          ∙ and-no (nat_lt (length r.charts) 4096)
      by (Some n) e = numbered (nat_eq chart.number n) refl
        where
          numbered : (b : Bool) → nat_eq chart.number n ≡ b → has_place ≡ (nat_eq chart.number n && nat_eq at.update_every chart.def.update_every)
          numbered true same =
              place-known chart.number at (e ∙ ap Some (sym (eqb-true chart.number n same))) here
              ∙ and-turned (nat_eq at.update_every chart.def.update_every) (nat_eq chart.number chart.number)
              ∙ (λ i. (nat_eq_same chart.number ∙ sym same) i && nat_eq at.update_every chart.def.update_every)
          numbered false other =
              let old = first-at (is_chart id) r.charts n (first-from_position (is_chart id) r.charts n e) in
              place-known n old.0 e old.1.0 ∙ and-turned (nat_eq old.0.update_every chart.def.update_every) (nat_eq chart.number n)
              ∙ (λ i. other i && nat_eq old.0.update_every chart.def.update_every) ∙ (λ i. sym other i && nat_eq at.update_every chart.def.update_every)

  pub next-chart : length r.charts ≤ chart.number → has_place ≡ (nat_lt chart.number 4096 && (nat_eq chart.number (length r.charts) && is_none (chart_of r id)))
  next-chart past = by (chart_of r id) refl
    where
      room-same : (b : Bool) → nat_eq chart.number (length r.charts) ≡ b → (nat_lt (length r.charts) 4096 && b) ≡ (nat_lt chart.number 4096 && (b && true))
      room-same true same = ap (λ (n : ℕ). nat_lt n 4096 && true) (sym (eqb-true chart.number (length r.charts) same))
      room-same false other = and-no (nat_lt (length r.charts) 4096) ∙ sym (and-no (nat_lt chart.number 4096))

      by : (found : Option ℕ) → chart_of r id ≡ found → has_place ≡ (nat_lt chart.number 4096 && (nat_eq chart.number (length r.charts) && is_none found))
      by None e = place-new e ∙ room-same (nat_eq chart.number (length r.charts)) refl
      by (Some n) e =
          let old = first-at (is_chart id) r.charts n (first-from_position (is_chart id) r.charts n e) in
          let other = nat_eq_other chart.number n (λ same. absurd (omega (arith, same, past, chart_of-within r id n e))) in
          place-known n old.0 e old.1.0 ∙ ap (λ (b : Bool). nat_eq old.0.update_every chart.def.update_every && b) other ∙ and-no (nat_eq old.0.update_every chart.def.update_every)
          ∙ sym (and-no (nat_lt chart.number 4096)) ∙ ap (λ (b : Bool). nat_lt chart.number 4096 && b) (sym (and-no (nat_eq chart.number (length r.charts))))

  -- a chart that is taken
  module _ (takes : takes_chart r chart ≡ true) where
    parts : (nat_lt 0 chart.def.update_every && chart_keeps_limits chart.def ≡ true) × (has_place ≡ true)
    parts =
        and_parts (nat_lt 0 chart.def.update_every && chart_keeps_limits chart.def) has_place
        (sym (and-apart (nat_lt 0 chart.def.update_every) (chart_keeps_limits chart.def) (is_none (chart_refusal r nothing_open chart.def)) (is_number chart.number (chart_of (with_chart r chart) id))) ∙ takes)

    pub taken-grid : 0 < chart.def.update_every
    taken-grid = ltb-true 0 chart.def.update_every (and_parts (nat_lt 0 chart.def.update_every) (chart_keeps_limits chart.def) parts.0).0

    numbered : chart_of (with_chart r chart) id ≡ Some chart.number
    numbered =
        number-is chart.number (chart_of (with_chart r chart) id)
        (and_parts (is_none (chart_refusal r nothing_open chart.def)) (is_number chart.number (chart_of (with_chart r chart) id)) parts.1).1

    pub taken-known : chart.number < length r.charts → chart_of r id ≡ Some chart.number
    taken-known there = by (chart_of r id) refl
      where
        by : (found : Option ℕ) → chart_of r id ≡ found → found ≡ Some chart.number
        by None e = absurd (omega (arith, there, same_Some (length r.charts) chart.number (sym (chart-added e) ∙ numbered)))
        by (Some n) e = sym (chart-kept n e) ∙ numbered

    pub taken-new : length r.charts ≤ chart.number → (chart_of r id ≡ None) × (length r.charts < 4096)
    taken-new past = by (chart_of r id) refl
      where
        by : (found : Option ℕ) → chart_of r id ≡ found → (found ≡ None) × (length r.charts < 4096)
        by None e =
            (refl, ltb-true (length r.charts) 4096 (and_parts (nat_lt (length r.charts) 4096) (nat_eq chart.number (length r.charts)) (sym (place-new e) ∙ parts.1)).0)
        by (Some n) e = absurd (omega (arith, past, chart_of-within r id n e, same_Some n chart.number (sym (chart-kept n e) ∙ numbered)))

-- ---- dimensions
module _ (r : Registry) (dimension : NumberedDimension) where
  abbrev owner : List ℕ
  owner = chart_id r dimension.chart

  abbrev own : List ℕ
  own = dimension.def.id

  -- the dimension may be defined, and has its series then
  abbrev has_series : Bool
  has_series = is_none (dimension_refusal r nothing_open owner dimension.def) && is_number dimension.series (series_of (with_dimension r dimension) owner own)

  dimension-kept : (n : ℕ) → series_of r owner own ≡ Some n → series_of (with_dimension r dimension) owner own ≡ Some n
  dimension-kept n found =
      position-first (is_dimension owner own) (put same_dimension r.dimensions (dimension_back r dimension)) n
      (first-put same_dimension (is_dimension owner own) (same_dimension-alike owner own) r.dimensions (dimension_back r dimension) n (first-from_position (is_dimension owner own) r.dimensions n found))

  dimension-added : series_of r owner own ≡ None → series_of (with_dimension r dimension) owner own ≡ Some (length r.dimensions)
  dimension-added none =
      ap (λ (dimensions : List OpenDim). position (is_dimension owner own) dimensions) (put-absent same_dimension (dimension_back r dimension) r.dimensions none)
      ∙ position-push (is_dimension owner own) r.dimensions (dimension_back r dimension) none (λ i. bytes_eq_same owner owner refl i && bytes_eq_same own own refl i)

  series-known : (n : ℕ) → series_of r owner own ≡ Some n → has_series ≡ nat_eq dimension.series n
  series-known n found =
      let free = ap is_none (dimension_refusal-present r owner dimension.def n found) in
      let number = ap (is_number dimension.series) (dimension-kept n found) in
      λ i. free i && number i

  series-new : series_of r owner own ≡ None → has_series ≡ (not (dimensions_full r nothing_open owner) && nat_eq dimension.series (length r.dimensions))
  series-new none =
      let full = dimensions_full r nothing_open owner in
      let free = ap is_none (dimension_refusal-absent r owner dimension.def full none refl) ∙ none-if full block.TooManyDimensions in
      let number = ap (is_number dimension.series) (dimension-added none) in
      λ i. free i && number i

  pub same-series : dimension.series < length r.dimensions → has_series ≡ is_number dimension.series (series_of r owner own)
  same-series there = by (series_of r owner own) refl
    where
      by : (found : Option ℕ) → series_of r owner own ≡ found → has_series ≡ is_number dimension.series found
      by None e =
          series-new e ∙ ap (λ (b : Bool). not (dimensions_full r nothing_open owner) && b) (nat_eq_other dimension.series (length r.dimensions) (λ same. absurd (omega (arith, same, there))))
          ∙ and-no (not (dimensions_full r nothing_open owner))
      by (Some n) e = series-known n e

  pub next-series : length r.dimensions ≤ dimension.series → has_series ≡ (not (dimensions_full r nothing_open owner) && (nat_eq dimension.series (length r.dimensions) && is_none (series_of r owner own)))
  next-series past = by (series_of r owner own) refl
    where
      by : (found : Option ℕ) → series_of r owner own ≡ found → has_series ≡ (not (dimensions_full r nothing_open owner) && (nat_eq dimension.series (length r.dimensions) && is_none found))
      by None e = series-new e ∙ ap (λ (b : Bool). not (dimensions_full r nothing_open owner) && b) (sym (and-yes (nat_eq dimension.series (length r.dimensions))))
      by (Some n) e =
          series-known n e ∙ nat_eq_other dimension.series n (λ same. absurd (omega (arith, same, past, series_of-within r owner own n e)))
          ∙ sym (and-no (not (dimensions_full r nothing_open owner))) ∙ ap (λ (b : Bool). not (dimensions_full r nothing_open owner) && b) (sym (and-no (nat_eq dimension.series (length r.dimensions))))

  -- a dimension that is taken
  module _ (takes : takes_dimension r dimension ≡ true) where
    places : (nat_lt dimension.chart (length r.charts) && dimension_keeps_limits dimension.def ≡ true) × (has_series ≡ true)
    places =
        and_parts (nat_lt dimension.chart (length r.charts) && dimension_keeps_limits dimension.def) has_series
        (sym (and-apart (nat_lt dimension.chart (length r.charts)) (dimension_keeps_limits dimension.def) (is_none (dimension_refusal r nothing_open owner dimension.def))
        (is_number dimension.series (series_of (with_dimension r dimension) owner own))) ∙ takes)

    pub taken-chart : dimension.chart < length r.charts
    taken-chart = ltb-true dimension.chart (length r.charts) (and_parts (nat_lt dimension.chart (length r.charts)) (dimension_keeps_limits dimension.def) places.0).0

    named : series_of (with_dimension r dimension) owner own ≡ Some dimension.series
    named =
        number-is dimension.series (series_of (with_dimension r dimension) owner own)
        (and_parts (is_none (dimension_refusal r nothing_open owner dimension.def)) (is_number dimension.series (series_of (with_dimension r dimension) owner own)) places.1).1

    pub taken-series : dimension.series < length r.dimensions → series_of r owner own ≡ Some dimension.series
    taken-series there = by (series_of r owner own) refl
      where
        by : (found : Option ℕ) → series_of r owner own ≡ found → found ≡ Some dimension.series
        by None e = absurd (omega (arith, there, same_Some (length r.dimensions) dimension.series (sym (dimension-added e) ∙ named)))
        by (Some n) e = sym (dimension-kept n e) ∙ named

    pub taken-next : length r.dimensions ≤ dimension.series → (series_of r owner own ≡ None) × (dimensions_full r nothing_open owner ≡ false)
    taken-next past = by (series_of r owner own) refl
      where
        by : (found : Option ℕ) → series_of r owner own ≡ found → (found ≡ None) × (dimensions_full r nothing_open owner ≡ false)
        by None e =
            (refl, not-true (dimensions_full r nothing_open owner) (and_parts (not (dimensions_full r nothing_open owner)) (nat_eq dimension.series (length r.dimensions)) (sym (series-new e) ∙ places.1)).0)
        by (Some n) e = absurd (omega (arith, past, series_of-within r owner own n e, same_Some n dimension.series (sym (dimension-kept n e) ∙ named)))
