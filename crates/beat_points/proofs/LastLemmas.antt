-- The last rows, once a beat is taken, are those of the history with it.
use Rattle.std.proofs.Common.{◌≡◌, ℕ, zero, suc, ◌+◌, ◌-◌, ◌<◌, ◌≤◌, Bool, true, false, cond, nat_eq, List, [], ◌∷◌, ◌++◌, length, replicate, get_or, slice_get, All, Option, Some, None, is_some, IsSome, refl, sym, ap, subst, ◌∙◌, arith, add-zero, zero-add, true≢false, if◌then◌else◌}
use Rattle.std.specs.List.{find, list_any, filter_map, cons_option, enumerate_from}
use Rattle.std.specs.Option.{option_map, option_map_or, option_and_then, option_or}
use Rattle.std.specs.Str.{bytes_eq}
use Rattle.std.proofs.lemmas.Bool.{and_parts}
use Rattle.std.proofs.lemmas.List.{length-append, length-replicate}
use Rattle.std.proofs.lemmas.List.Elements.{recursion_from_All}
use Rattle.std.proofs.lemmas.Option.{same_Some, none-some}
use Rattle.algorithms.specs.declared.last.Last.{Last}
use Rattle.algorithms.specs.Cells.{last_of, numbered}
use Rattle.history.specs.declared.beat.OpenBeat.{OpenBeat}
use Rattle.history.specs.declared.beat.OpenDim.{OpenDim}
use Rattle.history.specs.declared.beat.OpenRow.{OpenRow}
use Rattle.history.specs.declared.beat.OpenValue.{OpenValue}
use Rattle.history.specs.declared.chart.ChartDef.{ChartDef}
use Rattle.history.specs.declared.numbered.NumberedBeat.{NumberedBeat}
use Rattle.history.specs.declared.row.Row.{Row}
use Rattle.history.specs.declared.row.Value.{Value}
use Rattle.history.specs.History.{Beat, Copy, collected, copied, registry_of}
use Rattle.history.specs.Looking.{is_value}
use Rattle.history.specs.Numbered.{numbered_beat, numbered_rows, numbered_value, numbered_values}
use Rattle.history.specs.Points.{Collected, last_set, row_of, value_of}
use Rattle.history.specs.Registry.{Registry, chart_of, is_chart, is_dimension, same_chart, series_of, with_definitions}
use Rattle.history.specs.Regular.{AreApart, IsRegular}
use Rattle.chart_registry.proofs.ApartLemmas.{apart-charts}
use Rattle.chart_registry.proofs.Finding.{any-found, find-none, found-all, found-passes, nat_eq_same, nat_eq_other, some-none}
use Rattle.chart_registry.proofs.Growing.{more_definitions}
use Rattle.chart_registry.proofs.Places.{find-position, list_any-position}
use Rattle.chart_registry.proofs.RowsLemmas.{same_text, bytes_eq_same}
use Rattle.beat_points.specs.LastRows.{AreLastOf, Takes, last_in, last_value, noted}
use Rattle.beat_points.specs.Numbered.{rows_values}
use Rattle.beat_points.proofs.Growing.{nothing, last_in-definitions, last_in-room}
use Rattle.beat_points.proofs.TakingLemmas.{last_value-append}

or-none : {A : Type 0} (x : Option A) → option_or x None ≡ x
or-none None = refl
or-none (Some x) = refl

-- a value, if it is of this series
abbrev of_series : ℕ → Option Value → Option Value
of_series n value = option_and_then (λ (value : Value). cond (nat_eq value.series n) (Some value) None) value

last-cons : (n : ℕ) (value : Option Value) (rest : List Value) → last_value n (cons_option value rest) ≡ option_or (last_value n rest) (of_series n value)
last-cons n None rest = sym (or-none (last_value n rest))
last-cons n (Some value) rest = last_value-append n (value ∷ []) rest

-- ---- the values of a row
module _ (row : OpenRow) where
  abbrev value_if : ℕ → Bool → Option OpenValue → Option Value
  value_if n b found = if b then option_map (λ (value : OpenValue). record { series = n; value = value.value; anomalous = value.anomalous }) found else None

  own-value : (n : ℕ) (b : Bool) (found : Option OpenValue) → of_series n (value_if n b found) ≡ value_if n b found
  own-value n false found = refl
  own-value n true None = refl
  own-value n true (Some value) = ap (λ (b : Bool). cond b (Some (numbered n value)) None) (nat_eq_same n)

  other-value : (n k : ℕ) (b : Bool) (found : Option OpenValue) → (k ≡ n → ⊥) → of_series n (value_if k b found) ≡ None
  other-value n k false found other = refl
  other-value n k true None other = refl
  other-value n k true (Some value) other = ap (λ (b : Bool). cond b (Some (numbered k value)) None) (nat_eq_other k n other)

  abbrev place_value : ℕ × OpenDim → Option Value
  place_value place = numbered_value row place.0 place.1

  abbrev values_from : ℕ → List OpenDim → List Value
  values_from k ds = filter_map place_value (enumerate_from k ds)

  last-far : (ds : List OpenDim) (k n : ℕ) → n < k → last_value n (values_from k ds) ≡ None
  last-far [] k n far = refl
  last-far (d ∷ ds) k n far =
      last-cons n (numbered_value row k d) (values_from (k + 1) ds)
      ∙ (λ i. option_or (last-far ds (k + 1) n (omega arith) i) (other-value n k (bytes_eq row.chart d.chart) (find (is_value d.def.id) row.values) (λ e. absurd (omega (arith, e, far))) i))

  last-place : (ds : List OpenDim) (k m : ℕ) (d : OpenDim) → slice_get ds m ≡ Some d → last_value (k + m) (values_from k ds) ≡ numbered_value row (k + m) d
  last-place [] k m d at = absurd (none-some d at)
  last-place (x ∷ ds) k zero d at =
      ap (λ (n : ℕ). last_value n (values_from k (x ∷ ds))) (add-zero k)
      ∙ last-cons k (numbered_value row k x) (values_from (k + 1) ds)
      ∙ (λ i. option_or (last-far ds (k + 1) k (omega arith) i) (own-value k (bytes_eq row.chart x.chart) (find (is_value x.def.id) row.values) i))
      ∙ (λ i. numbered_value row (sym (add-zero k) i) (same_Some x d at i))
  last-place (x ∷ ds) k (suc m) d at =
      let moved : k + suc m ≡ (k + 1) + m = omega arith in
      last-cons (k + suc m) (numbered_value row k x) (values_from (k + 1) ds)
      ∙ ap (option_or (last_value (k + suc m) (values_from (k + 1) ds))) (other-value (k + suc m) k (bytes_eq row.chart x.chart) (find (is_value x.def.id) row.values) (λ e. absurd (omega (arith, e))))
      ∙ or-none (last_value (k + suc m) (values_from (k + 1) ds))
      ∙ ap (λ (n : ℕ). last_value n (values_from (k + 1) ds)) moved ∙ last-place ds (k + 1) m d at ∙ ap (λ (n : ℕ). numbered_value row n d) (sym moved)

-- ---- the rows of a beat
module _ (registry : Registry) (beat : OpenBeat) (n : ℕ) (d : OpenDim) (at : slice_get registry.dimensions n ≡ Some d) where
  row-last : (row : OpenRow) → last_value n (numbered_values registry row) ≡ numbered_value row n d
  row-last row =
      ap (λ (m : ℕ). last_value m (numbered_values registry row)) (sym (zero-add n)) ∙ last-place row registry.dimensions 0 n d at
      ∙ ap (λ (m : ℕ). numbered_value row m d) (zero-add n)

  abbrev by_number : ℕ → OpenRow → Row
  by_number k row = record { chart = k; values = numbered_values registry row }

  abbrev place_row : ℕ × ChartDef → Option Row
  place_row place = option_map (by_number place.0) (find (λ (row : OpenRow). bytes_eq place.1.id row.chart) beat.rows)

  abbrev value_at : Option OpenRow → Option Value
  value_at row = option_and_then (λ (row : OpenRow). numbered_value row n d) row

  rows-cons : (k : ℕ) (row : Option OpenRow) (rest : List Row) → last_value n (rows_values (cons_option (option_map (by_number k) row) rest)) ≡ option_or (last_value n (rows_values rest)) (value_at row)
  rows-cons k None rest = sym (or-none (last_value n (rows_values rest)))
  rows-cons k (Some row) rest = last_value-append n (numbered_values registry row) (rows_values rest) ∙ ap (option_or (last_value n (rows_values rest))) (row-last row)

  -- a row of another chart
  other-row : (chart : ChartDef) (row : Option OpenRow) → row_of beat chart.id ≡ row → is_chart d.chart chart ≡ false → value_at row ≡ None
  other-row chart None e other = refl
  other-row chart (Some row) e other = by (bytes_eq row.chart d.chart) refl
    where
      by : (b : Bool) → bytes_eq row.chart d.chart ≡ b → numbered_value row n d ≡ None
      by true same =
          let id : chart.id ≡ row.chart = same_text chart.id row.chart (found-passes (λ (row : OpenRow). bytes_eq chart.id row.chart) beat.rows row e) in
          absurd (true≢false (sym (bytes_eq_same d.chart chart.id (sym (id ∙ same_text row.chart d.chart same))) ∙ other))
      by false differ = ap (λ (b : Bool). value_if row n b (find (is_value d.def.id) row.values)) differ

  charts-last : (charts : List ChartDef) (k : ℕ) → AreApart same_chart charts
      → last_value n (rows_values (filter_map place_row (enumerate_from k charts))) ≡ option_and_then (λ (chart : ChartDef). value_at (row_of beat d.chart)) (find (is_chart d.chart) charts)
  charts-last [] k apart = refl
  charts-last (chart ∷ charts) k apart =
      rows-cons k (row_of beat chart.id) (filter_map place_row (enumerate_from (k + 1) charts)) ∙ by (is_chart d.chart chart) refl (charts-last charts (k + 1) apart.1)
    where
      by : (b : Bool) → is_chart d.chart chart ≡ b
          → last_value n (rows_values (filter_map place_row (enumerate_from (k + 1) charts))) ≡ option_and_then (λ (chart : ChartDef). value_at (row_of beat d.chart)) (find (is_chart d.chart) charts)
          → option_or (last_value n (rows_values (filter_map place_row (enumerate_from (k + 1) charts)))) (value_at (row_of beat chart.id))
          ≡ option_and_then (λ (chart : ChartDef). value_at (row_of beat d.chart)) (cond b (Some chart) (find (is_chart d.chart) charts))
      by true e behind =
          let id : d.chart ≡ chart.id = same_text d.chart chart.id e in
          let none : find (is_chart d.chart) charts ≡ None = find-none (is_chart d.chart) charts (ap (λ (text : List ℕ). list_any (is_chart text) charts) id ∙ apart.0) in
          let nothing : last_value n (rows_values (filter_map place_row (enumerate_from (k + 1) charts))) ≡ None
          = behind ∙ ap (option_and_then (λ (chart : ChartDef). value_at (row_of beat d.chart))) none in
          λ i. option_or (nothing i) (value_at (row_of beat (sym id i)))
      by false e behind =
          (λ i. option_or (behind i) (other-row chart (row_of beat chart.id) refl e i))
          ∙ or-none (option_and_then (λ (chart : ChartDef). value_at (row_of beat d.chart)) (find (is_chart d.chart) charts))

  -- the value of the dimension in a row of its chart
  value-there : (row : Option OpenRow) → row_of beat d.chart ≡ row → value_at row ≡ option_map (numbered n) (option_and_then (λ (row : OpenRow). find (is_value d.def.id) row.values) row)
  value-there None e = refl
  value-there (Some row) e =
      let chart : d.chart ≡ row.chart = same_text d.chart row.chart (found-passes (λ (row : OpenRow). bytes_eq d.chart row.chart) beat.rows row e) in
      ap (λ (b : Bool). value_if row n b (find (is_value d.def.id) row.values)) (bytes_eq_same row.chart d.chart (sym chart))

  module _ (regular : IsRegular registry beat) where
    no-chart : (row : Option OpenRow) → row_of beat d.chart ≡ row → find (is_chart d.chart) registry.charts ≡ None → value_at row ≡ None
    no-chart None e none = refl
    no-chart (Some row) e none =
        let chart : d.chart ≡ row.chart = same_text d.chart row.chart (found-passes (λ (row : OpenRow). bytes_eq d.chart row.chart) beat.rows row e) in
        let known : IsSome (chart_of registry row.chart)
        = found-all (λ (row : OpenRow). IsSome (chart_of registry row.chart)) (λ (row : OpenRow). bytes_eq d.chart row.chart) beat.rows row
        (recursion_from_All (λ (row : OpenRow). IsSome (chart_of registry row.chart)) beat.rows regular.charts) e in
        absurd (any-found (is_chart d.chart) registry.charts (sym (list_any-position (is_chart d.chart) registry.charts) ∙ ap (λ (text : List ℕ). is_some (chart_of registry text)) chart ∙ known) none)

    pub beat-last : AreApart same_chart registry.charts → last_value n (rows_values (numbered_rows registry beat)) ≡ option_map (numbered n) (value_of beat d.chart d.def.id)
    beat-last apart = charts-last registry.charts 0 apart ∙ by (find (is_chart d.chart) registry.charts) refl ∙ value-there (row_of beat d.chart) refl
      where
        by : (found : Option ChartDef) → find (is_chart d.chart) registry.charts ≡ found → option_and_then (λ (chart : ChartDef). value_at (row_of beat d.chart)) found ≡ value_at (row_of beat d.chart)
        by None none = sym (no-chart (row_of beat d.chart) refl none)
        by (Some chart) e = refl

-- a dimension that is not in the registry has no value
module _ (registry : Registry) (beat : OpenBeat) (regular : IsRegular registry beat) (chart id : List ℕ) (none : series_of registry chart id ≡ None) where
  no-value : (row : Option OpenRow) → row_of beat chart ≡ row → option_and_then (λ (row : OpenRow). find (is_value id) row.values) row ≡ None
  no-value None e = refl
  no-value (Some row) e = by (find (is_value id) row.values) refl
    where
      by : (value : Option OpenValue) → find (is_value id) row.values ≡ value → value ≡ None
      by None here = refl
      by (Some value) here =
          let charts : chart ≡ row.chart = same_text chart row.chart (found-passes (λ (row : OpenRow). bytes_eq chart row.chart) beat.rows row e) in
          let ids : id ≡ value.id = same_text id value.id (found-passes (is_value id) row.values value here) in
          let all : All (λ (value : OpenValue). IsSome (series_of registry row.chart value.id)) row.values
          = found-all (λ (row : OpenRow). All (λ (value : OpenValue). IsSome (series_of registry row.chart value.id)) row.values) (λ (row : OpenRow). bytes_eq chart row.chart) beat.rows row
          (recursion_from_All (λ (row : OpenRow). All (λ (value : OpenValue). IsSome (series_of registry row.chart value.id)) row.values) beat.rows regular.dimensions) e in
          let known : IsSome (series_of registry row.chart value.id)
          = found-all (λ (value : OpenValue). IsSome (series_of registry row.chart value.id)) (is_value id) row.values value
          (recursion_from_All (λ (value : OpenValue). IsSome (series_of registry row.chart value.id)) row.values all) here in
          absurd (some-none (series_of registry row.chart value.id) known ((λ i. series_of registry (sym charts i) (sym ids i)) ∙ none))

-- ---- the last rows
record IsAt (registry : Registry) (chart id : List ℕ) (n : ℕ) : Type 0 where
  pub dimension : OpenDim
  pub at : slice_get registry.dimensions n ≡ Some dimension
  pub chart_is : chart ≡ dimension.chart
  pub id_is : id ≡ dimension.def.id

-- the dimension with this number
dimension-at : (registry : Registry) (chart id : List ℕ) (n : ℕ) → series_of registry chart id ≡ Some n → IsAt registry chart id n
dimension-at registry chart id n there = by (slice_get registry.dimensions n) refl
  where
    found : find (is_dimension chart id) registry.dimensions ≡ slice_get registry.dimensions n
    found = sym (find-position (is_dimension chart id) registry.dimensions) ∙ ap (option_and_then (slice_get registry.dimensions)) there

    by : (dimension : Option OpenDim) → slice_get registry.dimensions n ≡ dimension → IsAt registry chart id n
    by None at = absurd (any-found (is_dimension chart id) registry.dimensions (sym (list_any-position (is_dimension chart id) registry.dimensions) ∙ ap is_some there) (found ∙ at))
    by (Some d) at =
        let parts = and_parts (bytes_eq chart d.chart) (bytes_eq id d.def.id) (found-passes (is_dimension chart id) registry.dimensions d (found ∙ at)) in
        record { dimension = d; at = at; chart_is = same_text chart d.chart parts.0; id_is = same_text id d.def.id parts.1 }

module _ (registry : Registry) (h : List Beat) (charts : List ChartDef) (dimensions : List OpenDim) (moment : ℕ) (values : List Value) (old new : List (Option Last))
    (takes : Takes moment values (old ++ replicate (length registry.dimensions - length old) None) new) (lasts : AreLastOf old h) (same : registry ≡ with_definitions (registry_of h) charts dimensions) where
  within-registry : length new ≤ length registry.dimensions
  within-registry = omega (
    arith,
    takes.length_is,
    length-append old (replicate (length registry.dimensions - length old) nothing),
    length-replicate (length registry.dimensions - length old) nothing,
    lasts.within,
    more_definitions (registry_of h) charts dimensions,
    ap (λ (r : Registry). length r.dimensions) same,
  )

  -- what was there before
  before-is : (chart id : List ℕ) → last_in old (series_of registry chart id) ≡ option_map last_of (last_set h chart id)
  before-is chart id =
      ap (λ (r : Registry). last_in old (series_of r chart id)) same ∙ last_in-definitions (registry_of h) charts dimensions old chart id lasts.within ∙ lasts.rows chart id

  -- the last row of a series
  series-taken : (chart id : List ℕ) (n : ℕ) → series_of registry chart id ≡ Some n → get_or new n None ≡ noted moment (last_value n values) (option_map last_of (last_set h chart id))
  series-taken chart id n there =
      takes.rows_are n ∙ ap (noted moment (last_value n values))
      (last_in-room old (length registry.dimensions - length old) (Some n) ∙ ap (last_in old) (sym there) ∙ before-is chart id)

noted-set : (moment n : ℕ) (value : Option OpenValue) (before : Option Collected)
    → noted moment (option_map (numbered n) value) (option_map last_of before)
    ≡ option_map last_of (option_map_or (λ (value : OpenValue). Some (record { moment = moment; value = value.value })) value before)
noted-set moment n None before = refl
noted-set moment n (Some value) before = refl

pub collected-taken : (registry : Registry) (h : List Beat) (numbered : NumberedBeat) (beat : OpenBeat) (old new : List (Option Last))
    → Takes numbered.moment (rows_values numbered.rows) (old ++ replicate (length registry.dimensions - length old) None) new
    → AreLastOf old h → registry ≡ registry_of (collected numbered.moment beat ∷ h) → IsRegular registry beat → numbered ≡ numbered_beat registry numbered.moment beat
    → AreLastOf new (collected numbered.moment beat ∷ h)
collected-taken registry h made beat old new takes lasts same regular is = record {
  rows = λ chart id. ap (λ (r : Registry). last_in new (series_of r chart id)) (sym same) ∙ by chart id (series_of registry chart id) refl;
  within = subst (λ (r : Registry). length new ≤ length r.dimensions) same (within-registry registry h beat.charts beat.dimensions made.moment (rows_values made.rows) old new takes lasts same);
}
  where
    apart : AreApart same_chart registry.charts
    apart = subst (λ (r : Registry). AreApart same_chart r.charts) (sym same) (apart-charts (collected made.moment beat ∷ h))

    value-is : (chart id : List ℕ) (n : ℕ) (d : OpenDim) → slice_get registry.dimensions n ≡ Some d → chart ≡ d.chart → id ≡ d.def.id
        → last_value n (rows_values made.rows) ≡ option_map (numbered n) (value_of beat chart id)
    value-is chart id n d at charts ids =
        ap (λ (m : NumberedBeat). last_value n (rows_values m.rows)) is ∙ beat-last registry beat n d at regular apart
        ∙ (λ i. option_map (numbered n) (value_of beat (sym charts i) (sym ids i)))

    by : (chart id : List ℕ) (series : Option ℕ) → series_of registry chart id ≡ series
        → last_in new series ≡ option_map last_of (option_map_or (λ (value : OpenValue). Some (record { moment = made.moment; value = value.value })) (value_of beat chart id) (last_set h chart id))
    by chart id None none =
        sym (ap (last_in old) none) ∙ before-is registry h beat.charts beat.dimensions made.moment (rows_values made.rows) old new takes lasts same chart id
        ∙ ap (λ (value : Option OpenValue). option_map last_of (option_map_or (λ (value : OpenValue). Some (record { moment = made.moment; value = value.value })) value (last_set h chart id)))
        (sym (no-value registry beat regular chart id none (row_of beat chart) refl))
    by chart id (Some n) there =
        let d = dimension-at registry chart id n there in
        series-taken registry h beat.charts beat.dimensions made.moment (rows_values made.rows) old new takes lasts same chart id n there
        ∙ ap (λ (value : Option Value). noted made.moment value (option_map last_of (last_set h chart id))) (value-is chart id n d.dimension d.at d.chart_is d.id_is)
        ∙ noted-set made.moment n (value_of beat chart id) (last_set h chart id)

-- a copied beat sets no row
pub copied-taken : (registry : Registry) (h : List Beat) (copy : Copy) (old new : List (Option Last)) → new ≡ old ++ replicate (length registry.dimensions - length old) None
    → AreLastOf old h → registry ≡ registry_of (copied copy ∷ h) → AreLastOf new (copied copy ∷ h)
copied-taken registry h copy old new grown lasts same = record {
  rows = λ chart id. ap (λ (r : Registry). last_in new (series_of r chart id)) (sym same) ∙ by chart id (series_of registry chart id) refl;
  within = subst (λ (r : Registry). length new ≤ length r.dimensions) same (within-registry registry h copy.charts copy.dimensions copy.moment [] old new takes lasts same);
}
  where
    takes : Takes copy.moment [] (old ++ replicate (length registry.dimensions - length old) None) new
    takes = record { rows_are = λ series. ap (λ (rows : List (Option Last)). get_or rows series None) grown; length_is = ap length grown }

    by : (chart id : List ℕ) (series : Option ℕ) → series_of registry chart id ≡ series → last_in new series ≡ option_map last_of (last_set h chart id)
    by chart id None absent = sym (ap (last_in old) absent) ∙ before-is registry h copy.charts copy.dimensions copy.moment [] old new takes lasts same chart id
    by chart id (Some n) there = series-taken registry h copy.charts copy.dimensions copy.moment [] old new takes lasts same chart id n there
