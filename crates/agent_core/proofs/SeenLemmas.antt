-- What was last seen of a history with one beat more, by number.
use Rattle.std.proofs.Common.{◌≡◌, ℕ, zero, suc, ◌+◌, ◌-◌, ◌<◌, ◌≤◌, Bool, true, false, ◌&&◌, ◌||◌, nat_eq, nat_lt, List, [], ◌∷◌, ◌++◌, length, map, replicate, get_or, reverse, slice_get, find, Option, Some, None, is_some, ℤ, refl, sym, ap, subst, ◌∙◌, arith, add-zero, zero-add, true≢false, if◌then◌else◌}
use Rattle.std.specs.List.{list_any, filter_map, cons_option, enumerate_from}
use Rattle.std.specs.Option.{option_map, option_map_or}
use Rattle.std.specs.Str.{bytes_eq}
use Rattle.std.proofs.lemmas.Bool.{eqb-true, ltb-false, ltb-true}
use Rattle.std.proofs.lemmas.List.{get_or_past, length-map}
use Rattle.std.proofs.lemmas.List.FromFn.{fill_by_all, get_or-map-range_with_len, length-map-range_with_len}
use Rattle.std.proofs.lemmas.Option.{same_Some, none-some}
use Rattle.algorithms.specs.declared.last.Last.{Last}
use Rattle.algorithms.specs.Cells.{last_of, numbered}
use Rattle.algorithms.specs.Words.{packed}
use Rattle.history.specs.declared.beat.OpenBeat.{OpenBeat}
use Rattle.history.specs.declared.beat.OpenDim.{OpenDim}
use Rattle.history.specs.declared.beat.OpenRow.{OpenRow}
use Rattle.history.specs.declared.beat.OpenValue.{OpenValue}
use Rattle.history.specs.declared.chart.ChartDef.{ChartDef}
use Rattle.history.specs.declared.row.Row.{Row}
use Rattle.history.specs.declared.row.Value.{Value}
use Rattle.history.specs.History.{Beat, collected, copied, registry_of, Copy, Word}
use Rattle.history.specs.Numbered.{numbered_rows, numbered_values}
use Rattle.history.specs.Points.{last_set, points, row_of, value_of, Collected, Point as HistoryPoint}
use Rattle.history.specs.Put.{put_all}
use Rattle.history.specs.Refusal.{has_row}
use Rattle.history.specs.Registry.{Registry, chart_of, is_chart, is_of, same_chart, same_dimension, series_of}
use Rattle.history.specs.Regular.{AreApart, IsRegular}
use Rattle.chart_registry.proofs.ApartLemmas.{apart-charts, apart-registry, itself, left, same-parts, chart-left}
use Rattle.chart_registry.proofs.Applying.{same_chart-alike, some-find}
use Rattle.chart_registry.proofs.Finding.{nat_eq_same, nat_eq_other}
use Rattle.chart_registry.proofs.Growing.{length-put_all, more_definitions, same_dimension-alike}
use Rattle.chart_registry.proofs.Places.{first-from_position, list_any-position, position-first, position-nowhere}
use Rattle.chart_registry.proofs.RowsLemmas.{same_text, bytes_eq_same}
use Rattle.beat_points.specs.LastRows.{is_of_series, last_in, AreLastOf}
use Rattle.beat_points.specs.Numbered.{rows_values}
use Rattle.beat_points.proofs.LastLemmas.{beat-last}
use Rattle.beat_tiers.specs.declared.item.BeatPoint.{BeatPoint}
use Rattle.beat_tiers.specs.Beats.{is_series}
use Rattle.tier_rollup.specs.declared.point.Point.{Point}
use Rattle.agent_core.specs.Answers.{told_point}
use Rattle.agent_core.specs.LastSeen.{charts_seen, is_point_at, is_row_at, is_word_of, last_point, last_raw, points_seen, raws_seen, seen_at, HasTaken}
use Rattle.agent_core.proofs.UnseenLemmas.{HasOnlyDefined}
use Rattle.agent_core.proofs.PlaceLemmas.{any-reverse, find-map, first-at, first-passes, found-one, get_or-room, grown-at, length-room, same-by_number}

abbrev with_beat : List Beat → ℕ → OpenBeat → Registry
with_beat h moment beat = registry_of (collected moment beat ∷ h)

abbrev with_copy : List Beat → Copy → Registry
with_copy h copy = registry_of (copied copy ∷ h)

-- ---- a value that is not in the registry was not seen
no-value : (last : Option Collected) → None ≡ option_map last_of last → option_map (λ (last : Collected). last.value) last ≡ None
no-value None e = refl
no-value (Some last) e = absurd (none-some (last_of last) e)

-- the last rows say it of values
no-other-raw : (h : List Beat) (lasts : List (Option Last)) → AreLastOf lasts h → (dimension : OpenDim) → series_of (registry_of h) dimension.chart dimension.def.id ≡ None → last_raw h dimension ≡ None
no-other-raw h lasts are dimension none =
    no-value (last_set h dimension.chart dimension.def.id) (sym (ap (last_in lasts) none) ∙ are.rows dimension.chart dimension.def.id)

-- ---- charts
chart-itself : (chart : ChartDef) → same_chart chart chart ≡ true
chart-itself chart = bytes_eq_same chart.id chart.id refl

chart-right : (z x y : ChartDef) → same_chart x y ≡ true → same_chart z x ≡ same_chart z y
chart-right z = same_chart-alike z.id

module _ (h : List Beat) (charts : List ChartDef) (only : HasOnlyDefined h) (old : List ℕ) (is : old ≡ charts_seen h) where
  abbrev said : ChartDef → ℕ
  said chart = seen_at h chart.id

  abbrev more_charts : List ChartDef
  more_charts = put_all same_chart (registry_of h).charts charts

  abbrev with_new : List ℕ
  with_new = old ++ replicate (length more_charts - length old) 0

  same-said : (x y : ChartDef) → same_chart x y ≡ true → said x ≡ said y
  same-said x y e = ap (seen_at h) (same_text x.id y.id e)

  chart-before : AreApart same_chart more_charts → (n : ℕ) (chart : ChartDef) → slice_get more_charts n ≡ Some chart → get_or with_new n 0 ≡ seen_at h chart.id
  chart-before apart n chart at =
      grown-at same_chart chart-itself chart-left chart-right said 0 same-said (registry_of h).charts charts old is apart
      (λ z nowhere. only.charts z.id (sym (list_any-position (is_chart z.id) (registry_of h).charts) ∙ ap is_some (position-nowhere (is_chart z.id) (registry_of h).charts nowhere))) (length more_charts - length old) n chart at

  charts-length : length old ≤ length more_charts
  charts-length =
      omega (arith, ap (λ (list : List ℕ). length list) is, length-map (registry_of h).charts said, length-put_all same_chart (is_chart []) (same_chart-alike []) (registry_of h).charts charts)

-- ---- the rows of charts
first-of : (b : Bool) → ((b && true) || false) ≡ b
first-of true = refl
first-of false = refl

none-of : (b c : Bool) → ((b && false) || c) ≡ c
none-of true c = refl
none-of false c = refl

module _ (registry : Registry) (beat : OpenBeat) where
  abbrev by_number : ℕ → OpenRow → Row
  by_number k row = record { chart = k; values = numbered_values registry row }

  abbrev place_row : ℕ × ChartDef → Option Row
  place_row place = option_map (by_number place.0) (find (λ (row : OpenRow). bytes_eq place.1.id row.chart) beat.rows)

  abbrev rows_from : ℕ → List ChartDef → List Row
  rows_from k charts = filter_map place_row (enumerate_from k charts)

  any-cons : (n k : ℕ) (row : Option OpenRow) (rest : List Row)
      → list_any (is_row_at n) (cons_option (option_map (by_number k) row) rest) ≡ ((is_some row && nat_eq k n) || list_any (is_row_at n) rest)
  any-cons n k None rest = refl
  any-cons n k (Some row) rest = refl

  any-far : (charts : List ChartDef) (k n : ℕ) → n < k → list_any (is_row_at n) (rows_from k charts) ≡ false
  any-far [] k n far = refl
  any-far (chart ∷ charts) k n far =
      any-cons n k (row_of beat chart.id) (rows_from (k + 1) charts)
      ∙ (λ i. (is_some (row_of beat chart.id) && nat_eq_other k n (λ e. absurd (omega (arith, e, far))) i) || any-far charts (k + 1) n (omega arith) i)
      ∙ none-of (is_some (row_of beat chart.id)) false

  any-place : (charts : List ChartDef) (k m : ℕ) (chart : ChartDef) → slice_get charts m ≡ Some chart → list_any (is_row_at (k + m)) (rows_from k charts) ≡ has_row beat chart.id
  any-place [] k m chart at = absurd (none-some chart at)
  any-place (x ∷ charts) k zero chart at =
      ap (λ (n : ℕ). list_any (is_row_at n) (rows_from k (x ∷ charts))) (add-zero k)
      ∙ any-cons k k (row_of beat x.id) (rows_from (k + 1) charts)
      ∙ (λ i. (is_some (row_of beat x.id) && nat_eq_same k i) || any-far charts (k + 1) k (omega arith) i)
      ∙ first-of (is_some (row_of beat x.id)) ∙ some-find (λ (row : OpenRow). bytes_eq x.id row.chart) beat.rows
      ∙ ap (λ (c : ChartDef). has_row beat c.id) (same_Some x chart at)
  any-place (x ∷ charts) k (suc m) chart at =
      let moved : k + suc m ≡ (k + 1) + m = omega arith in
      any-cons (k + suc m) k (row_of beat x.id) (rows_from (k + 1) charts)
      ∙ ap (λ (b : Bool). (is_some (row_of beat x.id) && b) || list_any (is_row_at (k + suc m)) (rows_from (k + 1) charts)) (nat_eq_other k (k + suc m) (λ e. absurd (omega (arith, e))))
      ∙ none-of (is_some (row_of beat x.id)) (list_any (is_row_at (k + suc m)) (rows_from (k + 1) charts))
      ∙ ap (λ (n : ℕ). list_any (is_row_at n) (rows_from (k + 1) charts)) moved ∙ any-place charts (k + 1) m chart at

  rows-there : (n : ℕ) (chart : ChartDef) → slice_get registry.charts n ≡ Some chart → list_any (is_row_at n) (reverse (numbered_rows registry beat)) ≡ has_row beat chart.id
  rows-there n chart at =
      any-reverse (is_row_at n) (numbered_rows registry beat) ∙ ap (λ (m : ℕ). list_any (is_row_at m) (numbered_rows registry beat)) (sym (zero-add n)) ∙ any-place registry.charts 0 n chart at

pub charts-collected : (registry : Registry) (h : List Beat) (moment : ℕ) (beat : OpenBeat) (old new : List ℕ) → registry ≡ registry_of (collected moment beat ∷ h) → HasOnlyDefined h → old ≡ charts_seen h
    → HasTaken is_row_at (λ (row : Row). moment) 0 (reverse (numbered_rows registry beat)) (old ++ replicate (length registry.charts - length old) 0) new
    → new ≡ charts_seen (collected moment beat ∷ h)
charts-collected registry h moment beat old new same only is taken =
    same-by_number (λ (chart : ChartDef). seen_at (collected moment beat ∷ h) chart.id) 0 (with_beat h moment beat).charts new (takes.1 ∙ length-room 0 old (length (with_beat h moment beat).charts) (charts-length h beat.charts only old is))
    (λ n chart at.
    takes.0 n ∙ found-one (is_row_at n) moment (get_or (with_new h beat.charts only old is) n 0) (reverse (numbered_rows (with_beat h moment beat) beat))
    ∙ (λ i. if rows-there (with_beat h moment beat) beat n chart at i then moment else chart-before h beat.charts only old is (apart-charts (collected moment beat ∷ h)) n chart at i))
  where
    takes : HasTaken is_row_at (λ (row : Row). moment) 0 (reverse (numbered_rows (with_beat h moment beat) beat)) (old ++ replicate (length (with_beat h moment beat).charts - length old) 0) new
    takes = subst (λ (r : Registry). HasTaken is_row_at (λ (row : Row). moment) 0 (reverse (numbered_rows r beat)) (old ++ replicate (length r.charts - length old) 0) new) same taken

-- ---- the charts of points
module _ (registry : Registry) (apart : AreApart same_chart registry.charts) (n : ℕ) (chart : ChartDef) (at : slice_get registry.charts n ≡ Some chart) where
  owned-by : (dimension : OpenDim) → option_map_or (λ (number : ℕ). nat_eq number n) (chart_of registry dimension.chart) false ≡ is_of chart.id dimension
  owned-by dimension = by (bytes_eq chart.id dimension.chart) refl
    where
      other : (number : Option ℕ) → chart_of registry dimension.chart ≡ number → bytes_eq chart.id dimension.chart ≡ false → option_map_or (λ (number : ℕ). nat_eq number n) number false ≡ false
      other None e differ = refl
      other (Some k) e differ = same (nat_eq k n) refl
        where
          same : (b : Bool) → nat_eq k n ≡ b → nat_eq k n ≡ false
          same false f = f
          same true t =
              let passes : is_chart dimension.chart chart ≡ true
              = first-passes (is_chart dimension.chart) registry.charts n chart (first-from_position (is_chart dimension.chart) registry.charts n (e ∙ ap Some (eqb-true k n t))) at in
              absurd (true≢false (sym (bytes_eq_same chart.id dimension.chart (sym (same_text dimension.chart chart.id passes))) ∙ differ))

      by : (b : Bool) → bytes_eq chart.id dimension.chart ≡ b → option_map_or (λ (number : ℕ). nat_eq number n) (chart_of registry dimension.chart) false ≡ is_of chart.id dimension
      by true e =
          let own : chart_of registry dimension.chart ≡ Some n
          = ap (chart_of registry) (sym (same_text chart.id dimension.chart e))
          ∙ position-first (is_chart chart.id) registry.charts n (first-at same_chart chart-itself chart-left chart-right registry.charts n chart apart at) in
          ap (λ (number : Option ℕ). option_map_or (λ (number : ℕ). nat_eq number n) number false) own ∙ nat_eq_same n ∙ sym e
      by false e = other (chart_of registry dimension.chart) refl e ∙ sym e

  owned-word : (found : Option OpenDim) → option_map_or (λ (dimension : OpenDim). option_map_or (λ (number : ℕ). nat_eq number n) (chart_of registry dimension.chart) false) found false ≡ option_map_or (is_of chart.id) found false
  owned-word None = refl
  owned-word (Some dimension) = owned-by dimension

  words-owned : (as_point : Word → BeatPoint) (series_is : (word : Word) → (as_point word).series ≡ word.series) (words : List Word)
      → list_any (is_point_at registry n) (map as_point words) ≡ list_any (is_word_of registry chart.id) words
  words-owned as_point series_is [] = refl
  words-owned as_point series_is (word ∷ words) =
      let first : is_point_at registry n (as_point word) ≡ is_word_of registry chart.id word
      = ap (λ (series : ℕ). option_map_or (λ (dimension : OpenDim). option_map_or (λ (number : ℕ). nat_eq number n) (chart_of registry dimension.chart) false) (slice_get registry.dimensions series) false) (series_is word)
      ∙ owned-word (slice_get registry.dimensions word.series) in
      λ i. first i || words-owned as_point series_is words i

pub charts-copied : (registry : Registry) (h : List Beat) (copy : Copy) (as_point : Word → BeatPoint) (old new : List ℕ) → ((word : Word) → (as_point word).series ≡ word.series)
    → registry ≡ registry_of (copied copy ∷ h) → HasOnlyDefined h → old ≡ charts_seen h
    → HasTaken (is_point_at registry) (λ (point : BeatPoint). copy.moment) 0 (reverse (map as_point copy.words)) (old ++ replicate (length registry.charts - length old) 0) new
    → new ≡ charts_seen (copied copy ∷ h)
charts-copied registry h copy as_point old new series_is same only is taken =
    same-by_number (λ (chart : ChartDef). seen_at (copied copy ∷ h) chart.id) 0 (with_copy h copy).charts new (takes.1 ∙ length-room 0 old (length (with_copy h copy).charts) (charts-length h copy.charts only old is))
    (λ n chart at.
    takes.0 n ∙ found-one (is_point_at (with_copy h copy) n) copy.moment (get_or (with_new h copy.charts only old is) n 0) (reverse (map as_point copy.words))
    ∙ (λ i.
    if (any-reverse (is_point_at (with_copy h copy) n) (map as_point copy.words) ∙ words-owned (with_copy h copy) (apart-charts (copied copy ∷ h)) n chart at as_point series_is copy.words) i
    then copy.moment
    else chart-before h copy.charts only old is (apart-charts (copied copy ∷ h)) n chart at i))
  where
    takes : HasTaken (is_point_at (with_copy h copy)) (λ (point : BeatPoint). copy.moment) 0 (reverse (map as_point copy.words)) (old ++ replicate (length (with_copy h copy).charts - length old) 0) new
    takes = subst (λ (r : Registry). HasTaken (is_point_at r) (λ (point : BeatPoint). copy.moment) 0 (reverse (map as_point copy.words)) (old ++ replicate (length r.charts - length old) 0) new) same taken

-- ---- the values of dimensions
dimension-right : (z x y : OpenDim) → same_dimension x y ≡ true → same_dimension z x ≡ same_dimension z y
dimension-right z = same_dimension-alike z.chart z.def.id

module _ (h : List Beat) (dimensions : List OpenDim) (lasts : List (Option Last)) (are : AreLastOf lasts h) (old : List (Option ℤ)) (is : old ≡ raws_seen h) where
  abbrev more_dimensions : List OpenDim
  more_dimensions = put_all same_dimension (registry_of h).dimensions dimensions

  abbrev with_more : List (Option ℤ)
  with_more = old ++ replicate (length more_dimensions - length old) None

  same-raw : (x y : OpenDim) → same_dimension x y ≡ true → last_raw h x ≡ last_raw h y
  same-raw x y e = let parts = same-parts x y e in λ i. option_map (λ (last : Collected). last.value) (last_set h (parts.0 i) (parts.1 i))

  raw-before : AreApart same_dimension more_dimensions → (n : ℕ) (dimension : OpenDim) → slice_get more_dimensions n ≡ Some dimension → get_or with_more n None ≡ last_raw h dimension
  raw-before apart n dimension at =
      grown-at same_dimension itself left dimension-right (last_raw h) None same-raw (registry_of h).dimensions dimensions old is apart
      (λ z nowhere. no-other-raw h lasts are z (position-nowhere (same_dimension z) (registry_of h).dimensions nowhere)) (length more_dimensions - length old) n dimension at

  raws-length : length old ≤ length more_dimensions
  raws-length =
      omega (arith, ap (λ (list : List (Option ℤ)). length list) is, length-map (registry_of h).dimensions (last_raw h), more_definitions (registry_of h) [] dimensions)

module _ (registry : Registry) (h : List Beat) (moment : ℕ) (beat : OpenBeat) (lasts : List (Option Last)) (old new : List (Option ℤ)) where
  abbrev units : Value → Option ℤ
  units value = Some value.value

  value-set : (n : ℕ) (value : Option OpenValue) (before : Option Collected)
      → option_map_or units (option_map (numbered n) value) (option_map (λ (last : Collected). last.value) before)
      ≡ option_map (λ (last : Collected). last.value) (option_map_or (λ (value : OpenValue). Some (record { moment = moment; value = value.value })) value before)
  value-set n None before = refl
  value-set n (Some value) before = refl

  pub raws-collected : registry ≡ registry_of (collected moment beat ∷ h) → IsRegular registry beat → AreLastOf lasts h → old ≡ raws_seen h
      → HasTaken is_of_series (λ (value : Value). Some value.value) None (reverse (rows_values (numbered_rows registry beat))) (old ++ replicate (length registry.dimensions - length old) None) new
      → new ≡ raws_seen (collected moment beat ∷ h)
  raws-collected same regular are is taken =
      same-by_number (last_raw (collected moment beat ∷ h)) None (with_beat h moment beat).dimensions new (takes.1 ∙ length-room None old (length (with_beat h moment beat).dimensions) (raws-length h beat.dimensions lasts are old is))
      (λ n dimension at.
      takes.0 n
      ∙ (λ i.
      option_map_or units (beat-last (with_beat h moment beat) beat n dimension at (subst (λ (r : Registry). IsRegular r beat) same regular) (apart-charts (collected moment beat ∷ h)) i)
      (raw-before h beat.dimensions lasts are old is (apart-registry (collected moment beat ∷ h)) n dimension at i))
      ∙ value-set n (value_of beat dimension.chart dimension.def.id) (last_set h dimension.chart dimension.def.id))
    where
      takes : HasTaken is_of_series (λ (value : Value). Some value.value) None (reverse (rows_values (numbered_rows (with_beat h moment beat) beat))) (old ++ replicate (length (with_beat h moment beat).dimensions - length old) None) new
      takes = subst (λ (r : Registry). HasTaken is_of_series (λ (value : Value). Some value.value) None (reverse (rows_values (numbered_rows r beat))) (old ++ replicate (length r.dimensions - length old) None) new) same taken

pub raws-copied : (registry : Registry) (h : List Beat) (copy : Copy) (lasts : List (Option Last)) (old new : List (Option ℤ)) → registry ≡ registry_of (copied copy ∷ h) → AreLastOf lasts h → old ≡ raws_seen h
    → new ≡ old ++ replicate (length registry.dimensions - length old) None → new ≡ raws_seen (copied copy ∷ h)
raws-copied registry h copy lasts old new same are is grown =
    grown ∙ ap (λ (r : Registry). old ++ replicate (length r.dimensions - length old) None) same
    ∙ same-by_number (last_raw h) None (registry_of (copied copy ∷ h)).dimensions (with_more h copy.dimensions lasts are old is)
    (length-room None old (length (registry_of (copied copy ∷ h)).dimensions) (raws-length h copy.dimensions lasts are old is))
    (raw-before h copy.dimensions lasts are old is (apart-registry (copied copy ∷ h)))

-- ---- the points of series

-- the points of a series, with that of a word in front
abbrev pub in_prefix : {W : Type 0} → (W → BeatPoint) → ℕ → List HistoryPoint → Option W → List HistoryPoint
in_prefix as_point moment before found = option_map_or (λ word. record { moment = moment; word = (as_point word).word } ∷ before) found before

module _ {W : Type 0} (as_point : W → BeatPoint) (moment : ℕ) (words : List W) (h h' : List Beat) (old new : List (Option Point)) where
  abbrev own_point : BeatPoint → Option Point
  own_point point = Some (record { moment = moment; word = point.word })

  point-prefix : (before : List HistoryPoint) (found : Option W) → option_map_or own_point (option_map as_point found) (option_map told_point (slice_get before 0)) ≡ option_map told_point (slice_get (in_prefix as_point moment before found) 0)
  point-prefix before None = refl
  point-prefix before (Some word) = refl

  module _ (only : HasOnlyDefined h) (is : old ≡ points_seen h) where
    point-before : (room n : ℕ) → get_or (old ++ replicate room None) n None ≡ last_point h n
    point-before room n = get_or-room None old room n ∙ ap (λ (list : List (Option Point)). get_or list n None) is ∙ by (nat_lt n (length (registry_of h).dimensions)) refl
      where
        by : (b : Bool) → nat_lt n (length (registry_of h).dimensions) ≡ b → get_or (points_seen h) n None ≡ last_point h n
        by true less = get_or-map-range_with_len (last_point h) 0 (length (registry_of h).dimensions) n n None (ltb-true n (length (registry_of h).dimensions) less) (zero-add n)
        by false past =
            get_or_past (points_seen h) n None (omega (arith, length-map-range_with_len (last_point h) 0 (length (registry_of h).dimensions), ltb-false n (length (registry_of h).dimensions) past)) ∙ sym (ap (λ (all : List HistoryPoint). option_map told_point (slice_get all 0)) (only.points n (ltb-false n (length (registry_of h).dimensions) past)))

    pub points-taken : length (registry_of h).dimensions ≤ length (registry_of h').dimensions → ((n : ℕ) → points packed h' n ≡ in_prefix as_point moment (points packed h n) (find (λ (word : W). nat_eq (as_point word).series n) words))
        → HasTaken is_series own_point None (map as_point words) (old ++ replicate (length (registry_of h').dimensions - length old) None) new → new ≡ points_seen h'
    points-taken few gives takes =
        fill_by_all (last_point h') new (length (registry_of h').dimensions) None
        (takes.1 ∙ length-room None old (length (registry_of h').dimensions) (omega (arith, few, ap (λ (list : List (Option Point)). length list) is, length-map-range_with_len (last_point h) 0 (length (registry_of h).dimensions))))
        (λ n less.
        takes.0 n
        ∙ (λ i. option_map_or own_point (find-map as_point (is_series n) words i) (point-before (length (registry_of h').dimensions - length old) n i))
        ∙ point-prefix (points packed h n) (find (λ (word : W). nat_eq (as_point word).series n) words)
        ∙ ap (λ (all : List HistoryPoint). option_map told_point (slice_get all 0)) (sym (gives n)))
