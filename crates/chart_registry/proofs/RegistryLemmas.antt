-- What the kept charts and dimensions say of the registry that they stand for.
use Rattle.std.proofs.Common.{◌≡◌, ℕ, zero, suc, ◌+◌, ◌<◌, Bool, true, false, ◌||◌, nat_eq, nat_le, List, [], ◌∷◌, length, map, set, get_or, slice_get, position, Option, Some, None, IfSome, is_some, refl, sym, ap, subst, ◌∙◌, arith, add-zero, if◌then◌else◌}
use Rattle.std.specs.List.{list_any, count_by}
use Rattle.std.specs.Option.{option_and_then, option_map, option_map_or}
use Rattle.std.specs.Str.{bytes_eq}
use Rattle.std.proofs.lemmas.Bool.{and_parts, leb-false}
use Rattle.std.proofs.lemmas.List.{length-map}
use Rattle.std.proofs.lemmas.Option.{slice_get-map, slice_get_within, get_or_from_slice_get}
use Rattle.std.proofs.lemmas.Slice.Eq.{bytes_eq-Decides}
use Rattle.history.specs.declared.beat.OpenDim.{OpenDim}
use Rattle.history.specs.declared.chart.ChartDef.{ChartDef}
use Rattle.history.specs.declared.dimension.DimDef.{DimDef}
use Rattle.history.specs.declared.fault.BlockFault.TheVariants as block
use Rattle.history.specs.Put.{put}
use Rattle.history.specs.Registry.{Registry as Definitions, is_chart, is_of, is_dimension, same_dimension, chart_of, series_of}
use Rattle.history.specs.Refusal.{chart_refusal, dimension_refusal, dimensions_full}
use Rattle.chart_registry.specs.declared.charts.Chart.{Chart}
use Rattle.chart_registry.specs.declared.dimensions.Dimension.{Dimension}
use Rattle.chart_registry.specs.Defining.{nothing_open, chart_id}
use Rattle.chart_registry.specs.Rows.{Row, Mark, row_of, mark_of, row_at, ids, belongs, is_mark, same_mark, series_in, marks, open_dims, redefined, AreKept}
use Rattle.chart_registry.proofs.Places.{IsFirst, count_by-map, first-from_position, passes-first, position-map, position-within, find-position, list_any-position, position-all_false, put-present, get_or-map_any, option_map_or-slice_get}
use Rattle.chart_registry.proofs.ChartsLemmas.{ids-defs}
use Rattle.chart_registry.proofs.RowsLemmas.{apart}
pub use Rattle.std.proofs.lemmas.Bool.{or_parts as or_false}

-- ---- the registry alone
module _ (registry : Definitions) where
  pub chart_id-get_or : (n : ℕ) → chart_id registry n ≡ get_or (map (λ (def : ChartDef). def.id) registry.charts) n []
  chart_id-get_or n = option_map_or-slice_get (λ (def : ChartDef). def.id) registry.charts n []

  pub chart_id-chart_of : (id : List ℕ) → IfSome (chart_of registry id) (λ n. chart_id registry n ≡ id)
  chart_id-chart_of id = by (chart_of registry id) refl
    where
      by : (found : Option ℕ) → chart_of registry id ≡ found → IfSome found (λ n. chart_id registry n ≡ id)
      by None e = tt
      by (Some n) e =
          let at : position (bytes_eq id) (map (λ (def : ChartDef). def.id) registry.charts) ≡ Some n = position-map (bytes_eq id) (λ (def : ChartDef). def.id) registry.charts ∙ e in
          let same : bytes_eq id (get_or (map (λ (def : ChartDef). def.id) registry.charts) n []) ≡ true = passes-first (bytes_eq id) _ n [] (first-from_position (bytes_eq id) _ n at) in
          chart_id-get_or n ∙ sym ((bytes_eq-Decides id _).0 same)

  pub chart_of-within : (id : List ℕ) (n : ℕ) → chart_of registry id ≡ Some n → n < length registry.charts
  chart_of-within id n found = subst (λ (found : Option ℕ). IfSome found (λ n. n < length registry.charts)) found (position-within (is_chart id) registry.charts)

  pub series_of-within : (chart id : List ℕ) (n : ℕ) → series_of registry chart id ≡ Some n → n < length registry.dimensions
  series_of-within chart id n found = subst (λ (found : Option ℕ). IfSome found (λ n. n < length registry.dimensions)) found (position-within (is_dimension chart id) registry.dimensions)

  pub chart_refusal-present : (def old : ChartDef) (n : ℕ) → chart_of registry def.id ≡ Some n → slice_get registry.charts n ≡ Some old
      → chart_refusal registry nothing_open def ≡ (if nat_eq old.update_every def.update_every then None else Some block.GridChanged)
  chart_refusal-present def old n found at =
      ap (λ (now : Option ChartDef). option_map_or (λ (old : ChartDef). if nat_eq old.update_every def.update_every then None else Some block.GridChanged) now (if nat_le 4096 (length registry.charts + 0) then Some block.TooManyCharts else None))
      (sym (find-position (is_chart def.id) registry.charts) ∙ ap (option_and_then (slice_get registry.charts)) found ∙ at)

  pub chart_refusal-absent : (def : ChartDef) → chart_of registry def.id ≡ None → chart_refusal registry nothing_open def ≡ (if nat_le 4096 (length registry.charts) then Some block.TooManyCharts else None)
  chart_refusal-absent def none =
      ap (λ (now : Option ChartDef). option_map_or (λ (old : ChartDef). if nat_eq old.update_every def.update_every then None else Some block.GridChanged) now (if nat_le 4096 (length registry.charts + 0) then Some block.TooManyCharts else None))
      (sym (find-position (is_chart def.id) registry.charts) ∙ ap (option_and_then (slice_get registry.charts)) none)
      ∙ ap (λ (n : ℕ). if nat_le 4096 n then Some block.TooManyCharts else None) (add-zero (length registry.charts))

  has_dimension-series_of : (chart id : List ℕ) (found : Option ℕ) → series_of registry chart id ≡ found → list_any (is_dimension chart id) registry.dimensions ≡ is_some found
  has_dimension-series_of chart id found e = sym (list_any-position (is_dimension chart id) registry.dimensions) ∙ ap is_some e

  pub dimension_refusal-present : (chart : List ℕ) (def : DimDef) (series : ℕ) → series_of registry chart def.id ≡ Some series → dimension_refusal registry nothing_open chart def ≡ None
  dimension_refusal-present chart def series found =
      ap (λ (b : Bool). if b || false then None else if dimensions_full registry nothing_open chart then Some block.TooManyDimensions else None) (has_dimension-series_of chart def.id (Some series) found)

  pub dimension_refusal-absent : (chart : List ℕ) (def : DimDef) (full : Bool) → series_of registry chart def.id ≡ None → full ≡ dimensions_full registry nothing_open chart
      → dimension_refusal registry nothing_open chart def ≡ (if full then Some block.TooManyDimensions else None)
  dimension_refusal-absent chart def full none is_full =
      ap (λ (b : Bool). if b || false then None else if dimensions_full registry nothing_open chart then Some block.TooManyDimensions else None) (has_dimension-series_of chart def.id None none)
      ∙ ap (λ (b : Bool). if b then Some block.TooManyDimensions else None) (sym is_full)

-- a definition that is replaced keeps its chart
pub redefined-put : (dimensions : List OpenDim) (chart : List ℕ) (def : DimDef) (n : ℕ) → position (is_dimension chart def.id) dimensions ≡ Some n
    → redefined dimensions n def ≡ put same_dimension dimensions (record { chart = chart; def = def })
redefined-put dimensions chart def n found =
    by dimensions n (first-from_position (is_dimension chart def.id) dimensions n found)
    ∙ sym (put-present same_dimension (record { chart = chart; def = def }) dimensions n found)
  where
    here : (xs ys : List OpenDim) (n m : ℕ) → IsFirst (is_dimension chart def.id) xs n
        → option_map_or (λ (old : OpenDim). set ys m (record { chart = old.chart; def = def })) (slice_get xs n) ys ≡ set ys m (record { chart = chart; def = def })
    here [] ys n m h = absurd h
    here (x ∷ xs) ys zero m h = ap (λ (text : List ℕ). set ys m (record { chart = text; def = def })) (sym ((bytes_eq-Decides chart x.chart).0 (and_parts _ _ h).0))
    here (x ∷ xs) ys (suc n) m h = here xs ys n m h.1

    by : (xs : List OpenDim) (n : ℕ) → IsFirst (is_dimension chart def.id) xs n → redefined xs n def ≡ set xs n (record { chart = chart; def = def })
    by xs n h = here xs xs n n h

-- ---- the registry of what is kept
abbrev pub registry_of : List Chart → List Dimension → Definitions
registry_of charts dimensions = record { charts = map (λ (chart : Chart). chart.def) charts; dimensions = open_dims dimensions }

abbrev no_row : Row
no_row = record { id = []; series = [] }

-- the chart of a row that an id finds has that id
pub row_at-position : (rows : List Row) (id : List ℕ) (n : ℕ) → position (bytes_eq id) (ids rows) ≡ Some n → (row_at rows n).id ≡ id
row_at-position rows id n found =
    sym (get_or-map_any (λ (row : Row). row.id) rows n no_row)
    ∙ sym ((bytes_eq-Decides id _).0 (passes-first (bytes_eq id) (ids rows) n [] (first-from_position (bytes_eq id) (ids rows) n found)))

at_dimension : (dimensions : List Dimension) (n : ℕ) (dimension : Dimension) → slice_get dimensions n ≡ Some dimension → (n < length (marks dimensions)) × (get_or (marks dimensions) n (mark_of dimension) ≡ mark_of dimension)
at_dimension dimensions n dimension at = (
  omega (arith, slice_get_within dimensions n dimension at, length-map dimensions mark_of),
  get_or-map_any mark_of dimensions n dimension ∙ ap mark_of (get_or_from_slice_get dimensions n dimension dimension at),
)

module _ (charts : List Chart) (dimensions : List Dimension) (registry : Definitions) (view : registry_of charts dimensions ≡ registry) where
  pub chart_of-ids : (id : List ℕ) → chart_of registry id ≡ position (bytes_eq id) (ids (map row_of charts))
  chart_of-ids id =
      ap (λ (seen : Definitions). chart_of seen id) (sym view) ∙ sym (position-map (bytes_eq id) (λ (def : ChartDef). def.id) (map (λ (chart : Chart). chart.def) charts))
      ∙ ap (position (bytes_eq id)) (sym (ids-defs charts))

  pub chart_id-row : (n : ℕ) → chart_id registry n ≡ (row_at (map row_of charts) n).id
  chart_id-row n =
      ap (λ (seen : Definitions). chart_id seen n) (sym view) ∙ chart_id-get_or (registry_of charts dimensions) n ∙ ap (λ (texts : List (List ℕ)). get_or texts n []) (sym (ids-defs charts))
      ∙ get_or-map_any (λ (row : Row). row.id) (map row_of charts) n no_row

  pub series_of-marks : (chart id : List ℕ) → series_of registry chart id ≡ position (is_mark chart id) (marks dimensions)
  series_of-marks chart id =
      ap (λ (seen : Definitions). series_of seen chart id) (sym view)
      ∙ position-map (is_dimension chart id) (λ (dimension : Dimension). dimension.definition) dimensions ∙ sym (position-map (is_mark chart id) mark_of dimensions)

  module _ (known : AreKept (map row_of charts) (marks dimensions)) where
    pub series_in-series_of : (n : ℕ) (id : List ℕ) → n < length (map row_of charts) → series_in (row_at (map row_of charts) n).series id ≡ series_of registry (chart_id registry n) id
    series_in-series_of n id within =
        (known.tables n no_row within).finds id ∙ sym (series_of-marks (row_at (map row_of charts) n).id id)
        ∙ ap (λ (chart : List ℕ). series_of registry chart id) (sym (chart_id-row n))

    pub unowned : (id : List ℕ) → chart_of registry id ≡ None → list_any (is_of id) registry.dimensions ≡ false
    unowned id none =
        sym (list_any-position (is_of id) registry.dimensions)
        ∙ ap (λ (seen : Definitions). is_some (position (is_of id) seen.dimensions)) (sym view)
        ∙ ap is_some (position-map (is_of id) (λ (dimension : Dimension). dimension.definition) dimensions ∙ sym (position-map (belongs id) mark_of dimensions)
        ∙ position-all_false (belongs id) (marks dimensions) (apart (map row_of charts) (marks dimensions) known id (sym (chart_of-ids id) ∙ none)))

    pub chart_of-row : (n : ℕ) → n < length (map row_of charts) → chart_of registry (row_at (map row_of charts) n).id ≡ Some n
    chart_of-row n within =
        let in_ids : n < length (ids (map row_of charts)) = omega (arith, length-map (map row_of charts) (λ (row : Row). row.id)) in
        chart_of-ids (row_at (map row_of charts) n).id
        ∙ ap (λ (id : List ℕ). position (bytes_eq id) (ids (map row_of charts))) (sym (get_or-map_any (λ (row : Row). row.id) (map row_of charts) n no_row))
        ∙ known.distinct_charts n [] in_ids

    module _ (n : ℕ) (dimension : Dimension) (at : slice_get dimensions n ≡ Some dimension) where
      pub dimension-at : slice_get registry.dimensions n ≡ Some dimension.definition
      dimension-at =
          ap (λ (seen : Definitions). slice_get seen.dimensions n) (sym view) ∙ slice_get-map (λ (dimension : Dimension). dimension.definition) dimensions n
          ∙ ap (option_map (λ (dimension : Dimension). dimension.definition)) at

      pub series_of-at : series_of registry dimension.definition.chart dimension.definition.def.id ≡ Some n
      series_of-at =
          let here = at_dimension dimensions n dimension at in
          series_of-marks dimension.definition.chart dimension.definition.def.id
          ∙ ap (λ (mark : Mark). position (same_mark mark) (marks dimensions)) (sym here.1) ∙ known.distinct_dimensions n (mark_of dimension) here.0

      pub chart_of-owner : chart_of registry dimension.definition.chart ≡ Some dimension.owner
      chart_of-owner =
          let here = at_dimension dimensions n dimension at in
          chart_of-ids dimension.definition.chart
          ∙ subst (λ (mark : Mark). position (bytes_eq mark.chart) (ids (map row_of charts)) ≡ Some mark.owner) here.1 (known.owners n (mark_of dimension) here.0)

      pub chart_id-owner : chart_id registry dimension.owner ≡ dimension.definition.chart
      chart_id-owner = subst (λ (found : Option ℕ). IfSome found (λ n. chart_id registry n ≡ dimension.definition.chart)) chart_of-owner (chart_id-chart_of registry dimension.definition.chart)

      pub owner-within : dimension.owner < length registry.charts
      owner-within = chart_of-within registry dimension.definition.chart dimension.owner chart_of-owner

    pub counts-dimensions : (n : ℕ) → n < length (map row_of charts) → length (row_at (map row_of charts) n).series ≡ count_by (is_of (chart_id registry n)) registry.dimensions
    counts-dimensions n within =
        let chart = (row_at (map row_of charts) n).id in
        (known.tables n no_row within).counts ∙ count_by-map (belongs chart) mark_of dimensions
        ∙ sym (count_by-map (is_of chart) (λ (dimension : Dimension). dimension.definition) dimensions)
        ∙ ap (λ (text : List ℕ). count_by (is_of text) (open_dims dimensions)) (sym (chart_id-row n)) ∙ ap (λ (seen : Definitions). count_by (is_of (chart_id registry n)) seen.dimensions) view

-- where there is room for one more dimension, its chart has less than the most
pub dimensions-few : (registry : Definitions) (chart : List ℕ) → dimensions_full registry nothing_open chart ≡ false → (count_by (is_of chart) registry.dimensions < 1024) × (length registry.dimensions < 65536)
dimensions-few registry chart e =
    let tests = or_false (nat_le 1024 (count_by (is_of chart) registry.dimensions + 0)) (nat_le 65536 (length registry.dimensions + 0)) e in
    (omega (arith, leb-false 1024 _ tests.0), omega (arith, leb-false 65536 _ tests.1))
