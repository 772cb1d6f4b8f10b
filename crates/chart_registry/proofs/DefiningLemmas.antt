-- What a definition makes of the registry.
use Rattle.std.proofs.Common.{◌≡◌, ℕ, zero, suc, Bool, ◌&&◌, List, [], ◌∷◌, ◌++◌, length, map, set, slice_get, position, Option, Some, None, refl, sym, ap, ◌∙◌}
use Rattle.std.specs.Option.{option_map}
use Rattle.std.specs.Str.{bytes_eq}
use Rattle.std.proofs.lemmas.Bool.{and_parts}
use Rattle.std.proofs.lemmas.List.{length-map, map-append}
use Rattle.std.proofs.lemmas.Slice.Eq.{bytes_eq-Decides}
use Rattle.history.specs.declared.beat.OpenDim.{OpenDim}
use Rattle.history.specs.declared.chart.ChartDef.{ChartDef}
use Rattle.history.specs.declared.dimension.DimDef.{DimDef}
use Rattle.history.specs.Registry.{Registry as Definitions, same_chart, same_dimension, chart_of, series_of, with_definitions}
use Rattle.chart_registry.specs.declared.charts.Chart.{Chart}
use Rattle.chart_registry.specs.declared.dimensions.Dimension.{Dimension}
use Rattle.chart_registry.specs.Defining.{chart_id}
use Rattle.chart_registry.specs.Rows.{Row, Mark, row_of, mark_of, row_at, ids, is_mark, marks, open_dims, redefined}
use Rattle.chart_registry.proofs.Places.{IsFirst, first-from_position, position-push, put-present, put-absent}
use Rattle.chart_registry.proofs.RowsLemmas.{bytes_eq_same}
use Rattle.chart_registry.proofs.RegistryLemmas.{registry_of, chart_of-ids, chart_id-row, series_of-marks, redefined-put}

-- the mark that an id finds has that id
pub mark-position : (marks : List Mark) (chart id : List ℕ) (n : ℕ) → position (is_mark chart id) marks ≡ Some n → option_map (λ (mark : Mark). mark.id) (slice_get marks n) ≡ Some id
mark-position marks chart id n found = by marks n (first-from_position (is_mark chart id) marks n found)
  where
    by : (xs : List Mark) (n : ℕ) → IsFirst (is_mark chart id) xs n → option_map (λ (mark : Mark). mark.id) (slice_get xs n) ≡ Some id
    by [] n h = absurd h
    by (x ∷ xs) zero h = ap Some (sym ((bytes_eq-Decides id x.id).0 (and_parts _ _ h).1))
    by (x ∷ xs) (suc n) h = by xs n h.1

module _ (charts : List Chart) (dimensions : List Dimension) (registry : Definitions) (view : registry_of charts dimensions ≡ registry) where
  module _ (def : ChartDef) (new : List Chart) where
    abbrev defs : List Chart → List ChartDef
    defs charts = map (λ (chart : Chart). chart.def) charts

    found_def : (found : Option ℕ) → position (bytes_eq def.id) (ids (map row_of charts)) ≡ found → position (same_chart def) (defs charts) ≡ found
    found_def found e = chart_of-ids charts dimensions (registry_of charts dimensions) refl def.id ∙ e

    pub chart-replaced : (n : ℕ) → position (bytes_eq def.id) (ids (map row_of charts)) ≡ Some n → defs new ≡ set (defs charts) n def → registry_of new dimensions ≡ with_definitions registry (def ∷ []) []
    chart-replaced n found replaced =
        let put_is = put-present same_chart def (defs charts) n (found_def (Some n) found) in
        ap (λ (charts : List ChartDef). record { charts = charts; dimensions = open_dims dimensions }) (replaced ∙ sym put_is)
        ∙ ap (λ (seen : Definitions). with_definitions seen (def ∷ []) []) view

    pub chart_of-replaced : (n : ℕ) → position (bytes_eq def.id) (ids (map row_of charts)) ≡ Some n → map row_of new ≡ map row_of charts → chart_of (registry_of new dimensions) def.id ≡ Some n
    chart_of-replaced n found same =
        chart_of-ids new dimensions (registry_of new dimensions) refl def.id ∙ ap (λ (rows : List Row). position (bytes_eq def.id) (ids rows)) same ∙ found

    pub chart-added : position (bytes_eq def.id) (ids (map row_of charts)) ≡ None → defs new ≡ defs charts ++ def ∷ [] → registry_of new dimensions ≡ with_definitions registry (def ∷ []) []
    chart-added none added =
        let put_is = put-absent same_chart def (defs charts) (found_def None none) in
        ap (λ (charts : List ChartDef). record { charts = charts; dimensions = open_dims dimensions }) (added ∙ sym put_is)
        ∙ ap (λ (seen : Definitions). with_definitions seen (def ∷ []) []) view

    pub chart_of-added : (n : ℕ) → n ≡ length registry.charts → position (bytes_eq def.id) (ids (map row_of charts)) ≡ None → map row_of new ≡ map row_of charts ++ record { id = def.id; series = [] } ∷ []
        → chart_of (registry_of new dimensions) def.id ≡ Some n
    chart_of-added n number none added =
        let long : length (ids (map row_of charts)) ≡ n =
        length-map (map row_of charts) (λ (row : Row). row.id) ∙ length-map charts row_of ∙ sym (length-map charts (λ (chart : Chart). chart.def))
        ∙ ap (λ (seen : Definitions). length seen.charts) view ∙ sym number in
        chart_of-ids new dimensions (registry_of new dimensions) refl def.id
        ∙ ap (λ (rows : List Row). position (bytes_eq def.id) (ids rows)) added
        ∙ ap (position (bytes_eq def.id)) (map-append (λ (row : Row). row.id) (map row_of charts) (record { id = def.id; series = [] } ∷ []))
        ∙ position-push (bytes_eq def.id) (ids (map row_of charts)) def.id none (bytes_eq_same def.id def.id refl) ∙ ap Some long

  module _ (n : ℕ) (def : DimDef) (new : List Dimension) where
    abbrev owner_id : List ℕ
    owner_id = (row_at (map row_of charts) n).id

    found_open : (found : Option ℕ) → position (is_mark owner_id def.id) (marks dimensions) ≡ found → position (same_dimension (record { chart = owner_id; def = def })) (open_dims dimensions) ≡ found
    found_open found e = series_of-marks charts dimensions (registry_of charts dimensions) refl owner_id def.id ∙ e

    with_owner : (seen : Definitions) → seen ≡ with_definitions (registry_of charts dimensions) [] (record { chart = owner_id; def = def } ∷ []) → seen ≡ with_definitions registry [] (record { chart = chart_id registry n; def = def } ∷ [])
    with_owner seen e =
        e ∙ ap (λ (old : Definitions). with_definitions old [] (record { chart = owner_id; def = def } ∷ [])) view
        ∙ ap (λ (chart : List ℕ). with_definitions registry [] (record { chart = chart; def = def } ∷ [])) (sym (chart_id-row charts dimensions registry view n))

    pub dimension-replaced : (series : ℕ) → position (is_mark owner_id def.id) (marks dimensions) ≡ Some series → open_dims new ≡ redefined (open_dims dimensions) series def
        → registry_of charts new ≡ with_definitions registry [] (record { chart = chart_id registry n; def = def } ∷ [])
    dimension-replaced series found replaced =
        with_owner (registry_of charts new)
        (ap (λ (opens : List OpenDim). record { charts = map (λ (chart : Chart). chart.def) charts; dimensions = opens })
        (replaced ∙ redefined-put (open_dims dimensions) owner_id def series (found_open (Some series) found)))

    pub series_of-replaced : (series : ℕ) → position (is_mark owner_id def.id) (marks dimensions) ≡ Some series → marks new ≡ marks dimensions → series_of (registry_of charts new) (chart_id registry n) def.id ≡ Some series
    series_of-replaced series found same =
        ap (λ (chart : List ℕ). series_of (registry_of charts new) chart def.id) (chart_id-row charts dimensions registry view n)
        ∙ series_of-marks charts new (registry_of charts new) refl owner_id def.id ∙ ap (position (is_mark owner_id def.id)) same ∙ found

    module _ (kept : List Chart) (none : position (is_mark owner_id def.id) (marks dimensions) ≡ None)
        (added : new ≡ dimensions ++ record { owner = n; definition = record { chart = owner_id; def = def } } ∷ []) where
      pub dimension-added : map (λ (chart : Chart). chart.def) kept ≡ map (λ (chart : Chart). chart.def) charts → registry_of kept new ≡ with_definitions registry [] (record { chart = chart_id registry n; def = def } ∷ [])
      dimension-added same =
          let opens : open_dims new ≡ open_dims dimensions ++ record { chart = owner_id; def = def } ∷ [] =
          ap open_dims added ∙ map-append (λ (dimension : Dimension). dimension.definition) dimensions (record { owner = n; definition = record { chart = owner_id; def = def } } ∷ []) in
          let put_is = put-absent same_dimension (record { chart = owner_id; def = def }) (open_dims dimensions) (found_open None none) in
          with_owner (registry_of kept new) (λ i. record { charts = same i; dimensions = (opens ∙ sym put_is) i })

      pub series_of-added : (series : ℕ) → series ≡ length dimensions → series_of (registry_of kept new) (chart_id registry n) def.id ≡ Some series
      series_of-added series number =
          let marked : marks new ≡ marks dimensions ++ record { chart = owner_id; id = def.id; owner = n } ∷ [] =
          ap marks added ∙ map-append mark_of dimensions (record { owner = n; definition = record { chart = owner_id; def = def } } ∷ []) in
          ap (λ (chart : List ℕ). series_of (registry_of kept new) chart def.id) (chart_id-row charts dimensions registry view n)
          ∙ series_of-marks kept new (registry_of kept new) refl owner_id def.id ∙ ap (position (is_mark owner_id def.id)) marked
          ∙ position-push (is_mark owner_id def.id) (marks dimensions) (record { chart = owner_id; id = def.id; owner = n }) none
          (ap (λ (b : Bool). b && bytes_eq def.id def.id) (bytes_eq_same owner_id owner_id refl) ∙ bytes_eq_same def.id def.id refl)
          ∙ ap Some (length-map dimensions mark_of ∙ sym number)
