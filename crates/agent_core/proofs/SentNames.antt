-- What is told of some charts and dimensions of a registry is such that a frame may have it.
use Rattle.std.proofs.Common.{◌≡◌, ℕ, ◌==◌, ◌<◌, ◌≤◌, Bool, true, false, ◌&&◌, nat_le, List, [], ◌∷◌, length, map, slice_get, Option, Some, None, is_some, IfSome, inl, inr, refl, sym, ap, ◌∙◌, arith, true≢false, bytes_eq}
use Rattle.std.specs.List.{list_all, list_any, position_or_len, AllByRecursion, IsDistinct}
use Rattle.std.specs.Str.{IsUtf8}
use Rattle.std.proofs.lemmas.Bool.{cases_Bool, and_from, and_parts, eq-eqb, le-leb, leb-true, ne_eqb}
use Rattle.std.proofs.lemmas.List.{length-map}
use Rattle.std.proofs.lemmas.List.Elements.{recursion_from_All}
use Rattle.std.proofs.lemmas.Option.{same_Some}
use Rattle.history.specs.declared.beat.OpenDim.{OpenDim}
use Rattle.history.specs.declared.chart.ChartDef.{ChartDef}
use Rattle.history.specs.declared.dimension.DimDef.{DimDef}
use Rattle.history.specs.Limits.{chart_keeps_limits, dimension_keeps_limits, has_short_texts, has_two_parts, is_chart_id, is_factor, is_id, is_short}
use Rattle.history.specs.Registry.{Registry, chart_of, is_chart, same_chart, same_dimension}
use Rattle.history.specs.Regular.{AreApart}
use Rattle.chart_registry.proofs.Places.{list_any-position}
use Rattle.chart_registry.proofs.RegistryLemmas.{or_false}
use Rattle.chart_registry.proofs.RowsLemmas.{bytes_eq_same, same_text}
use Rattle.replication.specs.declared.names.DimName.{DimName}
use Rattle.replication.specs.declared.names.Names.{Names}
use Rattle.replication.specs.Answer.{AreNames}
use Rattle.replication.specs.Names.{placed_dimension}
use Rattle.replication.specs.Places.{select}
use Rattle.replication.proofs.PointsLaws.{found}
use Rattle.replication.proofs.Wholes.{place-within}
use Rattle.field_codec.specs.Lists.{IsText}
use Rattle.entry_codec.proofs.Lengths.{id-length}
use Rattle.link_frames.specs.DataForm.{has_id, AreApart as ApartNames}
use Rattle.link_frames.specs.DataForm.{is_chart as may_be_sent, same_chart as same_name, same_dimension as same_dimension_name}
use Rattle.link_frames.specs.Fields.{FitsChart, FitsDimension, FitNames}
use Rattle.link_frames.proofs.PlacesLaw.{all-stays, distinct-map, distinct-stays, length-stays, place-le, place-same}
use Rattle.agent_core.specs.Asking.{AreInUtf8, HasChart, IsChartInUtf8, IsDimensionInUtf8}
use Rattle.agent_core.specs.Copies.{chart_name, dimension_name}
use Rattle.agent_core.specs.Used.{chart_number}
use Rattle.agent_core.specs.Rules.{HasLimits}
use Rattle.agent_core.proofs.LimitLemmas.{IsGrid}
use Rattle.agent_core.proofs.SideRegistry.{position-within}

-- ---- each in its place

-- a chart with a number is there
pub chart-there : (registry : Registry) (found : Option OpenDim) (chart : ℕ) → IfSome found (λ dimension. chart_of registry dimension.chart ≡ Some chart) → IfSome found (HasChart registry)
chart-there registry None chart owner = tt
chart-there registry (Some dimension) chart owner = sym (list_any-position (is_chart dimension.chart) registry.charts) ∙ ap is_some owner

-- ---- so that a frame may have them
distinct-from_apart : {A : Type 0} (same : A → A → Bool) (xs : List A) → AreApart same xs → IsDistinct same xs
unfolding IsDistinct
distinct-from_apart same [] apart = tt
distinct-from_apart {A} same (x ∷ xs) apart = (others xs apart.0, distinct-from_apart same xs apart.1)
  where
    others : (ys : List A) → list_any (same x) ys ≡ false → AllByRecursion (λ y. same x y ≡ false) ys
    others [] none = tt
    others (y ∷ ys) none = let parts = or_false (same x y) (list_any (same x) ys) none in (parts.0, others ys parts.1)

-- two charts that are there have one place just where they have one id
chart-same : (charts : List ChartDef) (a b : List ℕ) → list_any (is_chart a) charts ≡ true → list_any (is_chart b) charts ≡ true
    → (position_or_len (is_chart a) charts == position_or_len (is_chart b) charts) ≡ bytes_eq a b
chart-same charts a b at_a at_b =
    elim (cases_Bool (bytes_eq a b)) [
      | inl same ↦ eq-eqb (position_or_len (is_chart a) charts) (position_or_len (is_chart b) charts) (ap (λ (id : List ℕ). position_or_len (is_chart id) charts) (same_text a b same)) ∙ sym same
      | inr other ↦ ne_eqb (position_or_len (is_chart a) charts) (position_or_len (is_chart b) charts) (λ e. true≢false (sym (bytes_eq_same a b (one_id e)) ∙ other)) ∙ sym other
    ]
  where
    one_id : position_or_len (is_chart a) charts ≡ position_or_len (is_chart b) charts → a ≡ b
    one_id e =
        let first = found (is_chart a) charts at_a in
        let second = found (is_chart b) charts at_b in
        let chart : first.0 ≡ second.0 = same_Some first.0 second.0 (sym first.1.0 ∙ ap (slice_get charts) e ∙ second.1.0) in
        same_text a first.0.id first.1.1 ∙ ap (λ (def : ChartDef). def.id) chart ∙ sym (same_text b second.0.id second.1.1)

text-is : (text : List ℕ) → length text ≤ 200 → IsUtf8 text → IsText text
text-is text short utf8 = record { short = omega (arith, short); utf8 = utf8 }

-- a chart that keeps its limits
record KeepsLimits (def : ChartDef) : Type 0 where
  id : is_chart_id def.id ≡ true
  context : is_short def.context ≡ true

chart-keeps : (def : ChartDef) → chart_keeps_limits def ≡ true → KeepsLimits def
chart-keeps def keeps =
    let first = and_parts (is_chart_id def.id && has_short_texts def) (nat_le def.update_every 86400) keeps in
    let second = and_parts (is_chart_id def.id) (has_short_texts def) first.0 in
    record {
      id = second.0;
      context = (and_parts (is_short def.name && is_short def.title && is_short def.units && is_short def.family) (is_short def.context) second.1).1;
    }

chart-fits : (def : ChartDef) → IsGrid def → chart_keeps_limits def ≡ true → IsChartInUtf8 (chart_name def) → FitsChart (chart_name def)
chart-fits def grid keeps utf8 =
    let limits = chart-keeps def keeps in
    record {
      id = text-is def.id (id-length def.id (and_parts (is_id def.id) (has_two_parts def.id) limits.id).0) utf8.id;
      context = text-is def.context (leb-true (length def.context) 200 limits.context) utf8.context;
      update_every = omega (arith, grid);
    }

chart-sent : (def : ChartDef) → IsGrid def → chart_keeps_limits def ≡ true → may_be_sent (chart_name def) ≡ true
chart-sent def grid keeps =
    let limits = chart-keeps def keeps in
    let least : nat_le 1 def.update_every ≡ true = le-leb 1 def.update_every (omega (arith, grid)) in
    let most : nat_le def.update_every 86400 ≡ true = le-leb def.update_every 86400 (omega (arith, grid)) in
    λ i. limits.id i && limits.context i && least i && most i

charts-fit : (defs : List ChartDef) → AllByRecursion IsGrid defs → AllByRecursion (λ (def : ChartDef). chart_keeps_limits def ≡ true) defs → AllByRecursion IsChartInUtf8 (map chart_name defs)
    → AllByRecursion FitsChart (map chart_name defs)
charts-fit [] grids keep utf8 = tt
charts-fit (def ∷ defs) grids keep utf8 = (chart-fits def grids.0 keep.0 utf8.0, charts-fit defs grids.1 keep.1 utf8.1)

charts-sent : (defs : List ChartDef) → AllByRecursion IsGrid defs → AllByRecursion (λ (def : ChartDef). chart_keeps_limits def ≡ true) defs → list_all may_be_sent (map chart_name defs) ≡ true
charts-sent [] grids keep = refl
charts-sent (def ∷ defs) grids keep = and_from (may_be_sent (chart_name def)) (list_all may_be_sent (map chart_name defs)) (chart-sent def grids.0 keep.0) (charts-sent defs grids.1 keep.1)

dimension-id : (def : DimDef) → dimension_keeps_limits def ≡ true → is_id def.id ≡ true
dimension-id def keeps =
    let first = and_parts (is_id def.id && is_short def.name && is_factor def.multiplier) (is_factor def.divisor) keeps in
    let second = and_parts (is_id def.id && is_short def.name) (is_factor def.multiplier) first.0 in
    (and_parts (is_id def.id) (is_short def.name) second.0).0

-- names that may be sent
pub record MayName (names : Names) : Type 0 where
  pub fields : FitNames names
  pub charts : list_all may_be_sent names.charts ≡ true
  pub ids : list_all has_id names.dimensions ≡ true
  pub apart : ApartNames names
  pub few_charts : length names.charts ≤ 4096
  pub few_dimensions : length names.dimensions ≤ 65536
  pub whole : AreNames names

module _ (registry : Registry) (charts : ℕ → Bool) where
  -- what is told of a dimension where only these charts are told of
  abbrev pub told : OpenDim → DimName
  told dimension = placed_dimension charts (dimension_name registry dimension)

  -- its chart is there, and is told of
  abbrev pub Stays : OpenDim → Type 0
  Stays dimension = HasChart registry dimension × (charts (chart_number registry dimension) ≡ true)

  abbrev Keeps : OpenDim → Type 0
  Keeps dimension = dimension_keeps_limits dimension.def ≡ true

  number-within : (d : OpenDim) → HasChart registry d → chart_number registry d < length registry.charts
  number-within d owned = position-within (is_chart d.chart) registry.charts owned

  dimensions-fit : length registry.charts ≤ 4096 → (ds : List OpenDim) → AllByRecursion Keeps ds → AllByRecursion Stays ds → AllByRecursion IsDimensionInUtf8 (map told ds)
      → AllByRecursion FitsDimension (map told ds)
  dimensions-fit few [] keep stay utf8 = tt
  dimensions-fit few (d ∷ ds) keep stay utf8 = (
    record {
      chart = omega (arith, few, number-within d stay.0.0, place-le charts 0 (chart_number registry d));
      id = text-is d.def.id (id-length d.def.id (dimension-id d.def keep.0)) utf8.0;
    },
    dimensions-fit few ds keep.1 stay.1 utf8.1,
  )

  dimensions-ids : (ds : List OpenDim) → AllByRecursion Keeps ds → list_all has_id (map told ds) ≡ true
  dimensions-ids [] keep = refl
  dimensions-ids (d ∷ ds) keep = and_from (is_id d.def.id) (list_all has_id (map told ds)) (dimension-id d.def keep.0) (dimensions-ids ds keep.1)

  dimensions-owned : (ds : List OpenDim) → AllByRecursion Stays ds → AllByRecursion (λ (name : DimName). name.chart < length (map chart_name (select charts 0 registry.charts))) (map told ds)
  dimensions-owned [] stay = tt
  dimensions-owned (d ∷ ds) stay = (
    omega (arith, length-map (select charts 0 registry.charts) chart_name, place-within charts (chart_number registry d) registry.charts stay.0.1 (number-within d stay.0.0)),
    dimensions-owned ds stay.1,
  )

  -- what is told of some series and their charts
  abbrev pub told_of : (ℕ → Bool) → Names
  told_of series = record { charts = map chart_name (select charts 0 registry.charts); dimensions = map told (select series 0 registry.dimensions) }

  pub names-sent : AreApart same_chart registry.charts → AreApart same_dimension registry.dimensions → HasLimits registry → (series : ℕ → Bool) → AllByRecursion Stays (select series 0 registry.dimensions)
      → AreInUtf8 (told_of series) → MayName (told_of series)
  names-sent apart_charts apart_dimensions limits series stay utf8 =
      let some_charts = select charts 0 registry.charts in
      let some_dimensions = select series 0 registry.dimensions in
      let KeepsChart : ChartDef → Type 0 = λ def. chart_keeps_limits def ≡ true in
      let grids = all-stays IsGrid charts 0 registry.charts (recursion_from_All IsGrid registry.charts limits.grids) in
      let keep = all-stays KeepsChart charts 0 registry.charts (recursion_from_All KeepsChart registry.charts limits.charts) in
      let dimensions = all-stays Keeps series 0 registry.dimensions (recursion_from_All Keeps registry.dimensions limits.dimensions) in
      let few_charts : length (map chart_name some_charts) ≤ 4096 = omega (arith, length-map some_charts chart_name, length-stays charts 0 registry.charts, limits.few_charts) in
      let few : length (map told some_dimensions) ≤ 65536 = omega (arith, length-map some_dimensions told, length-stays series 0 registry.dimensions, limits.few) in
      record {
        fields = record {
          charts = record { count = omega (arith, few_charts); each = charts-fit some_charts grids keep utf8.charts };
          dimensions = record { count = omega (arith, few); each = dimensions-fit limits.few_charts some_dimensions dimensions stay utf8.dimensions };
        };
        charts = charts-sent some_charts grids keep;
        ids = dimensions-ids some_dimensions dimensions;
        apart = record {
          charts = distinct-map same_chart same_name chart_name KeepsChart some_charts (λ a b keeps_a keeps_b. refl) keep
              (distinct-stays same_chart charts 0 registry.charts (distinct-from_apart same_chart registry.charts apart_charts));
          dimensions = distinct-map same_dimension same_dimension_name told Stays some_dimensions
              (λ a b at_a at_b. ap (λ (same : Bool). same && bytes_eq a.def.id b.def.id)
              (place-same charts (chart_number registry a) (chart_number registry b) at_a.1 at_b.1 ∙ chart-same registry.charts a.chart b.chart at_a.0 at_b.0)) stay
              (distinct-stays same_dimension series 0 registry.dimensions (distinct-from_apart same_dimension registry.dimensions apart_dimensions));
        };
        few_charts = few_charts;
        few_dimensions = few;
        whole = dimensions-owned some_dimensions stay;
      }
