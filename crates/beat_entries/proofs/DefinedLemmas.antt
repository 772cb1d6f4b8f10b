-- The registry of a history with one beat more has what the beat defines.
use Rattle.std.proofs.Common.{◌≡◌, ℕ, Bool, true, false, cond, ◌&&◌, List, [], ◌∷◌, map, filter, Option, Some, None, IsSome, IfSome, All, is_some, slice_get, ◌+◌, refl, sym, ap, subst, ◌∙◌, true≢false, if◌then◌else◌}
use Rattle.std.specs.List.{find, list_any, filter_map, cons_option, enumerate_from, AllByRecursion}
use Rattle.std.specs.Option.{option_map}
use Rattle.std.specs.Str.{bytes_eq}
use Rattle.std.proofs.lemmas.Bool.{and_parts}
use Rattle.std.proofs.lemmas.List.Elements.{All-from_recursion, recursion_from_All}
use Rattle.std.proofs.lemmas.Option.{same_Some}
use Rattle.chart_registry.specs.Defining.{chart_id}
use Rattle.chart_registry.proofs.Applying.{has_chart-applied}
use Rattle.chart_registry.proofs.Places.{list_any-position}
use Rattle.chart_registry.proofs.RegistryLemmas.{chart_id-chart_of}
use Rattle.chart_registry.proofs.RowsLemmas.{same_text, bytes_eq_same}
use Rattle.history.specs.declared.numbered.NumberedDimension.{NumberedDimension}
use Rattle.history.specs.declared.beat.OpenBeat.{OpenBeat}
use Rattle.history.specs.declared.beat.OpenDim.{OpenDim}
use Rattle.history.specs.declared.chart.ChartDef.{ChartDef}
use Rattle.history.specs.History.{Beat, collected, registry_of}
use Rattle.history.specs.Refusal.{has_chart}
use Rattle.history.specs.Registry.{Registry, is_chart, is_dimension, same_chart, same_dimension, chart_of}
use Rattle.chart_registry.proofs.ApartLemmas.{apart-charts, apart-registry, own-series}
use Rattle.chart_registry.proofs.Finding.{found-all, found-passes, all-weaker}
use Rattle.beat_entries.specs.Following.{AreOwned}
use Rattle.beat_entries.specs.Defined.{IsDefinedIn}
use Rattle.history.specs.Numbered.{numbered_dimension}
use Rattle.chart_registry.specs.Taking.{chart_def, dimension_back}
use Rattle.beat_entries.proofs.EntryLemmas.{any-find, at-found, own-chart}
use Rattle.beat_entries.proofs.PutLemmas.{put-found}

-- ---- the same chart, the same dimension
pub chart-itself : (x : ChartDef) → same_chart x x ≡ true
chart-itself x = bytes_eq_same x.id x.id refl

pub chart-alike : (x y z : ChartDef) → same_chart x y ≡ true → same_chart x z ≡ same_chart y z
chart-alike x y z e = ap (λ (text : List ℕ). bytes_eq text z.id) (same_text x.id y.id e)

pub dimension-itself : (x : OpenDim) → same_dimension x x ≡ true
dimension-itself x = ap (λ (b : Bool). b && bytes_eq x.def.id x.def.id) (bytes_eq_same x.chart x.chart refl) ∙ bytes_eq_same x.def.id x.def.id refl

pub dimension-alike : (x y z : OpenDim) → same_dimension x y ≡ true → same_dimension x z ≡ same_dimension y z
dimension-alike x y z e =
    let parts = and_parts (bytes_eq x.chart y.chart) (bytes_eq x.def.id y.def.id) e in
    let charts : x.chart ≡ y.chart = same_text x.chart y.chart parts.0 in
    let ids : x.def.id ≡ y.def.id = same_text x.def.id y.def.id parts.1 in
    λ i. bytes_eq (charts i) z.chart && bytes_eq (ids i) z.def.id

module _ (h : List Beat) (moment : ℕ) (beat : OpenBeat) (owned : AreOwned (registry_of h) beat) where
  abbrev registry : Registry
  registry = registry_of (collected moment beat ∷ h)

  owner-there : (dimension : OpenDim) → has_chart (registry_of h) beat dimension.chart ≡ true → IsSome (chart_of registry dimension.chart)
  owner-there dimension has = list_any-position (is_chart dimension.chart) registry.charts ∙ has_chart-applied (registry_of h) beat dimension.chart ∙ has

  pub beat-defined : IsDefinedIn registry beat
  beat-defined = record {
    own_charts = apart-charts (collected moment beat ∷ h);
    own_dimensions = apart-registry (collected moment beat ∷ h);
    apart_charts = owned.charts;
    apart_dimensions = owned.dimensions;
    charts = All-from_recursion (λ (def : ChartDef). find (is_chart def.id) registry.charts ≡ Some def) beat.charts
        (put-found same_chart chart-itself chart-alike (registry_of h).charts beat.charts owned.charts);
    dimensions = All-from_recursion (λ (dimension : OpenDim). find (is_dimension dimension.chart dimension.def.id) registry.dimensions ≡ Some dimension) beat.dimensions
        (put-found same_dimension dimension-itself dimension-alike (registry_of h).dimensions beat.dimensions owned.dimensions);
    owners = All-from_recursion (λ (dimension : OpenDim). IsSome (chart_of registry dimension.chart)) beat.dimensions
        (all-weaker (λ (dimension : OpenDim). has_chart (registry_of h) beat dimension.chart ≡ true) (λ (dimension : OpenDim). IsSome (chart_of registry dimension.chart)) owner-there beat.dimensions
        (recursion_from_All (λ (dimension : OpenDim). has_chart (registry_of h) beat dimension.chart ≡ true) beat.dimensions owned.owners));
  }

-- ---- what the beat defines is as the beat has it
module _ (registry : Registry) (beat : OpenBeat) (defined : IsDefinedIn registry beat) where
  abbrev ChartThere : ChartDef → Type 0
  ChartThere def = find (is_chart def.id) registry.charts ≡ Some def

  pub chart-has : (P : ChartDef → Type 0) → All P beat.charts → (n : ℕ) (a : ChartDef) → slice_get registry.charts n ≡ Some a → list_any (is_chart a.id) beat.charts ≡ true → P a
  chart-has P all n a here any = by (find (is_chart a.id) beat.charts) refl
    where
      by : (found : Option ChartDef) → find (is_chart a.id) beat.charts ≡ found → P a
      by None e = absurd (true≢false (sym any ∙ any-find (is_chart a.id) beat.charts None e))
      by (Some b) e =
          let id : a.id ≡ b.id = same_text a.id b.id (found-passes (is_chart a.id) beat.charts b e) in
          let there : find (is_chart a.id) registry.charts ≡ Some b
          = ap (λ (text : List ℕ). find (is_chart text) registry.charts) id ∙ found-all ChartThere (is_chart a.id) beat.charts b (recursion_from_All ChartThere beat.charts defined.charts) e in
          let same : b ≡ a = same_Some b a (sym there ∙ at-found (is_chart a.id) registry.charts n a (own-chart registry n a defined.own_charts here) here) in
          subst P same (found-all P (is_chart a.id) beat.charts b (recursion_from_All P beat.charts all) e)

  abbrev DimensionThere : OpenDim → Type 0
  DimensionThere dimension = find (is_dimension dimension.chart dimension.def.id) registry.dimensions ≡ Some dimension

  pub dimension-has : (P : OpenDim → Type 0) → All P beat.dimensions → (n : ℕ) (a : OpenDim) → slice_get registry.dimensions n ≡ Some a
      → list_any (is_dimension a.chart a.def.id) beat.dimensions ≡ true → P a
  dimension-has P all n a here any = by (find (same_dimension a) beat.dimensions) refl
    where
      by : (found : Option OpenDim) → find (same_dimension a) beat.dimensions ≡ found → P a
      by None e = absurd (true≢false (sym any ∙ any-find (same_dimension a) beat.dimensions None e))
      by (Some b) e =
          let parts = and_parts (bytes_eq a.chart b.chart) (bytes_eq a.def.id b.def.id) (found-passes (same_dimension a) beat.dimensions b e) in
          let there : find (same_dimension a) registry.dimensions ≡ Some b
          = (λ i. find (is_dimension (same_text a.chart b.chart parts.0 i) (same_text a.def.id b.def.id parts.1 i)) registry.dimensions)
          ∙ found-all DimensionThere (same_dimension a) beat.dimensions b (recursion_from_All DimensionThere beat.dimensions defined.dimensions) e in
          let same : b ≡ a = same_Some b a (sym there ∙ at-found (same_dimension a) registry.dimensions n a (own-series registry n a defined.own_dimensions here) here) in
          subst P same (found-all P (same_dimension a) beat.dimensions b (recursion_from_All P beat.dimensions all) e)

-- ---- the definitions of an entry
pub charts-back : (defs things : List ChartDef) (n : ℕ)
    → map chart_def (filter_map (λ (place : ℕ × ChartDef). if list_any (is_chart place.1.id) defs then Some (record { number = place.0; def = place.1 }) else None) (enumerate_from n things))
    ≡ filter (λ (def : ChartDef). list_any (same_chart def) defs) things
charts-back defs [] n = refl
charts-back defs (a ∷ things) n = by (list_any (is_chart a.id) defs) (charts-back defs things (n + 1))
  where
    by : (b : Bool)
        → map chart_def (filter_map (λ (place : ℕ × ChartDef). if list_any (is_chart place.1.id) defs then Some (record { number = place.0; def = place.1 }) else None) (enumerate_from (n + 1) things))
        ≡ filter (λ (def : ChartDef). list_any (same_chart def) defs) things
        → map chart_def (cons_option (if b then Some (record { number = n; def = a }) else None)
        (filter_map (λ (place : ℕ × ChartDef). if list_any (is_chart place.1.id) defs then Some (record { number = place.0; def = place.1 }) else None) (enumerate_from (n + 1) things)))
        ≡ cond b (a ∷ filter (λ (def : ChartDef). list_any (same_chart def) defs) things) (filter (λ (def : ChartDef). list_any (same_chart def) defs) things)
    by true rest = ap (λ (l : List ChartDef). a ∷ l) rest
    by false rest = rest

module _ (registry : Registry) (dims : List OpenDim) (owners : AllByRecursion (λ (dimension : OpenDim). IsSome (chart_of registry dimension.chart)) dims) where
  abbrev pick : ℕ × OpenDim → Option NumberedDimension
  pick place = if list_any (is_dimension place.1.chart place.1.def.id) dims then numbered_dimension registry place.0 place.1 else None

  abbrev back : NumberedDimension → OpenDim
  back dimension = dimension_back registry dimension

  abbrev defined : OpenDim → Bool
  defined dimension = list_any (same_dimension dimension) dims

  one-back : (a : OpenDim) (n : ℕ) (rest : List NumberedDimension) → defined a ≡ true → map back (cons_option (numbered_dimension registry n a) rest) ≡ a ∷ map back rest
  one-back a n rest e = by (find (same_dimension a) dims) refl
    where
      with_chart : (number : Option ℕ) → chart_of registry a.chart ≡ number → IsSome number
          → map back (cons_option (option_map (λ (number : ℕ). record { series = n; chart = number; def = a.def }) number) rest) ≡ a ∷ map back rest
      with_chart None f some = absurd (true≢false (sym some))
      with_chart (Some m) f some =
          let id : chart_id registry m ≡ a.chart = subst (λ (o : Option ℕ). IfSome o (λ n. chart_id registry n ≡ a.chart)) f (chart_id-chart_of registry a.chart) in
          ap (λ (chart : List ℕ). record { chart = chart; def = a.def } ∷ map back rest) id

      by : (found : Option OpenDim) → find (same_dimension a) dims ≡ found → map back (cons_option (numbered_dimension registry n a) rest) ≡ a ∷ map back rest
      by None f = absurd (true≢false (sym e ∙ any-find (same_dimension a) dims None f))
      by (Some x) f =
          let charts : a.chart ≡ x.chart = same_text a.chart x.chart (and_parts (bytes_eq a.chart x.chart) (bytes_eq a.def.id x.def.id) (found-passes (same_dimension a) dims x f)).0 in
          let some : IsSome (chart_of registry x.chart) = found-all (λ (dimension : OpenDim). IsSome (chart_of registry dimension.chart)) (same_dimension a) dims x owners f in
          with_chart (chart_of registry a.chart) refl (ap (λ (text : List ℕ). is_some (chart_of registry text)) charts ∙ some)

  pub dimensions-back : (things : List OpenDim) (n : ℕ) → map back (filter_map pick (enumerate_from n things)) ≡ filter defined things
  dimensions-back [] n = refl
  dimensions-back (a ∷ things) n = by (defined a) refl (dimensions-back things (n + 1))
    where
      by : (b : Bool) → defined a ≡ b → map back (filter_map pick (enumerate_from (n + 1) things)) ≡ filter defined things
          → map back (cons_option (if b then numbered_dimension registry n a else None) (filter_map pick (enumerate_from (n + 1) things))) ≡ cond b (a ∷ filter defined things) (filter defined things)
      by true e rest = one-back a n (filter_map pick (enumerate_from (n + 1) things)) e ∙ ap (λ (l : List OpenDim). a ∷ l) rest
      by false e rest = rest
