-- What a definition changes, and what is there once that is taken back.
use Rattle.std.proofs.Common.{◌≡◌, ℕ, zero, suc, ◌<◌, Bool, false, ◌||◌, List, [], ◌∷◌, ◌++◌, length, map, get_or, set, slice_get, position, Option, Some, None, Result, Ok, Err, OnOk, refl, sym, ap, subst, ◌∙◌, arith}
use Rattle.std.specs.List.{list_any}
use Rattle.std.specs.Option.{option_map, option_map_or}
use Rattle.std.specs.Str.{bytes_eq}
use Rattle.std.proofs.lemmas.List.{length-map, length-set, length_push, map-append}
use Rattle.std.proofs.lemmas.Option.{same_Some, none-some, slice_get_within}
use Rattle.history.specs.declared.beat.OpenDim.{OpenDim}
use Rattle.history.specs.declared.chart.ChartDef.{ChartDef}
use Rattle.history.specs.declared.dimension.DimDef.{DimDef}
use Rattle.history.specs.Registry.{Registry as Definitions, is_of}
use Rattle.chart_registry.specs.declared.changes.Change.{Change}
use Rattle.chart_registry.specs.declared.charts.Chart.{Chart}
use Rattle.chart_registry.specs.declared.dimensions.Dimension.{Dimension}
use Rattle.chart_registry.specs.Changes.{AddsChart, ReplacesChart, AddsDimension, ReplacesDimension, IsChange, AreChanges}
use Rattle.chart_registry.specs.Rows.{Mark, row_of, row_at, ids, belongs, marks, open_dims, redefined, AreKept}
use Rattle.chart_registry.proofs.LeavingLemmas.{prefix-same, last-same}
use Rattle.chart_registry.proofs.RegistryLemmas.{registry_of, chart_id-get_or, chart_id-row, chart_of-ids, unowned}

abbrev defs : List Chart → List ChartDef
defs charts = map (λ (chart : Chart). chart.def) charts

-- ---- lists
module _ {A : Type 0} where
  set-back : (xs : List A) (n : ℕ) (x y : A) → slice_get xs n ≡ Some x → set (set xs n y) n x ≡ xs
  set-back [] n x y at = absurd (none-some x at)
  set-back (z ∷ xs) zero x y at = ap (λ z. z ∷ xs) (sym (same_Some z x at))
  set-back (z ∷ xs) (suc n) x y at = ap (λ l. z ∷ l) (set-back xs n x y at)

  set-at : (xs : List A) (n : ℕ) (x y : A) → slice_get xs n ≡ Some x → slice_get (set xs n y) n ≡ Some y
  set-at [] n x y at = absurd (none-some x at)
  set-at (z ∷ xs) zero x y at = refl
  set-at (z ∷ xs) (suc n) x y at = set-at xs n x y at

  mapped-at : {B : Type 0} (f : A → B) (xs : List A) (n : ℕ) (x y : A) (d : B) → slice_get xs n ≡ Some x → get_or (map f (set xs n y)) n d ≡ f y
  mapped-at f [] n x y d at = absurd (none-some x at)
  mapped-at f (z ∷ xs) zero x y d at = refl
  mapped-at f (z ∷ xs) (suc n) x y d at = mapped-at f xs n x y d at

-- the row of a chart has its definition's id
pub row_at-def : (charts : List Chart) (n : ℕ) (def : ChartDef) → slice_get (defs charts) n ≡ Some def → (row_at (map row_of charts) n).id ≡ def.id
row_at-def [] n def at = absurd (none-some def at)
row_at-def (chart ∷ charts) zero def at = ap (λ (def : ChartDef). def.id) (same_Some chart.def def at)
row_at-def (chart ∷ charts) (suc n) def at = row_at-def charts n def at

-- ---- changes one after the other
pub changes-push : (before between after : Definitions) (changes : List Change) (change : Change) → AreChanges before changes between → IsChange between change after → AreChanges before (changes ++ change ∷ []) after
changes-push before between after [] change are is = (after, subst (λ (r : Definitions). IsChange r change after) are is, refl)
changes-push before between after (first ∷ changes) change are is = (are.0, are.1, changes-push are.0 between after changes change are.2 is)

pub changes-pop : (before after : Definitions) (changes : List Change) (change : Change) → AreChanges before (changes ++ change ∷ []) after
    → (between : Definitions) × AreChanges before changes between × IsChange between change after
changes-pop before after [] change are = (before, refl, subst (IsChange before change) (sym are.2) are.1)
changes-pop before after (first ∷ changes) change are =
    let rest = changes-pop are.0 after changes change are.2 in
    (rest.0, (are.0, are.1, rest.1), rest.2)

pub changes-same : (before after after' : Definitions) (changes changes' : List Change) → after' ≡ after → changes' ≡ changes → AreChanges before changes after → AreChanges before changes' after'
changes-same before after after' changes changes' same same_changes are =
    subst (λ (changes : List Change). AreChanges before changes after') (sym same_changes) (subst (AreChanges before changes) (sym same) are)

pub changes-more : {T E : Type 0} (result : Result T E) (now between after : Definitions) (changes changes' : List Change) (change : Change) → IsChange now change between
    → OnOk result (after ≡ between) → OnOk result (changes' ≡ changes ++ change ∷ []) → OnOk result ((before : Definitions) → AreChanges before changes now → AreChanges before changes' after)
changes-more (Ok done) now between after changes changes' change is same added = λ before are. changes-same before between after (changes ++ change ∷ []) changes' same added (changes-push before now between changes change are is)
changes-more (Err error) now between after changes changes' change is same added = tt

-- ---- what a definition changes
module _ (charts : List Chart) (dimensions : List Dimension) (registry : Definitions) (view : registry_of charts dimensions ≡ registry) where
  pub chart-change : (new : List Chart) (n : ℕ) (old def : ChartDef) → slice_get (defs charts) n ≡ Some old → def.id ≡ old.id → 0 < old.update_every → defs new ≡ set (defs charts) n def
      → ReplacesChart registry n old (registry_of new dimensions)
  chart-change new n old def at same grid made = record {
    def = def;
    same = same;
    there = ap (λ (seen : Definitions). slice_get seen.charts n) (sym view) ∙ at;
    grid = grid;
    charts = made ∙ ap (λ (seen : Definitions). set seen.charts n def) view;
    dimensions = ap (λ (seen : Definitions). seen.dimensions) view;
  }

  pub chart-addition : (new : List Chart) (def : ChartDef) → AreKept (map row_of charts) (marks dimensions) → position (bytes_eq def.id) (ids (map row_of charts)) ≡ None → defs new ≡ defs charts ++ def ∷ []
      → AddsChart registry (registry_of new dimensions)
  chart-addition new def known none made = record {
    def = def;
    charts = made ∙ ap (λ (seen : Definitions). seen.charts ++ def ∷ []) view;
    dimensions = ap (λ (seen : Definitions). seen.dimensions) view;
    unowned = unowned charts dimensions registry view known def.id (chart_of-ids charts dimensions registry view def.id ∙ none);
  }

  pub dimension-change : (new : List Dimension) (n : ℕ) (old def : DimDef) → option_map (λ (dimension : OpenDim). dimension.def) (slice_get (open_dims dimensions) n) ≡ Some old → def.id ≡ old.id
      → open_dims new ≡ redefined (open_dims dimensions) n def → ReplacesDimension registry n old (registry_of charts new)
  dimension-change new n old def at same made = record {
    def = def;
    same = same;
    there = ap (λ (seen : Definitions). option_map (λ (dimension : OpenDim). dimension.def) (slice_get seen.dimensions n)) (sym view) ∙ at;
    charts = ap (λ (seen : Definitions). seen.charts) view;
    dimensions = made ∙ ap (λ (seen : Definitions). redefined seen.dimensions n def) view;
  }

  pub dimension-addition : (kept : List Chart) (new : List Dimension) (last : Dimension) → defs kept ≡ defs charts → new ≡ dimensions ++ last ∷ [] → AddsDimension registry (registry_of kept new)
  dimension-addition kept new last same made = record {
    dimension = last.definition;
    charts = same ∙ ap (λ (seen : Definitions). seen.charts) view;
    dimensions = ap open_dims made ∙ map-append (λ (dimension : Dimension). dimension.definition) dimensions (last ∷ [])
        ∙ ap (λ (seen : Definitions). seen.dimensions ++ last.definition ∷ []) view;
  }

-- ---- what is there once a change is taken back
any-marks : (chart : List ℕ) (dimensions : List Dimension) → list_any (belongs chart) (marks dimensions) ≡ list_any (is_of chart) (open_dims dimensions)
any-marks chart [] = refl
any-marks chart (dimension ∷ dimensions) = ap (λ (b : Bool). bytes_eq chart dimension.definition.chart || b) (any-marks chart dimensions)

pub id-marks : (dimensions : List Dimension) (n : ℕ) → option_map (λ (mark : Mark). mark.id) (slice_get (marks dimensions) n) ≡ option_map (λ (dimension : OpenDim). dimension.def.id) (slice_get (open_dims dimensions) n)
id-marks [] n = refl
id-marks (dimension ∷ dimensions) zero = refl
id-marks (dimension ∷ dimensions) (suc n) = id-marks dimensions n

-- the definition at a place, and the dimension that has it
had-def : (opens : List OpenDim) (n : ℕ) (old : DimDef) → option_map (λ (dimension : OpenDim). dimension.def) (slice_get opens n) ≡ Some old → (dimension : OpenDim) × (slice_get opens n ≡ Some dimension) × (dimension.def ≡ old)
had-def [] n old at = absurd (none-some old at)
had-def (first ∷ opens) zero old at = (first, refl, same_Some first.def old at)
had-def (first ∷ opens) (suc n) old at = had-def opens n old at

redefined-at : (opens : List OpenDim) (n : ℕ) (dimension : OpenDim) (def : DimDef) → slice_get opens n ≡ Some dimension → redefined opens n def ≡ set opens n (record { chart = dimension.chart; def = def })
redefined-at opens n dimension def at = ap (λ (found : Option OpenDim). option_map_or (λ (old : OpenDim). set opens n (record { chart = old.chart; def = def })) found opens) at

module _ (charts : List Chart) (dimensions : List Dimension) (before after : Definitions) (view : registry_of charts dimensions ≡ after) where
  module _ (adds : AddsChart before after) (new : List Chart) (last : Chart) (split : charts ≡ new ++ last ∷ []) where
    same-charts : defs new ++ last.def ∷ [] ≡ before.charts ++ adds.def ∷ []
    same-charts = sym (ap defs split ∙ map-append (λ (chart : Chart). chart.def) new (last ∷ [])) ∙ ap (λ (seen : Definitions). seen.charts) view ∙ adds.charts

    same-dimensions : open_dims dimensions ≡ before.dimensions
    same-dimensions = ap (λ (seen : Definitions). seen.dimensions) view ∙ adds.dimensions

    pub chart-taken : registry_of new dimensions ≡ before
    chart-taken =
        let prefix = prefix-same (defs new) before.charts last.def adds.def same-charts in
        λ i. record { charts = prefix i; dimensions = same-dimensions i }

    pub taken-unowned : list_any (belongs last.def.id) (marks dimensions) ≡ false
    taken-unowned =
        any-marks last.def.id dimensions
        ∙ (λ i. list_any (is_of (last-same (defs new) before.charts last.def adds.def same-charts i).id) (same-dimensions i)) ∙ adds.unowned

  module _ (n : ℕ) (old : ChartDef) (replaces : ReplacesChart before n old after) where
    pub replaced-there : n < length (defs charts)
    replaced-there =
        omega (arith, slice_get_within before.charts n old replaces.there, ap length (ap (λ (seen : Definitions). seen.charts) view ∙ replaces.charts), length-set before.charts n replaces.def)

    pub replaced-id : (row_at (map row_of charts) n).id ≡ old.id
    replaced-id =
        sym (chart_id-row charts dimensions after view n) ∙ chart_id-get_or after n
        ∙ ap (λ (charts : List ChartDef). get_or (map (λ (def : ChartDef). def.id) charts) n []) replaces.charts
        ∙ mapped-at (λ (def : ChartDef). def.id) before.charts n old replaces.def [] replaces.there ∙ replaces.same

    pub chart-restored : (new : List Chart) → defs new ≡ set (defs charts) n old → registry_of new dimensions ≡ before
    chart-restored new made =
        let back = made ∙ ap (λ (charts : List ChartDef). set charts n old) (ap (λ (seen : Definitions). seen.charts) view ∙ replaces.charts) ∙ set-back before.charts n old replaces.def replaces.there in
        let same = ap (λ (seen : Definitions). seen.dimensions) view ∙ replaces.dimensions in
        λ i. record { charts = back i; dimensions = same i }

  module _ (adds : AddsDimension before after) where
    pub added-some : 0 < length dimensions
    added-some =
        omega (
          arith,
          length-map dimensions (λ (dimension : Dimension). dimension.definition),
          ap length (ap (λ (seen : Definitions). seen.dimensions) view ∙ adds.dimensions),
          length_push before.dimensions adds.dimension,
        )

    pub dimension-taken : (kept : List Chart) (new : List Dimension) (last : Dimension) → defs kept ≡ defs charts → dimensions ≡ new ++ last ∷ [] → registry_of kept new ≡ before
    dimension-taken kept new last same split =
        let opens : open_dims new ++ last.definition ∷ [] ≡ before.dimensions ++ adds.dimension ∷ []
        = sym (ap open_dims split ∙ map-append (λ (dimension : Dimension). dimension.definition) new (last ∷ [])) ∙ ap (λ (seen : Definitions). seen.dimensions) view ∙ adds.dimensions in
        let prefix = prefix-same (open_dims new) before.dimensions last.definition adds.dimension opens in
        let charts_same = same ∙ ap (λ (seen : Definitions). seen.charts) view ∙ adds.charts in
        λ i. record { charts = charts_same i; dimensions = prefix i }

  module _ (n : ℕ) (old : DimDef) (replaces : ReplacesDimension before n old after) where
    had : (dimension : OpenDim) × (slice_get before.dimensions n ≡ Some dimension) × (dimension.def ≡ old)
    had = had-def before.dimensions n old replaces.there

    abbrev changed : OpenDim
    changed = record { chart = had.0.chart; def = replaces.def }

    opens-changed : open_dims dimensions ≡ set before.dimensions n changed
    opens-changed = ap (λ (seen : Definitions). seen.dimensions) view ∙ replaces.dimensions ∙ redefined-at before.dimensions n had.0 replaces.def had.1

    changed-at : slice_get (open_dims dimensions) n ≡ Some changed
    changed-at = ap (λ (opens : List OpenDim). slice_get opens n) opens-changed ∙ set-at before.dimensions n had.0 changed had.1

    pub redefined-id : option_map (λ (mark : Mark). mark.id) (slice_get (marks dimensions) n) ≡ Some old.id
    redefined-id = id-marks dimensions n ∙ ap (option_map (λ (dimension : OpenDim). dimension.def.id)) changed-at ∙ ap Some replaces.same

    pub dimension-restored : (new : List Dimension) → open_dims new ≡ redefined (open_dims dimensions) n old → registry_of charts new ≡ before
    dimension-restored new made =
        let again : record { chart = had.0.chart; def = old } ≡ had.0 = λ i. record { chart = had.0.chart; def = sym had.2 i } in
        let back : open_dims new ≡ before.dimensions
        = made ∙ redefined-at (open_dims dimensions) n changed old changed-at
        ∙ ap (λ (opens : List OpenDim). set opens n (record { chart = had.0.chart; def = old })) opens-changed
        ∙ ap (set (set before.dimensions n changed) n) again ∙ set-back before.dimensions n had.0 changed had.1 in
        let same = ap (λ (seen : Definitions). seen.charts) view ∙ replaces.charts in
        λ i. record { charts = same i; dimensions = back i }
