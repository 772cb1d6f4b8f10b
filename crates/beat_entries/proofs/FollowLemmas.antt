-- A numbered beat that may follow goes on from what stands before it.
use Rattle.std.proofs.Common.{◌≡◌, ℕ, zero, suc, ◌+◌, ◌<◌, ◌≤◌, Bool, true, false, cond, not, ◌&&◌, List, [], ◌∷◌, map, length, position, get_or, slice_get, is_some, All, Option, Some, None, IsSome, IfSome, refl, sym, ap, subst, ◌∙◌, arith, add-zero, zero-add, lt-ltb, if◌then◌else◌}
use Rattle.std.specs.List.{find, list_any, list_all, filter_map, cons_option, count_by, enumerate_from, AllByRecursion}
use Rattle.std.specs.Option.{option_map, option_and_then}
use Rattle.std.specs.Str.{bytes_eq}
use Rattle.std.proofs.lemmas.Bool.{and_parts, le-leb}
use Rattle.std.proofs.lemmas.List.Elements.{recursion_from_All}
use Rattle.std.proofs.lemmas.List.Sums.{sum_by-cons}
use Rattle.std.proofs.lemmas.Option.{none-some, same_Some, slice_get_within}
use Rattle.chart_registry.specs.Defining.{chart_id}
use Rattle.chart_registry.proofs.Places.{list_any-position}
use Rattle.chart_registry.proofs.RegistryLemmas.{or_false, chart_id-chart_of, chart_of-within}
use Rattle.chart_registry.proofs.RowsLemmas.{same_text, bytes_eq_same}
use Rattle.history.specs.declared.numbered.NumberedChart.{NumberedChart}
use Rattle.history.specs.declared.numbered.NumberedDimension.{NumberedDimension}
use Rattle.history.specs.declared.numbered.NumberedBeat.{NumberedBeat}
use Rattle.history.specs.declared.row.Row.{Row}
use Rattle.history.specs.declared.row.Value.{Value}
use Rattle.history.specs.declared.beat.OpenBeat.{OpenBeat}
use Rattle.history.specs.declared.beat.OpenDim.{OpenDim}
use Rattle.history.specs.declared.beat.OpenRow.{OpenRow}
use Rattle.history.specs.declared.beat.OpenValue.{OpenValue}
use Rattle.history.specs.declared.chart.ChartDef.{ChartDef}
use Rattle.history.specs.History.{Beat, collected, registry_of}
use Rattle.history.specs.Limits.{chart_keeps_limits, dimension_keeps_limits}
use Rattle.history.specs.Looking.{is_value}
use Rattle.history.specs.Put.{put_all}
use Rattle.history.specs.Refusal.{is_new_dimension}
use Rattle.history.specs.Registry.{Registry, is_chart, is_dimension, is_of, same_chart, same_dimension, chart_of, with_definitions}
use Rattle.history.specs.Regular.{AreApart, IsRegular}
use Rattle.chart_registry.proofs.ApartLemmas.{apart-charts, apart-filter, apart-registry, own-series, turned}
use Rattle.chart_registry.proofs.Finding.{found-all, found-passes, nat_eq_same, one_if}
use Rattle.beat_entries.specs.Following.{AreOwned, MayFollow}
use Rattle.beat_entries.specs.Defined.{IsDefinedIn}
use Rattle.history.specs.Numbered.{numbered_charts, numbered_dimension, numbered_dimensions, numbered_value, numbered_values, numbered_rows, numbered_beat}
use Rattle.chart_registry.specs.Taking.{all_taken, chart_def, takes_chart, with_chart, dimension_back, takes_dimension, with_dimension, is_number, with_charts, with_dimensions}
use Rattle.beat_entries.specs.Next.{is_of_chart, takes_row, with_numbered, goes_on}
use Rattle.beat_entries.proofs.DefinedLemmas.{chart-itself, chart-alike, dimension-itself, dimension-alike, beat-defined, chart-has, charts-back, dimension-has, dimensions-back}
use Rattle.beat_entries.proofs.EntryLemmas.{own-chart, if-some}
use Rattle.beat_entries.proofs.Gathering.{map-some}
use Rattle.beat_entries.proofs.NextLemmas.{MayChart, MayDimension, charts-taken, dimensions-taken}
use Rattle.beat_entries.proofs.PutLemmas.{put-again}

-- ---- what is picked at the places of a list
module _ {A C : Type 0} (P : C → Type 0) (pick : ℕ × A → Option C) where
  all-from : (things : List A) (n : ℕ) → ((m : ℕ) (a : A) (c : C) → slice_get things m ≡ Some a → pick (n + m, a) ≡ Some c → P c) → AllByRecursion P (filter_map pick (enumerate_from n things))
  all-from [] n each = tt
  all-from (a ∷ things) n each =
      by (pick (n, a)) refl (all-from things (n + 1) (λ m b c at e. let later : n + suc m ≡ (n + 1) + m = omega arith in each (suc m) b c at (ap (λ (k : ℕ). pick (k, b)) later ∙ e)))
    where
      by : (found : Option C) → pick (n, a) ≡ found → AllByRecursion P (filter_map pick (enumerate_from (n + 1) things)) → AllByRecursion P (cons_option found (filter_map pick (enumerate_from (n + 1) things)))
      by None e rest = rest
      by (Some c) e rest = (each zero a c refl (ap (λ (k : ℕ). pick (k, a)) (add-zero n) ∙ e), rest)

  pub all-places : (things : List A) → ((m : ℕ) (a : A) (c : C) → slice_get things m ≡ Some a → pick (m, a) ≡ Some c → P c) → AllByRecursion P (filter_map pick (enumerate_from 0 things))
  all-places things each = all-from things 0 (λ m a c at e. each m a c at (ap (λ (k : ℕ). pick (k, a)) (sym (zero-add m)) ∙ e))

each-tests : {X : Type 0} (p : X → Bool) (xs : List X) → AllByRecursion (λ (x : X). p x ≡ true) xs → list_all p xs ≡ true
each-tests p [] all = refl
each-tests p (x ∷ xs) all = ap (λ (b : Bool). b && list_all p xs) all.0 ∙ each-tests p xs all.1

pub if-true : {X : Type 0} (b : Bool) (found : Option X) (x : X) → (if b then found else None) ≡ Some x → b ≡ true
if-true true found x e = refl
if-true false found x e = absurd (none-some x e)

-- ---- a row has no more values than were set
count-none : {A : Type 0} (p : A → Bool) (xs : List A) → list_any p xs ≡ false → count_by p xs ≡ 0
count-none p [] none = refl
count-none {A} p (x ∷ xs) none =
    let parts = or_false (p x) (list_any p xs) none in
    sum_by-cons (λ (z : A). cond (p z) 1 0) x xs ∙ ap (λ (b : Bool). cond b 1 0 + count_by p xs) parts.0 ∙ omega (arith, count-none p xs parts.1)

count-one : (chart id : List ℕ) (ds : List OpenDim) → AreApart same_dimension ds → count_by (is_dimension chart id) ds ≤ 1
count-one chart id [] apart = omega arith
count-one chart id (d ∷ ds) apart = by (is_dimension chart id d) refl (count-one chart id ds apart.1)
  where
    cons : count_by (is_dimension chart id) (d ∷ ds) ≡ one_if (is_dimension chart id d) + count_by (is_dimension chart id) ds
    cons = sum_by-cons (λ (z : OpenDim). cond (is_dimension chart id z) 1 0) d ds

    by : (b : Bool) → is_dimension chart id d ≡ b → count_by (is_dimension chart id) ds ≤ 1 → count_by (is_dimension chart id) (d ∷ ds) ≤ 1
    by true e rest =
        let parts = and_parts (bytes_eq chart d.chart) (bytes_eq id d.def.id) e in
        let none : count_by (is_dimension chart id) ds ≡ 0
        = count-none (is_dimension chart id) ds ((λ i. list_any (is_dimension (same_text chart d.chart parts.0 i) (same_text id d.def.id parts.1 i)) ds) ∙ apart.0) in
        let here : one_if (is_dimension chart id d) ≡ 1 = ap one_if e in
        omega (arith, cons, here, none)
    by false e rest =
        let here : one_if (is_dimension chart id d) ≡ 0 = ap one_if e in
        omega (arith, cons, here, rest)

abbrev row_with : List ℕ → List OpenValue → OpenRow
row_with chart values = record { chart = chart; values = values }

module _ (chart : List ℕ) (v : OpenValue) (vs : List OpenValue) where
  abbrev made : ℕ → OpenValue → Value
  made n value = record { series = n; value = value.value; anomalous = value.anomalous }

  abbrev picks : List OpenValue → ℕ → List OpenDim → List Value
  picks values n ds = filter_map (λ (place : ℕ × OpenDim). numbered_value (row_with chart values) place.0 place.1) (enumerate_from n ds)

  turned-text : (a b : List ℕ) (c : Bool) → bytes_eq a b ≡ c → bytes_eq b a ≡ c
  turned-text a b true e = bytes_eq_same b a (sym (same_text a b e))
  turned-text a b false e = turned bytes_eq (λ x. bytes_eq_same x x refl) (λ x y e. ap bytes_eq (same_text x y e)) a b e

  one-more : (found : Option Value) (rest more : List Value) (k : ℕ) → length more ≤ k + length rest → length (cons_option found more) ≤ k + length (cons_option found rest)
  one-more None rest more k le = le
  one-more (Some x) rest more k le = omega (arith, le)

  picks-more : (ds : List OpenDim) (n : ℕ) → length (picks (v ∷ vs) n ds) ≤ count_by (is_dimension chart v.id) ds + length (picks vs n ds)
  picks-more [] n = omega arith
  picks-more (d ∷ ds) n = by (bytes_eq chart d.chart) refl (is_value d.def.id v) refl (picks-more ds (n + 1))
    where
      cons : count_by (is_dimension chart v.id) (d ∷ ds) ≡ one_if (is_dimension chart v.id d) + count_by (is_dimension chart v.id) ds
      cons = sum_by-cons (λ (z : OpenDim). cond (is_dimension chart v.id z) 1 0) d ds

      none-le : (found : Option Value) (rest : List Value) → length rest ≤ length (cons_option found rest)
      none-le None rest = omega arith
      none-le (Some x) rest = omega arith

      by : (b : Bool) → bytes_eq chart d.chart ≡ b → (c : Bool) → is_value d.def.id v ≡ c
          → length (picks (v ∷ vs) (n + 1) ds) ≤ count_by (is_dimension chart v.id) ds + length (picks vs (n + 1) ds)
          → length (cons_option (if b then option_map (made n) (cond c (Some v) (find (is_value d.def.id) vs)) else None) (picks (v ∷ vs) (n + 1) ds))
          ≤ count_by (is_dimension chart v.id) (d ∷ ds) + length (cons_option (if b then option_map (made n) (find (is_value d.def.id) vs) else None) (picks vs (n + 1) ds))
      by true e true f le =
          let here : one_if (is_dimension chart v.id d) ≡ 1 = λ i. one_if (e i && turned-text d.def.id v.id true f i) in
          omega (arith, cons, here, le, none-le (option_map (made n) (find (is_value d.def.id) vs)) (picks vs (n + 1) ds))
      by true e false f le =
          let step = one-more (option_map (made n) (find (is_value d.def.id) vs)) (picks vs (n + 1) ds) (picks (v ∷ vs) (n + 1) ds) (count_by (is_dimension chart v.id) ds) le in
          omega (arith, cons, step)
      by false e c f le = omega (arith, cons, le)

values-none : (chart : List ℕ) (ds : List OpenDim) (n : ℕ) → length (filter_map (λ (place : ℕ × OpenDim). numbered_value (row_with chart []) place.0 place.1) (enumerate_from n ds)) ≡ 0
values-none chart [] n = refl
values-none chart (d ∷ ds) n = by (bytes_eq chart d.chart) ∙ values-none chart ds (n + 1)
  where
    by : (b : Bool) → length (cons_option (if b then None else None) (filter_map (λ (place : ℕ × OpenDim). numbered_value (row_with chart []) place.0 place.1) (enumerate_from (n + 1) ds)))
        ≡ length (filter_map (λ (place : ℕ × OpenDim). numbered_value (row_with chart []) place.0 place.1) (enumerate_from (n + 1) ds))
    by true = refl
    by false = refl

values-few : (r : Registry) → AreApart same_dimension r.dimensions → (chart : List ℕ) (values : List OpenValue) → length (numbered_values r (row_with chart values)) ≤ length values
values-few r apart chart [] = omega (arith, values-none chart r.dimensions 0)
values-few r apart chart (v ∷ vs) = omega (arith, picks-more chart v vs r.dimensions 0, count-one chart v.id r.dimensions apart, values-few r apart chart vs)

-- ---- the rows
module _ (r : Registry) (beat : OpenBeat) (defined : IsDefinedIn r beat) (regular : IsRegular r beat) where
  abbrev IsShort : OpenRow → Type 0
  IsShort row = length row.values ≤ 1024

  value-goes : (row : OpenRow) (n : ℕ) → chart_of r row.chart ≡ Some n → (m : ℕ) (d : OpenDim) (c : Value) → slice_get r.dimensions m ≡ Some d → numbered_value row m d ≡ Some c → is_of_chart r n c ≡ true
  value-goes row n number m d c at e =
      let same : row.chart ≡ d.chart
      = same_text row.chart d.chart (if-true (bytes_eq row.chart d.chart) (option_map (λ (value : OpenValue). record { series = m; value = value.value; anomalous = value.anomalous }) (find (is_value d.def.id) row.values)) c e) in
      let inner = if-some (bytes_eq row.chart d.chart) (option_map (λ (value : OpenValue). record { series = m; value = value.value; anomalous = value.anomalous }) (find (is_value d.def.id) row.values)) c e in
      let series : m ≡ c.series
      = ap (λ (c : Value). c.series) (map-some (λ (value : OpenValue). record { series = m; value = value.value; anomalous = value.anomalous }) (find (is_value d.def.id) row.values) c inner).1.1 in
      ap (λ (k : ℕ). is_number n (option_and_then (λ (dimension : OpenDim). chart_of r dimension.chart) (slice_get r.dimensions k))) (sym series)
      ∙ ap (λ (found : Option OpenDim). is_number n (option_and_then (λ (dimension : OpenDim). chart_of r dimension.chart) found)) at
      ∙ ap (is_number n) (ap (chart_of r) (sym same) ∙ number) ∙ nat_eq_same n

  row-goes : (n : ℕ) (a : ChartDef) (row : OpenRow) → slice_get r.charts n ≡ Some a → find (λ (row : OpenRow). bytes_eq a.id row.chart) beat.rows ≡ Some row
      → takes_row r (record { chart = n; values = numbered_values r row }) ≡ true
  row-goes n a row at e =
      let same : a.id ≡ row.chart = same_text a.id row.chart (found-passes (λ (row : OpenRow). bytes_eq a.id row.chart) beat.rows row e) in
      let number : chart_of r row.chart ≡ Some n = ap (chart_of r) (sym same) ∙ own-chart r n a defined.own_charts at in
      let short : length row.values ≤ 1024 = found-all IsShort (λ (row : OpenRow). bytes_eq a.id row.chart) beat.rows row (recursion_from_All IsShort beat.rows regular.limit) e in
      let few : length (numbered_values r row) ≤ length row.values = values-few r defined.own_dimensions row.chart row.values in
      let within = lt-ltb n (length r.charts) (slice_get_within r.charts n a at) in
      let limit = le-leb (length (numbered_values r row)) 1024 (omega (arith, few, short)) in
      let values = each-tests (is_of_chart r n) (numbered_values r row)
      (all-places (λ (c : Value). is_of_chart r n c ≡ true) (λ (place : ℕ × OpenDim). numbered_value row place.0 place.1) r.dimensions (value-goes row n number)) in
      λ i. within i && limit i && values i

  pub rows-go : list_all (takes_row r) (numbered_rows r beat) ≡ true
  rows-go =
      each-tests (takes_row r) (numbered_rows r beat)
      (all-places (λ (c : Row). takes_row r c ≡ true)
      (λ (place : ℕ × ChartDef). option_map (λ (row : OpenRow). record { chart = place.0; values = numbered_values r row }) (find (λ (row : OpenRow). bytes_eq place.1.id row.chart) beat.rows)) r.charts
      (λ n a c at e.
      let parts = map-some (λ (row : OpenRow). record { chart = n; values = numbered_values r row }) (find (λ (row : OpenRow). bytes_eq a.id row.chart) beat.rows) c e in
      subst (λ (c : Row). takes_row r c ≡ true) parts.1.1 (row-goes n a parts.0 at parts.1.0)))

-- ---- a registry that takes what a beat defines
-- What the beat defines may be taken: it keeps its limits, each chart has an update_every, which is the one that it has
-- had, and there is room for what is new.
pub record MayTake (first : Registry) (beat : OpenBeat) : Type 0 where
  pub grids : All (λ (def : ChartDef). 0 < def.update_every) beat.charts
  pub kept : All (λ (def : ChartDef). (old : ChartDef) → find (is_chart def.id) first.charts ≡ Some old → old.update_every ≡ def.update_every) beat.charts
  pub chart_limits : All (λ (def : ChartDef). chart_keeps_limits def ≡ true) beat.charts
  pub dimension_limits : All (λ (dimension : OpenDim). dimension_keeps_limits dimension.def ≡ true) beat.dimensions
  pub charts : length (with_definitions first beat.charts beat.dimensions).charts ≤ 4096
  pub dimensions : length (with_definitions first beat.charts beat.dimensions).dimensions ≤ 65536
  pub room : All (λ (dimension : OpenDim). is_new_dimension first dimension ≡ true → count_by (is_of dimension.chart) (with_definitions first beat.charts beat.dimensions).dimensions ≤ 1024) beat.dimensions

module _ (first : Registry) (beat : OpenBeat) (own_charts : AreApart same_chart first.charts) (own_dimensions : AreApart same_dimension first.dimensions)
    (defined : IsDefinedIn (with_definitions first beat.charts beat.dimensions) beat) where
  abbrev r : Registry
  r = with_definitions first beat.charts beat.dimensions

  abbrev charts : List NumberedChart
  charts = numbered_charts r beat

  abbrev dimensions : List NumberedDimension
  dimensions = numbered_dimensions r beat

  whole-charts : put_all same_chart first.charts (map chart_def charts) ≡ r.charts
  whole-charts = ap (put_all same_chart first.charts) (charts-back beat.charts r.charts 0) ∙ put-again same_chart chart-itself chart-alike first.charts beat.charts own_charts

  whole-dimensions : put_all same_dimension first.dimensions (map (dimension_back r) dimensions) ≡ r.dimensions
  whole-dimensions =
      ap (put_all same_dimension first.dimensions)
      (dimensions-back r beat.dimensions (recursion_from_All (λ (dimension : OpenDim). IsSome (chart_of r dimension.chart)) beat.dimensions defined.owners) r.dimensions 0)
      ∙ put-again same_dimension dimension-itself dimension-alike first.dimensions beat.dimensions own_dimensions

  abbrev mid : Registry
  mid = record { charts = r.charts; dimensions = first.dimensions }

  mid-is : mid ≡ with_charts first charts
  mid-is = λ i. record { charts = sym whole-charts i; dimensions = first.dimensions }

  pub taken-is : r ≡ with_dimensions (with_charts first charts) dimensions
  taken-is =
      (λ i. record { charts = r.charts; dimensions = sym whole-dimensions i })
      ∙ ap (λ (s : Registry). with_dimensions s dimensions) mid-is

  module _ (may : MayTake first beat) where
    -- the charts
    abbrev HasGrid : ChartDef → Type 0
    HasGrid def = 0 < def.update_every

    abbrev KeepsLimits : ChartDef → Type 0
    KeepsLimits def = chart_keeps_limits def ≡ true

    abbrev KeepsGrid : ChartDef → Type 0
    KeepsGrid def = (old : ChartDef) → find (is_chart def.id) first.charts ≡ Some old → old.update_every ≡ def.update_every

    chart-may : (m : ℕ) (a : ChartDef) → slice_get r.charts m ≡ Some a → list_any (is_chart a.id) beat.charts ≡ true → MayChart r.charts may.charts first.charts (record { number = m; def = a })
    chart-may m a at any = record {
      grid = chart-has r beat defined HasGrid may.grids m a at any;
      limits = chart-has r beat defined KeepsLimits may.chart_limits m a at any;
      number = own-chart r m a defined.own_charts at;
      kept = chart-has r beat defined KeepsGrid may.kept m a at any;
    }

    pub charts-go : all_taken takes_chart with_chart first charts ≡ true
    charts-go =
        charts-taken r.charts may.charts first charts whole-charts
        (subst (AreApart same_chart) (sym (charts-back beat.charts r.charts 0)) (apart-filter same_chart (λ (def : ChartDef). list_any (same_chart def) beat.charts) r.charts defined.own_charts))
        (all-places (MayChart r.charts may.charts first.charts) (λ (place : ℕ × ChartDef). if list_any (is_chart place.1.id) beat.charts then Some (record { number = place.0; def = place.1 }) else None) r.charts
        (λ m a c at e.
        subst (MayChart r.charts may.charts first.charts) (same_Some (record { number = m; def = a }) c (if-some (list_any (is_chart a.id) beat.charts) (Some (record { number = m; def = a })) c e))
        (chart-may m a at (if-true (list_any (is_chart a.id) beat.charts) (Some (record { number = m; def = a })) c e))))

    -- the dimensions
    abbrev IsLimited : OpenDim → Type 0
    IsLimited dimension = dimension_keeps_limits dimension.def ≡ true

    abbrev HasRoom : OpenDim → Type 0
    HasRoom dimension = is_new_dimension first dimension ≡ true → count_by (is_of dimension.chart) r.dimensions ≤ 1024

    dimension-may : (m : ℕ) (a : OpenDim) (c : NumberedDimension) → slice_get r.dimensions m ≡ Some a → IsLimited a → HasRoom a → numbered_dimension r m a ≡ Some c
        → MayDimension r.dimensions may.dimensions mid c
    dimension-may m a c at limits room e =
        let parts = map-some (λ (number : ℕ). record { series = m; chart = number; def = a.def }) (chart_of r a.chart) c e in
        let id : chart_id r parts.0 ≡ a.chart = subst (λ (o : Option ℕ). IfSome o (λ n. chart_id r n ≡ a.chart)) parts.1.0 (chart_id-chart_of r a.chart) in
        subst (MayDimension r.dimensions may.dimensions mid) parts.1.1 (record {
          chart = chart_of-within r a.chart parts.0 parts.1.0;
          limits = limits;
          number = ap (λ (chart : List ℕ). position (is_dimension chart a.def.id) r.dimensions) id ∙ own-series r m a defined.own_dimensions at;
          room = λ none.
              let fresh : is_new_dimension first a ≡ true
              = ap not (sym (list_any-position (is_dimension a.chart a.def.id) first.dimensions)
              ∙ ap is_some (ap (λ (chart : List ℕ). position (is_dimension chart a.def.id) first.dimensions) (sym id) ∙ none)) in
              subst (λ (chart : List ℕ). count_by (is_of chart) r.dimensions ≤ 1024) (sym id) (room fresh);
        })

    pub dimensions-go : all_taken takes_dimension with_dimension (with_charts first charts) dimensions ≡ true
    dimensions-go =
        ap (λ (s : Registry). all_taken takes_dimension with_dimension s dimensions) (sym mid-is)
        ∙ dimensions-taken r.dimensions may.dimensions mid dimensions whole-dimensions
        (all-places (MayDimension r.dimensions may.dimensions mid)
        (λ (place : ℕ × OpenDim). if list_any (is_dimension place.1.chart place.1.def.id) beat.dimensions then numbered_dimension r place.0 place.1 else None) r.dimensions
        (λ m a c at e.
        let any = list_any (is_dimension a.chart a.def.id) beat.dimensions in
        let made = numbered_dimension r m a in
        dimension-may m a c at (dimension-has r beat defined IsLimited may.dimension_limits m a at (if-true any made c e))
        (dimension-has r beat defined HasRoom may.room m a at (if-true any made c e)) (if-some any made c e)))

-- ---- a beat that may follow a history
module _ (h : List Beat) (moment : ℕ) (beat : OpenBeat) (owned : AreOwned (registry_of h) beat) where
  abbrev entry : NumberedBeat
  entry = numbered_beat (registry_of (collected moment beat ∷ h)) moment beat

  pub last-is : registry_of (collected moment beat ∷ h) ≡ with_numbered (registry_of h) entry
  last-is = taken-is (registry_of h) beat (apart-charts h) (apart-registry h) (beat-defined h moment beat owned)

  module _ (follows : MayFollow (registry_of h) beat) where
    may : MayTake (registry_of h) beat
    may = record {
      grids = follows.grids;
      kept = follows.kept;
      chart_limits = follows.chart_limits;
      dimension_limits = follows.dimension_limits;
      charts = follows.charts;
      dimensions = follows.dimensions;
      room = λ k d within fresh. follows.each (get_or beat.dimensions k d).chart;
    }

    pub beat-goes-on : IsRegular (registry_of (collected moment beat ∷ h)) beat → goes_on (registry_of h) entry ≡ true
    beat-goes-on regular =
        let defined = beat-defined h moment beat owned in
        let charts_go = charts-go (registry_of h) beat (apart-charts h) (apart-registry h) defined may in
        let dimensions_go = dimensions-go (registry_of h) beat (apart-charts h) (apart-registry h) defined may in
        let rows : list_all (takes_row (with_numbered (registry_of h) entry)) entry.rows ≡ true
        = ap (λ (s : Registry). list_all (takes_row s) entry.rows) (sym last-is) ∙ rows-go (registry_of (collected moment beat ∷ h)) beat defined regular in
        λ i. charts_go i && (dimensions_go i && rows i)
