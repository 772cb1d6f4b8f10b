-- The entry of a copied beat that may follow a history is that of a beat without rows that defines the same.
use Rattle.std.proofs.Common.{◌≡◌, ℕ, ◌+◌, ◌<◌, ◌≤◌, Bool, true, ◌&&◌, lt-ltb, List, [], ◌∷◌, map, length, Option, Some, None, IsSome, All, refl, sym, ap, subst, ◌∙◌, if◌then◌else◌}
use Rattle.std.specs.List.{find, list_any, list_all, filter_map, enumerate_from, AllByRecursion}
use Rattle.std.specs.Option.{option_map}
use Rattle.std.specs.Str.{bytes_eq}
use Rattle.std.proofs.lemmas.List.Elements.{All-from_recursion, recursion_from_All}
use Rattle.std.proofs.lemmas.Option.{same_Some}
use Rattle.history.specs.declared.numbered.NumberedChart.{NumberedChart}
use Rattle.history.specs.declared.numbered.NumberedDimension.{NumberedDimension}
use Rattle.entry_codec.specs.declared.entry.Copied.{Copied}
use Rattle.history.specs.declared.beat.OpenBeat.{OpenBeat}
use Rattle.history.specs.declared.beat.OpenDim.{OpenDim}
use Rattle.history.specs.declared.beat.OpenRow.{OpenRow}
use Rattle.history.specs.declared.beat.OpenValue.{OpenValue}
use Rattle.history.specs.declared.chart.ChartDef.{ChartDef}
use Rattle.history.specs.declared.row.Row.{Row}
use Rattle.history.specs.History.{Beat, copied, registry_of, Copy, Word}
use Rattle.history.specs.Looking.{same_value}
use Rattle.history.specs.Registry.{Registry, is_chart, is_dimension, chart_of, series_of}
use Rattle.history.specs.Regular.{AreApart, IsRegular}
use Rattle.beat_entries.specs.Copied.{full_chart, full_dimension, defined_by, names_word, copied_goes_on, definitions_of, told_chart, told_dimension, told_word, copied_entry_of, usual_dimension, IsUsualChart, IsUsualDimension, MayCopy}
use Rattle.beat_entries.specs.Defined.{IsDefinedIn}
use Rattle.history.specs.Numbered.{numbered_charts, numbered_dimension, numbered_dimensions, numbered_values, numbered_beat}
use Rattle.beat_entries.specs.Next.{goes_on, with_numbered}
use Rattle.beat_entries.proofs.DefinedLemmas.{beat-defined, chart-has, dimension-has}
use Rattle.beat_entries.proofs.EntryLemmas.{if-some}
use Rattle.beat_entries.proofs.FollowLemmas.{all-places, beat-goes-on, if-true, last-is}
use Rattle.beat_entries.proofs.Gathering.{map-some}

-- ---- mapped lists
mapped-back : {X Y : Type 0} (P : Y → Type 0) (tell : Y → X) (full : X → Y) → ((y : Y) → P y → full (tell y) ≡ y) → (ys : List Y) → AllByRecursion P ys → map full (map tell ys) ≡ ys
mapped-back P tell full back [] all = refl
mapped-back P tell full back (y ∷ ys) all = λ i. back y all.0 i ∷ mapped-back P tell full back ys all.1 i

pub all-mapped : {X Y : Type 0} (P : X → Type 0) (f : X → Y) (q : Y → Bool) → ((x : X) → P x → q (f x) ≡ true) → (xs : List X) → AllByRecursion P xs → list_all q (map f xs) ≡ true
all-mapped P f q passes [] all = refl
all-mapped P f q passes (x ∷ xs) all = λ i. passes x all.0 i && all-mapped P f q passes xs all.1 i

-- ---- what is told of usual definitions tells all
abbrev IsUsualNumbered : NumberedChart → Type 0
IsUsualNumbered chart = IsUsualChart chart.def

charts-told : (charts : List NumberedChart) → AllByRecursion IsUsualNumbered charts → map full_chart (map told_chart charts) ≡ charts
charts-told = mapped-back IsUsualNumbered told_chart full_chart (λ chart usual. λ i. record { number = chart.number; def = sym usual i })

abbrev IsUsualSeries : NumberedDimension → Type 0
IsUsualSeries dimension = dimension.def ≡ usual_dimension dimension.def.id dimension.def.hidden

dimensions-told : (dimensions : List NumberedDimension) → AllByRecursion IsUsualSeries dimensions → map full_dimension (map told_dimension dimensions) ≡ dimensions
dimensions-told = mapped-back IsUsualSeries told_dimension full_dimension (λ dimension usual. λ i. record { series = dimension.series; chart = dimension.chart; def = sym usual i })

-- ---- a beat without rows
module _ (r : Registry) (charts : List ChartDef) (dimensions : List OpenDim) where
  abbrev without_rows : OpenBeat
  without_rows = record { charts = charts; dimensions = dimensions; rows = [] }

  pub no-rows : (things : List ChartDef) (n : ℕ)
      → filter_map {Y = Row} (λ (place : ℕ × ChartDef). option_map (λ (row : OpenRow). record { chart = place.0; values = numbered_values r row }) (find (λ (row : OpenRow). bytes_eq place.1.id row.chart) []))
      (enumerate_from n things) ≡ []
  no-rows [] n = refl
  no-rows (a ∷ things) n = no-rows things (n + 1)

  pub regular-without : IsRegular r without_rows
  regular-without = record {
    rows = tt;
    values = All-from_recursion (λ (row : OpenRow). AreApart same_value row.values) [] tt;
    charts = All-from_recursion (λ (row : OpenRow). IsSome (chart_of r row.chart)) [] tt;
    dimensions = All-from_recursion (λ (row : OpenRow). All (λ (value : OpenValue). IsSome (series_of r row.chart value.id)) row.values) [] tt;
    limit = All-from_recursion (λ (row : OpenRow). length row.values ≤ 1024) [] tt;
  }

  module _ (defined : IsDefinedIn r without_rows) where
    charts-usual : All IsUsualChart charts → AllByRecursion IsUsualNumbered (numbered_charts r without_rows)
    charts-usual usual =
        all-places IsUsualNumbered (λ (place : ℕ × ChartDef). if list_any (is_chart place.1.id) charts then Some (record { number = place.0; def = place.1 }) else None) r.charts
        (λ m a c at e.
        let any = list_any (is_chart a.id) charts in
        let made : Option NumberedChart = Some (record { number = m; def = a }) in
        subst IsUsualNumbered (same_Some (record { number = m; def = a }) c (if-some any made c e))
        (chart-has r without_rows defined IsUsualChart usual m a at (if-true any made c e)))

    dimensions-usual : All IsUsualDimension dimensions → AllByRecursion IsUsualSeries (numbered_dimensions r without_rows)
    dimensions-usual usual =
        all-places IsUsualSeries (λ (place : ℕ × OpenDim). if list_any (is_dimension place.1.chart place.1.def.id) dimensions then numbered_dimension r place.0 place.1 else None) r.dimensions
        (λ m a c at e.
        let any = list_any (is_dimension a.chart a.def.id) dimensions in
        let made = numbered_dimension r m a in
        let parts = map-some (λ (number : ℕ). record { series = m; chart = number; def = a.def }) (chart_of r a.chart) c (if-some any made c e) in
        subst IsUsualSeries parts.1.1 (dimension-has r without_rows defined IsUsualDimension usual m a at (if-true any made c e)))

-- ---- a copied beat that may follow a history
module _ (h : List Beat) (copy : Copy) (may : MayCopy h copy) where
  abbrev first : Registry
  first = registry_of h

  abbrev r : Registry
  r = registry_of (copied copy ∷ h)

  abbrev beat : OpenBeat
  beat = definitions_of copy

  abbrev entry : Copied
  entry = copied_entry_of r copy

  defined : IsDefinedIn r beat
  defined = beat-defined h copy.moment beat may.owned

  defined-is : defined_by entry ≡ numbered_beat r copy.moment beat
  defined-is =
      let charts = charts-told (numbered_charts r beat) (charts-usual r copy.charts copy.dimensions defined may.charts) in
      let dimensions = dimensions-told (numbered_dimensions r beat) (dimensions-usual r copy.charts copy.dimensions defined may.dimensions) in
      let rows = no-rows r copy.charts copy.dimensions r.charts 0 in
      λ i. record { moment = copy.moment; charts = charts i; dimensions = dimensions i; rows = sym rows i }

  pub copied-registry : with_numbered first (defined_by entry) ≡ r
  copied-registry = ap (with_numbered first) defined-is ∙ sym (last-is h copy.moment beat may.owned)

  abbrev IsNamed : Word → Type 0
  IsNamed word = word.series < length r.dimensions

  pub copied-next : copied_goes_on first entry ≡ true
  copied-next =
      let goes : goes_on first (defined_by entry) ≡ true
      = ap (goes_on first) defined-is ∙ beat-goes-on h copy.moment beat may.owned may.may (regular-without r copy.charts copy.dimensions) in
      let words : list_all (names_word (with_numbered first (defined_by entry))) entry.words ≡ true
      = ap (λ (s : Registry). list_all (names_word s) entry.words) copied-registry
      ∙ all-mapped IsNamed told_word (names_word r) (λ word below. lt-ltb word.series (length r.dimensions) below) copy.words (recursion_from_All IsNamed copy.words may.words) in
      λ i. goes i && words i

-- ---- an entry that is defined
module _ (first last : Registry) (entry : Copied) (made : last ≡ with_numbered first (defined_by entry)) where
  words-tested : list_all (names_word (with_numbered first (defined_by entry))) entry.words ≡ list_all (names_word last) entry.words
  words-tested = ap (λ (s : Registry). list_all (names_word s) entry.words) (sym made)

  pub words-there : goes_on first (defined_by entry) ≡ true → list_all (names_word last) entry.words ≡ true → copied_goes_on first entry ≡ true
  words-there goes there = λ i. goes i && (words-tested ∙ there) i
