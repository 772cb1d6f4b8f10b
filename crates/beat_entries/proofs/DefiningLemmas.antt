-- What a registry takes of a numbered beat.
use Rattle.std.proofs.Common.{◌≡◌, ℕ, ◌<◌, ◌≤◌, Bool, true, false, ◌&&◌, ltb, leb, List, [], ◌∷◌, length, slice_get, Option, Some, None, All, refl, sym, ap, ◌∙◌, true≢false}
use Rattle.std.specs.List.{list_all, AllByRecursion}
use Rattle.std.specs.Option.{option_and_then}
use Rattle.std.proofs.lemmas.Bool.{and_parts, leb-true, ltb-true}
use Rattle.std.proofs.lemmas.List.Elements.{All-from_recursion}
use Rattle.std.proofs.lemmas.Option.{slice_get_within}
use Rattle.history.specs.declared.numbered.NumberedBeat.{NumberedBeat}
use Rattle.history.specs.declared.row.Row.{Row}
use Rattle.history.specs.declared.row.Value.{Value}
use Rattle.history.specs.declared.beat.OpenDim.{OpenDim}
use Rattle.history.specs.Numbered.{IsThere}
use Rattle.history.specs.Registry.{Registry, chart_of}
use Rattle.chart_registry.proofs.Finding.{all-weaker}
use Rattle.chart_registry.specs.Taking.{all_taken, is_number, takes_chart, takes_dimension, with_chart, with_charts, with_dimension, with_dimensions}
use Rattle.beat_entries.specs.Next.{is_of_chart, takes_row, with_numbered, goes_on}
use Rattle.chart_registry.proofs.Steps.{and-no}

-- ---- the whole beat
module _ (first mid : Registry) (beat : NumberedBeat) (mid_is : mid ≡ with_charts first beat.charts) where
  module _ (last : Registry) (last_is : last ≡ with_dimensions mid beat.dimensions) where
    pub last-numbered : last ≡ with_numbered first beat
    last-numbered = last_is ∙ ap (λ (r : Registry). with_dimensions r beat.dimensions) mid_is

    pub stops-at-rows : list_all (takes_row last) beat.rows ≡ false → goes_on first beat ≡ false
    stops-at-rows e =
        ap (λ (b : Bool). all_taken takes_chart with_chart first beat.charts && (all_taken takes_dimension with_dimension (with_charts first beat.charts) beat.dimensions && b))
        (ap (λ (r : Registry). list_all (takes_row r) beat.rows) (sym last-numbered) ∙ e)
        ∙ ap (λ (b : Bool). all_taken takes_chart with_chart first beat.charts && b) (and-no (all_taken takes_dimension with_dimension (with_charts first beat.charts) beat.dimensions))
        ∙ and-no (all_taken takes_chart with_chart first beat.charts)

    pub all-go : all_taken takes_chart with_chart first beat.charts ≡ true → all_taken takes_dimension with_dimension mid beat.dimensions ≡ true → list_all (takes_row last) beat.rows ≡ true → goes_on first beat ≡ true
    all-go charts dimensions rows =
        let dimensions_too = ap (λ (r : Registry). all_taken takes_dimension with_dimension r beat.dimensions) (sym mid_is) ∙ dimensions in
        let rows_too = ap (λ (r : Registry). list_all (takes_row r) beat.rows) (sym last-numbered) ∙ rows in
        λ i. charts i && (dimensions_too i && rows_too i)

-- ---- rows that are taken are of what is there
tests-each : {X : Type 0} (p : X → Bool) (xs : List X) → list_all p xs ≡ true → AllByRecursion (λ (x : X). p x ≡ true) xs
tests-each p [] all = tt
tests-each p (x ∷ xs) all = let parts = and_parts (p x) (list_all p xs) all in (parts.0, tests-each p xs parts.1)

module _ (registry : Registry) where
  abbrev IsPresent : Value → Type 0
  IsPresent value = value.series < length registry.dimensions

  value-there : (chart : ℕ) (value : Value) → is_of_chart registry chart value ≡ true → IsPresent value
  value-there chart value of = by (slice_get registry.dimensions value.series) refl of
    where
      by : (found : Option OpenDim) → slice_get registry.dimensions value.series ≡ found
          → is_number chart (option_and_then (λ (dimension : OpenDim). chart_of registry dimension.chart) found) ≡ true → IsPresent value
      by None e of = absurd (true≢false (sym of))
      by (Some d) e of = slice_get_within registry.dimensions value.series d e

  abbrev IsKnown : Row → Type 0
  IsKnown row = row.chart < length registry.charts

  abbrev HasKnown : Row → Type 0
  HasKnown row = All IsPresent row.values

  abbrev IsShort : Row → Type 0
  IsShort row = length row.values ≤ 1024

  row-there : (row : Row) → takes_row registry row ≡ true → IsKnown row × (HasKnown row × IsShort row)
  row-there row taken =
      let known = ltb row.chart (length registry.charts) in
      let short = leb (length row.values) 1024 in
      let values = list_all (is_of_chart registry row.chart) row.values in
      let all = and_parts (known && short) values taken in
      let two = and_parts known short all.0 in (
        ltb-true row.chart (length registry.charts) two.0,
        (
          All-from_recursion IsPresent row.values
              (all-weaker (λ (value : Value). is_of_chart registry row.chart value ≡ true) IsPresent (value-there row.chart) row.values (tests-each (is_of_chart registry row.chart) row.values all.1)),
          leb-true (length row.values) 1024 two.1,
        ),
      )

  pub rows-there : (beat : NumberedBeat) → list_all (takes_row registry) beat.rows ≡ true → IsThere registry beat
  rows-there beat taken =
      let each = tests-each (takes_row registry) beat.rows taken in
      let are : (P : Row → Type 0) → ((row : Row) → takes_row registry row ≡ true → P row) → All P beat.rows
      = λ P holds. All-from_recursion P beat.rows (all-weaker (λ (row : Row). takes_row registry row ≡ true) P holds beat.rows each) in
      record {
        charts = are IsKnown (λ row e. (row-there row e).0);
        dimensions = are HasKnown (λ row e. (row-there row e).1.0);
        limit = are IsShort (λ row e. (row-there row e).1.1);
      }
