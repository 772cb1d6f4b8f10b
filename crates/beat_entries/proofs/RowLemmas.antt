-- A row by number, as far as there was memory.
use Rattle.std.proofs.Common.{◌≡◌, ℕ, Bool, true, List, [], ◌∷◌, ◌++◌, Option, Some, Result, Ok, Err, IfOk, OnOk, IsOkAnd, sym, ap, subst, ◌∙◌}
use Rattle.std.specs.List.{cons_option, filter_map}
use Rattle.std.specs.List.Sorted.{IsPermutation, IsNonDecreasingBy}
use Rattle.std.specs.Option.{option_map}
use Rattle.history.specs.declared.beat.OpenRow.{OpenRow}
use Rattle.history.specs.declared.row.Row.{Row}
use Rattle.history.specs.declared.row.Value.{Value}
use Rattle.history.specs.Looking.{same_value}
use Rattle.history.specs.Numbered.{numbered_values}
use Rattle.history.specs.Registry.{Registry, chart_of, same_dimension}
use Rattle.history.specs.Regular.{AreApart}
use Rattle.beat_entries.specs.Gathered.{row_at, value_at}
use Rattle.beat_entries.proofs.EntryLemmas.{values-are}

module _ (registry : Registry) (row : OpenRow) (number : ℕ) (found : chart_of registry row.chart ≡ Some number) where
  row-made : (made : Row) → made.chart ≡ number → made.values ≡ numbered_values registry row → Some made ≡ row_at registry row
  row-made made chart values =
      (λ i. Some (record { chart = chart i; values = values i }))
      ∙ sym (ap (option_map (λ (n : ℕ). record { chart = n; values = numbered_values registry row })) found)

  -- a row that was made of all its values, and kept
  pub row-kept : {E : Type 0} → AreApart same_dimension registry.dimensions → AreApart same_value row.values → (whole : Bool) (items : List Value) (result : Result Row E) (old new : List Row)
      → (whole ≡ true → items ≡ filter_map (value_at registry row.chart) row.values)
      → OnOk result (whole ≡ true) → IfOk result (λ (made : Row). made.chart ≡ number) → IfOk result (λ (made : Row). IsPermutation items made.values)
      → IfOk result (λ (made : Row). IsNonDecreasingBy (λ (value : Value). value.series) made.values)
      → IsOkAnd result (λ (made : Row). new ≡ old ++ made ∷ []) → new ≡ old ++ cons_option (row_at registry row) []
  row-kept own apart whole items (Ok made) old new is all chart same rises kept =
      let values : made.values ≡ numbered_values registry row
      = values-are registry row own made.values apart (subst (λ (list : List Value). IsPermutation list made.values) (is all) same) rises in
      kept ∙ ap (λ (o : Option Row). old ++ cons_option o []) (row-made made chart values)
  row-kept own apart whole items (Err e) old new is all chart same rises kept = absurd kept
