-- Values that are taken one by one.
use Rattle.std.proofs.Common.{◌≡◌, ℕ, ◌+◌, ◌<◌, Bool, true, false, cond, nat_eq, List, [], ◌∷◌, ◌++◌, length, take, set, get_or, reverse, Option, Some, None, refl, sym, ap, subst, ◌∙◌, append_assoc, true≢false}
use Rattle.std.specs.List.{find}
use Rattle.std.specs.Option.{option_or}
use Rattle.std.proofs.lemmas.Bool.{eqb-true}
use Rattle.std.proofs.lemmas.List.{append-nil, take_more, reverse-append, get_or-set_same, get_or-set_other, length-set}
use Rattle.std.proofs.lemmas.List.Folds.{find-append}
use Rattle.algorithms.specs.declared.last.Last.{Last}
use Rattle.history.specs.declared.row.Row.{Row}
use Rattle.history.specs.declared.row.Value.{Value}
use Rattle.chart_registry.proofs.Finding.{nat_eq_same}
use Rattle.beat_points.specs.LastRows.{is_of_series, last_value, noted, Takes}
use Rattle.beat_points.specs.Numbered.{rows_values}

pub last_value-append : (series : ℕ) (xs ys : List Value) → last_value series (xs ++ ys) ≡ option_or (last_value series ys) (last_value series xs)
last_value-append series xs ys = ap (find (is_of_series series)) (reverse-append xs ys) ∙ find-append (is_of_series series) (reverse ys) (reverse xs)

pub rows_values-append : (xs ys : List Row) → rows_values (xs ++ ys) ≡ rows_values xs ++ rows_values ys
rows_values-append [] ys = refl
rows_values-append (x ∷ xs) ys = ap (λ (rest : List Value). x.values ++ rest) (rows_values-append xs ys) ∙ sym (append_assoc x.values (rows_values xs) (rows_values ys))

module _ (moment : ℕ) where
  noted-or : (later earlier : Option Value) (before : Option Last) → noted moment later (noted moment earlier before) ≡ noted moment (option_or later earlier) before
  noted-or None earlier before = refl
  noted-or (Some value) earlier before = refl

  takes-then : (xs ys : List Value) (old mid new : List (Option Last)) → Takes moment xs old mid → Takes moment ys mid new → Takes moment (xs ++ ys) old new
  takes-then xs ys old mid new first then = record {
    rows_are = λ series.
        then.rows_are series ∙ ap (noted moment (last_value series ys)) (first.rows_are series)
        ∙ noted-or (last_value series ys) (last_value series xs) (get_or old series None)
        ∙ ap (λ (value : Option Value). noted moment value (get_or old series None)) (sym (last_value-append series xs ys));
    length_is = then.length_is ∙ first.length_is;
  }

  abbrev now : Value → Option Last
  now value = Some (record { moment = moment; value = value.value })

  takes-one : (value : Value) (old : List (Option Last)) → value.series < length old → Takes moment (value ∷ []) old (set old value.series (now value))
  takes-one value old room = record { rows_are = λ series. by series (nat_eq value.series series) refl; length_is = length-set old value.series (now value) }
    where
      by : (series : ℕ) (b : Bool) → nat_eq value.series series ≡ b
          → get_or (set old value.series (now value)) series None ≡ noted moment (last_value series (value ∷ [])) (get_or old series None)
      by series true e =
          ap (λ (n : ℕ). get_or (set old value.series (now value)) n None) (sym (eqb-true value.series series e)) ∙ get_or-set_same old value.series (now value) None room
          ∙ sym (ap (λ (b : Bool). noted moment (cond b (Some value) None) (get_or old series None)) e)
      by series false e =
          get_or-set_other old value.series series (now value) None (λ same. true≢false (sym (nat_eq_same series) ∙ ap (λ (n : ℕ). nat_eq n series) same ∙ e))
          ∙ sym (ap (λ (b : Bool). noted moment (cond b (Some value) None) (get_or old series None)) e)

  pub values-more : (values : List Value) (k : ℕ) (old new : List (Option Last)) (value : Value) → k < length values → get_or values k value ≡ value → value.series < length new
      → Takes moment (take k values) old new → Takes moment (take (k + 1) values) old (set new value.series (Some (record { moment = moment; value = value.value })))
  values-more values k old new value within at room takes =
      let more : take (k + 1) values ≡ take k values ++ value ∷ [] = take_more values k value within ∙ ap (λ (v : Value). take k values ++ v ∷ []) at in
      subst (λ (vs : List Value). Takes moment vs old (set new value.series (now value))) (sym more)
      (takes-then (take k values) (value ∷ []) old new (set new value.series (now value)) takes (takes-one value new room))

  pub rows-more : (rows : List Row) (k : ℕ) (old mid new : List (Option Last)) (row : Row) → k < length rows → get_or rows k row ≡ row
      → Takes moment row.values mid new → Takes moment (rows_values (take k rows)) old mid → Takes moment (rows_values (take (k + 1) rows)) old new
  rows-more rows k old mid new row within at here takes =
      let more : rows_values (take (k + 1) rows) ≡ rows_values (take k rows) ++ row.values
      = ap rows_values (take_more rows k row within ∙ ap (λ (y : Row). take k rows ++ y ∷ []) at) ∙ rows_values-append (take k rows) (row ∷ [])
      ∙ ap (λ (vs : List Value). rows_values (take k rows) ++ vs) (append-nil row.values) in
      subst (λ (vs : List Value). Takes moment vs old new) (sym more) (takes-then (rows_values (take k rows)) row.values old mid new takes here)
