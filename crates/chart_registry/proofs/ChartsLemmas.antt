-- What an edit of the kept charts leaves of their rows and definitions.
use Rattle.std.proofs.Common.{◌≡◌, ℕ, zero, suc, Bool, List, [], ◌∷◌, ◌++◌, map, set, slice_get, position, Some, None, cond, refl, sym, ap, subst, ◌∙◌, string_bytes}
use Rattle.std.specs.declared.alloc.Global.{Global}
use Rattle.std.specs.declared.string.String.{String}
use Rattle.std.specs.Map.{keys_of, values_of, lookup}
use Rattle.std.specs.Str.{bytes_eq}
use Rattle.std.specs.String.{string_eq}
use Rattle.std.proofs.lemmas.List.{map-append, map-set}
use Rattle.std.proofs.lemmas.Option.{same_Some, none-some}
use Rattle.history.specs.declared.chart.ChartDef.{ChartDef}
use Rattle.indexmap.specs.IndexMap.{IndexMap, keys, insert_entry}
use Rattle.indexmap.specs.Layout.{set_value_at}
use Rattle.indexmap.proofs.CallerLemmas.{insert_entry-new}
use Rattle.chart_registry.specs.declared.charts.Chart.{Chart}
use Rattle.chart_registry.specs.Rows.{Row, row_of, row_at, ids, rows, AreById, AddsSeries, EntersSeries}
use Rattle.chart_registry.proofs.Places.{IsNowhere, nowhere-from_position, position-map, map-set_kept}

pub values-set_value_at : {K X : Type 0} (es : List (K × X)) (n : ℕ) (x : X) → values_of (set_value_at es n x) ≡ set (values_of es) n x
values-set_value_at [] n x = refl
values-set_value_at (e ∷ es) zero x = refl
values-set_value_at (e ∷ es) (suc n) x = ap (λ l. e.1 ∷ l) (values-set_value_at es n x)

pub lookup-position : {K X : Type 0} (test : K → Bool) (es : List (K × X)) → position test (keys_of es) ≡ None → lookup test es ≡ None
lookup-position {K} {X} test es none = by es (nowhere-from_position test (keys_of es) none)
  where
    by : (fs : List (K × X)) → IsNowhere test (keys_of fs) → lookup test fs ≡ None
    by [] h = refl
    by (f ∷ fs) h = ap (λ b. cond b (Some f.1) (lookup test fs)) h.0 ∙ by fs h.1

-- the ids are those of the definitions
pub ids-defs : (charts : List Chart) → ids (map row_of charts) ≡ map (λ (def : ChartDef). def.id) (map (λ (chart : Chart). chart.def) charts)
ids-defs [] = refl
ids-defs (chart ∷ charts) = ap (λ l. chart.def.id ∷ l) (ids-defs charts)

pub row_at-slice_get : (charts : List Chart) (n : ℕ) (chart : Chart) → slice_get charts n ≡ Some chart → row_at (map row_of charts) n ≡ row_of chart
row_at-slice_get [] n chart at = absurd (none-some chart at)
row_at-slice_get (first ∷ charts) zero chart at = ap row_of (same_Some first chart at)
row_at-slice_get (first ∷ charts) (suc n) chart at = row_at-slice_get charts n chart at

module _ (charts : List Chart) (n : ℕ) (old new : Chart) (at : slice_get charts n ≡ Some old) where
  pub rows-unchanged : new.def.id ≡ old.def.id → new.series.entries ≡ old.series.entries → map row_of (set charts n new) ≡ map row_of charts
  rows-unchanged id series =
      let same : row_of new ≡ row_of old = λ i. record { id = id i; series = series i } in
      map-set_kept row_of charts n old new at same

  pub rows-entered : new.def.id ≡ old.def.id → (id : List ℕ) (series : ℕ) → AddsSeries old.series.entries id series new.series.entries → EntersSeries (map row_of charts) n id series (map row_of (set charts n new))
  rows-entered same id series adds =
      let here : row_at (map row_of charts) n ≡ row_of old = row_at-slice_get charts n old at in
      record {
        table = new.series.entries;
        adds = subst (λ (row : Row). AddsSeries row.series id series new.series.entries) (sym here) adds;
        rows = map-set row_of charts n new ∙ ap (λ (text : List ℕ). set (map row_of charts) n (record { id = text; series = new.series.entries })) (same ∙ sym (ap (λ (row : Row). row.id) here));
      }

module _ (es : List (String Global × Chart)) (id : String Global) (chart : Chart) where
  pub values-push : values_of (es ++ (id, chart) ∷ []) ≡ values_of es ++ chart ∷ []
  values-push = map-append (λ (e : String Global × Chart). e.1) es ((id, chart) ∷ [])

  pub rows-push : map row_of (values_of (es ++ (id, chart) ∷ [])) ≡ map row_of (values_of es) ++ row_of chart ∷ []
  rows-push = ap (map row_of) values-push ∙ map-append row_of (values_of es) (chart ∷ [])

  pub by_id-push : map string_bytes (keys_of es) ≡ ids (map row_of (values_of es)) → string_bytes id ≡ chart.def.id
      → map string_bytes (keys_of (es ++ (id, chart) ∷ [])) ≡ ids (map row_of (values_of (es ++ (id, chart) ∷ [])))
  by_id-push by_id same =
      ap (map string_bytes) (map-append (λ (e : String Global × Chart). e.0) es ((id, chart) ∷ [])) ∙ map-append string_bytes (keys_of es) (id ∷ [])
      ∙ (λ i. by_id i ++ same i ∷ []) ∙ sym (ap ids rows-push ∙ map-append (λ (row : Row). row.id) (map row_of (values_of es)) (row_of chart ∷ []))

-- where no chart has the id, an insertion adds to the end
pub entries-new : {S : Type 0} (m : IndexMap (String Global) Chart S) (es : List (String Global × Chart)) (id : String Global) (chart : Chart) (text : List ℕ) → es ≡ insert_entry string_eq m.entries id chart
    → AreById m → string_bytes id ≡ text → position (bytes_eq text) (ids (rows m)) ≡ None → es ≡ m.entries ++ (id, chart) ∷ []
entries-new m es id chart text inserts by_id named absent =
    inserts ∙ insert_entry-new string_eq m id chart
    (lookup-position (λ (key : String Global). bytes_eq (string_bytes id) (string_bytes key)) m.entries
    (sym (position-map (bytes_eq (string_bytes id)) string_bytes (keys m)) ∙ (λ i. position (bytes_eq (named i)) (by_id i)) ∙ absent))
