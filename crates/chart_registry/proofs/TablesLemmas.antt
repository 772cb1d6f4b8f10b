-- What a place that a hash finds says of a list, and what one thing more leaves.
use Rattle.std.proofs.Common.{◌≡◌, ℕ, zero, suc, ◌+◌, ◌<◌, Bool, true, false, cond, ◌&&◌, ◌||◌, List, [], ◌∷◌, ◌++◌, map, set, get_or, slice_get, length, position, Option, Some, None, IfSome, is_some, refl, sym, ap, subst, ◌∙◌, true≢false, add-zero, string_bytes}
use Rattle.std.specs.declared.alloc.Global.{Global}
use Rattle.std.specs.declared.string.String.{String}
use Rattle.std.specs.List.{find, list_any, count_by}
use Rattle.std.specs.Map.{keys_of, lookup}
use Rattle.std.specs.Option.{option_and_then, option_map_or}
use Rattle.std.specs.Str.{bytes_eq}
use Rattle.std.proofs.lemmas.Bool.{and_parts}
use Rattle.std.proofs.lemmas.List.Folds.{list_any-append}
use Rattle.std.proofs.lemmas.Option.{slice_get-get_or}
use Rattle.history.specs.declared.beat.OpenDim.{OpenDim}
use Rattle.history.specs.declared.beat.OpenRow.{OpenRow}
use Rattle.history.specs.declared.chart.ChartDef.{ChartDef}
use Rattle.history.specs.Registry.{is_chart, is_of, is_dimension, same_dimension}
use Rattle.indexmap.specs.IndexMap.{IndexMap}
use Rattle.indexmap.specs.Layout.{set_value_at}
use Rattle.chart_registry.proofs.Places.{IsFirst, position-within, position-map, position-push, position-push_other, count_by-map, count_by-push, find-position, first-from_position, passes-first, map-set_kept}
use Rattle.chart_registry.proofs.RowsLemmas.{same_text, bytes_eq_same}
use Rattle.chart_registry.specs.Places.{place_in, table_in, AddsPlace, EntersPlace, KeepsTables, FindsCharts, FindsDimensions, FindsRows}

pub bytes_eq_turned : (a b : List ℕ) → bytes_eq a b ≡ false → bytes_eq b a ≡ false
bytes_eq_turned a b e = by (bytes_eq b a) refl
  where
    by : (t : Bool) → bytes_eq b a ≡ t → bytes_eq b a ≡ false
    by true t = absurd (true≢false (sym (bytes_eq_same a b (sym (same_text b a t))) ∙ e))
    by false t = t

-- ---- a place that was found
module _ {A : Type 0} (p : A → Bool) (xs : List A) (n : ℕ) (found : position p xs ≡ Some n) where
  pub place-within : n < length xs
  place-within = subst (λ (o : Option ℕ). IfSome o (λ n. n < length xs)) found (position-within p xs)

  pub find-place : (x : A) → x ≡ get_or xs n x → find p xs ≡ Some x
  find-place x at = sym (find-position p xs) ∙ ap (option_and_then (slice_get xs)) found ∙ slice_get-get_or xs n x place-within ∙ ap Some (sym at)

  pub passes-place : (d : A) → p (get_or xs n d) ≡ true
  passes-place d = passes-first p xs n d (first-from_position p xs n found)

pub find-nowhere : {A : Type 0} (p : A → Bool) (xs : List A) → position p xs ≡ None → find p xs ≡ None
find-nowhere p xs none = sym (find-position p xs) ∙ ap (option_and_then (slice_get xs)) none

-- ---- charts
module _ (defs : List ChartDef) (def : ChartDef) where
  -- a definition in the place of an earlier one leaves the places
  pub chart-replaced : (n : ℕ) → position (is_chart def.id) defs ≡ Some n → (id : List ℕ) → position (is_chart id) (set defs n def) ≡ position (is_chart id) defs
  chart-replaced n found id =
      let old = get_or defs n def in
      let same : def.id ≡ old.id = same_text def.id old.id (passes-place (is_chart def.id) defs n found def) in
      let ids : map (λ (chart : ChartDef). chart.id) (set defs n def) ≡ map (λ (chart : ChartDef). chart.id) defs
      = map-set_kept (λ (chart : ChartDef). chart.id) defs n old def (slice_get-get_or defs n def (place-within (is_chart def.id) defs n found)) same in
      sym (position-map (bytes_eq id) (λ (chart : ChartDef). chart.id) (set defs n def)) ∙ ap (position (bytes_eq id)) ids ∙ position-map (bytes_eq id) (λ (chart : ChartDef). chart.id) defs

  -- a new chart stands at the end
  pub chart-added : (old new : List (String Global × ℕ)) → FindsCharts old defs → position (is_chart def.id) defs ≡ None
      → ((other : List ℕ) → place_in new other ≡ cond (bytes_eq def.id other) (Some (length defs)) (place_in old other)) → FindsCharts new (defs ++ def ∷ [])
  chart-added old new finds none adds id = adds id ∙ by (bytes_eq def.id id) refl
    where
      by : (b : Bool) → bytes_eq def.id id ≡ b → cond b (Some (length defs)) (place_in old id) ≡ position (is_chart id) (defs ++ def ∷ [])
      by true e =
          let same = same_text def.id id e in
          sym (position-push (is_chart id) defs def (ap (λ x. position (is_chart x) defs) (sym same) ∙ none) (bytes_eq_same id def.id (sym same)))
      by false e = finds id ∙ sym (position-push_other (is_chart id) defs def (bytes_eq_turned def.id id e))

-- ---- rows
pub is_some-updated : {V : Type 0} (here : Bool) (v : V) (old : Option V) → is_some (cond here (Some v) old) ≡ (here || is_some old)
is_some-updated true v old = refl
is_some-updated false v old = refl

bytes_eq_flip : (a b : List ℕ) → bytes_eq a b ≡ bytes_eq b a
bytes_eq_flip a b = by (bytes_eq a b) refl
  where
    by : (e : Bool) → bytes_eq a b ≡ e → bytes_eq a b ≡ bytes_eq b a
    by true e = e ∙ sym (bytes_eq_same b a (sym (same_text a b e)))
    by false e = e ∙ sym (bytes_eq_turned a b e)

or_last : (a b : Bool) → (a || b) ≡ (b || (a || false))
or_last true true = refl
or_last true false = refl
or_last false true = refl
or_last false false = refl

-- a row more
pub row-added : (rows : List OpenRow) (row : OpenRow) (old new : List (String Global × Unit {0})) → FindsRows old rows
    → ((other : List ℕ) → is_some (place_in new other) ≡ (bytes_eq row.chart other || is_some (place_in old other))) → FindsRows new (rows ++ row ∷ [])
row-added rows row old new finds adds chart =
    let p = λ (row : OpenRow). bytes_eq chart row.chart in
    adds chart ∙ ap (λ b. bytes_eq row.chart chart || b) (finds chart) ∙ ap (λ b. b || list_any p rows) (bytes_eq_flip row.chart chart)
    ∙ or_last (bytes_eq chart row.chart) (list_any p rows) ∙ sym (list_any-append p rows (row ∷ []))

-- ---- dimensions
abbrev key_of : OpenDim → List ℕ × List ℕ
key_of dimension = (dimension.chart, dimension.def.id)

module _ (defs : List OpenDim) (def : OpenDim) where
  module _ (n : ℕ) (found : position (same_dimension def) defs ≡ Some n) where
    -- a definition in the place of an earlier one leaves the keys
    keys-replaced : map key_of (set defs n def) ≡ map key_of defs
    keys-replaced =
        let old = get_or defs n def in
        let same = and_parts (bytes_eq def.chart old.chart) (bytes_eq def.def.id old.def.id) (passes-place (same_dimension def) defs n found def) in
        let kept : key_of def ≡ key_of old = λ i. (same_text def.chart old.chart same.0 i, same_text def.def.id old.def.id same.1 i) in
        map-set_kept key_of defs n old def (slice_get-get_or defs n def (place-within (same_dimension def) defs n found)) kept

    pub dimension-replaced : (chart id : List ℕ) → position (is_dimension chart id) (set defs n def) ≡ position (is_dimension chart id) defs
    dimension-replaced chart id =
        let test = λ (key : List ℕ × List ℕ). bytes_eq chart key.0 && bytes_eq id key.1 in
        sym (position-map test key_of (set defs n def)) ∙ ap (position test) keys-replaced ∙ position-map test key_of defs

    pub count-replaced : (chart : List ℕ) → count_by (is_of chart) (set defs n def) ≡ count_by (is_of chart) defs
    count-replaced chart =
        let test = λ (key : List ℕ × List ℕ). bytes_eq chart key.0 in
        sym (count_by-map test key_of (set defs n def)) ∙ ap (count_by test) keys-replaced ∙ count_by-map test key_of defs

  -- a new dimension stands at the end
  module _ {S : Type 0} (old new : List (String Global × IndexMap (String Global) ℕ S)) (finds : FindsDimensions old defs) (enters : EntersPlace old def.chart def.def.id (length defs) new)
      (none : position (same_dimension def) defs ≡ None) where
    found-added : (chart id : List ℕ) → place_in (table_in new chart) id ≡ position (is_dimension chart id) (defs ++ def ∷ [])
    found-added chart id = by (bytes_eq def.chart chart) refl
      where
        by : (b : Bool) → bytes_eq def.chart chart ≡ b → place_in (table_in new chart) id ≡ position (is_dimension chart id) (defs ++ def ∷ [])
        by false e =
            ap (λ table. place_in table id) (enters.others chart e) ∙ finds.finds chart id
            ∙ sym (position-push_other (is_dimension chart id) defs def (ap (λ b. b && bytes_eq id def.def.id) (bytes_eq_turned def.chart chart e)))
        by true e = own (bytes_eq def.def.id id) refl
          where
            same : def.chart ≡ chart
            same = same_text def.chart chart e

            is_own : bytes_eq chart def.chart ≡ true
            is_own = bytes_eq_same chart def.chart (sym same)

            own : (b : Bool) → bytes_eq def.def.id id ≡ b → place_in (table_in new chart) id ≡ position (is_dimension chart id) (defs ++ def ∷ [])
            own b t = ap (λ chart. place_in (table_in new chart) id) (sym same) ∙ enters.adds.finds id ∙ ap (λ b. cond b (Some (length defs)) (place_in (table_in old def.chart) id)) t ∙ at b t
              where
                at : (b : Bool) → bytes_eq def.def.id id ≡ b → cond b (Some (length defs)) (place_in (table_in old def.chart) id) ≡ position (is_dimension chart id) (defs ++ def ∷ [])
                at true t =
                    let named = same_text def.def.id id t in
                    sym (position-push (is_dimension chart id) defs def ((λ i. position (is_dimension (sym same i) (sym named i)) defs) ∙ none)
                    (ap (λ b. b && bytes_eq id def.def.id) is_own ∙ bytes_eq_same id def.def.id (sym named)))
                at false t =
                    finds.finds def.chart id ∙ ap (λ chart. position (is_dimension chart id) defs) same
                    ∙ sym (position-push_other (is_dimension chart id) defs def (ap (λ b. b && bytes_eq id def.def.id) is_own ∙ bytes_eq_turned def.def.id id t))

    counts-added : (chart : List ℕ) → length (table_in new chart) ≡ count_by (is_of chart) (defs ++ def ∷ [])
    counts-added chart = by (bytes_eq def.chart chart) refl
      where
        by : (b : Bool) → bytes_eq def.chart chart ≡ b → length (table_in new chart) ≡ count_by (is_of chart) (defs ++ def ∷ [])
        by true e =
            let same = same_text def.chart chart e in
            ap (λ chart. length (table_in new chart)) (sym same) ∙ enters.adds.counts ∙ ap (λ chart. length (table_in old chart) + 1) same ∙ ap (λ n. n + 1) (finds.counts chart)
            ∙ sym (count_by-push (is_of chart) defs def true (bytes_eq_same chart def.chart (sym same)))
        by false e =
            ap length (enters.others chart e) ∙ finds.counts chart
            ∙ sym (count_by-push (is_of chart) defs def false (bytes_eq_turned def.chart chart e) ∙ add-zero (count_by (is_of chart) defs))

    pub dimension-added : FindsDimensions new (defs ++ def ∷ [])
    dimension-added = record { finds = found-added; counts = counts-added }

-- ---- tables of places
abbrev pub entries_of : {S : Type 0} → Option (IndexMap (String Global) ℕ S) → List (String Global × ℕ)
entries_of found = option_map_or (λ table. table.entries) found []

lookup-set_here : {K X : Type 0} (test : K → Bool) (es : List (K × X)) (n : ℕ) (w : X) → IsFirst test (keys_of es) n → lookup test (set_value_at es n w) ≡ Some w
lookup-set_here test [] n w h = absurd h
lookup-set_here test (e ∷ es) zero w h = ap (λ b. cond b (Some w) (lookup test es)) h
lookup-set_here test (e ∷ es) (suc n) w h = ap (λ b. cond b (Some e.1) (lookup test (set_value_at es n w))) h.0 ∙ lookup-set_here test es n w h.1

lookup-set_other : {K X : Type 0} (test other : K → Bool) → ((key : K) → test key ≡ true → other key ≡ false) → (es : List (K × X)) (n : ℕ) (w : X) → IsFirst test (keys_of es) n
    → lookup other (set_value_at es n w) ≡ lookup other es
lookup-set_other test other apart [] n w h = absurd h
lookup-set_other test other apart (e ∷ es) zero w h = ap (λ b. cond b (Some w) (lookup other es)) (apart e.0 h) ∙ sym (ap (λ b. cond b (Some e.1) (lookup other es)) (apart e.0 h))
lookup-set_other test other apart (e ∷ es) (suc n) w h = ap (cond (other e.0) (Some e.1)) (lookup-set_other test other apart es n w h.1)

abbrev is_key : List ℕ → String Global → Bool
is_key text key = bytes_eq text (string_bytes key)

-- a key that is one text is no other
apart : (text other : List ℕ) → bytes_eq text other ≡ false → (key : String Global) → is_key text key ≡ true → is_key other key ≡ false
apart text other e key same = ap (bytes_eq other) (sym (same_text text (string_bytes key) same)) ∙ bytes_eq_turned text other e

module _ {S : Type 0} (es : List (String Global × IndexMap (String Global) ℕ S)) (chart id : List ℕ) (place : ℕ) where
  -- a place in the table of a chart that has one
  pub enters-known : (n : ℕ) (old new : IndexMap (String Global) ℕ S) → position (is_key chart) (keys_of es) ≡ Some n → place_in es chart ≡ Some old
      → AddsPlace old.entries id place new.entries → EntersPlace es chart id place (set_value_at es n new)
  enters-known n old new at here adds =
      let first = first-from_position (is_key chart) (keys_of es) n at in
      let now : table_in (set_value_at es n new) chart ≡ new.entries
      = ap entries_of (lookup-set_here (is_key chart) es n new first) in
      let before : table_in es chart ≡ old.entries = ap entries_of here in
      record {
        adds = subst (λ table. AddsPlace table id place (table_in (set_value_at es n new) chart)) (sym before) (subst (AddsPlace old.entries id place) (sym now) adds);
        others = λ other e. ap entries_of
            (lookup-set_other (is_key chart) (is_key other) (apart chart other e) es n new first);
      }

  -- the table of a chart stays where it was
  pub keeps-known : (n : ℕ) (old new : IndexMap (String Global) ℕ S) → position (is_key chart) (keys_of es) ≡ Some n → place_in es chart ≡ Some old
      → new.entries ≡ old.entries → KeepsTables es (set_value_at es n new)
  keeps-known n old new at here same other = by (bytes_eq chart other) refl
    where
      first : IsFirst (is_key chart) (keys_of es) n
      first = first-from_position (is_key chart) (keys_of es) n at

      by : (b : Bool) → bytes_eq chart other ≡ b → table_in (set_value_at es n new) other ≡ table_in es other
      by true e =
          let named = same_text chart other e in
          ap (table_in (set_value_at es n new)) (sym named)
          ∙ ap entries_of (lookup-set_here (is_key chart) es n new first)
          ∙ same ∙ sym (ap entries_of here) ∙ ap (table_in es) named
      by false e = ap entries_of
          (lookup-set_other (is_key chart) (is_key other) (apart chart other e) es n new first)

  -- a place in a new table
  pub enters-first : (ns : List (String Global × IndexMap (String Global) ℕ S)) (table : IndexMap (String Global) ℕ S) → place_in es chart ≡ None → AddsPlace [] id place table.entries
      → ((other : List ℕ) → place_in ns other ≡ cond (bytes_eq chart other) (Some table) (place_in es other)) → EntersPlace es chart id place ns
  enters-first ns table none adds finds =
      let now : table_in ns chart ≡ table.entries
      = ap entries_of (finds chart ∙ ap (λ b. cond b (Some table) (place_in es chart)) (bytes_eq_same chart chart refl)) in
      let before : table_in es chart ≡ [] = ap entries_of none in
      record {
        adds = subst (λ old. AddsPlace old id place (table_in ns chart)) (sym before) (subst (AddsPlace [] id place) (sym now) adds);
        others = λ other e. ap entries_of (finds other ∙ ap (λ b. cond b (Some table) (place_in es other)) e);
      }
