-- How many dimensions are new to the charts that names have, by the charts' places.
use Rattle.std.proofs.Common.{◌≡◌, ℕ, ◌+◌, ◌<◌, ◌≤◌, ◌==◌, Bool, true, false, cond, ◌&&◌, nat_lt, List, [], ◌∷◌, ◌++◌, length, map, replicate, take, get_or, slice_get, Option, Some, None, refl, sym, ap, ◌∙◌, arith, true≢false}
use Rattle.std.specs.Cmp.Lexicographic.{nat_list_eq_equiv}
use Rattle.std.specs.List.{count_by, list_any, AllByRecursion, IsDistinct}
use Rattle.std.specs.Option.{option_map, option_map_or}
use Rattle.std.specs.Set.{is_member}
use Rattle.std.specs.Str.{bytes_eq}
use Rattle.std.proofs.lemmas.Bool.{eq-eqb, eqb-true, le-ltb, lt-ltb, or_right}
use Rattle.std.proofs.lemmas.List.{get_or-replicate, get_or_default, length-map, take_more}
use Rattle.std.proofs.lemmas.List.Elements.{All-from_get_or}
use Rattle.std.proofs.lemmas.List.Folds.{list_any_at, list_any_none}
use Rattle.std.proofs.lemmas.List.Sums.{count_by_more_yes, sum_by-append, sum_by-take-le}
use Rattle.std.proofs.lemmas.Map.Made.{length-le_from_is_member}
use Rattle.std.proofs.lemmas.Option.{same_Some, slice_get_within}
use Rattle.std.proofs.Math.Bool.{and-false}
use Rattle.history.specs.declared.beat.OpenBeat.{OpenBeat}
use Rattle.history.specs.declared.beat.OpenDim.{OpenDim}
use Rattle.history.specs.declared.chart.ChartDef.{ChartDef}
use Rattle.history.specs.Put.{put_all}
use Rattle.history.specs.Refusal.{is_new_dimension, is_new_of}
use Rattle.history.specs.Registry.{Registry, is_chart, is_of, same_chart}
use Rattle.chart_registry.proofs.Applying.{any-put_all, same_chart-alike}
use Rattle.chart_registry.proofs.RowsLemmas.{bytes_eq_same, same_text}
use Rattle.beat_entries.specs.Copied.{usual_dimension}
use Rattle.beat_entries.proofs.Within.{few-charts}
use Rattle.link_frames.specs.DataForm.{same_chart as same_name}
use Rattle.link_frames.proofs.PlacesLaw.{distinct-map}
use Rattle.replication.specs.declared.names.ChartName.{ChartName}
use Rattle.replication.specs.declared.names.DimName.{DimName}
use Rattle.replication.specs.declared.names.Names.{Names}
use Rattle.agent_core.specs.Copying.{defined_chart, defined_dimension, definitions_in}
use Rattle.agent_core.specs.NewNames.{is_new, is_new_at, CountsMore, CountsNew, HaveRoom, IsOneTooMany}
use Rattle.agent_core.specs.Rules.{dimensions_with, fills_chart, too_many_charts}
use Rattle.agent_core.proofs.Lists.{any_map, count_made}
use Rattle.agent_core.proofs.TakenLemmas.{one-place}

-- ---- counting up to a place
module _ {A : Type 0} (p : A → Bool) (xs : List A) (i : ℕ) (x : A) (within : i < length xs) (at : get_or xs i x ≡ x) where
  pub counted-more : count_by p (take (i + 1) xs) ≡ count_by p (take i xs) + count_by p (x ∷ [])
  counted-more =
      ap (count_by p) (take_more xs i x within ∙ ap (λ (y : A). take i xs ++ y ∷ []) at)
      ∙ sum_by-append (λ (y : A). cond (p y) 1 0) (take i xs) (x ∷ [])

  pub counted-at : p x ≡ true → count_by p (take i xs) + 1 ≤ count_by p xs
  counted-at passes =
      omega (arith, count_by_more_yes p xs i x within (ap p at ∙ passes), sum_by-take-le (λ (y : A). cond (p y) 1 0) xs (i + 1))

module _ (registry : Registry) (names : Names) (dimensions : List DimName) (i : ℕ) (dimension : DimName) (within : i < length dimensions) (at : get_or dimensions i dimension ≡ dimension) where
  pub counts-next : (before after : List ℕ) → CountsNew registry names (take i dimensions) before → CountsMore registry names dimension before after → CountsNew registry names (take (i + 1) dimensions) after
  counts-next before after counted more place in_charts =
      let p = is_new_at registry names place in
      more place in_charts ∙ ap (λ (n : ℕ). n + count_by p (dimension ∷ [])) (counted place in_charts) ∙ sym (counted-more p dimensions i dimension within at)

-- nothing is counted at the start
module _ (registry : Registry) (names : Names) (size : ℕ) (fits : length names.charts ≤ size) where
  pub counts-none : CountsNew registry names [] (replicate size 0)
  counts-none place within = get_or-replicate size place 0 0 (omega (arith, within, fits))

  pub room-none : HaveRoom registry names (replicate size 0)
  room-none place chart at some = absurd (omega (arith, some, get_or-replicate {A = ℕ} size place 0 0 (omega (arith, slice_get_within names.charts place chart at, fits))))

-- ---- charts that are apart
turned : (a b : ChartName) → same_name a b ≡ true → same_name b a ≡ true
turned a b same = bytes_eq_same b.id a.id (sym (same_text a.id b.id same))

-- charts at two places have one id where the places are one
same-place : (charts : List ChartName) (place other : ℕ) (chart own : ChartName) → IsDistinct same_name charts → slice_get charts place ≡ Some chart → slice_get charts other ≡ Some own
    → bytes_eq chart.id own.id ≡ (place == other)
same-place charts place other chart own apart at at_other = by (place == other) refl
  where
    by : (b : Bool) → (place == other) ≡ b → bytes_eq chart.id own.id ≡ b
    by true e =
        let same : Some chart ≡ Some own = sym at ∙ ap (slice_get charts) (eqb-true place other e) ∙ at_other in
        bytes_eq_same chart.id own.id (ap (λ (c : ChartName). c.id) (same_Some chart own same))
    by false e = by_text (bytes_eq chart.id own.id) refl
      where
        by_text : (b : Bool) → bytes_eq chart.id own.id ≡ b → b ≡ false
        by_text true f = sym (eq-eqb place other (one-place same_name turned charts place other chart own apart at at_other f)) ∙ e
        by_text false f = refl

-- ---- the dimensions that are new to a chart
module _ (registry : Registry) (names : Names) (apart : IsDistinct same_name names.charts) where
  abbrev defines : OpenBeat
  defines = definitions_in names

  -- what is defined by a dimension of this chart
  abbrev made : DimName → ChartName → OpenDim
  made dimension chart = record { chart = chart.id; def = usual_dimension dimension.id dimension.hidden }

  abbrev known : ChartName → ℕ
  known chart = count_by (is_of chart.id) registry.dimensions

  abbrev new_at : ℕ → ℕ
  new_at place = count_by (is_new_at registry names place) names.dimensions

  abbrev fills : DimName → Bool
  fills dimension = option_map_or (fills_chart registry defines) (defined_dimension names dimension) false

  module _ (place : ℕ) (chart : ChartName) (at : slice_get names.charts place ≡ Some chart) where
    new-of : (dimension : DimName) → option_map_or (is_new_of registry chart.id) (defined_dimension names dimension) false ≡ is_new_at registry names place dimension
    new-of dimension = by (slice_get names.charts dimension.chart) refl
      where
        by : (found : Option ChartName) → slice_get names.charts dimension.chart ≡ found
            → option_map_or (is_new_of registry chart.id) (option_map (made dimension) found) false
            ≡ ((place == dimension.chart) && option_map_or (is_new_dimension registry) (option_map (made dimension) found) false)
        by None is = sym (and-false (place == dimension.chart))
        by (Some own) is = ap (λ (b : Bool). b && is_new_dimension registry (made dimension own)) (same-place names.charts place dimension.chart chart own apart at is)

    -- as many as are counted at its place
    dimensions-with : dimensions_with registry defines chart.id ≡ known chart + new_at place
    dimensions-with =
        ap (λ (n : ℕ). known chart + n)
        (sym (count_made (is_new_of registry chart.id) (defined_dimension names) names.dimensions) ∙ ap (λ (p : DimName → Bool). count_by p names.dimensions) (λ i d. new-of d i))

  -- what a dimension fills, by its place
  fills-at : (dimension : DimName) (chart : ChartName) → slice_get names.charts dimension.chart ≡ Some chart
      → fills dimension ≡ (is_new registry names dimension && nat_lt 1024 (known chart + new_at dimension.chart))
  fills-at dimension chart at =
      ap (λ (found : Option ChartName). option_map_or (fills_chart registry defines) (option_map (made dimension) found) false) at
      ∙ ap (λ (n : ℕ). is_new_dimension registry (made dimension chart) && nat_lt 1024 n) (dimensions-with dimension.chart chart at)
      ∙ ap (λ (found : Option ChartName). option_map_or (is_new_dimension registry) (option_map (made dimension) found) false && nat_lt 1024 (known chart + new_at dimension.chart)) (sym at)

  -- a dimension that is new has a chart
  new-none : (dimension : DimName) → slice_get names.charts dimension.chart ≡ None → is_new registry names dimension ≡ false
  new-none dimension at = ap (λ (found : Option ChartName). option_map_or (is_new_dimension registry) (option_map (made dimension) found) false) at

  fills-none : (dimension : DimName) → slice_get names.charts dimension.chart ≡ None → fills dimension ≡ false
  fills-none dimension at = ap (λ (found : Option ChartName). option_map_or (fills_chart registry defines) (option_map (made dimension) found) false) at

  at-itself : (dimension : DimName) → is_new registry names dimension ≡ true → is_new_at registry names dimension.chart dimension ≡ true
  at-itself dimension new = λ i. eq-eqb dimension.chart dimension.chart refl i && new i

  module _ (counts : List ℕ) where
    -- one dimension too many
    pub one-fills : (i : ℕ) (dimension : DimName) → i < length names.dimensions → get_or names.dimensions i dimension ≡ dimension
        → CountsNew registry names (take i names.dimensions) counts → IsOneTooMany registry names counts dimension → list_any fills names.dimensions ≡ true
    one-fills i dimension within is counted many =
        list_any_at fills names.dimensions i dimension within (ap fills is ∙ by (slice_get names.charts dimension.chart) refl)
      where
        by : (found : Option ChartName) → slice_get names.charts dimension.chart ≡ found → fills dimension ≡ true
        by None at = absurd (true≢false (sym many.new ∙ new-none dimension at))
        by (Some chart) at =
            let more = counted-at (is_new_at registry names dimension.chart) names.dimensions i dimension within is (at-itself dimension many.new) in
            let here = counted dimension.chart (slice_get_within names.charts dimension.chart chart at) in
            let over : 1024 < known chart + new_at dimension.chart = omega (arith, more, here, many.full chart at) in
            fills-at dimension chart at ∙ (λ i. many.new i && lt-ltb 1024 (known chart + new_at dimension.chart) over i)

    module _ (counted : CountsNew registry names names.dimensions counts) (room : HaveRoom registry names counts) where
      has-room : (i : ℕ) (dimension : DimName) (chart : ChartName) → i < length names.dimensions → get_or names.dimensions i dimension ≡ dimension
          → slice_get names.charts dimension.chart ≡ Some chart → (b : Bool) → is_new registry names dimension ≡ b → fills dimension ≡ false
      has-room i dimension chart within is at true new =
          let more = counted-at (is_new_at registry names dimension.chart) names.dimensions i dimension within is (at-itself dimension new) in
          let here = counted dimension.chart (slice_get_within names.charts dimension.chart chart at) in
          let few = room dimension.chart chart at (omega (arith, more, here)) in
          let under : known chart + new_at dimension.chart ≤ 1024 = omega (arith, here, few) in
          fills-at dimension chart at ∙ (λ i. new i && le-ltb 1024 (known chart + new_at dimension.chart) under i)
      has-room i dimension chart within is at false old = fills-at dimension chart at ∙ ap (λ (b : Bool). b && nat_lt 1024 (known chart + new_at dimension.chart)) old

      fills-not : (i : ℕ) (dimension : DimName) → i < length names.dimensions → get_or names.dimensions i dimension ≡ dimension
          → (found : Option ChartName) → slice_get names.charts dimension.chart ≡ found → fills dimension ≡ false
      fills-not i dimension within is None at = fills-none dimension at
      fills-not i dimension within is (Some chart) at = has-room i dimension chart within is at (is_new registry names dimension) refl

      -- room for all
      pub none-fills : list_any fills names.dimensions ≡ false
      none-fills = by names.dimensions refl
        where
          by : (dimensions : List DimName) → names.dimensions ≡ dimensions → list_any fills names.dimensions ≡ false
          by [] none = ap (list_any fills) none
          by (d ∷ rest) some =
              list_any_none fills names.dimensions (All-from_get_or (λ (x : DimName). fills x ≡ false) names.dimensions d (λ i within.
              let x = get_or names.dimensions i d in fills-not i x within (get_or_default names.dimensions i x d within) (slice_get names.charts x.chart) refl))

-- ---- how many charts are named
pub few-named : (registry : Registry) (names : Names) → IsDistinct same_name names.charts → too_many_charts registry (definitions_in names) ≡ false → length names.charts ≤ 4096
few-named registry names apart room =
    let defines = definitions_in names in
    let after = put_all same_chart registry.charts defines.charts in
    let ids : List (List ℕ) = map (λ (chart : ChartName). chart.id) names.charts in
    let kept : List (List ℕ) = map (λ (def : ChartDef). def.id) after in
    let own = distinct-map same_name bytes_eq (λ (chart : ChartName). chart.id) (λ (chart : ChartName). Unit {0}) names.charts (λ a b x y. refl) (all-any names.charts) apart in
    let held : (q : List ℕ) → is_member bytes_eq ids q ≡ true → is_member bytes_eq kept q ≡ true
    = λ q some.
    sym (any_map (bytes_eq q) (λ (def : ChartDef). def.id) after)
    ∙ any-put_all same_chart (is_chart q) (same_chart-alike q) registry.charts defines.charts
    ∙ or_right (list_any (is_chart q) registry.charts) (list_any (is_chart q) defines.charts) (sym (any_map (is_chart q) defined_chart names.charts) ∙ any_map (bytes_eq q) (λ (chart : ChartName). chart.id) names.charts ∙ some) in
    omega (
      arith,
      length-le_from_is_member nat_list_eq_equiv ids kept own held,
      length-map names.charts (λ (chart : ChartName). chart.id),
      length-map after (λ (def : ChartDef). def.id),
      few-charts registry defines room,
    )
  where
    all-any : (charts : List ChartName) → AllByRecursion (λ (chart : ChartName). Unit {0}) charts
    all-any [] = tt
    all-any (chart ∷ charts) = (tt, all-any charts)
