-- What is told of the series of a registry that some beats use is what they use of the names of all.
use Rattle.std.proofs.Common.{◌≡◌, ℕ, ◌==◌, ◌+◌, ◌<◌, nat_lt, Bool, true, false, ◌||◌, List, [], ◌∷◌, ◌++◌, length, map, take, get_or, slice_get, Option, Some, None, IfSome, refl, sym, ap, ◌∙◌, arith, append_assoc}
use Rattle.std.specs.List.{list_any, position_or_len, AllByRecursion}
use Rattle.std.specs.Option.{option_map, option_map_or}
use Rattle.std.proofs.lemmas.List.{map-append, map_more}
use Rattle.std.proofs.lemmas.Option.{cond_some, same_Some, slice_get-map}
use Rattle.list_lemmas.proofs.Every.{all-append}
use Rattle.history.specs.declared.beat.OpenDim.{OpenDim}
use Rattle.history.specs.declared.dimension.DimDef.{DimDef}
use Rattle.history.specs.Registry.{Registry, chart_of, is_chart}
use Rattle.replication.specs.declared.beats.Beat.{Beat}
use Rattle.replication.specs.declared.beats.SeriesWord.{SeriesWord}
use Rattle.replication.specs.declared.names.ChartName.{ChartName}
use Rattle.replication.specs.declared.names.DimName.{DimName}
use Rattle.replication.specs.Answer.{AreOfSeries}
use Rattle.replication.specs.Names.{is_of_chart, placed_dimension, used_names, uses, uses_chart, words_of}
use Rattle.replication.specs.Places.{place, select}
use Rattle.replication.proofs.PrefixCode.{words_of-more}
use Rattle.replication.proofs.Wholes.{all-of-map, all-select, chart-used}
use Rattle.link_frames.specs.DataForm.{place_of}
use Rattle.agent_core.specs.Asking.{HasChart, IsSendable}
use Rattle.agent_core.specs.Copies.{chart_name, dimension_name, names_of}
use Rattle.agent_core.specs.Used.{chart_number, has, items_at, Rise}
use Rattle.agent_core.proofs.Lists.{any_made, any_map}
use Rattle.agent_core.proofs.SentNames.{told, told_of, Stays}
use Rattle.agent_core.proofs.UsedNames.{select-map}
use Rattle.agent_core.proofs.UsedNumbers.{all-same, any-same, picks}

-- ---- the series of words
pub has-series : (words : List SeriesWord) → has (map place_of words) ≡ uses words
has-series words = λ i k. sym (any_map (λ (n : ℕ). n == k) place_of words) i

all-of : (n : ℕ) (beats : List Beat) → AllByRecursion (IsSendable n) beats → AreOfSeries n (words_of beats)
all-of n [] all = tt
all-of n (beat ∷ beats) all = all-append (λ (word : SeriesWord). word.series < n) beat.words (words_of beats) all.0.words.of (all-of n beats all.1)

pub series-more : (words : List SeriesWord) (n : ℕ) (word : SeriesWord) (start old new : List ℕ) → n < length words → word ≡ get_or words n word
    → new ≡ old ++ word.series ∷ [] → old ≡ start ++ map place_of (take n words) → new ≡ start ++ map place_of (take (n + 1) words)
series-more words n word start old new lt at pushed before =
    let more : map place_of (take (n + 1) words) ≡ map place_of (take n words) ++ word.series ∷ [] =
    map_more place_of words n word lt ∙ ap (λ (w : SeriesWord). map place_of (take n words) ++ w.series ∷ []) (sym at) in
    pushed ∙ ap (λ (some : List ℕ). some ++ word.series ∷ []) before ∙ append_assoc start (map place_of (take n words)) (word.series ∷ []) ∙ ap (λ (end : List ℕ). start ++ end) (sym more)

pub beats-more : (beats : List Beat) (n : ℕ) (beat : Beat) (words : List SeriesWord) (old new : List ℕ) → n < length beats → beat ≡ get_or beats n beat → words ≡ beat.words
    → new ≡ old ++ map place_of words → old ≡ map place_of (words_of (take n beats)) → new ≡ map place_of (words_of (take (n + 1) beats))
beats-more beats n beat words old new lt at words_are pushed before =
    pushed ∙ (λ i. before i ++ map place_of (words_are i)) ∙ sym (map-append place_of (words_of (take n beats)) beat.words)
    ∙ ap (map place_of) (sym (words_of-more beats n beat lt at))

-- they are of the registry, where the words are
pub series-below : (n : ℕ) (beats : List Beat) (series : List ℕ) → has series ≡ uses (words_of beats) → AllByRecursion (IsSendable n) beats → AllByRecursion (λ (m : ℕ). m < n) series
series-below n beats series same all =
    let words = words_of beats in
    all-same (λ (m : ℕ). m < n) series (map place_of words) (same ∙ sym (has-series words)) (all-of-map (λ (m : ℕ). m < n) place_of words (all-of n beats all))

map-both : {X Y Z : Type 0} (f : X → Y) (g : Y → Z) (xs : List X) → map g (map f xs) ≡ map (λ x. g (f x)) xs
map-both f g [] = refl
map-both f g (x ∷ xs) = ap (λ rest. g (f x) ∷ rest) (map-both f g xs)

-- ---- one series
pub number-is : (registry : Registry) (n : ℕ) (found : Option OpenDim) → IfSome found (λ (d : OpenDim). chart_of registry d.chart ≡ Some n) → IfSome found (λ (d : OpenDim). n ≡ chart_number registry d)
number-is registry n None owner = tt
number-is registry n (Some d) owner =
    let place = position_or_len (is_chart d.chart) registry.charts in
    sym (cond_some (nat_lt place (length registry.charts)) place n owner).1

pub name-is : (registry : Registry) (charts : List ℕ) (found : Option OpenDim) (chart n : ℕ) (def : DimDef) (id : List ℕ) → chart ≡ place (has charts) n → IfSome found (λ (d : OpenDim). n ≡ chart_number registry d)
    → option_map (λ (d : OpenDim). d.def) found ≡ Some def → id ≡ def.id
    → IfSome found (λ (d : OpenDim). record { chart = chart; id = id; hidden = def.hidden } ≡ placed_dimension (has charts) (dimension_name registry d))
name-is registry charts None chart n def id chart_is number def_is id_is = tt
name-is registry charts (Some d) chart n def id chart_is number def_is id_is =
    let same : def ≡ d.def = sym (same_Some d.def def def_is) in
    let new_chart : chart ≡ place (has charts) (chart_number registry d) = chart_is ∙ ap (place (has charts)) number in
    let new_id : id ≡ d.def.id = id_is ∙ ap (λ (def : DimDef). def.id) same in
    λ i. record { chart = new_chart i; id = new_id i; hidden = (same i).hidden }

-- ---- the names that are used
module _ (registry : Registry) (words : List SeriesWord) where
  abbrev charts : ℕ → Bool
  charts = uses_chart (names_of registry) words

  pub used-told : used_names (names_of registry) words ≡ told_of registry charts (uses words)
  unfolding names_of
  used-told =
      let dimensions : map (placed_dimension charts) (select (uses words) 0 (map (dimension_name registry) registry.dimensions)) ≡ map (told registry charts) (select (uses words) 0 registry.dimensions) =
      ap (map (placed_dimension charts)) (select-map (dimension_name registry) (uses words) 0 registry.dimensions)
      ∙ map-both (dimension_name registry) (placed_dimension charts) (select (uses words) 0 registry.dimensions) in
      λ i. record { charts = select-map chart_name charts 0 registry.charts i; dimensions = dimensions i }

  -- the chart of a series that is used is used
  pub charts-stay : AllByRecursion (λ (d : OpenDim). charts (chart_number registry d) ≡ true) (select (uses words) 0 registry.dimensions)
  unfolding names_of
  charts-stay =
      all-select (λ (d : OpenDim). charts (chart_number registry d) ≡ true) (uses words) 0 registry.dimensions
      (λ k d is passes. chart-used (names_of registry) words k (dimension_name registry d)
      (slice_get-map (dimension_name registry) registry.dimensions k ∙ ap (option_map (dimension_name registry)) is)
      (let at : k ≡ 0 + k = omega arith in ap (uses words) at ∙ passes))

  pub all-stay : AllByRecursion (HasChart registry) (select (uses words) 0 registry.dimensions) → AllByRecursion (Stays registry charts) (select (uses words) 0 registry.dimensions)
  all-stay owned = both (select (uses words) 0 registry.dimensions) owned charts-stay
    where
      both : (ds : List OpenDim) → AllByRecursion (HasChart registry) ds → AllByRecursion (λ (d : OpenDim). charts (chart_number registry d) ≡ true) ds → AllByRecursion (Stays registry charts) ds
      both [] owned used = tt
      both (d ∷ ds) owned used = ((owned.0, used.0), both ds owned.1 used.1)

  -- a series is of a chart
  abbrev is_of : ℕ → ℕ → Bool
  is_of chart series = option_map_or (λ (d : OpenDim). chart_number registry d == chart) (slice_get registry.dimensions series) false

  of-chart : (chart : ℕ) (some : List SeriesWord) → list_any (λ (word : SeriesWord). is_of chart word.series) some ≡ list_any (is_of_chart (names_of registry) chart) some
  unfolding names_of
  of-chart chart [] = refl
  of-chart chart (word ∷ some) =
      let here : is_of chart word.series ≡ is_of_chart (names_of registry) chart word =
      by (slice_get registry.dimensions word.series)
      ∙ ap (λ (found : Option DimName). option_map_or (λ (name : DimName). name.chart == chart) found false) (sym (slice_get-map (dimension_name registry) registry.dimensions word.series)) in
      let rest = of-chart chart some in
      λ i. here i || rest i
    where
      by : (found : Option OpenDim) → option_map_or (λ (d : OpenDim). chart_number registry d == chart) found false
          ≡ option_map_or (λ (name : DimName). name.chart == chart) (option_map (dimension_name registry) found) false
      by None = refl
      by (Some d) = refl

  module _ (series : List ℕ) (rise : Rise series) (same : has series ≡ uses words) where
    -- the series pick the dimensions that are used
    pub dimensions-picked : items_at registry.dimensions series ≡ select (uses words) 0 registry.dimensions
    dimensions-picked = picks registry.dimensions series rise ∙ ap (λ (test : ℕ → Bool). select test 0 registry.dimensions) same

    -- and their charts are those that are used
    charts-used : has (map (chart_number registry) (items_at registry.dimensions series)) ≡ charts
    charts-used = λ i k. each k i
      where
        each : (k : ℕ) → has (map (chart_number registry) (items_at registry.dimensions series)) k ≡ charts k
        each k =
            sym (any_map (λ (n : ℕ). n == k) (chart_number registry) (items_at registry.dimensions series))
            ∙ sym (any_made (λ (d : OpenDim). chart_number registry d == k) (slice_get registry.dimensions) series)
            ∙ any-same (is_of k) series (map place_of words) (same ∙ sym (has-series words))
            ∙ sym (any_map (is_of k) place_of words) ∙ of-chart k words

    pub names-used : (numbers : List ℕ) → Rise numbers → has numbers ≡ has (map (chart_number registry) (items_at registry.dimensions series)) → (told_charts : List ChartName) (told_dimensions : List DimName)
        → told_charts ≡ map chart_name (items_at registry.charts numbers) → told_dimensions ≡ map (told registry (has numbers)) (items_at registry.dimensions series)
        → record { charts = told_charts; dimensions = told_dimensions } ≡ used_names (names_of registry) words
    names-used numbers rise_charts same_charts told_charts told_dimensions charts_are dimensions_are =
        let used : has numbers ≡ charts = same_charts ∙ charts-used in
        let some_charts : items_at registry.charts numbers ≡ select charts 0 registry.charts = picks registry.charts numbers rise_charts ∙ ap (λ (test : ℕ → Bool). select test 0 registry.charts) used in
        let first : told_charts ≡ map chart_name (select charts 0 registry.charts) = charts_are ∙ ap (map chart_name) some_charts in
        let second : told_dimensions ≡ map (told registry charts) (select (uses words) 0 registry.dimensions) = dimensions_are ∙ (λ i. map (told registry (used i)) (dimensions-picked i)) in
        (λ i. record { charts = first i; dimensions = second i }) ∙ sym used-told
