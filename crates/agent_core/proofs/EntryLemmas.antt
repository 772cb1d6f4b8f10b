-- The entry of a copied beat is short, and has a spelling.
use Rattle.std.proofs.Common.{◌≡◌, ℕ, ◌≤◌, ◌<◌, ◌^◌, true, ◌&&◌, nat_le, nat_lt, List, [], ◌∷◌, length, map, All, refl, ap, ◌∙◌, arith, length-append, lt-ltb}
use Rattle.std.specs.List.{list_all, AllByRecursion}
use Rattle.std.proofs.lemmas.Bool.{and_from, and_parts}
use Rattle.std.proofs.lemmas.List.{length-map}
use Rattle.std.proofs.lemmas.List.Elements.{recursion_from_All}
use Rattle.history.specs.declared.chart.ChartDef.{ChartDef}
use Rattle.history.specs.declared.dimension.DimDef.{DimDef}
use Rattle.history.specs.declared.limits.TheConstants.{UPDATE_EVERY_LIMIT}
use Rattle.history.specs.Limits.{chart_keeps_limits, dimension_keeps_limits, has_short_texts, has_two_parts, is_chart_id, is_factor, is_id, is_short}
use Rattle.storage_number.specs.Word.{is_word}
use Rattle.history.specs.declared.row.Row.{Row}
use Rattle.history.specs.declared.numbered.NumberedBeat.{NumberedBeat}
use Rattle.history.specs.declared.numbered.NumberedChart.{NumberedChart}
use Rattle.history.specs.declared.numbered.NumberedDimension.{NumberedDimension}
use Rattle.field_codec.proofs.Lengths.{items-length, length-flag_bytes, length-list_bytes, length-text_bytes, length-u32_bytes, length-u64_bytes}
use Rattle.entry_codec.specs.declared.charts.CopiedChart.{CopiedChart}
use Rattle.entry_codec.specs.declared.dimensions.CopiedDimension.{CopiedDimension}
use Rattle.entry_codec.specs.declared.entry.Copied.{Copied}
use Rattle.entry_codec.specs.declared.entry.Entry.TheVariants as entry
use Rattle.entry_codec.specs.declared.words.CopiedWord.{CopiedWord}
use Rattle.entry_codec.specs.Charts.{copied_chart_bytes, IsCopiedChart}
use Rattle.entry_codec.specs.Dimensions.{copied_dimension_bytes, IsCopiedDimension}
use Rattle.entry_codec.specs.Entries.{are_values_ascending, copied_bytes, entry_bytes, is_canonical, is_collected_canonical, is_copied_canonical, is_storage_number, HasSpelling, IsWithinLimits}
use Rattle.entry_codec.specs.Lists.{is_ascending}
use Rattle.entry_codec.specs.Words.{word_bytes, IsCopiedWord}
use Rattle.entry_codec.proofs.Lengths.{id-length, short-length}
use Rattle.beat_points.specs.declared.series_word.SeriesWord.{SeriesWord}
use Rattle.beat_points.specs.Points.{AreRising}
use Rattle.beat_entries.specs.Copied.{told_chart, told_dimension}
use Rattle.agent_core.specs.Storing.{entry_word}

-- ---- texts
chart-id : (def : ChartDef) → chart_keeps_limits def ≡ true → length def.id ≤ 200
chart-id def keeps =
    let both = (and_parts (is_chart_id def.id && has_short_texts def) (nat_le def.update_every UPDATE_EVERY_LIMIT) keeps).0 in
    id-length def.id (and_parts (is_id def.id) (has_two_parts def.id) (and_parts (is_chart_id def.id) (has_short_texts def) both).0).0

chart-says : (def : ChartDef) → chart_keeps_limits def ≡ true → length def.context ≤ 200
chart-says def keeps =
    let both = (and_parts (is_chart_id def.id && has_short_texts def) (nat_le def.update_every UPDATE_EVERY_LIMIT) keeps).0 in
    let texts = (and_parts (is_chart_id def.id) (has_short_texts def) both).1 in
    short-length def.context (and_parts (is_short def.name && is_short def.title && is_short def.units && is_short def.family) (is_short def.context) texts).1

dimension-id : (def : DimDef) → dimension_keeps_limits def ≡ true → length def.id ≤ 200
dimension-id def keeps =
    let both = (and_parts (is_id def.id && is_short def.name && is_factor def.multiplier) (is_factor def.divisor) keeps).0 in
    id-length def.id (and_parts (is_id def.id) (is_short def.name) (and_parts (is_id def.id && is_short def.name) (is_factor def.multiplier) both).0).0

-- ---- charts, dimensions and words
told-chart-length : (chart : NumberedChart) → chart_keeps_limits chart.def ≡ true → length (copied_chart_bytes (told_chart chart)) ≤ 412
unfolding copied_chart_bytes
told-chart-length chart keeps = simp (length-append, length-u32_bytes, length-text_bytes) (omega (arith, chart-id chart.def keeps, chart-says chart.def keeps))

told-dimension-length : (dimension : NumberedDimension) → dimension_keeps_limits dimension.def ≡ true → length (copied_dimension_bytes (told_dimension dimension)) ≤ 211
unfolding copied_dimension_bytes
told-dimension-length dimension keeps = simp (length-append, length-u32_bytes, length-text_bytes, length-flag_bytes) (omega (arith, dimension-id dimension.def keeps))

word-length : (word : CopiedWord) → length (word_bytes word) ≤ 8
unfolding word_bytes
word-length word = simp (length-append, length-u32_bytes) (omega arith)

told-charts : (charts : List NumberedChart) → AllByRecursion (λ (chart : NumberedChart). chart_keeps_limits chart.def ≡ true) charts
    → AllByRecursion (λ (chart : CopiedChart). length (copied_chart_bytes chart) ≤ 412) (map told_chart charts)
told-charts [] all = tt
told-charts (chart ∷ charts) all = (told-chart-length chart all.0, told-charts charts all.1)

told-dimensions : (dimensions : List NumberedDimension) → AllByRecursion (λ (dimension : NumberedDimension). dimension_keeps_limits dimension.def ≡ true) dimensions
    → AllByRecursion (λ (dimension : CopiedDimension). length (copied_dimension_bytes dimension) ≤ 211) (map told_dimension dimensions)
told-dimensions [] all = tt
told-dimensions (dimension ∷ dimensions) all = (told-dimension-length dimension all.0, told-dimensions dimensions all.1)

all-words : (words : List CopiedWord) → AllByRecursion (λ (word : CopiedWord). length (word_bytes word) ≤ 8) words
all-words [] = tt
all-words (word ∷ words) = (word-length word, all-words words)

-- ---- the entry
module _ (child moment : ℕ) (defines : NumberedBeat) (within : IsWithinLimits defines) (words : List CopiedWord) (few : length words ≤ 65536) where
  abbrev copied : Copied
  copied = record { child = child; moment = moment; charts = map told_chart defines.charts; dimensions = map told_dimension defines.dimensions; words = words }

  pub copied-length : length (entry_bytes (entry.Copied copied)) ≤ 33579025
  unfolding entry_bytes copied_bytes
  copied-length =
      let charts = items-length copied_chart_bytes 412 copied.charts
      (told-charts defines.charts (recursion_from_All (λ (chart : NumberedChart). chart_keeps_limits chart.def ≡ true) defines.charts within.chart_limits)) in
      let dimensions = items-length copied_dimension_bytes 211 copied.dimensions
      (told-dimensions defines.dimensions (recursion_from_All (λ (dimension : NumberedDimension). dimension_keeps_limits dimension.def ≡ true) defines.dimensions within.dimension_limits)) in
      let charts_few : length copied.charts ≤ 4096 = omega (arith, length-map defines.charts told_chart, within.charts) in
      let dimensions_few : length copied.dimensions ≤ 65536 = omega (arith, length-map defines.dimensions told_dimension, within.dimensions) in
      simp (length-append, length-u32_bytes, length-u64_bytes, length-list_bytes) (omega (arith, charts, dimensions, charts_few, dimensions_few, few, items-length word_bytes 8 words (all-words words)))

-- ---- its spelling
map-told : {X Y : Type 0} (key : Y → ℕ) (f : X → Y) (own : X → ℕ) → ((x : X) → key (f x) ≡ own x) → (xs : List X) → map key (map f xs) ≡ map own xs
map-told key f own same [] = refl
map-told key f own same (x ∷ xs) = λ i. same x i ∷ map-told key f own same xs i

words-ascending : (words : List SeriesWord) → AreRising words → is_ascending (map (λ (word : CopiedWord). word.series) (map entry_word words)) ≡ true
words-ascending [] rises = refl
words-ascending (a ∷ []) rises = refl
words-ascending (a ∷ b ∷ words) rises =
    let first : a.series < b.series = (recursion_from_All (λ (later : SeriesWord). a.series < later.series) (b ∷ words) rises.0).0 in
    and_from (nat_lt a.series b.series) (is_ascending (map (λ (word : CopiedWord). word.series) (map entry_word (b ∷ words)))) (lt-ltb a.series b.series first) (words-ascending (b ∷ words) rises.1)

words-stored : (words : List SeriesWord) → AllByRecursion (λ (word : SeriesWord). is_word word.word ≡ true) words → list_all is_storage_number (map entry_word words) ≡ true
words-stored [] all = refl
words-stored (word ∷ words) all = and_from (is_word word.word) (list_all is_storage_number (map entry_word words)) all.0 (words-stored words all.1)

module _ (child moment : ℕ) (defines : NumberedBeat) (within : IsWithinLimits defines) (canonical : is_collected_canonical defines ≡ true) (words : List SeriesWord) (rises : AreRising words)
    (stored : All (λ (word : SeriesWord). is_word word.word ≡ true) words) (few : length words ≤ 65536) (charts : List CopiedChart) (dimensions : List CopiedDimension) (sent : List CopiedWord)
    (charts_are : charts ≡ map told_chart defines.charts) (dimensions_are : dimensions ≡ map told_dimension defines.dimensions) (words_are : sent ≡ map entry_word words) where
  abbrev told : Copied
  told = record { child = child; moment = moment; charts = charts; dimensions = dimensions; words = sent }

  told-canonical : is_canonical (entry.Copied told) ≡ true
  unfolding is_canonical is_copied_canonical is_collected_canonical
  told-canonical =
      let first = is_ascending (map (λ (chart : NumberedChart). chart.number) defines.charts) in
      let second = is_ascending (map (λ (dimension : NumberedDimension). dimension.series) defines.dimensions) in
      let third = is_ascending (map (λ (row : Row). row.chart) defines.rows) in
      let parts = and_parts first second (and_parts (first && second) third (and_parts (first && second && third) (list_all are_values_ascending defines.rows) canonical).0).0 in
      let number : is_ascending (map (λ (chart : CopiedChart). chart.number) charts) ≡ true
      = ap (λ (cs : List CopiedChart). is_ascending (map (λ (chart : CopiedChart). chart.number) cs)) charts_are
      ∙ ap is_ascending (map-told (λ (chart : CopiedChart). chart.number) told_chart (λ (chart : NumberedChart). chart.number) (λ chart. refl) defines.charts) ∙ parts.0 in
      let series : is_ascending (map (λ (dimension : CopiedDimension). dimension.series) dimensions) ≡ true
      = ap (λ (ds : List CopiedDimension). is_ascending (map (λ (dimension : CopiedDimension). dimension.series) ds)) dimensions_are
      ∙ ap is_ascending (map-told (λ (dimension : CopiedDimension). dimension.series) told_dimension (λ (dimension : NumberedDimension). dimension.series) (λ dimension. refl) defines.dimensions) ∙ parts.1 in
      let rising : is_ascending (map (λ (word : CopiedWord). word.series) sent) ≡ true
      = ap (λ (ws : List CopiedWord). is_ascending (map (λ (word : CopiedWord). word.series) ws)) words_are ∙ words-ascending words rises in
      let all : list_all is_storage_number sent ≡ true
      = ap (list_all is_storage_number) words_are ∙ words-stored words (recursion_from_All (λ (word : SeriesWord). is_word word.word ≡ true) words stored) in
      λ i. number i && series i && rising i && all i

  pub told-spelt : child < 2 ^ 64 → moment < 2 ^ 32 → AllByRecursion IsCopiedChart charts → AllByRecursion IsCopiedDimension dimensions → AllByRecursion IsCopiedWord sent → HasSpelling (entry.Copied told)
  told-spelt child_small moment_small each_chart each_dimension each_word = record {
    short = record {
      child = child_small;
      moment = moment_small;
      charts = record { count = omega (arith, ap length charts_are, length-map defines.charts told_chart, within.charts); each = each_chart };
      dimensions = record { count = omega (arith, ap length dimensions_are, length-map defines.dimensions told_dimension, within.dimensions); each = each_dimension };
      words = record { count = omega (arith, ap length words_are, length-map words entry_word, few); each = each_word };
    };
    canonical = told-canonical;
  }
