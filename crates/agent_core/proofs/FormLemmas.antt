-- What is kept of a beat is in form, and a record can hold it.
use Rattle.std.proofs.Common.{◌≡◌, ℕ, ◌+◌, ◌≤◌, ◌<◌, ◌^◌, true, ◌&&◌, nat_le, nat_lt, List, [], ◌∷◌, length, map, slice_get, Option, Some, None, refl, sym, ap, subst, ◌∙◌, arith, lt-ltb}
use Rattle.std.specs.List.{find, list_all, AllByRecursion}
use Rattle.std.specs.Option.{option_and_then, option_map_or}
use Rattle.std.proofs.lemmas.Bool.{and_from, le-leb}
use Rattle.field_codec.specs.Spelling.{sized_bytes, u32_bytes}
use Rattle.field_codec.proofs.Lengths.{length-u32_bytes}
use Rattle.std.proofs.lemmas.List.{length-append, length-map}
use Rattle.std.proofs.lemmas.List.Elements.{recursion_from_All}
use Rattle.storage_number.specs.Word.{is_word}
use Rattle.health_config.specs.declared.config.TheConstants.{TEXT_LIMIT}
use Rattle.history.specs.declared.beat.OpenDim.{OpenDim}
use Rattle.history.specs.declared.chart.ChartDef.{ChartDef}
use Rattle.history.specs.declared.numbered.NumberedBeat.{NumberedBeat}
use Rattle.history.specs.Registry.{Registry, is_chart}
use Rattle.beat_points.specs.declared.series_word.SeriesWord.{SeriesWord}
use Rattle.beat_points.specs.Points.{ArePointsIn, AreRising}
use Rattle.chart_registry.proofs.Finding.{found-all}
use Rattle.entry_codec.specs.declared.entry.Entry.TheVariants as entry
use Rattle.entry_codec.specs.Entries.{entry_bytes, is_canonical, HasSpelling, IsWithinLimits}
use Rattle.entry_codec.specs.Lists.{is_ascending}
use Rattle.entry_codec.proofs.Lengths.{collected-length}
use Rattle.beat_tiers.specs.declared.item.BeatPoint.{BeatPoint}
use Rattle.store_core.specs.beats.Beats.{beat_bytes, is_point, series_of, InForm, IsPoint}
use Rattle.store_core.proofs.BeatProofs.BeatLaw.{beat_size}
use Rattle.agent_core.specs.Kept.{point_of, step_of}
use Rattle.agent_core.specs.Rules.{HasLimits}
use Rattle.agent_core.proofs.LimitLemmas.{IsGrid}

-- the note of a collected beat is short
pub note-length : (numbered : NumberedBeat) → IsWithinLimits numbered → (note : List ℕ) → note ≡ entry_bytes (entry.Collected numbered) → length note ≤ 33579025
note-length numbered within note is = let same : length note ≡ length (entry_bytes (entry.Collected numbered)) = ap length is in omega (arith, same, collected-length numbered within)

-- ---- the points
module _ (registry : Registry) (limits : HasLimits registry) where
  step-grid : (series : ℕ) → (0 < step_of registry series) × (step_of registry series ≤ 86400)
  step-grid series = by (slice_get registry.dimensions series)
    where
      of : (found : Option ChartDef) → ((def : ChartDef) → found ≡ Some def → IsGrid def) → (0 < option_map_or (λ (chart : ChartDef). chart.update_every) found 1) × (option_map_or (λ (chart : ChartDef). chart.update_every) found 1 ≤ 86400)
      of None each = (omega arith, omega arith)
      of (Some def) each = each def refl

      by : (found : Option OpenDim) → let step = option_map_or (λ (chart : ChartDef). chart.update_every) (option_and_then (λ (dimension : OpenDim). find (is_chart dimension.chart) registry.charts) found) 1 in (0 < step) × (step ≤ 86400)
      by None = (omega arith, omega arith)
      by (Some dimension) =
          of (find (is_chart dimension.chart) registry.charts)
          (λ def e. found-all IsGrid (is_chart dimension.chart) registry.charts def (recursion_from_All IsGrid registry.charts limits.grids) e)

  abbrev IsGiven : SeriesWord → Type 0
  IsGiven word = (word.series < length registry.dimensions) × (is_word word.word ≡ true)

  point-form : (word : SeriesWord) → IsGiven word → is_point (point_of registry word) ≡ true
  point-form word given =
      let step = step-grid word.series in
      let series : nat_lt word.series 65536 ≡ true = lt-ltb word.series 65536 (omega (arith, given.0, limits.few)) in
      let least : nat_le 1 (step_of registry word.series) ≡ true = le-leb 1 (step_of registry word.series) (omega (arith, step.0)) in
      let most : nat_le (step_of registry word.series) 86400 ≡ true = le-leb (step_of registry word.series) 86400 step.1 in
      λ i. series i && least i && most i && given.1 i

  points-form : (words : List SeriesWord) → AllByRecursion IsGiven words → list_all is_point (map (point_of registry) words) ≡ true
  points-form [] all = refl
  points-form (word ∷ words) all = and_from (is_point (point_of registry word)) (list_all is_point (map (point_of registry) words)) (point-form word all.0) (points-form words all.1)

  points-ascending : (words : List SeriesWord) → AreRising words → is_ascending (map series_of (map (point_of registry) words)) ≡ true
  points-ascending [] rises = refl
  points-ascending (a ∷ []) rises = refl
  points-ascending (a ∷ b ∷ words) rises =
      let first : a.series < b.series = (recursion_from_All (λ (later : SeriesWord). a.series < later.series) (b ∷ words) rises.0).0 in
      and_from (nat_lt a.series b.series) (is_ascending (map series_of (map (point_of registry) (b ∷ words)))) (lt-ltb a.series b.series first) (points-ascending (b ∷ words) rises.1)

  -- series that rise are no more than there are numbers
  words-few : (least : ℕ) (words : List SeriesWord) → AreRising words → AllByRecursion (λ (word : SeriesWord). least ≤ word.series) words → AllByRecursion IsGiven words
      → least ≤ length registry.dimensions → least + length words ≤ length registry.dimensions
  words-few least [] rises above all within = omega (arith, within)
  words-few least (word ∷ words) rises above all within =
      let rest = words-few (word.series + 1) words rises.1 (next words (recursion_from_All (λ (later : SeriesWord). word.series < later.series) words rises.0)) all.1 (omega (arith, all.0.0)) in
      omega (arith, rest, above.0)
    where
      next : (words : List SeriesWord) → AllByRecursion (λ (later : SeriesWord). word.series < later.series) words → AllByRecursion (λ (later : SeriesWord). word.series + 1 ≤ later.series) words
      next [] all = tt
      next (later ∷ words) all = (omega (arith, all.0), next words all.1)

  all-above : (words : List SeriesWord) → AllByRecursion (λ (word : SeriesWord). 0 ≤ word.series) words
  all-above [] = tt
  all-above (word ∷ words) = (omega arith, all-above words)

  -- ---- the beat
  module _ (words : List SeriesWord) (in_registry : ArePointsIn registry words) (rises : AreRising words) (points : List BeatPoint) (points_are : points ≡ map (point_of registry) words)
      (note : List ℕ) (note_short : length note ≤ 33579025) where
    few-points : length points ≤ 65536
    few-points =
        let given = recursion_from_All IsGiven words in_registry in
        let same : length points ≡ length words = ap length points_are ∙ length-map words (point_of registry) in
        omega (arith, same, limits.few, words-few 0 words rises (all-above words) given (omega arith))

    pub kept-form : (moment : ℕ) → 0 < moment → moment < 2 ^ 32 → AllByRecursion IsPoint points → InForm (record { moment = Some moment; points = points; note = note })
    kept-form moment some small short =
        let given = recursion_from_All IsGiven words in_registry in
        let ascending : is_ascending (map series_of points) ≡ true = ap (λ (ps : List BeatPoint). is_ascending (map series_of ps)) points_are ∙ points-ascending words rises in
        let all : list_all is_point points ≡ true = ap (list_all is_point) points_are ∙ points-form words given in
        record {
          short = record {
            moment = (some, small);
            points = record { count = omega (arith, few-points); each = short };
            note = omega (arith, note_short);
          };
          form = λ i. ascending i && all i && true;
        }

    pub kept-size : (moment : Option ℕ) → length (beat_bytes (record { moment = moment; points = points; note = note })) ≤ 2 ^ 26
    kept-size moment = omega (arith, beat_size (record { moment = moment; points = points; note = note }), few-points, note_short)

-- ---- a configuration
health-length : (text : List ℕ) → length (entry_bytes (entry.Health text)) ≡ 5 + length text
unfolding entry_bytes sized_bytes
health-length text = omega (arith, length-append (u32_bytes (length text)) text, length-u32_bytes (length text))

module _ (points : List BeatPoint) (note text : List ℕ) (none : points ≡ []) (note_is : note ≡ entry_bytes (entry.Health text)) (few : length text ≤ TEXT_LIMIT) where
  pub health-form : InForm (record { moment = None; points = points; note = note })
  health-form =
      let size : length note ≡ length (entry_bytes (entry.Health text)) = ap length note_is in
      subst (λ (ps : List BeatPoint). InForm (record { moment = None; points = ps; note = note })) (sym none) (record {
        short = record { moment = tt; points = record { count = omega arith; each = tt }; note = omega (arith, size, health-length text, few) };
        form = refl;
      })

  pub health-size : length (beat_bytes (record { moment = None; points = points; note = note })) ≤ 2 ^ 26
  health-size =
      let size : length note ≡ length (entry_bytes (entry.Health text)) = ap length note_is in
      let empty : length points ≡ 0 = ap length none in
      omega (arith, beat_size (record { moment = None; points = points; note = note }), empty, size, health-length text, few)

-- it has a spelling
pub health-spelt : (text : List ℕ) → length text ≤ TEXT_LIMIT → HasSpelling (entry.Health text)
unfolding is_canonical
health-spelt text few = record { short = omega (arith, few); canonical = refl }
