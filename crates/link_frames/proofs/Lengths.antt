-- How many bytes the body of a Data of one beat has at most.
use Rattle.std.proofs.Common.{◌≡◌, ℕ, ◌+◌, ◌*◌, ◌≤◌, ◌<◌, true, ◌&&◌, nat_le, nat_lt, List, [], ◌∷◌, length, map, arith}
use Rattle.std.specs.List.{list_all, sum_by, AllByRecursion}
use Rattle.std.proofs.lemmas.Bool.{and_parts, leb-true, ltb-true}
use Rattle.std.proofs.lemmas.List.Sums.{sum_by-cons}
use Rattle.history.specs.Limits.{has_two_parts, is_chart_id, is_id}
use Rattle.entry_codec.proofs.Lengths.{id-length}
use Rattle.entry_codec.specs.Lists.{is_ascending}
use Rattle.replication.specs.declared.beats.Beat.{Beat}
use Rattle.replication.specs.declared.beats.SeriesWord.{SeriesWord}
use Rattle.replication.specs.declared.message.Data.{Data}
use Rattle.replication.specs.declared.names.ChartName.{ChartName}
use Rattle.replication.specs.declared.names.DimName.{DimName}
use Rattle.replication.specs.Answer.{AreBeatsOf}
use Rattle.replication.specs.Bytes.{beat_size, chart_size, dimension_size}
use Rattle.replication.proofs.Sizes.{length-data_bytes}
use Rattle.link_frames.specs.declared.frame.Frame.TheVariants as frame
use Rattle.link_frames.specs.DataForm.{has_id, has_rising_places, is_chart, place_of, IsData}
use Rattle.link_frames.specs.Frames.{body_bytes, body_limit}

-- ---- names
chart-size : (chart : ChartName) → is_chart chart ≡ true → chart_size chart ≤ 408
chart-size chart fits =
    let every = nat_le chart.update_every 86400 in
    let some = nat_le 1 chart.update_every in
    let short = nat_le (length chart.context) 200 in
    let prefix = and_parts (is_chart_id chart.id && short && some) every fits in
    let texts = and_parts (is_chart_id chart.id && short) some prefix.0 in
    let text = and_parts (is_chart_id chart.id) short texts.0 in
    let id = id-length chart.id (and_parts (is_id chart.id) (has_two_parts chart.id) text.0).0 in
    omega (arith, id, leb-true (length chart.context) 200 text.1)

charts-size : (charts : List ChartName) → list_all is_chart charts ≡ true → sum_by chart_size charts ≤ 408 * length charts
charts-size [] all = omega arith
charts-size (chart ∷ charts) all =
    let both = and_parts (is_chart chart) (list_all is_chart charts) all in
    omega (arith, sum_by-cons chart_size chart charts, chart-size chart both.0, charts-size charts both.1)

dimensions-size : (dimensions : List DimName) → list_all has_id dimensions ≡ true → sum_by dimension_size dimensions ≤ 207 * length dimensions
dimensions-size [] all = omega arith
dimensions-size (dimension ∷ dimensions) all =
    let both = and_parts (has_id dimension) (list_all has_id dimensions) all in
    omega (arith, sum_by-cons dimension_size dimension dimensions, id-length dimension.id both.0, dimensions-size dimensions both.1)

-- ---- words
-- places that rise from above one, below a limit, are no more than there are between
few-above : (low limit : ℕ) (words : List SeriesWord) → low < limit → is_ascending (low ∷ map place_of words) ≡ true
    → AllByRecursion (λ (word : SeriesWord). word.series < limit) words → length words + low < limit
few-above low limit [] lt rises all = omega (arith, lt)
few-above low limit (word ∷ words) lt rises all =
    let both = and_parts (nat_lt low word.series) (is_ascending (word.series ∷ map place_of words)) rises in
    omega (arith, ltb-true low word.series both.0, few-above word.series limit words all.0 both.1 all.1)

few-words : (limit : ℕ) (words : List SeriesWord) → is_ascending (map place_of words) ≡ true → AllByRecursion (λ (word : SeriesWord). word.series < limit) words → length words ≤ limit
few-words limit [] rises all = omega arith
few-words limit (word ∷ words) rises all = omega (arith, few-above word.series limit words all.0 rises all.1)

beat-size : (limit : ℕ) (beats : List Beat) → length beats ≡ 1 → list_all has_rising_places beats ≡ true → AreBeatsOf limit beats → sum_by beat_size beats ≤ 8 + 8 * limit
beat-size limit [] one rises all = absurd (omega (arith, one))
beat-size limit (beat ∷ beats) one rises all = alone beats (omega (arith, one))
  where
    alone : (others : List Beat) → length others ≡ 0 → sum_by beat_size (beat ∷ others) ≤ 8 + 8 * limit
    alone [] none =
        let words = few-words limit beat.words (and_parts (has_rising_places beat) (list_all has_rising_places beats) rises).0 all.0 in
        omega (arith, words, sum_by-cons beat_size beat [])
    alone (other ∷ others) none = absurd (omega (arith, none))

-- ---- a Data
pub one-beat-fits : (message : Data) → IsData message → length message.beats ≡ 1 → length message.names.charts ≤ 4096 → length message.names.dimensions ≤ 65536
    → length (body_bytes (frame.Data message)) ≤ body_limit
unfolding body_bytes
one-beat-fits message fits one charts dimensions =
    omega (
      arith,
      length-data_bytes message,
      charts-size message.names.charts fits.charts,
      dimensions-size message.names.dimensions fits.ids,
      beat-size (length message.names.dimensions) message.beats one fits.places fits.whole.series,
      charts,
      dimensions,
    )
