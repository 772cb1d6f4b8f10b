-- What the charts and dimensions are that may be those of a registry.
use Rattle.std.proofs.Common.{◌≡◌, ◌≤◌, true, ◌&&◌, nat_le, List, [], length, arith}
use Rattle.std.specs.List.{list_all}
use Rattle.std.proofs.lemmas.Bool.{and_from, and_parts, le-leb, leb-true}
use Rattle.std.proofs.lemmas.List.Sums.{AllPass-from_list_all}
use Rattle.field_codec.specs.Lists.{IsShortListOf}
use Rattle.history.specs.declared.numbered.NumberedBeat.{NumberedBeat}
use Rattle.history.specs.declared.numbered.NumberedChart.{NumberedChart}
use Rattle.history.specs.declared.numbered.NumberedDimension.{NumberedDimension}
use Rattle.history.specs.Limits.{chart_keeps_limits, dimension_keeps_limits}
use Rattle.entry_codec.specs.Charts.{IsShortChart}
use Rattle.entry_codec.specs.Dimensions.{IsShortDimension}
use Rattle.entry_codec.specs.Entries.{IsWithinLimits}
use Rattle.entry_codec.proofs.Lengths.{short-collected}
use Rattle.history.specs.declared.limits.TheConstants.{MOST_CHARTS, MOST_DIMENSIONS}
use Rattle.side_codec.specs.Definitions.{are_charts_numbered, are_few, are_registered, are_series_numbered, is_of_chart, keep_chart_limits, keep_dimension_limits}

record Parts (charts : List NumberedChart) (dimensions : List NumberedDimension) : Type 0 where
  few_charts : length charts ≤ 4096
  few_dimensions : length dimensions ≤ 65536
  chart_limits : keep_chart_limits charts ≡ true
  dimension_limits : keep_dimension_limits dimensions ≡ true

parts : (charts : List NumberedChart) (dimensions : List NumberedDimension) → are_registered charts dimensions ≡ true → Parts charts dimensions
unfolding are_registered
parts charts dimensions is =
    let few = are_few charts dimensions in
    let charts_numbered = are_charts_numbered charts in
    let series_numbered = are_series_numbered dimensions in
    let of_charts = list_all (is_of_chart (length charts)) dimensions in
    let limits = and_parts (few && charts_numbered && series_numbered && of_charts && keep_chart_limits charts) (keep_dimension_limits dimensions) is in
    let chart_limits = and_parts (few && charts_numbered && series_numbered && of_charts) (keep_chart_limits charts) limits.0 in
    let owners = and_parts (few && charts_numbered && series_numbered) of_charts chart_limits.0 in
    let series = and_parts (few && charts_numbered) series_numbered owners.0 in
    let numbers = and_parts few charts_numbered series.0 in
    let both = and_parts (nat_le (length charts) MOST_CHARTS) (nat_le (length dimensions) MOST_DIMENSIONS) numbers.0 in
    record {
      few_charts = leb-true (length charts) MOST_CHARTS both.0;
      few_dimensions = leb-true (length dimensions) MOST_DIMENSIONS both.1;
      chart_limits = chart_limits.1;
      dimension_limits = limits.1;
    }

pub few_charts : (charts : List NumberedChart) (dimensions : List NumberedDimension) → are_registered charts dimensions ≡ true → length charts ≤ 4096
few_charts charts dimensions is = (parts charts dimensions is).few_charts

pub few_dimensions : (charts : List NumberedChart) (dimensions : List NumberedDimension) → are_registered charts dimensions ≡ true → length dimensions ≤ 65536
few_dimensions charts dimensions is = (parts charts dimensions is).few_dimensions

-- a beat that defines them and has no row
abbrev pub beat_of : List NumberedChart → List NumberedDimension → NumberedBeat
beat_of charts dimensions = record { moment = 0; charts = charts; dimensions = dimensions; rows = [] }

pub within : (charts : List NumberedChart) (dimensions : List NumberedDimension) → are_registered charts dimensions ≡ true → IsWithinLimits (beat_of charts dimensions)
within charts dimensions is =
    let known = parts charts dimensions is in
    record {
      chart_limits = AllPass-from_list_all (λ (c : NumberedChart). chart_keeps_limits c.def) charts known.chart_limits;
      dimension_limits = AllPass-from_list_all (λ (d : NumberedDimension). dimension_keeps_limits d.def) dimensions known.dimension_limits;
      charts = known.few_charts;
      dimensions = known.few_dimensions;
      rows = omega arith;
      values = omega arith;
    }

pub short_charts : (charts : List NumberedChart) (dimensions : List NumberedDimension) → are_registered charts dimensions ≡ true → IsShortListOf IsShortChart charts
short_charts charts dimensions is = (short-collected (beat_of charts dimensions) (within charts dimensions is)).charts

pub short_dimensions : (charts : List NumberedChart) (dimensions : List NumberedDimension) → are_registered charts dimensions ≡ true → IsShortListOf IsShortDimension dimensions
short_dimensions charts dimensions is = (short-collected (beat_of charts dimensions) (within charts dimensions is)).dimensions

-- Charts and dimensions may be those of a registry by the parts of that.
pub registered : (charts : List NumberedChart) (dimensions : List NumberedDimension) → length charts ≤ 4096 → length dimensions ≤ 65536
    → are_charts_numbered charts ≡ true → are_series_numbered dimensions ≡ true → list_all (is_of_chart (length charts)) dimensions ≡ true
    → keep_chart_limits charts ≡ true → keep_dimension_limits dimensions ≡ true → are_registered charts dimensions ≡ true
unfolding are_registered
registered charts dimensions few_c few_d numbers series owners limits_c limits_d =
    let few : are_few charts dimensions ≡ true =
    and_from _ _ (le-leb (length charts) MOST_CHARTS few_c) (le-leb (length dimensions) MOST_DIMENSIONS few_d) in
    and_from _ _ (and_from _ _ (and_from _ _ (and_from _ _ (and_from _ _ few numbers) series) owners) limits_c) limits_d
