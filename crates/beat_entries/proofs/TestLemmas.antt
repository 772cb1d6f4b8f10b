-- What the tests of a beat say that found nothing against it.
use Rattle.std.proofs.Common.{◌≡◌, ℕ, ◌≤◌, ◌<◌, Bool, true, false, nat_le, Some, None, ap, arith, if◌then◌else◌}
use Rattle.std.proofs.lemmas.Bool.{le-leb}
use Rattle.history.specs.declared.beat.OpenBeat.{OpenBeat}
use Rattle.history.specs.declared.fault.BlockFault.TheVariants as fault
use Rattle.history.specs.Registry.{Registry}
use Rattle.chart_registry.proofs.AcceptedLemmas.{passed}
use Rattle.beat_entries.specs.Rules.{beat_refusal, changes_grid, content_refusal, lacks_chart, lacks_dimension, too_many_charts, too_many_dimensions}

pub record IsTested (registry : Registry) (beat : OpenBeat) : Type 0 where
  pub has_charts : lacks_chart registry beat ≡ false
  pub has_dimensions : lacks_dimension registry beat ≡ false
  pub grids : changes_grid registry beat ≡ false
  pub few_charts : too_many_charts registry beat ≡ false
  pub few : too_many_dimensions registry beat ≡ false

pub tested : (registry : Registry) (moment : ℕ) (beat : OpenBeat) → content_refusal registry moment beat ≡ None → IsTested registry beat
tested registry moment beat free =
    let owners = passed (lacks_chart registry beat) fault.NoChart _ free in
    let series = passed (lacks_dimension registry beat) fault.NoDimension _ owners.1 in
    let grids = passed (changes_grid registry beat) fault.GridChanged _ series.1 in
    let charts = passed (too_many_charts registry beat) fault.TooManyCharts _ grids.1 in
    record {
      has_charts = owners.0;
      has_dimensions = series.0;
      grids = grids.0;
      few_charts = charts.0;
      few = (passed (too_many_dimensions registry beat) fault.TooManyDimensions _ charts.1).0;
    }

module _ (registry : Registry) (copies : Bool) (last moment : ℕ) (beat : OpenBeat) where
  pub refused-mixed : copies ≡ true → beat_refusal registry copies last moment beat ≡ Some fault.MixedRoles
  unfolding beat_refusal
  refused-mixed e = ap (λ (b : Bool). if b then Some fault.MixedRoles else if nat_le moment last then Some (fault.MomentOrder last) else content_refusal registry moment beat) e

  pub refused-order : copies ≡ false → moment ≤ last → beat_refusal registry copies last moment beat ≡ Some (fault.MomentOrder last)
  unfolding beat_refusal
  refused-order e late = λ i. if e i then Some fault.MixedRoles else if is_late i then Some (fault.MomentOrder last) else content_refusal registry moment beat
    where
      is_late : nat_le moment last ≡ true
      is_late = le-leb moment last late

  pub refused-content : copies ≡ false → last < moment → beat_refusal registry copies last moment beat ≡ content_refusal registry moment beat
  unfolding beat_refusal
  refused-content e later = λ i. if e i then Some fault.MixedRoles else if is_later i then Some (fault.MomentOrder last) else content_refusal registry moment beat
    where
      is_later : nat_le moment last ≡ false
      is_later = grind arith
