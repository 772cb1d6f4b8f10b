use Rattle.std.proofs.Common.{◌≡◌, true, sym, ◌∙◌}
use Rattle.side_codec.specs.Definitions.{are_registered}
use Rattle.side_codec.proofs.Registered.{few_charts, few_dimensions}
use Rattle.side_codec.proofs.definitions.take.Goals as goal

pub returns-clause-charts : goal.returns-clause-charts
returns-clause-charts c =
    let is : are_registered c.in_ok-charts.charts c.in_ok-dimensions.dimensions ≡ true =
    rw (← c.as_slice.ensures, ← c.as_slice-2.ensures) (sym c.are_registered.ensures ∙ c.if-not-are_registered.false) in
    few_charts c.in_ok-charts.charts c.in_ok-dimensions.dimensions is

pub returns-clause-dimensions : goal.returns-clause-dimensions
returns-clause-dimensions c =
    let is : are_registered c.in_ok-charts.charts c.in_ok-dimensions.dimensions ≡ true =
    rw (← c.as_slice.ensures, ← c.as_slice-2.ensures) (sym c.are_registered.ensures ∙ c.if-not-are_registered.false) in
    few_dimensions c.in_ok-charts.charts c.in_ok-dimensions.dimensions is
