use Rattle.std.proofs.Common.{◌<◌, length}
use Rattle.replication.specs.declared.names.DimName.{DimName}
use Rattle.replication.proofs.MarksCode.{all-index, dimension-push}
use Rattle.replication.proofs.answer.used_dimensions.Goals as goal

pub loop-index-preserved : goal.loop-index-preserved
loop-index-preserved c =
    let x = c.index-dimensions-index.result in
    let lt = c.loop-index-test.true in
    let at = c.index-dimensions-index.is in
    let within = all-index (λ (d : DimName). d.chart < length c.args.places.now) c.args.dimensions.now c.loop-index.index x c.requires.charts lt at in
    λ test charts are places_are.
    dimension-push test charts c.args.dimensions.now c.args.marks.now c.args.places.now c.loop-index.index _ _ x c.loop-index.used _ are places_are lt at within
    (c.loop-index.invariant test charts are places_are) c.in_ok-add_dimension.ensures
