-- The numbers of points and records as the program has them.
use Rattle.std.specs.Prelude.{◌^◌, ◌<◌}
use Rattle.checkpoint_body.specs.declared.item.BucketRecord.{BucketRecord}
use Rattle.checkpoint_body.specs.declared.item.Point.{Point}
use Rattle.checkpoint_body.specs.Fields.{FitsRecord}

pub record FitsPoint (point : Point) : Type 0 where
  pub moment : point.moment < 2 ^ 32
  pub word : point.word < 2 ^ 32

abbrev pub FitsBucketRecord : BucketRecord → Type 0
FitsBucketRecord one = FitsRecord one.value
