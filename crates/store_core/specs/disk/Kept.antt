-- What is read of the kept extents.
use Rattle.std.specs.Prelude.{◌≡◌, length}
use Rattle.checkpoint_body.specs.declared.body.Body.{Body}
use Rattle.store_core.specs.declared.disk.reading.Kept.{Kept}
use Rattle.store_core.specs.disk.Contents.{KeptPages}

abbrev pub pages_of : Kept → KeptPages
pages_of kept = record { points = kept.points; minutes = kept.minutes; hours = kept.hours }

-- there are pages of each extent that the body names
pub record HasPagesOfEach (body : Body) (kept : KeptPages) : Type 0 where
  pub points : length kept.points ≡ length body.points.extents
  pub minutes : length kept.minutes ≡ length body.minutes.extents
  pub hours : length kept.hours ≡ length body.hours.extents
