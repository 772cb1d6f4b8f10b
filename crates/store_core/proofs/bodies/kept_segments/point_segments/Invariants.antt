use Rattle.std.proofs.Common.{drop}
use Rattle.store_core.specs.bodies.Reading.{ArePointsOf}
use Rattle.store_core.specs.bodies.Segments.{beats_in}
use Rattle.store_core.proofs.BodyProofs.ReadLemmas.{HaveRead}
use Rattle.store_core.proofs.bodies.kept_segments.point_segments.Given as goal

abbrev pub invariant-loop-pages : goal.invariant-loop-pages
invariant-loop-pages l = HaveRead ArePointsOf beats_in l.fn.serial l.fn.before l.extents l.kept l.segments l.serial l.before l.ahead (drop l.pages-index l.kept)
