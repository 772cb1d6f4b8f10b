use Rattle.std.proofs.Common.{drop}
use Rattle.store_core.specs.bodies.Reading.{AreRecordsOf, no_beats_in}
use Rattle.store_core.proofs.BodyProofs.ReadLemmas.{HaveRead}
use Rattle.store_core.proofs.bodies.kept_segments.record_segments.Given as goal

abbrev pub invariant-loop-pages : goal.invariant-loop-pages
invariant-loop-pages l = HaveRead (AreRecordsOf l.width) no_beats_in l.fn.serial 0 l.extents l.kept l.segments l.serial 0 l.ahead (drop l.pages-index l.kept)
