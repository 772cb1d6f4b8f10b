use Rattle.std.proofs.Common.{◌≡◌, take}
use Rattle.checkpoint_body.specs.Slots.{points_of}
use Rattle.checkpoint_body.proofs.slots.points_of.Given as goal

abbrev pub invariant-loop-page : goal.invariant-loop-page
invariant-loop-page l = l.points ≡ points_of (take l.page-index l.pages)
