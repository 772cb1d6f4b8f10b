use Rattle.std.proofs.Common.{◌≡◌, ◌+◌, ◌*◌, ◌<◌, ◌++◌, drop, length}
use Rattle.checkpoint_body.specs.Slots.{points_from}
use Rattle.checkpoint_body.proofs.slots.add_points.Given as goal

abbrev pub invariant-loop-word : goal.invariant-loop-word
invariant-loop-word l = record {
  moment : l.word-index < length l.word-items → l.moment ≡ l.page.first + l.word-index * l.page.step;
  points : l.points ++ points_from l.page.series l.page.step (l.page.first + l.word-index * l.page.step) (drop l.word-index l.word-items)
      ≡ l.fn.points ++ points_from l.page.series l.page.step l.page.first l.word-items;
}
