use Rattle.std.proofs.Common.{◌≡◌, ◌≤◌, take}
use Rattle.replication.specs.World.{points_in}
use Rattle.link_cases.proofs.copies.schedules.are_few.Given as goal

abbrev pub invariant-loop-step : goal.invariant-loop-step
invariant-loop-step l = record {
  counted : l.total ≡ points_in (take l.step-index l.steps);
  few : l.total ≤ 2000000;
}
