use Rattle.std.proofs.Common.{◌≡◌, map, take}
use Rattle.std.specs.List.{enumerate_from}
use Rattle.health_config.specs.Entity.{alarm_of}
use Rattle.alarm_core.specs.Kept.{lost_among, state_at}
use Rattle.alarm_core.proofs.restore.restore.Given as goal

abbrev pub invariant-loop-kept : goal.invariant-loop-kept
invariant-loop-kept l = record {
  states : l.restored.states ≡ map (state_at (map alarm_of l.entities) l.pairs l.states) (enumerate_from 0 (take l.kept-index l.states));
  lost : l.restored.lost ≡ map (λ kept. kept.alarm) (lost_among (map alarm_of l.entities) l.pairs (take l.kept-index l.states));
}
