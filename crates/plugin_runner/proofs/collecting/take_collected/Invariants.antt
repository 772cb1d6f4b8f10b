use Rattle.std.proofs.Common.{◌≤◌, ◌+◌, ◌*◌}
use Rattle.line_stream.specs.Stream.{next_number}
use Rattle.plugin_runner.specs.Collecting.{Going}
use Rattle.plugin_runner.specs.Patience.{patience}
use Rattle.plugin_runner.proofs.collecting.take_collected.Given as goal

abbrev pub invariant-loop-taken : goal.invariant-loop-taken
invariant-loop-taken g l =
    Going g.T.Taker.acts l.budget l.fn.runner l.runner l.stream l.fn.taker l.fn.host l.taker l.host
    (g.P.Spawner.children l.fn.spawner) (g.P.Spawner.children l.spawner) (g.C.Clock.readings l.fn.clock) (g.C.Clock.readings l.clock)
    × (g.P.Spawner.faults l.fn.spawner ≤ g.P.Spawner.faults l.spawner) × g.T.Taker.ready l.taker l.host (next_number l.stream)

abbrev pub decreases-loop-taken : goal.decreases-loop-taken
decreases-loop-taken g l = patience l.runner + 8194 * l.budget
