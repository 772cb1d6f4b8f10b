use Rattle.std.proofs.Common.{◌≡◌, length, take}
use Rattle.agent_core.specs.NewNames.{CountsNew, HaveRoom}
use Rattle.agent_core.proofs.names.fill_a_chart.Given as goal

abbrev pub invariant-loop-dimension : goal.invariant-loop-dimension
invariant-loop-dimension l = record {
  counted : CountsNew l.registry l.names (take l.dimension-index l.dimensions) l.counts;
  room : HaveRoom l.registry l.names l.counts;
  size : length l.counts ≡ 4096;
}
