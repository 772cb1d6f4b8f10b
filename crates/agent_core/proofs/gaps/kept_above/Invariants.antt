use Rattle.std.proofs.Common.{◌≡◌, length}
use Rattle.agent_core.specs.Gaps.{gaps_above}
use Rattle.agent_core.proofs.gaps.kept_above.Given as goal

abbrev pub decreases-loop-first : goal.decreases-loop-first
decreases-loop-first l = length l.rest

abbrev pub invariant-loop-first : goal.invariant-loop-first
invariant-loop-first l = gaps_above l.floor l.rest ≡ gaps_above l.floor l.spans
