use Rattle.std.proofs.Common.{◌≡◌, map, take}
use Rattle.std.specs.Option.{option_map}
use Rattle.agent_core.specs.Sides.{raw_of}
use Rattle.agent_core.proofs.side.seen_values.Given as goal

abbrev pub invariant-loop-row : goal.invariant-loop-row
invariant-loop-row l = l.seen ≡ map (option_map raw_of) (take l.row-index l.rows)
