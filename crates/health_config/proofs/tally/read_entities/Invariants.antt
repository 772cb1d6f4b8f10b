use Rattle.std.proofs.Common.{◌≡◌, ◌≤◌, ◌+◌, [], length}
use Rattle.health_config.specs.Config.{entities, none_but, tally_of, then_entities}
use Rattle.health_config.specs.Sections.{sections}
use Rattle.health_config.proofs.tally.read_entities.Given as goal

-- the tally so far, and the entities ahead, of which the first begins there
abbrev pub invariant-loop-template : goal.invariant-loop-template
invariant-loop-template l = record {
  whole : then_entities (none_but l.fn.skipped) (entities 0 (sections l.lines).groups) ≡ then_entities (tally_of l.tally) (entities l.before (sections l.ahead).groups);
  here : (sections l.ahead).prefix ≡ [];
  few : l.tally.skipped + length l.ahead ≤ l.fn.skipped + length l.lines;
  room : l.before ≤ 4096;
}

abbrev pub decreases-loop-template : goal.decreases-loop-template
decreases-loop-template l = length l.ahead
