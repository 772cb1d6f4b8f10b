use Rattle.std.proofs.Common.{◌≡◌, ◌≤◌, ◌+◌, List, length}
use Rattle.health_config.specs.Draft.{drafted, draft_of, draft_read}
use Rattle.health_config.specs.Setting.{Setting, settings}
use Rattle.health_config.proofs.DraftLemmas.{then_read}
use Rattle.health_config.proofs.draft.read_draft.Given as goal

-- the lines so far gave these settings, and those ahead give the others
abbrev pub invariant-loop-line : goal.invariant-loop-line
invariant-loop-line l = record {
  done : List Setting;
  set : draft_of l.draft ≡ drafted done;
  whole : draft_read l.inside l.lines ≡ then_read done (settings l.inside l.ahead);
  few : l.draft.skipped + length l.ahead ≤ length l.lines;
}

abbrev pub decreases-loop-line : goal.decreases-loop-line
decreases-loop-line l = length l.ahead
