use Rattle.std.proofs.Common.{◌≡◌, take}
use Rattle.checkpoint_body.specs.Records.{records_of}
use Rattle.checkpoint_body.proofs.records.records_of.Given as goal

abbrev pub invariant-loop-page : goal.invariant-loop-page
invariant-loop-page l = l.items ≡ records_of (take l.page-index l.pages)
