use Rattle.std.proofs.Common.{◌≡◌, ◌++◌, flat_map, take}
use Rattle.checkpoint_body.specs.Fields.{quota_bytes}
use Rattle.checkpoint_body.proofs.writing.put_quotas.Given as goal

abbrev pub invariant-loop-tier : goal.invariant-loop-tier
invariant-loop-tier l = l.writer ≡ l.fn.writer ++ flat_map quota_bytes (take l.tier-index l.tiers)
