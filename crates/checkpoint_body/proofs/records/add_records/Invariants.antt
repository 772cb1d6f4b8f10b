use Rattle.std.proofs.Common.{◌≡◌, ◌+◌, ◌*◌, ◌<◌, ◌++◌, drop, length}
use Rattle.checkpoint_body.specs.Records.{records_from}
use Rattle.checkpoint_body.proofs.records.add_records.Given as goal

abbrev pub invariant-loop-record : goal.invariant-loop-record
invariant-loop-record l = record {
  moment : l.record-index < length l.record-items → l.moment ≡ l.page.first + l.record-index * l.page.step;
  points : l.items ++ records_from l.page.series l.page.step (l.page.first + l.record-index * l.page.step) (drop l.record-index l.record-items)
      ≡ l.fn.items ++ records_from l.page.series l.page.step l.page.first l.record-items;
}
