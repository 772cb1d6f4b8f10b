use Rattle.std.proofs.Common.{◌≡◌, ◌<◌, ◌^◌}
use Rattle.extent_file.specs.Fields.{GoesOn}
use Rattle.extent_file.proofs.field.first_wrong.Given as goal

abbrev pub invariant-loop-place : goal.invariant-loop-place
invariant-loop-place l = record {
  unit : l.unit ≡ 256 ^ l.place;
  goes_on : 0 < l.place → GoesOn l.field l.place l.bytes;
}
