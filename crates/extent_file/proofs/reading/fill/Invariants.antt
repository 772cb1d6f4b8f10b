use Rattle.std.proofs.Common.{◌≡◌, take}
use Rattle.extent_file.proofs.reading.fill.Given as goal

abbrev pub invariant-loop-byte : goal.invariant-loop-byte
invariant-loop-byte l = l.page ≡ take l.byte-index l.bytes
