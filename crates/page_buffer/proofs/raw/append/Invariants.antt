use Rattle.std.proofs.Common.{◌≡◌, ◌++◌, take}
use Rattle.page_buffer.proofs.raw.append.Given as goal

abbrev pub invariant-loop-byte : goal.invariant-loop-byte
invariant-loop-byte l = l.page ≡ l.initial.page ++ take l.byte-index l.bytes
