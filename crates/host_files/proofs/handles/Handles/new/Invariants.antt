use Rattle.std.proofs.Common.{◌≡◌, vec_len}
use Rattle.host_files.proofs.handles.Handles.new.Given as goal

abbrev pub invariant-loop : goal.invariant-loop
invariant-loop g l = vec_len l.handles ≡ l.counter
