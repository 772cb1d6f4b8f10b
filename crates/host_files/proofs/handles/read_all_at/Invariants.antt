use Rattle.std.proofs.Common.{◌≤◌, length}
use Rattle.host_files.proofs.handles.read_all_at.Given as goal

abbrev pub invariant-loop : goal.invariant-loop
invariant-loop g l = l.filled ≤ length l.into
