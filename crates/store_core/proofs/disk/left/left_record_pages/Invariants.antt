use Rattle.std.proofs.Common.{◌≡◌}
use Rattle.store_core.proofs.disk.left.left_record_pages.Given as goal

-- nothing happened to the disk
abbrev pub invariant-loop-index : goal.invariant-loop-index
invariant-loop-index g l = record {
  past : g.H.Host.honest → (g.H.Host.seen l.host).past ≡ (g.H.Host.seen l.initial.host).past;
  faults : (g.H.Host.seen l.host).disk_faults ≡ (g.H.Host.seen l.initial.host).disk_faults;
  output : (g.H.Host.seen l.host).tell_faults ≡ (g.H.Host.seen l.initial.host).tell_faults;
}
