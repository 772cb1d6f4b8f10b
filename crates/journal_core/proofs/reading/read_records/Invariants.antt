use Rattle.std.proofs.Common.{◌≡◌, ◌-◌, ◌≤◌}
use Rattle.host_model.specs.Images.{contents}
use Rattle.host_model.specs.Past.{of}
use Rattle.journal_core.specs.Piece.{ReadsAhead}
use Rattle.journal_core.proofs.ReadLemmas.{Reached}
use Rattle.journal_core.proofs.reading.read_records.Given as goal

-- the host is where it was, and the records before the place have been read
pub record Keeps (honest : Type 0) (behind inside past : Type 0) (ahead reached : Type 0) (faults output : Type 0) : Type 0 where
  pub after : behind
  pub within : inside
  pub same : honest → past
  pub read_ahead : honest → ahead
  pub read : honest → reached
  pub unfailed : faults
  pub said : output

abbrev pub invariant-loop-records : goal.invariant-loop-records
invariant-loop-records g l =
    Keeps g.H.Host.honest (16 ≤ l.place) (l.place ≤ l.size) ((g.H.Host.seen l.host).past ≡ (g.H.Host.seen l.fn.host).past)
    (ReadsAhead (contents (of l.file (g.H.Host.seen l.fn.host).past)) l.piece)
    (Reached (contents (of l.file (g.H.Host.seen l.fn.host).past)) l.place l.records)
    ((g.H.Host.seen l.host).disk_faults ≡ (g.H.Host.seen l.fn.host).disk_faults)
    ((g.H.Host.seen l.host).tell_faults ≡ (g.H.Host.seen l.fn.host).tell_faults)

abbrev pub decreases-loop-records : goal.decreases-loop-records
decreases-loop-records g l = l.size - l.place
