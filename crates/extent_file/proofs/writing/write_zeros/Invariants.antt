use Rattle.std.proofs.Common.{◌≡◌, ◌≤◌, ◌-◌, ℕ, List, length, max}
use Rattle.host_model.specs.Images.{contents, greatest}
use Rattle.host_model.specs.Past.{Event, of}
use Rattle.host_model.specs.Moments.{Throughout, OnlyOn}
use Rattle.host_model.proofs.RunLemmas.{RunsFrom}
use Rattle.extent_file.specs.Writing.{filled_to}
use Rattle.extent_file.proofs.writing.write_zeros.Given as goal

abbrev pub invariant-loop-at : goal.invariant-loop-at
invariant-loop-at g l = record {
  behind : l.len ≤ l.at;
  short : l.at ≤ max l.len l.end;
  end : g.H.Host.honest → l.at ≡ length (contents (of l.file (g.H.Host.seen l.host).past));
  zeros : g.H.Host.honest → contents (of l.file (g.H.Host.seen l.host).past) ≡ filled_to l.at (contents (of l.file (g.H.Host.seen l.initial.host).past));
  moments : g.H.Host.honest → Throughout (RunsFrom l.file l.len (g.H.Host.seen l.initial.host).past) (g.H.Host.seen l.initial.host).past (g.H.Host.seen l.host).past;
  only_here : g.H.Host.honest → Throughout (OnlyOn l.file (g.H.Host.seen l.initial.host).past) (g.H.Host.seen l.initial.host).past (g.H.Host.seen l.host).past;
  bound : (size : ℕ) → l.end ≤ size → g.H.Host.honest → greatest (of l.file (g.H.Host.seen l.initial.host).past) ≤ size
      → Throughout (λ (past : List Event). greatest (of l.file past) ≤ size) (g.H.Host.seen l.initial.host).past (g.H.Host.seen l.host).past;
  faults : (g.H.Host.seen l.host).disk_faults ≡ (g.H.Host.seen l.initial.host).disk_faults;
  output : (g.H.Host.seen l.host).tell_faults ≡ (g.H.Host.seen l.initial.host).tell_faults;
}

abbrev pub decreases-loop-at : goal.decreases-loop-at
decreases-loop-at g l = l.end - l.at
