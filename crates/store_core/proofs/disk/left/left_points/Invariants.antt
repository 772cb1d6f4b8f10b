use Rattle.std.proofs.Common.{◌≡◌, take}
use Rattle.host_model.specs.declared.file.File.TheVariants.{Tier0}
use Rattle.host_model.specs.Images.{contents}
use Rattle.host_model.specs.Past.{of}
use Rattle.store_core.specs.disk.Formed.{AllFormed}
use Rattle.store_core.proofs.disk.left.left_points.Given as goal

-- the extents up to the index, while nothing happened to the disk
abbrev pub invariant-loop-extent : goal.invariant-loop-extent
invariant-loop-extent g l = record {
  past : g.H.Host.honest → (g.H.Host.seen l.host).past ≡ (g.H.Host.seen l.initial.host).past;
  formed : g.H.Host.honest
      → AllFormed 0 l.items (contents (of Tier0 (g.H.Host.seen l.initial.host).past)) (take l.extent-index l.extents);
  faults : (g.H.Host.seen l.host).disk_faults ≡ (g.H.Host.seen l.initial.host).disk_faults;
  output : (g.H.Host.seen l.host).tell_faults ≡ (g.H.Host.seen l.initial.host).tell_faults;
}
