use Rattle.std.proofs.Common.{◌≡◌, length, map, take}
use Rattle.host_model.specs.declared.file.File.TheVariants.{Tier0}
use Rattle.host_model.specs.Images.{contents}
use Rattle.host_model.specs.Past.{of}
use Rattle.store_core.specs.disk.Holds.{page_of_slots, Lie}
use Rattle.store_core.proofs.disk.reading.read_points.Given as goal

-- the extents up to the index, while nothing happened to the disk
abbrev pub invariant-loop-extent : goal.invariant-loop-extent
invariant-loop-extent g l = record {
  past : g.H.Host.honest → (g.H.Host.seen l.host).past ≡ (g.H.Host.seen l.initial.host).past;
  lie : g.H.Host.honest
      → Lie 0 l.items (contents (of Tier0 (g.H.Host.seen l.initial.host).past)) (take l.extent-index l.extents)
      (map (map page_of_slots) l.kept);
  counted : length l.kept ≡ l.extent-index;
  faults : (g.H.Host.seen l.host).disk_faults ≡ (g.H.Host.seen l.initial.host).disk_faults;
  output : (g.H.Host.seen l.host).tell_faults ≡ (g.H.Host.seen l.initial.host).tell_faults;
}
