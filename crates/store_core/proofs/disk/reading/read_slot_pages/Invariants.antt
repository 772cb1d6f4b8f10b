use Rattle.std.proofs.Common.{◌≡◌, map, take, drop}
use Rattle.host_model.specs.Images.{contents}
use Rattle.host_model.specs.Past.{of}
use Rattle.extent_file.specs.Slot.{tier_of}
use Rattle.store_core.specs.disk.Holds.{page_of_slots}
use Rattle.store_core.specs.disk.Reading.{AreNamed}
use Rattle.store_core.proofs.disk.reading.read_slot_pages.Given as goal

-- the pages up to the index, while nothing happened to the disk
abbrev pub invariant-loop-index : goal.invariant-loop-index
invariant-loop-index g l = record {
  past : g.H.Host.honest → (g.H.Host.seen l.host).past ≡ (g.H.Host.seen l.initial.host).past;
  named : g.H.Host.honest
      → AreNamed (tier_of l.extent.file) (drop l.extent.start (contents (of l.extent.file (g.H.Host.seen l.initial.host).past)))
      (take l.index l.extent.entries) (map page_of_slots l.pages);
  faults : (g.H.Host.seen l.host).disk_faults ≡ (g.H.Host.seen l.initial.host).disk_faults;
  output : (g.H.Host.seen l.host).tell_faults ≡ (g.H.Host.seen l.initial.host).tell_faults;
}
