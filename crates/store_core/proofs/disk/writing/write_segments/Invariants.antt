use Rattle.std.proofs.Common.{◌≡◌, ℕ, ◌<◌, ◌≤◌, map, get_or, List}
use Rattle.host_model.specs.Images.{contents, greatest, IsSynced}
use Rattle.host_model.specs.Past.{of}
use Rattle.host_model.specs.Moments.{Throughout, EveryImage, OnlyOn}
use Rattle.extent_file.specs.Slot.{tier_of}
use Rattle.store_core.specs.disk.Next.{Written}
use Rattle.store_core.specs.disk.Shares.{EndWithin}
use Rattle.store_core.specs.disk.Standing.{AllStand, AreBeside, StandsIn}
use Rattle.store_core.proofs.disk.writing.write_segments.Given as goal

abbrev pub invariant-loop-segment : goal.invariant-loop-segment
invariant-loop-segment g l =
    (g.H.Host.honest → IsSynced (of l.file (g.H.Host.seen l.host).past))
    × (g.H.Host.honest → (others : List Written) → AreBeside others (map g.S.Segment.written l.segments) → EveryImage l.file (AllStand (tier_of l.file) l.items others) (g.H.Host.seen l.fn.host).past
    → Throughout (EveryImage l.file (AllStand (tier_of l.file) l.items others)) (g.H.Host.seen l.fn.host).past (g.H.Host.seen l.host).past)
    × (g.H.Host.honest → (k : ℕ) (d : Written) → k < l.segment-index
    → StandsIn (tier_of l.file) l.items (contents (of l.file (g.H.Host.seen l.host).past)) (get_or (map g.S.Segment.written l.segments) k d))
    × (g.H.Host.honest → OnlyOn l.file (g.H.Host.seen l.fn.host).past (g.H.Host.seen l.host).past)
    × ((g.H.Host.seen l.host).disk_faults ≡ (g.H.Host.seen l.fn.host).disk_faults)
    × ((g.H.Host.seen l.host).tell_faults ≡ (g.H.Host.seen l.fn.host).tell_faults)
    × ((size : ℕ) → EndWithin (tier_of l.file) l.items size (map g.S.Segment.written l.segments) → g.H.Host.honest → greatest (of l.file (g.H.Host.seen l.fn.host).past) ≤ size
    → Throughout (λ past. greatest (of l.file past) ≤ size) (g.H.Host.seen l.fn.host).past (g.H.Host.seen l.host).past)
