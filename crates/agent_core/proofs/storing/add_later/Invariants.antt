use Rattle.std.proofs.Common.{◌≡◌, ◌≤◌, ℕ, List, None, take}
use Rattle.history.specs.History.{Beat}
use Rattle.alarm_core.specs.UpTo.{IsUpTo}
use Rattle.tier_settings.specs.declared.settings.Settings.{Settings}
use Rattle.replication.specs.Copies.{latest as latest_of}
use Rattle.replication.specs.Names.{beat_moment}
use Rattle.store_core.specs.disk.Holds.{OnlyOwn}
use Rattle.store_core.specs.Store.{IsReady, IsReplayed}
use Rattle.agent_core.specs.Gaps.{side_share}
use Rattle.agent_core.specs.declared.left.Role.TheVariants.{Copies}
use Rattle.agent_core.specs.Bound.{GrowsWithin}
use Rattle.agent_core.specs.Stands.{HoldsHistory}
use Rattle.agent_core.specs.Left.{IsLeftBy}
use Rattle.agent_core.specs.Storing.{later_copies, MayTakeAll}
use Rattle.agent_core.proofs.PrefixLemmas.{HaveStored}
use Rattle.agent_core.proofs.storing.add_later.Given as goal

abbrev pub invariant-loop-beat : goal.invariant-loop-beat
invariant-loop-beat g l = record {
  stored : g.H.Host.honest → (set : Settings) (h : List Beat) → let more = later_copies l.initial.left.registry l.message l.beats in
      HoldsHistory (g.H.Host.seen l.initial.host).past l.initial.store set h → IsLeftBy set h l.initial.left → MayTakeAll h more
      → HaveStored (g.H.Host.seen l.initial.host).past (g.H.Host.seen l.host).past set h more l.beat-index l.store l.left l.events;
  registry : l.left.registry ≡ l.initial.left.registry;
  role : l.initial.left.role ≡ Copies l.message.child → l.left.role ≡ Copies l.message.child;
  ready : IsReady g.H.Host.honest (g.H.Host.seen l.host).past l.store;
  replayed : IsReplayed l.store;
  going : l.store.fault ≡ None;
  up_to : IsUpTo l.left.alarms l.left.registry;
  last : l.store.tiers.last ≡ latest_of beat_moment l.initial.store.tiers.last (take l.beat-index l.beats);
  settings : l.store.body.settings ≡ l.initial.store.body.settings;
  bound : g.H.Host.honest → (set : Settings) (h : List Beat) → HoldsHistory (g.H.Host.seen l.initial.host).past l.initial.store set h → IsLeftBy set h l.initial.left
      → MayTakeAll h (later_copies l.initial.left.registry l.message l.beats) → (limit : ℕ) → side_share set ≤ limit
      → GrowsWithin set limit (g.H.Host.seen l.initial.host).past l.initial.store (g.H.Host.seen l.host).past l.store;
  gaps : l.left.gaps ≡ l.initial.left.gaps;
  only_here : g.H.Host.honest → OnlyOwn (g.H.Host.seen l.initial.host).past (g.H.Host.seen l.host).past;
  faults : (g.H.Host.seen l.host).disk_faults ≡ (g.H.Host.seen l.initial.host).disk_faults;
  tells : (g.H.Host.seen l.host).tell_faults ≡ (g.H.Host.seen l.initial.host).tell_faults;
}
