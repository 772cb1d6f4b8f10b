use Rattle.std.proofs.Common.{◌≡◌, List, None, length}
use Rattle.host_model.specs.Past.{Event}
use Rattle.history.specs.History.{Beat}
use Rattle.tier_settings.specs.declared.settings.Settings.{Settings}
use Rattle.store_core.specs.declared.beats.beat.Beat.{Beat as StoreBeat}
use Rattle.store_core.specs.Store.{IsReady}
use Rattle.agent_core.specs.Left.{IsFit}
use Rattle.agent_core.specs.Notes.{Noted}
use Rattle.agent_core.specs.Replay.{HasTaken, IsReplaying}
use Rattle.agent_core.proofs.replaying.replay_all.Given as goal

abbrev pub decreases-loop : goal.decreases-loop
decreases-loop g l = length l.store.waiting

abbrev pub invariant-loop : goal.invariant-loop
invariant-loop g l = record {
  host : g.H.Host.seen l.host ≡ g.H.Host.seen l.initial.host;
  replaying : (past : List Event) (set : Settings) (h : List Beat) → IsReplaying past l.initial.store l.initial.left set h → IsReplaying past l.store l.left set h;
  notes : (start : Noted) (beats : List StoreBeat) → HasTaken start beats l.initial.store l.initial.left → HasTaken start beats l.store l.left;
  ready : (past : List Event) → IsReady g.H.Host.honest past l.initial.store → IsReady g.H.Host.honest past l.store;
  going : l.store.fault ≡ None;
  files : l.store.files ≡ l.initial.store.files;
  body : l.store.body ≡ l.initial.store.body;
  fit : IsFit l.left;
}
