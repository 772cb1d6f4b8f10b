use Rattle.std.proofs.Common.{List, true, sym, refl, inr, subst}
use Rattle.std.proofs.lemmas.Result.{err_from_is_err_and, IfErr-at_err, IfOk-weaker}
use Rattle.host_model.specs.Disks.{reads_as, EveryDisk}
use Rattle.host_model.specs.Seen.{Seen}
use Rattle.tier_settings.specs.declared.settings.Settings.{Settings}
use Rattle.history.specs.History.{Beat}
use Rattle.store_core.proofs.DamageLemmas.{one-damaged}
use Rattle.agent_core.specs.Calls.{Opens}
use Rattle.agent_core.specs.declared.fault.OpenFault.TheVariants.{DiskFault, Damaged}
use Rattle.agent_core.specs.Faults.{IsUnopened}
use Rattle.agent_core.specs.Notes.{NotesGo}
use Rattle.agent_core.specs.Stands.{StandsForHistory}
use Rattle.agent_core.proofs.NoteLemmas.{never-notes}
use Rattle.agent_core.proofs.OpenFaults.{damaged-is, damaged-made, err-weaker, never-below, never-none, no-notes, one-told, replayed-cause, told-cause, told-on, unopened-opening, unreplayed-opening}
use Rattle.agent_core.proofs.OpeningLemmas.{opened-for, opened-images, opened-left, opened-ready}
use Rattle.agent_core.proofs.Outcomes.{always, both_if, on_ok}
use Rattle.agent_core.proofs.agent.Agent.open.Goals as goal

-- a replay asks nothing of the host
pub returns : goal.returns
returns g c =
    let host : Seen = g.H.Host.seen c.args.host.now in
    let opened : Seen = g.H.Host.seen c.open_store.new.host in
    let disk = reads_as host.past in
    let result = c.replayed.result in
    let replay = c.replayed.ensures in
    let store = c.in_ok-store.store in
    subst (λ (s : Seen). Opens g.H.Host.honest host result s) (sym replay.host) (record {
      opened = IfOk-weaker result _ _ (λ agent is_of true_host set h stands. is_of opened.past set h (opened-for disk opened.past store (c.in_ok-store.ensures.opened true_host) set h stands)) replay.of;
      ready = both_if result _ _ _ replay.replayed replay.ready (λ agent has ready. opened-ready g.H.Host.honest opened.past store agent has (ready opened.past c.in_ok-store.ensures.ready));
      going = IfOk-weaker result _ _ (λ agent has. has.going) replay.replayed;
      left = IfOk-weaker result _ _ (λ agent left true_host body beats form. opened-left disk store.body body store.waiting beats agent (c.in_ok-store.ensures.form true_host) form left) replay.left;
      any_moment = c.open_store.ensures.any_moment;
      same = c.open_store.ensures.same;
      images = always (g.H.Host.honest → (set : Settings) (h : List Beat) → StandsForHistory set h disk → EveryDisk (StandsForHistory set h) opened.past) result
          (λ true_host set h stands. opened-images disk opened.past (c.in_ok-store.ensures.images true_host) set h stands);
      stands = λ true_host set h stands.
          err-weaker result _ _ (λ fault memory. inr (memory opened.past set h (opened-for disk opened.past store (c.in_ok-store.ensures.opened true_host) set h stands))) replay.stands;
      none = λ is. absurd (never-none (IfErr-at_err _ is replay.faults));
      some = always _ result c.in_ok-store.ensures.some;
      damaged = λ part below is. absurd (never-below part below (IfErr-at_err _ is replay.faults));
      parts = λ part below is. absurd (never-below part below (IfErr-at_err _ is replay.faults));
      first = λ part other is true_host damaged. absurd (c.in_ok-store.ensures.whole true_host other damaged);
      whole = always _ result c.in_ok-store.ensures.whole;
      made = λ part is. c.in_ok-store.ensures.some;
      notes = on_ok _ (g.H.Host.honest → NotesGo true disk) result replay.notes
          (λ go true_host. record { body = store.body; beats = store.waiting; form = c.in_ok-store.ensures.form true_host; notes = go });
      damaged_notes = λ is true_host. never-notes disk store.body store.waiting (c.in_ok-store.ensures.form true_host) (IfErr-at_err _ is replay.broken refl);
      faults = err-weaker result _ _ unreplayed-opening replay.faults;
      cause = replayed-cause host.disk_faults opened.disk_faults c.open_store.result store result c.in_ok-store.was c.open_store.ensures.cause replay.faults;
      bound = c.open_store.ensures.bound;
      only_here = c.open_store.ensures.only_here;
      tells = c.open_store.ensures.tells;
    })

pub returns-in_err-store : goal.returns-in_err-store
returns-in_err-store g c =
    let host : Seen = g.H.Host.seen c.args.host.now in
    let disk = reads_as host.past in
    let fault = c.in_err-store.field-0.0 in
    let asked = c.open_store.ensures in
    let error = err_from_is_err_and c.from_residual.result c.from_residual.ensures.1 in
    rw (error.1, error.2) (record {
      opened = tt;
      ready = tt;
      going = tt;
      left = tt;
      any_moment = asked.any_moment;
      same = asked.same;
      images = tt;
      stands = λ true_host set h stands. c.in_err-store.ensures.stands true_host stands.stored stands.stands;
      none = λ is. asked.none (told-on c.open_store.result fault _ c.in_err-store.was is);
      some = tt;
      damaged = λ part below is true_host. damaged-is part disk (asked.damaged part (told-on c.open_store.result fault (Damaged part) c.in_err-store.was is) true_host);
      parts = λ part below is. asked.damaged part (told-on c.open_store.result fault (Damaged part) c.in_err-store.was is);
      first = λ part other is true_host damaged. one-damaged other part disk damaged (asked.damaged part (told-on c.open_store.result fault (Damaged part) c.in_err-store.was is) true_host);
      whole = tt;
      made = λ part is true_host. damaged-made part disk (asked.damaged part (told-on c.open_store.result fault (Damaged part) c.in_err-store.was is) true_host);
      notes = tt;
      damaged_notes = λ is true_host notes. no-notes (subst IsUnopened (one-told fault (Damaged 5) is) c.in_err-store.ensures.faults);
      faults = unopened-opening fault c.in_err-store.ensures.faults;
      cause = told-cause host.disk_faults (g.H.Host.seen c.open_store.new.host).disk_faults DiskFault c.open_store.result fault c.in_err-store.was asked.cause;
      bound = asked.bound;
      only_here = asked.only_here;
      tells = asked.tells;
    })
