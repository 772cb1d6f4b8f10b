use Rattle.std.proofs.Common.{[], ap, refl, sym, ◌∙◌, true≢false}
use Rattle.std.proofs.lemmas.Result.{err_from_is_err_and}
use Rattle.host_model.proofs.MomentLemmas.{at_end}
use Rattle.host_model.specs.Seen.{Seen}
use Rattle.tier_settings.specs.declared.settings.Settings.{Settings}
use Rattle.store_core.specs.declared.fault.CreateFault.TheVariants.{DiskFault, Exists, Memory}
use Rattle.agent_core.proofs.GapLemmas.{floor-none}
use Rattle.agent_core.proofs.NewLemmas.{before-at_end, done-cause, made-told, new_climbs, new_is_of, not-made}
use Rattle.agent_core.proofs.OpenFaults.{told-cause, told-on}
use Rattle.agent_core.proofs.SideSizes.{new-short}
use Rattle.agent_core.proofs.agent.Agent.create.Goals as goal

pub returns-in_err-left : goal.returns-in_err-left
returns-in_err-left g c =
    let error = err_from_is_err_and c.from_residual.result c.from_residual.ensures.1 in
    rw (error.1, error.2) (not-made g.H.Host.honest (g.H.Host.seen c.args.host.now) c.args.settings.now)

pub returns-in_err-side : goal.returns-in_err-side
returns-in_err-side g c =
    let error = err_from_is_err_and c.from_residual-in_err-side.result c.from_residual-in_err-side.ensures.1 in
    rw (error.1, error.2) (not-made g.H.Host.honest (g.H.Host.seen c.args.host.now) c.args.settings.now)

pub returns : goal.returns
returns g c =
    let set = c.args.settings.now in
    let side = c.in_ok-side.side in
    let old = (g.H.Host.seen c.args.host.now).past in
    let new = (g.H.Host.seen c.create.new.host).past in
    let left = c.in_ok-left.ensures.left set in
    let fit = c.in_ok-left.ensures.fit in
    let is = c.in_ok-side.ensures.side set [] [] tt left (floor-none set) in
    record {
      any_moment = λ true_host. new_climbs set side c.requires is old new (c.create.ensures.any_moment true_host);
      created = λ true_host. new_is_of set side c.requires is new c.in_ok-store.store _ (c.in_ok-store.ensures.created true_host) left refl refl refl refl;
      ready = λ going. record {
        store = c.in_ok-store.ensures.ready;
        replayed = c.in_ok-store.ensures.replayed;
        going = c.in_ok-store.ensures.going;
        same_last = c.in_ok-store.ensures.last;
        up_to = fit.up_to;
        charts = fit.charts;
        dimensions = fit.dimensions;
        limits = fit.limits;
      };
      new = record { id = ap (λ (s : Settings). s.id) c.in_ok-store.ensures.settings; count = refl; last_is = refl; going = refl };
      exists = λ told. absurd cc;
      none = c.in_ok-store.ensures.none;
      made = λ true_host made. absurd (true≢false (sym made ∙ c.in_ok-store.ensures.none true_host));
      made_moment = c.create.ensures.made_moment;
      memory = λ told. absurd cc;
      memory_moment = λ told. absurd cc;
      cause = done-cause _ _ c.create.result c.in_ok-store.store _ c.in_ok-store.was c.create.ensures.cause;
      bound = λ limit fits. c.create.ensures.bound limit (new-short set c.in_ok-left.left 0 left side c.in_ok-side.ensures.size limit fits);
      only_here = c.create.ensures.only_here;
      tells = c.create.ensures.output;
    }

pub returns-in_err-store : goal.returns-in_err-store
returns-in_err-store g c =
    let set = c.args.settings.now in
    let side = c.in_ok-side.side in
    let host : Seen = g.H.Host.seen c.args.host.now in
    let host' : Seen = g.H.Host.seen c.create.new.host in
    let left = c.in_ok-left.ensures.left set in
    let is = c.in_ok-side.ensures.side set [] [] tt left (floor-none set) in
    let fault = c.in_err-store.field-0.0 in
    let was = c.in_err-store.was in
    let error = err_from_is_err_and c.from_residual-in_err-store.result c.from_residual-in_err-store.ensures.1 in
    rw (error.1, error.2) (record {
      any_moment = λ true_host. new_climbs set side c.requires is host.past host'.past (c.create.ensures.any_moment true_host);
      created = tt;
      ready = tt;
      new = tt;
      exists = λ e. c.create.ensures.exists (told-on c.create.result fault Exists was e);
      none = tt;
      made = λ true_host made.
          let found = c.create.ensures.made true_host made in
          (made-told c.create.result fault was found.0, before-at_end host.past host'.past found.1 (c.create.ensures.made_moment true_host made));
      made_moment = c.create.ensures.made_moment;
      memory = λ e true_host.
          let short = told-on c.create.result fault Memory was e in
          record { same = c.create.ensures.memory short true_host; disks = at_end (c.create.ensures.memory_moment short true_host) };
      memory_moment = λ e. c.create.ensures.memory_moment (told-on c.create.result fault Memory was e);
      cause = told-cause host.disk_faults host'.disk_faults DiskFault c.create.result fault was c.create.ensures.cause;
      bound = λ limit fits. c.create.ensures.bound limit (new-short set c.in_ok-left.left 0 left side c.in_ok-side.ensures.size limit fits);
      only_here = c.create.ensures.only_here;
      tells = c.create.ensures.output;
    })
