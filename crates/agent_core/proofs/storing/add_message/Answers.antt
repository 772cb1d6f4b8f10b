use Rattle.std.proofs.Common.{◌≡◌, ◌<◌, List, Ok, Err, length, refl, sym, ap, subst, ◌∙◌}
use Rattle.std.proofs.lemmas.Result.{err_from_is_err_and, IfOk-weaker}
use Rattle.host_model.specs.Disks.{EveryDisk}
use Rattle.host_model.specs.Moments.{begins, Throughout}
use Rattle.host_model.proofs.MomentLemmas.{joined}
use Rattle.history.specs.declared.beat.OpenBeat.{OpenBeat}
use Rattle.history.specs.History.{Beat}
use Rattle.history.specs.Registry.{same_chart, same_dimension, Registry, with_definitions}
use Rattle.history.specs.Regular.{AreApart}
use Rattle.replication.specs.declared.beats.Beat.{Beat as SentBeat}
use Rattle.agent_core.specs.declared.fault.AgentFault.TheVariants.{Memory}
use Rattle.agent_core.specs.declared.left.Left.{Left}
use Rattle.agent_core.specs.Copying.{definitions_in, names_refusal}
use Rattle.agent_core.specs.Kept.{onto}
use Rattle.agent_core.specs.Stands.{StandsForPrefix}
use Rattle.agent_core.specs.Rules.{lacks_chart, HasLimits, IsOpenBeat}
use Rattle.agent_core.specs.Storing.{gap_beats, sent_copies, with_names, HasAdded, MayTakeAll}
use Rattle.agent_core.proofs.PrefixLemmas.{prefix-none, message-added, message-before, message-behind, message-takes}
use Rattle.agent_core.proofs.KeepsLemmas.{keeps-after, keeps-both, keeps-err}
use Rattle.agent_core.proofs.KeptLemmas.{stays, store-last}
use Rattle.agent_core.proofs.Outcomes.{on_ok}
use Rattle.agent_core.proofs.StoredLemmas.{were_kept}
use Rattle.agent_core.proofs.TakenLemmas.{defined-has, defined-open}
use Rattle.agent_core.proofs.Within.{within-of}
use Rattle.agent_core.proofs.BoundLemmas.{grows-both, grows-none}
use Rattle.agent_core.proofs.storing.add_message.Goals as goal

pub returns-in_err-defs-clause-any_moment : goal.returns-in_err-defs-clause-any_moment
returns-in_err-defs-clause-any_moment g c true_host set h holds was role = begins (λ disk images. (0, stays (g.H.Host.seen c.args.host.now).past c.args.store.now set h holds disk images))

pub define-requires-clause-is_open : goal.define-requires-clause-is_open
define-requires-clause-is_open g c =
    let message = c.args.message.now in
    let form = c.requires.form in
    subst IsOpenBeat (sym c.in_ok-defs.ensures) (defined-open message.names form.charts form.ids form.apart form.whole.names)

pub define-requires-clause-has_charts : goal.define-requires-clause-has_charts
define-requires-clause-has_charts g c =
    let message = c.args.message.now in
    let form = c.requires.form in
    ap (lacks_chart c.add_gap_before.new.left.registry) c.in_ok-defs.ensures ∙ defined-has message.names form.charts form.ids form.apart form.whole.names c.add_gap_before.new.left.registry

pub returns-in_err-add_gap_before-clause-any_moment : goal.returns-in_err-add_gap_before-clause-any_moment
returns-in_err-add_gap_before-clause-any_moment g c true_host set h holds was role =
    message-before set h c.args.left.now.registry c.args.message.now (g.H.Host.seen c.args.host.now).past (g.H.Host.seen c.add_gap_before.new.host).past (c.add_gap_before.ensures.any_moment true_host set h holds was role)

pub returns-in_err-make_room-clause-any_moment : goal.returns-in_err-make_room-clause-any_moment
returns-in_err-make_room-clause-any_moment g c true_host set h holds was role =
    let past = (g.H.Host.seen c.args.host.now).past in
    let middle = (g.H.Host.seen c.add_gap_before.new.host).past in
    let roomed = (g.H.Host.seen c.make_room.new.host).past in
    let registry = c.args.left.now.registry in
    let message = c.args.message.now in
    let behind = onto h (gap_beats message) in
    let kept = c.in_ok-add_gap_before.ensures.done true_host set h holds was role in
    let left = c.in_ok-add_gap_before.ensures.left_by (g.H.Host.seen c.args.host.now).past set h holds was in
    joined (message-before set h registry message past middle (c.add_gap_before.ensures.any_moment true_host set h holds was role))
    (message-behind set h registry message middle roomed (prefix-none set behind (sent_copies (with_names registry message) message message.beats) middle roomed (c.make_room.ensures.any_moment true_host set behind kept left)))

pub returns-in_err-numbers-clause-any_moment : goal.returns-in_err-numbers-clause-any_moment
returns-in_err-numbers-clause-any_moment g c true_host set h holds was role =
    let past = (g.H.Host.seen c.args.host.now).past in
    let middle = (g.H.Host.seen c.add_gap_before.new.host).past in
    let roomed = (g.H.Host.seen c.make_room.new.host).past in
    let registry = c.args.left.now.registry in
    let message = c.args.message.now in
    let behind = onto h (gap_beats message) in
    let kept = c.in_ok-add_gap_before.ensures.done true_host set h holds was role in
    let left = c.in_ok-add_gap_before.ensures.left_by (g.H.Host.seen c.args.host.now).past set h holds was in
    joined (message-before set h registry message past middle (c.add_gap_before.ensures.any_moment true_host set h holds was role))
    (message-behind set h registry message middle roomed (prefix-none set behind (sent_copies (with_names registry message) message message.beats) middle roomed (c.make_room.ensures.any_moment true_host set behind kept left)))

pub returns-clause-any_moment : goal.returns-clause-any_moment
returns-clause-any_moment g c true_host set h holds was role =
    let past = (g.H.Host.seen c.args.host.now).past in
    let middle = (g.H.Host.seen c.add_gap_before.new.host).past in
    let registry = c.args.left.now.registry in
    let message = c.args.message.now in
    let gone = c.add_gap_before.new.left in
    let same_registry : gone.registry ≡ registry = ap (λ (l : Left). l.registry) c.add_gap_before.ensures.only in
    let defined : c.define.new.registry ≡ with_names gone.registry message = c.in_ok-numbers.ensures.applied ∙ ap (λ (defs : OpenBeat). with_definitions gone.registry defs.charts defs.dimensions) c.in_ok-defs.ensures in
    let is : c.define.new.registry ≡ with_names registry message = defined ∙ ap (λ (r : Registry). with_names r message) same_registry in
    let beats = c.as_slice-beats.result.now in
    let same : sent_copies c.define.new.registry message beats ≡ sent_copies (with_names registry message) message message.beats = λ i. sent_copies (is i) message (c.as_slice-beats.ensures i) in
    let prev = c.requires.at ∙ store-last past c.args.store.now set h holds in
    let behind = onto h (gap_beats message) in
    let all = subst (MayTakeAll behind) (sym same)
    (message-takes set h registry message c.requires.form (let all = were_kept set h holds.stored holds.are in within-of h all.beats all.are) was.registry_is role c.requires.free prev) in
    let roomed = (g.H.Host.seen c.make_room.new.host).past in
    let was_kept = c.in_ok-add_gap_before.ensures.done true_host set h holds was role in
    let left = c.in_ok-add_gap_before.ensures.left_by (g.H.Host.seen c.args.host.now).past set h holds was in
    let kept = c.in_ok-make_room.ensures.done true_host set behind was_kept left in
    let new = (g.H.Host.seen c.add_beats.new.host).past in
    let begun = message-before set h registry message past middle (c.add_gap_before.ensures.any_moment true_host set h holds was role) in
    let room = prefix-none set behind (sent_copies (with_names registry message) message message.beats) middle roomed (c.make_room.ensures.any_moment true_host set behind was_kept left) in
    let went = subst (λ (more : List Beat). Throughout (EveryDisk (StandsForPrefix set behind more)) roomed new) same (c.add_beats.ensures.any_moment true_host gone.registry set behind kept left defined all) in
    joined begun (message-behind set h registry message middle new (joined room went))

pub returns-clause-done : goal.returns-clause-done
returns-clause-done g c =
    IfOk-weaker c.add_beats.result _ _ (λ events did true_host set h holds was role.
    let past = (g.H.Host.seen c.args.host.now).past in
    let middle = (g.H.Host.seen c.add_gap_before.new.host).past in
    let registry = c.args.left.now.registry in
    let message = c.args.message.now in
    let gone = c.add_gap_before.new.left in
    let same_registry : gone.registry ≡ registry = ap (λ (l : Left). l.registry) c.add_gap_before.ensures.only in
    let defined : c.define.new.registry ≡ with_names gone.registry message = c.in_ok-numbers.ensures.applied ∙ ap (λ (defs : OpenBeat). with_definitions gone.registry defs.charts defs.dimensions) c.in_ok-defs.ensures in
    let is : c.define.new.registry ≡ with_names registry message = defined ∙ ap (λ (r : Registry). with_names r message) same_registry in
    let beats = c.as_slice-beats.result.now in
    let same : sent_copies c.define.new.registry message beats ≡ sent_copies (with_names registry message) message message.beats = λ i. sent_copies (is i) message (c.as_slice-beats.ensures i) in
    let prev = c.requires.at ∙ store-last past c.args.store.now set h holds in
    let behind = onto h (gap_beats message) in
    let all = subst (MayTakeAll behind) (sym same)
    (message-takes set h registry message c.requires.form (let all = were_kept set h holds.stored holds.are in within-of h all.beats all.are) was.registry_is role c.requires.free prev) in
    let was_kept = c.in_ok-add_gap_before.ensures.done true_host set h holds was role in
    let left = c.in_ok-add_gap_before.ensures.left_by (g.H.Host.seen c.args.host.now).past set h holds was in
    let kept = c.in_ok-make_room.ensures.done true_host set behind was_kept left in
    let some : 0 < length beats = subst (λ (bs : List SentBeat). 0 < length bs) (sym c.as_slice-beats.ensures) c.requires.form.moments.some in
    message-added set h registry message (g.H.Host.seen c.add_beats.new.host).past c.add_beats.new.store c.add_beats.new.left events
    (subst (λ (more : List Beat). HasAdded (g.H.Host.seen c.add_beats.new.host).past c.add_beats.new.store c.add_beats.new.left set behind more events) same (did true_host gone.registry set behind kept left defined all some)))
    c.add_beats.ensures.done

pub define-requires-clause-free : goal.define-requires-clause-free
define-requires-clause-free g c =
    ap (names_refusal c.add_gap_before.new.left.registry) c.in_ok-defs.ensures ∙ ap (λ (l : Left). names_refusal l.registry (definitions_in c.args.message.now.names)) c.add_gap_before.ensures.only ∙ c.requires.free

pub returns-clause-role : goal.returns-clause-role
returns-clause-role g c =
    let some : 0 < length c.as_slice-beats.result.now = subst (λ (bs : List SentBeat). 0 < length bs) (sym c.as_slice-beats.ensures) c.requires.form.moments.some in
    on_ok _ _ c.add_beats.result c.add_beats.ensures.role (λ role. role some)

pub returns-clause-up_to : goal.returns-clause-up_to
returns-clause-up_to g c =
    let some : 0 < length c.as_slice-beats.result.now = subst (λ (bs : List SentBeat). 0 < length bs) (sym c.as_slice-beats.ensures) c.requires.form.moments.some in
    on_ok _ _ c.add_beats.result c.add_beats.ensures.up_to (λ up_to. up_to some)

pub returns-in_err-make_room-clause-keeps : goal.returns-in_err-make_room-clause-keeps
returns-in_err-make_room-clause-keeps g c =
    let p = err_from_is_err_and c.from_residual-in_err-make_room.result c.from_residual-in_err-make_room.ensures.1 in
    rw (p.1, p.2) (keeps-err g.H.Host.honest (g.H.Host.seen c.args.host.now) (g.H.Host.seen c.make_room.new.host) c.args.store.now c.make_room.new.store c.in_err-make_room.field-0.0
    (keeps-both g.H.Host.honest (g.H.Host.seen c.args.host.now) (g.H.Host.seen c.add_gap_before.new.host) (g.H.Host.seen c.make_room.new.host) c.args.store.now c.add_gap_before.new.store c.make_room.new.store c.in_ok-add_gap_before.field-0 (Err c.in_err-make_room.field-0.0) c.in_ok-add_gap_before.ensures.keeps c.in_err-make_room.ensures.keeps))

pub returns-in_err-numbers-clause-keeps : goal.returns-in_err-numbers-clause-keeps
returns-in_err-numbers-clause-keeps g c =
    let p = err_from_is_err_and c.from_residual-in_err-numbers.result c.from_residual-in_err-numbers.ensures.1 in
    rw (p.1, p.2) (keeps-after g.H.Host.honest (g.H.Host.seen c.args.host.now) (g.H.Host.seen c.make_room.new.host) (g.H.Host.seen c.make_room.new.host) c.args.store.now c.make_room.new.store c.make_room.new.store c.in_ok-make_room.field-0 (Err Memory)
    (keeps-both g.H.Host.honest (g.H.Host.seen c.args.host.now) (g.H.Host.seen c.add_gap_before.new.host) (g.H.Host.seen c.make_room.new.host) c.args.store.now c.add_gap_before.new.store c.make_room.new.store c.in_ok-add_gap_before.field-0 (Ok c.in_ok-make_room.field-0) c.in_ok-add_gap_before.ensures.keeps c.in_ok-make_room.ensures.keeps) refl refl refl)

pub returns-clause-keeps : goal.returns-clause-keeps
returns-clause-keeps g c =
    keeps-both g.H.Host.honest (g.H.Host.seen c.args.host.now) (g.H.Host.seen c.make_room.new.host) (g.H.Host.seen c.add_beats.new.host) c.args.store.now c.make_room.new.store c.add_beats.new.store c.in_ok-make_room.field-0 c.add_beats.result
    (keeps-both g.H.Host.honest (g.H.Host.seen c.args.host.now) (g.H.Host.seen c.add_gap_before.new.host) (g.H.Host.seen c.make_room.new.host) c.args.store.now c.add_gap_before.new.store c.make_room.new.store c.in_ok-add_gap_before.field-0 (Ok c.in_ok-make_room.field-0) c.in_ok-add_gap_before.ensures.keeps c.in_ok-make_room.ensures.keeps) c.add_beats.ensures.keeps

pub returns-in_err-defs-clause-bound : goal.returns-in_err-defs-clause-bound
returns-in_err-defs-clause-bound g c true_host set h holds was role limit fits =
    grows-none set limit (g.H.Host.seen c.args.host.now).past c.args.store.now

pub returns-in_err-add_gap_before-clause-bound : goal.returns-in_err-add_gap_before-clause-bound
returns-in_err-add_gap_before-clause-bound g c true_host set h holds was role limit fits =
    c.add_gap_before.ensures.bound true_host set h holds was limit fits

pub returns-in_err-make_room-clause-bound : goal.returns-in_err-make_room-clause-bound
returns-in_err-make_room-clause-bound g c true_host set h holds was role limit fits =
    let past = (g.H.Host.seen c.args.host.now).past in
    let middle = (g.H.Host.seen c.add_gap_before.new.host).past in
    let roomed = (g.H.Host.seen c.make_room.new.host).past in
    let behind = onto h (gap_beats c.args.message.now) in
    let kept = c.in_ok-add_gap_before.ensures.done true_host set h holds was role in
    let left = c.in_ok-add_gap_before.ensures.left_by past set h holds was in
    let room = grows-both set limit past middle roomed c.args.store.now c.add_gap_before.new.store c.make_room.new.store (c.add_gap_before.ensures.bound true_host set h holds was limit fits)
    (c.make_room.ensures.bound true_host set behind kept left limit fits) in
    room

pub returns-in_err-numbers-clause-bound : goal.returns-in_err-numbers-clause-bound
returns-in_err-numbers-clause-bound g c true_host set h holds was role limit fits =
    let past = (g.H.Host.seen c.args.host.now).past in
    let middle = (g.H.Host.seen c.add_gap_before.new.host).past in
    let roomed = (g.H.Host.seen c.make_room.new.host).past in
    let behind = onto h (gap_beats c.args.message.now) in
    let kept = c.in_ok-add_gap_before.ensures.done true_host set h holds was role in
    let left = c.in_ok-add_gap_before.ensures.left_by past set h holds was in
    let room = grows-both set limit past middle roomed c.args.store.now c.add_gap_before.new.store c.make_room.new.store (c.add_gap_before.ensures.bound true_host set h holds was limit fits)
    (c.make_room.ensures.bound true_host set behind kept left limit fits) in
    room

pub returns-clause-bound : goal.returns-clause-bound
returns-clause-bound g c true_host set h holds was role limit fits =
    let past = (g.H.Host.seen c.args.host.now).past in
    let middle = (g.H.Host.seen c.add_gap_before.new.host).past in
    let roomed = (g.H.Host.seen c.make_room.new.host).past in
    let new = (g.H.Host.seen c.add_beats.new.host).past in
    let registry = c.args.left.now.registry in
    let message = c.args.message.now in
    let gone = c.add_gap_before.new.left in
    let same_registry : gone.registry ≡ registry = ap (λ (l : Left). l.registry) c.add_gap_before.ensures.only in
    let defined : c.define.new.registry ≡ with_names gone.registry message = c.in_ok-numbers.ensures.applied ∙ ap (λ (defs : OpenBeat). with_definitions gone.registry defs.charts defs.dimensions) c.in_ok-defs.ensures in
    let is : c.define.new.registry ≡ with_names registry message = defined ∙ ap (λ (r : Registry). with_names r message) same_registry in
    let beats = c.as_slice-beats.result.now in
    let same : sent_copies c.define.new.registry message beats ≡ sent_copies (with_names registry message) message message.beats = λ i. sent_copies (is i) message (c.as_slice-beats.ensures i) in
    let prev = c.requires.at ∙ store-last past c.args.store.now set h holds in
    let behind = onto h (gap_beats message) in
    let all = subst (MayTakeAll behind) (sym same)
    (message-takes set h registry message c.requires.form (let all = were_kept set h holds.stored holds.are in within-of h all.beats all.are) was.registry_is role c.requires.free prev) in
    let was_kept = c.in_ok-add_gap_before.ensures.done true_host set h holds was role in
    let left = c.in_ok-add_gap_before.ensures.left_by past set h holds was in
    let kept = c.in_ok-make_room.ensures.done true_host set behind was_kept left in
    let room = grows-both set limit past middle roomed c.args.store.now c.add_gap_before.new.store c.make_room.new.store (c.add_gap_before.ensures.bound true_host set h holds was limit fits)
    (c.make_room.ensures.bound true_host set behind was_kept left limit fits) in
    grows-both set limit past roomed new c.args.store.now c.make_room.new.store c.add_beats.new.store room (c.add_beats.ensures.bound true_host gone.registry set behind kept left defined all limit fits)

pub returns-in_err-add_gap_before-clause-keeps : goal.returns-in_err-add_gap_before-clause-keeps
returns-in_err-add_gap_before-clause-keeps g c =
    let p = err_from_is_err_and c.from_residual-in_err-add_gap_before.result c.from_residual-in_err-add_gap_before.ensures.1 in
    rw (p.1, p.2) (keeps-err g.H.Host.honest (g.H.Host.seen c.args.host.now) (g.H.Host.seen c.add_gap_before.new.host) c.args.store.now c.add_gap_before.new.store c.in_err-add_gap_before.field-0.0 c.in_err-add_gap_before.ensures.keeps)

pub returns-clause-charts : goal.returns-clause-charts
returns-clause-charts g c =
    on_ok _ _ c.add_beats.result c.add_beats.ensures.last
    (λ last. subst (λ (r : Registry). AreApart same_chart r.charts) (sym c.add_beats.ensures.registry) c.in_ok-numbers.ensures.charts)

pub returns-clause-dimensions : goal.returns-clause-dimensions
returns-clause-dimensions g c =
    on_ok _ _ c.add_beats.result c.add_beats.ensures.last
    (λ last. subst (λ (r : Registry). AreApart same_dimension r.dimensions) (sym c.add_beats.ensures.registry) c.in_ok-numbers.ensures.dimensions)

pub returns-clause-limits : goal.returns-clause-limits
returns-clause-limits g c =
    on_ok _ _ c.add_beats.result c.add_beats.ensures.last
    (λ last. subst HasLimits (sym c.add_beats.ensures.registry) c.in_ok-numbers.ensures.limits)
