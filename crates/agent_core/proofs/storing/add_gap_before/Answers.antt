use Rattle.std.proofs.Common.{◌<◌, List, [], Ok, Err, arith, refl, rules, subst}
use Rattle.std.proofs.lemmas.Result.{err_from_is_err_and}
use Rattle.host_model.specs.Disks.{EveryDisk}
use Rattle.host_model.specs.Moments.{begins, Throughout}
use Rattle.host_model.proofs.MomentLemmas.{joined}
use Rattle.history.specs.History.{Beat, missing, Gap}
use Rattle.agent_core.specs.declared.fault.AgentFault.TheVariants.{Memory}
use Rattle.agent_core.specs.declared.left.Role.TheVariants.{Copies}
use Rattle.agent_core.specs.Kept.{onto}
use Rattle.agent_core.specs.Stands.{HoldsHistory, StandsForPrefix}
use Rattle.agent_core.specs.Left.{IsLeftBy}
use Rattle.agent_core.specs.Storing.{gap_beats}
use Rattle.agent_core.proofs.PrefixLemmas.{first-moments, prefix-none}
use Rattle.agent_core.proofs.KeepsLemmas.{keeps-after, keeps-both}
use Rattle.agent_core.proofs.KeptLemmas.{left-gap, stays, store-last}
use Rattle.agent_core.proofs.StoringLemmas.{gap-none, gap-some}
use Rattle.agent_core.proofs.BoundLemmas.{grows-both, grows-none}
use Rattle.agent_core.proofs.storing.add_gap_before.Goals as goal

pub returns-in_err-make_room-clause-any_moment : goal.returns-in_err-make_room-clause-any_moment
returns-in_err-make_room-clause-any_moment g c true_host set h holds by role =
    prefix-none set h (gap_beats c.args.message.now) (g.H.Host.seen c.args.host.now).past (g.H.Host.seen c.make_room.new.host).past (c.make_room.ensures.any_moment true_host set h holds by)

pub returns-in_err-join_gap-clause-any_moment : goal.returns-in_err-join_gap-clause-any_moment
returns-in_err-join_gap-clause-any_moment g c true_host set h holds by role =
    prefix-none set h (gap_beats c.args.message.now) (g.H.Host.seen c.args.host.now).past (g.H.Host.seen c.make_room.new.host).past (c.make_room.ensures.any_moment true_host set h holds by)

pub returns-in_err-add_gap-clause-any_moment : goal.returns-in_err-add_gap-clause-any_moment
returns-in_err-add_gap-clause-any_moment g c true_host set h holds by role =
    let past = (g.H.Host.seen c.args.host.now).past in
    let middle = (g.H.Host.seen c.make_room.new.host).past in
    let new = (g.H.Host.seen c.add_gap.new.host).past in
    let message = c.args.message.now in
    let gap : Gap = record { child = message.child; from = message.prev; to = message.from } in
    let room = c.in_ok-make_room.ensures.done true_host set h holds by in
    joined (prefix-none set h (gap_beats message) past middle (c.make_room.ensures.any_moment true_host set h holds by))
    (subst (λ (more : List Beat). Throughout (EveryDisk (StandsForPrefix set h more)) middle new) (gap-some message (search rules)) (first-moments set h (missing gap) [] middle new (c.add_gap.ensures.any_moment true_host set h room role)))

pub returns-in_ok-add_gap-clause-any_moment : goal.returns-in_ok-add_gap-clause-any_moment
returns-in_ok-add_gap-clause-any_moment g c true_host set h holds by role =
    let past = (g.H.Host.seen c.args.host.now).past in
    let middle = (g.H.Host.seen c.make_room.new.host).past in
    let new = (g.H.Host.seen c.add_gap.new.host).past in
    let message = c.args.message.now in
    let gap : Gap = record { child = message.child; from = message.prev; to = message.from } in
    let room = c.in_ok-make_room.ensures.done true_host set h holds by in
    joined (prefix-none set h (gap_beats message) past middle (c.make_room.ensures.any_moment true_host set h holds by))
    (subst (λ (more : List Beat). Throughout (EveryDisk (StandsForPrefix set h more)) middle new) (gap-some message (search rules)) (first-moments set h (missing gap) [] middle new (c.add_gap.ensures.any_moment true_host set h room role)))

pub returns-in_ok-add_gap-clause-done : goal.returns-in_ok-add_gap-clause-done
returns-in_ok-add_gap-clause-done g c true_host set h holds by role =
    let message = c.args.message.now in
    let room = c.in_ok-make_room.ensures.done true_host set h holds by in
    subst (λ (more : List Beat). HoldsHistory (g.H.Host.seen c.add_gap.new.host).past c.add_gap.new.store set (onto h more)) (gap-some message (search rules)) (c.in_ok-add_gap.ensures.done true_host set h room role)

pub returns-in_ok-add_gap-clause-left_by : goal.returns-in_ok-add_gap-clause-left_by
returns-in_ok-add_gap-clause-left_by g c past set h holds by =
    let message = c.args.message.now in
    let gap : Gap = record { child = message.child; from = message.prev; to = message.from } in
    let last_is = store-last past c.args.store.now set h holds in
    let less : message.prev < message.from = search rules in
    let at = c.requires.at in
    subst (λ (more : List Beat). IsLeftBy set (onto h more) (record c.join_gap.new.left { role = Copies message.child })) (gap-some message less)
    (left-gap past c.args.store.now set h holds gap c.args.left.now c.join_gap.new.left by c.join_gap.ensures.only c.in_ok-join_gap.ensures.joined (omega (arith, last_is, at)) (omega (arith, last_is, at, less)))

pub returns-else-message-clause-any_moment : goal.returns-else-message-clause-any_moment
returns-else-message-clause-any_moment g c true_host set h holds by role = begins (λ disk images. (0, stays (g.H.Host.seen c.args.host.now).past c.args.store.now set h holds disk images))

pub returns-in_err-join_gap-clause-keeps : goal.returns-in_err-join_gap-clause-keeps
returns-in_err-join_gap-clause-keeps g c =
    let p = err_from_is_err_and c.from_residual-in_err-join_gap.result c.from_residual-in_err-join_gap.ensures.1 in
    rw (p.1, p.2) (keeps-after g.H.Host.honest (g.H.Host.seen c.args.host.now) (g.H.Host.seen c.make_room.new.host) (g.H.Host.seen c.make_room.new.host) c.args.store.now c.make_room.new.store c.make_room.new.store
    c.in_ok-make_room.field-0 (Err Memory) c.in_ok-make_room.ensures.keeps refl refl refl)

pub returns-in_err-add_gap-clause-keeps : goal.returns-in_err-add_gap-clause-keeps
returns-in_err-add_gap-clause-keeps g c =
    let p = err_from_is_err_and c.from_residual-in_err-add_gap.result c.from_residual-in_err-add_gap.ensures.1 in
    rw (p.1, p.2) (keeps-both g.H.Host.honest (g.H.Host.seen c.args.host.now) (g.H.Host.seen c.make_room.new.host) (g.H.Host.seen c.add_gap.new.host) c.args.store.now c.make_room.new.store c.add_gap.new.store
    c.in_ok-make_room.field-0 (Err c.in_err-add_gap.field-0.0) c.in_ok-make_room.ensures.keeps c.in_err-add_gap.ensures.keeps)

pub returns-in_ok-add_gap-clause-keeps : goal.returns-in_ok-add_gap-clause-keeps
returns-in_ok-add_gap-clause-keeps g c =
    keeps-both g.H.Host.honest (g.H.Host.seen c.args.host.now) (g.H.Host.seen c.make_room.new.host) (g.H.Host.seen c.add_gap.new.host) c.args.store.now c.make_room.new.store c.add_gap.new.store
    c.in_ok-make_room.field-0 (Ok tt) c.in_ok-make_room.ensures.keeps c.in_ok-add_gap.ensures.keeps

pub returns-else-message-clause-done : goal.returns-else-message-clause-done
returns-else-message-clause-done g c true_host set h holds by role =
    subst (λ (more : List Beat). HoldsHistory (g.H.Host.seen c.args.host.now).past c.args.store.now set (onto h more)) (gap-none c.args.message.now (search rules)) holds

pub returns-else-message-clause-left_by : goal.returns-else-message-clause-left_by
returns-else-message-clause-left_by g c past set h holds by = subst (λ (more : List Beat). IsLeftBy set (onto h more) c.args.left.now) (gap-none c.args.message.now (search rules)) by

pub returns-in_err-join_gap-clause-bound : goal.returns-in_err-join_gap-clause-bound
returns-in_err-join_gap-clause-bound g c true_host set h holds by limit fits =
    c.make_room.ensures.bound true_host set h holds by limit fits

pub returns-in_err-add_gap-clause-bound : goal.returns-in_err-add_gap-clause-bound
returns-in_err-add_gap-clause-bound g c true_host set h holds by limit fits =
    let room = c.in_ok-make_room.ensures.done true_host set h holds by in
    grows-both set limit (g.H.Host.seen c.args.host.now).past (g.H.Host.seen c.make_room.new.host).past (g.H.Host.seen c.add_gap.new.host).past c.args.store.now c.make_room.new.store c.add_gap.new.store
    (c.make_room.ensures.bound true_host set h holds by limit fits) (c.add_gap.ensures.bound true_host set h room limit)

pub returns-in_ok-add_gap-clause-bound : goal.returns-in_ok-add_gap-clause-bound
returns-in_ok-add_gap-clause-bound g c true_host set h holds by limit fits =
    let room = c.in_ok-make_room.ensures.done true_host set h holds by in
    grows-both set limit (g.H.Host.seen c.args.host.now).past (g.H.Host.seen c.make_room.new.host).past (g.H.Host.seen c.add_gap.new.host).past c.args.store.now c.make_room.new.store c.add_gap.new.store
    (c.make_room.ensures.bound true_host set h holds by limit fits) (c.add_gap.ensures.bound true_host set h room limit)

pub returns-else-message-clause-bound : goal.returns-else-message-clause-bound
returns-else-message-clause-bound g c true_host set h holds by limit fits =
    grows-none set limit (g.H.Host.seen c.args.host.now).past c.args.store.now
