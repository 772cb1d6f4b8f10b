use Rattle.std.proofs.Common.{◌∙◌, ap, length, arith}
use Rattle.std.proofs.lemmas.Result.{err_from_is_err_and}
use Rattle.host_model.specs.Moments.{begins}
use Rattle.agent_core.specs.Answers.{tier_beats}
use Rattle.agent_core.proofs.AnswerLemmas.{floor-is}
use Rattle.agent_core.proofs.KeepsLemmas.{checkpoint-failed}
use Rattle.agent_core.proofs.KeptLemmas.{holds-moved, moves, stays}
use Rattle.agent_core.proofs.StoredLemmas.{applied-all, were_kept}
use Rattle.store_core.specs.Store.{StoreState}
use Rattle.store_core.specs.Stored.{advanced}
use Rattle.agent_core.proofs.BoundLemmas.{advanced-number, checkpoint-grows, either-reached, grows-none, left-texts, side-fits, store-reached}
use Rattle.agent_core.proofs.keeping.make_room.Goals as goal

pub returns-then-not-due-clause-any_moment : goal.returns-then-not-due-clause-any_moment
returns-then-not-due-clause-any_moment g c true_host set h holds by = begins (stays (g.H.Host.seen c.args.host.now).past c.args.store.now set h holds)

pub returns-in_err-side-clause-any_moment : goal.returns-in_err-side-clause-any_moment
returns-in_err-side-clause-any_moment g c true_host set h holds by = begins (stays (g.H.Host.seen c.args.host.now).past c.args.store.now set h holds)

pub returns-clause-any_moment : goal.returns-clause-any_moment
returns-clause-any_moment g c true_host set h holds by =
    let past = (g.H.Host.seen c.args.host.now).past in
    let all = were_kept set h holds.stored holds.are in
    let is = c.in_ok-side.ensures.side set h all.beats all.are by (c.floor.ensures.applied set (tier_beats h) (applied-all past c.args.store.now set h holds) ∙ floor-is set h 0) in
    moves past c.args.store.now set h holds c.in_ok-side.side is (g.H.Host.seen c.checkpoint.new.host).past (c.checkpoint.ensures.any_moment true_host holds.stored holds.store_of)

pub returns-in_err-checkpoint-clause-any_moment : goal.returns-in_err-checkpoint-clause-any_moment
returns-in_err-checkpoint-clause-any_moment g c true_host set h holds by =
    let past = (g.H.Host.seen c.args.host.now).past in
    let all = were_kept set h holds.stored holds.are in
    let is = c.in_ok-side.ensures.side set h all.beats all.are by (c.floor.ensures.applied set (tier_beats h) (applied-all past c.args.store.now set h holds) ∙ floor-is set h 0) in
    moves past c.args.store.now set h holds c.in_ok-side.side is (g.H.Host.seen c.checkpoint.new.host).past (c.checkpoint.ensures.any_moment true_host holds.stored holds.store_of)

pub returns-clause-done : goal.returns-clause-done
returns-clause-done g c true_host set h holds by =
    let past = (g.H.Host.seen c.args.host.now).past in
    let all = were_kept set h holds.stored holds.are in
    let is = c.in_ok-side.ensures.side set h all.beats all.are by (c.floor.ensures.applied set (tier_beats h) (applied-all past c.args.store.now set h holds) ∙ floor-is set h 0) in
    holds-moved past c.args.store.now set h holds c.in_ok-side.side is (g.H.Host.seen c.checkpoint.new.host).past c.checkpoint.new.self
    (c.in_ok-checkpoint.ensures.advanced true_host holds.stored holds.store_of)

pub returns-in_err-checkpoint-clause-keeps : goal.returns-in_err-checkpoint-clause-keeps
returns-in_err-checkpoint-clause-keeps g c =
    let did = c.in_err-checkpoint.ensures in
    let error = err_from_is_err_and c.from_residual-in_err-checkpoint.result c.from_residual-in_err-checkpoint.ensures.1 in
    rw error.1
    (checkpoint-failed g.H.Host.honest (g.H.Host.seen c.args.host.now) (g.H.Host.seen c.checkpoint.new.host) c.args.store.now c.checkpoint.new.self c.in_err-checkpoint.field-0.0 error.0 error.2
    did.faults did.reopens c.requires.going did.ready c.requires.replayed did.waiting did.settings did.cause did.only_here did.output)

pub returns-then-not-due-clause-bound : goal.returns-then-not-due-clause-bound
returns-then-not-due-clause-bound g c true_host set h holds by limit fits = grows-none set limit (g.H.Host.seen c.args.host.now).past c.args.store.now

pub returns-in_err-side-clause-bound : goal.returns-in_err-side-clause-bound
returns-in_err-side-clause-bound g c true_host set h holds by limit fits = grows-none set limit (g.H.Host.seen c.args.host.now).past c.args.store.now

pub returns-clause-bound : goal.returns-clause-bound
returns-clause-bound g c true_host set h holds by limit fits =
    let past = (g.H.Host.seen c.args.host.now).past in
    let new = (g.H.Host.seen c.checkpoint.new.host).past in
    let side = c.in_ok-side.side in
    let size = c.in_ok-side.ensures.size (left-texts past c.args.store.now set h holds c.args.left.now by) in
    let floor_is = c.floor.ensures.applied set (tier_beats h) (applied-all past c.args.store.now set h holds) ∙ floor-is set h 0 in
    checkpoint-grows past new c.args.store.now c.checkpoint.new.self set h holds true_host limit side (side-fits past c.args.store.now set h holds c.args.left.now by c.floor.result floor_is (length side) limit size fits)
    (advanced-number past new c.args.store.now c.checkpoint.new.self set h holds side (c.in_ok-checkpoint.ensures.advanced true_host holds.stored holds.store_of))
    (store-reached new c.checkpoint.new.self (advanced holds.stored side) (c.in_ok-checkpoint.ensures.advanced true_host holds.stored holds.store_of)) c.checkpoint.ensures.bound

pub returns-in_err-checkpoint-clause-bound : goal.returns-in_err-checkpoint-clause-bound
returns-in_err-checkpoint-clause-bound g c true_host set h holds by limit fits =
    let past = (g.H.Host.seen c.args.host.now).past in
    let new = (g.H.Host.seen c.checkpoint.new.host).past in
    let side = c.in_ok-side.side in
    let size = c.in_ok-side.ensures.size (left-texts past c.args.store.now set h holds c.args.left.now by) in
    let floor_is = c.floor.ensures.applied set (tier_beats h) (applied-all past c.args.store.now set h holds) ∙ floor-is set h 0 in
    let same = ap (λ (s : StoreState). s.files.number) c.in_err-checkpoint.ensures.leaves in
    checkpoint-grows past new c.args.store.now c.checkpoint.new.self set h holds true_host limit side (side-fits past c.args.store.now set h holds c.args.left.now by c.floor.result floor_is (length side) limit size fits) (omega (arith, same))
    (either-reached past new c.args.store.now c.checkpoint.new.self set h holds side same (c.checkpoint.ensures.any_moment true_host holds.stored holds.store_of)) c.checkpoint.ensures.bound
