use Rattle.std.proofs.Common.{List, length, inl, ap, arith}
use Rattle.host_model.specs.Images.{contents}
use Rattle.host_model.specs.Past.{Event, of}
use Rattle.host_model.proofs.RunLemmas.{images_in_sync}
use Rattle.host_model.specs.Moments.{begins}
use Rattle.host_model.proofs.CallLemmas.{unmoved}
use Rattle.host_model.proofs.MomentLemmas.{at_end, joined}
use Rattle.host_model.proofs.SizeLemmas.{StaysWithin, within_sync}
use Rattle.checkpoint.specs.Switching.{IsSameOrShut}
use Rattle.checkpoint.proofs.MomentLemmas.{from_same, sync_only, begin_moments, open_moments}
use Rattle.checkpoint.proofs.closing.close_gate.Goals as goal

pub returns-in_err-sync-clause-any_moment : goal.returns-in_err-sync-clause-any_moment
returns-in_err-sync-clause-any_moment g c h =
    let file = c.args.file in
    let old = (g.H.Host.seen c.args.host.now).past in
    images_in_sync (IsSameOrShut (of file old)) g.H.Host.honest c.sync.result file old (g.H.Host.seen c.sync.new.self).past h c.sync.ensures.done c.sync.ensures.torn
    (g.met.H.Host.reads_an_image c.args.host.now file h) (λ bytes image. inl image)

pub returns-in_err-len-clause-any_moment : goal.returns-in_err-len-clause-any_moment
returns-in_err-len-clause-any_moment g c h =
    let file = c.args.file in
    let old = (g.H.Host.seen c.args.host.now).past in
    let synced = (g.H.Host.seen c.sync.new.self).past in
    sync_only file old synced (g.H.Host.seen c.len.new.self).past (c.len.ensures.past h)
    (images_in_sync (IsSameOrShut (of file old)) g.H.Host.honest c.sync.result file old synced h c.sync.ensures.done c.sync.ensures.torn
    (g.met.H.Host.reads_an_image c.args.host.now file h) (λ bytes image. inl image))

pub returns-then-len-clause-any_moment : goal.returns-then-len-clause-any_moment
returns-then-len-clause-any_moment g c h =
    let file = c.args.file in
    let old = (g.H.Host.seen c.args.host.now).past in
    let synced = (g.H.Host.seen c.sync.new.self).past in
    let middle = (g.H.Host.seen c.len.new.self).past in
    let size = c.in_ok-len.ensures.len h in
    let same = ap (λ (past : List Event). length (contents (of file past))) (c.len.ensures.past h) in
    begin_moments file old synced middle (g.H.Host.seen c.begin.new.host).past (c.in_ok-sync.ensures.done h) (c.len.ensures.past h)
    (omega (arith, size, same, c.if-len.true))
    (λ bound fits short. c.begin.ensures.bound bound fits h short)
    (images_in_sync (IsSameOrShut (of file old)) g.H.Host.honest c.sync.result file old synced h c.sync.ensures.done c.sync.ensures.torn
    (g.met.H.Host.reads_an_image c.args.host.now file h) (λ bytes image. inl image))

pub returns-clause-any_moment : goal.returns-clause-any_moment
returns-clause-any_moment g c h =
    let file = c.args.file in
    let old = (g.H.Host.seen c.args.host.now).past in
    let synced = (g.H.Host.seen c.sync.new.self).past in
    open_moments file old synced (g.H.Host.seen c.len.new.self).past (g.H.Host.seen c.close_open.new.host).past (c.in_ok-sync.ensures.done h) (c.len.ensures.past h)
    (g.met.H.Host.reads_an_image c.args.host.now file h)
    (c.close_open.ensures.any_moment h)
    (images_in_sync (IsSameOrShut (of file old)) g.H.Host.honest c.sync.result file old synced h c.sync.ensures.done c.sync.ensures.torn
    (g.met.H.Host.reads_an_image c.args.host.now file h) (λ bytes image. inl image))

pub returns-in_err-sync-clause-bound : goal.returns-in_err-sync-clause-bound
returns-in_err-sync-clause-bound g c size fits h short =
    let file = c.args.file in
    let old = (g.H.Host.seen c.args.host.now).past in
    within_sync g.H.Host.honest c.sync.result size file old old (g.H.Host.seen c.sync.new.self).past h c.sync.ensures.done c.sync.ensures.torn
    (g.met.H.Host.reads_an_image c.args.host.now file h) (begins short)

pub returns-in_err-len-clause-bound : goal.returns-in_err-len-clause-bound
returns-in_err-len-clause-bound g c size fits h short =
    let file = c.args.file in
    let old = (g.H.Host.seen c.args.host.now).past in
    let synced = (g.H.Host.seen c.sync.new.self).past in
    let first =
    within_sync g.H.Host.honest c.sync.result size file old old synced h c.sync.ensures.done c.sync.ensures.torn
    (g.met.H.Host.reads_an_image c.args.host.now file h) (begins short) in
    joined first (unmoved (StaysWithin size file) synced (g.H.Host.seen c.len.new.self).past (c.len.ensures.past h) (at_end first))

pub returns-then-len-clause-bound : goal.returns-then-len-clause-bound
returns-then-len-clause-bound g c size fits h short =
    let file = c.args.file in
    let old = (g.H.Host.seen c.args.host.now).past in
    let synced = (g.H.Host.seen c.sync.new.self).past in
    let first =
    within_sync g.H.Host.honest c.sync.result size file old old synced h c.sync.ensures.done c.sync.ensures.torn
    (g.met.H.Host.reads_an_image c.args.host.now file h) (begins short) in
    joined first
    (from_same (StaysWithin size file) synced (g.H.Host.seen c.len.new.self).past (g.H.Host.seen c.begin.new.host).past (c.len.ensures.past h) (at_end first) (c.begin.ensures.bound size fits h))

pub returns-clause-bound : goal.returns-clause-bound
returns-clause-bound g c size fits h short =
    let file = c.args.file in
    let old = (g.H.Host.seen c.args.host.now).past in
    let synced = (g.H.Host.seen c.sync.new.self).past in
    let first =
    within_sync g.H.Host.honest c.sync.result size file old old synced h c.sync.ensures.done c.sync.ensures.torn
    (g.met.H.Host.reads_an_image c.args.host.now file h) (begins short) in
    joined first
    (from_same (StaysWithin size file) synced (g.H.Host.seen c.len.new.self).past (g.H.Host.seen c.close_open.new.host).past (c.len.ensures.past h) (at_end first) (c.close_open.ensures.bound size fits h))
