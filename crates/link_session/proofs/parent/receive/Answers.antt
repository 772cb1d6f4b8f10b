use Rattle.std.proofs.Common.{◌≡◌, Ok, Err, ap, subst, ◌∙◌}
use Rattle.std.proofs.lemmas.Result.{err_from_is_err_and}
use Rattle.link_session.specs.declared.flow.Flow.TheVariants.{GoesOn, Done}
use Rattle.link_session.specs.Exchange.{SessionResult}
use Rattle.link_session.specs.Receiving.{ReceivesHistory}
use Rattle.link_session.specs.Session.{link_seen, result_of}
use Rattle.link_session.proofs.ReceiveLemmas.{ends-there, goes-on, hears-nothing, last-spelt, waits-first}
use Rattle.link_session.proofs.parent.receive.Goals as goal

pub frames-init : goal.frames-init
frames-init g c =
    let L = g.L.Link in
    let link = link_seen (L.sent c.args.link.now) (L.left c.args.link.now) (L.faults c.args.link.now) in
    waits-first g.H.Host.honest (g.H.Host.seen c.args.host.now) c.args.agent.now link c.new-incoming.result c.requires c.new-incoming.ensures

pub returns-in_err-hear : goal.returns-in_err-hear
returns-in_err-hear g c =
    let L = g.L.Link in
    let link = link_seen (L.sent c.args.link.now) (L.left c.args.link.now) (L.faults c.args.link.now) in
    let between = link_seen (L.sent c.frames.link) (L.left c.frames.link) (L.faults c.frames.link) in
    let heard = link_seen (L.sent c.hear.new.link) (L.left c.hear.new.link) (L.faults c.hear.new.link) in
    let on = c.frames.invariant in
    let p = err_from_is_err_and c.from_residual.result c.from_residual.ensures.1 in
    rw (p.1, p.2) (hears-nothing g.H.Host.honest (g.H.Host.seen c.args.host.now) c.args.agent.now link c.frames.incoming c.frames.parent.peer (g.H.Host.seen c.frames.host) c.frames.agent between on
    c.in_err-hear.field-0.0 heard (c.in_err-hear.ensures.ends link.left on.frames on.given) c.in_err-hear.ensures.cause)

pub take_frame-requires-clause-spelt : goal.take_frame-requires-clause-spelt
take_frame-requires-clause-spelt g c =
    let L = g.L.Link in
    let on = c.frames.invariant in
    last-spelt c.hear.new.incoming (L.left c.args.link.now) (L.left c.hear.new.link) on.frames c.frame.result.now (c.in_ok-hear.ensures.given (L.left c.args.link.now) on.frames on.given c.frame.result.now c.frame.ensures)

pub returns-in_err-take_frame : goal.returns-in_err-take_frame
returns-in_err-take_frame g c =
    let L = g.L.Link in
    let link = link_seen (L.sent c.args.link.now) (L.left c.args.link.now) (L.faults c.args.link.now) in
    let between = link_seen (L.sent c.frames.link) (L.left c.frames.link) (L.faults c.frames.link) in
    let heard = link_seen (L.sent c.hear.new.link) (L.left c.hear.new.link) (L.faults c.hear.new.link) in
    let link' = link_seen (L.sent c.take_frame.new.link) (L.left c.take_frame.new.link) (L.faults c.take_frame.new.link) in
    let on = c.frames.invariant in
    let p = err_from_is_err_and c.from_residual-in_err-take_frame.result c.from_residual-in_err-take_frame.ensures.1 in
    rw (p.1, p.2) (ends-there g.H.Host.honest (g.H.Host.seen c.args.host.now) c.args.agent.now link c.frames.incoming c.frames.parent.peer (g.H.Host.seen c.frames.host) c.frames.agent between on
    c.frame.result.now c.hear.new.incoming heard (c.in_ok-hear.ensures.given link.left on.frames on.given c.frame.result.now c.frame.ensures) c.in_ok-hear.ensures.sent (c.in_ok-hear.ensures.cause.stays (λ e. cc))
    (Err c.in_err-take_frame.field-0.0) (g.H.Host.seen c.take_frame.new.host) c.take_frame.new.agent c.take_frame.new.self.peer link' c.in_err-take_frame.ensures.takes c.in_err-take_frame.ensures.ends c.in_err-take_frame.ensures.known c.in_err-take_frame.ensures.left c.in_err-take_frame.ensures.cause
    (λ e. cc))

pub frames-preserved : goal.frames-preserved
frames-preserved g c =
    let L = g.L.Link in
    let link = link_seen (L.sent c.args.link.now) (L.left c.args.link.now) (L.faults c.args.link.now) in
    let between = link_seen (L.sent c.frames.link) (L.left c.frames.link) (L.faults c.frames.link) in
    let heard = link_seen (L.sent c.hear.new.link) (L.left c.hear.new.link) (L.faults c.hear.new.link) in
    let link' = link_seen (L.sent c.take_frame.new.link) (L.left c.take_frame.new.link) (L.faults c.take_frame.new.link) in
    let on = c.frames.invariant in
    let is : c.take_frame.result ≡ Ok GoesOn = c.in_ok-take_frame.was ∙ ap Ok c.in-GoesOn.is in
    goes-on g.H.Host.honest (g.H.Host.seen c.args.host.now) c.args.agent.now link c.frames.incoming c.frames.parent.peer (g.H.Host.seen c.frames.host) c.frames.agent between on
    c.frame.result.now c.hear.new.incoming heard (c.in_ok-hear.ensures.given link.left on.frames on.given c.frame.result.now c.frame.ensures) c.in_ok-hear.ensures.sent (c.in_ok-hear.ensures.cause.stays (λ e. cc))
    c.take_frame.result (g.H.Host.seen c.take_frame.new.host) c.take_frame.new.agent c.take_frame.new.self.peer link' c.take_frame.ensures.takes c.take_frame.ensures.ends c.take_frame.ensures.known c.take_frame.ensures.left c.take_frame.ensures.cause is

pub returns-in-Done : goal.returns-in-Done
returns-in-Done g c =
    let L = g.L.Link in
    let link = link_seen (L.sent c.args.link.now) (L.left c.args.link.now) (L.faults c.args.link.now) in
    let between = link_seen (L.sent c.frames.link) (L.left c.frames.link) (L.faults c.frames.link) in
    let heard = link_seen (L.sent c.hear.new.link) (L.left c.hear.new.link) (L.faults c.hear.new.link) in
    let link' = link_seen (L.sent c.take_frame.new.link) (L.left c.take_frame.new.link) (L.faults c.take_frame.new.link) in
    let on = c.frames.invariant in
    let is : c.take_frame.result ≡ Ok Done = c.in_ok-take_frame.was ∙ ap Ok c.in-Done.is in
    subst (λ (r : SessionResult). ReceivesHistory g.H.Host.honest (g.H.Host.seen c.args.host.now) c.args.agent.now link r (g.H.Host.seen c.take_frame.new.host) c.take_frame.new.agent link') (ap result_of is)
    (ends-there g.H.Host.honest (g.H.Host.seen c.args.host.now) c.args.agent.now link c.frames.incoming c.frames.parent.peer (g.H.Host.seen c.frames.host) c.frames.agent between on
    c.frame.result.now c.hear.new.incoming heard (c.in_ok-hear.ensures.given link.left on.frames on.given c.frame.result.now c.frame.ensures) c.in_ok-hear.ensures.sent (c.in_ok-hear.ensures.cause.stays (λ e. cc))
    c.take_frame.result (g.H.Host.seen c.take_frame.new.host) c.take_frame.new.agent c.take_frame.new.self.peer link' c.take_frame.ensures.takes c.take_frame.ensures.ends c.take_frame.ensures.known c.take_frame.ensures.left c.take_frame.ensures.cause (λ e. cc))
