use Rattle.std.proofs.Common.{◌≡◌, ℕ, Ok, Err, ap, subst, ◌∙◌}
use Rattle.std.proofs.lemmas.Result.{err_from_is_err_and}
use Rattle.host_model.specs.Link.{Sends}
use Rattle.link_frames.specs.declared.frame.Frame.TheVariants as frame
use Rattle.link_frames.specs.Frames.{frame_bytes}
use Rattle.link_session.specs.declared.flow.Flow.TheVariants.{GoesOn, Done}
use Rattle.link_session.specs.Exchange.{SessionResult}
use Rattle.link_session.specs.Sending.{SendsHistory}
use Rattle.link_session.specs.Session.{link_seen, result_of, Says}
use Rattle.link_session.proofs.SendLemmas.{ends-there, goes-on, hears-nothing, hello-fails, says-hello}
use Rattle.link_session.proofs.SpellingLemmas.{hello-spelt}
use Rattle.link_session.proofs.child.send.Goals as goal

pub say-requires : goal.say-requires
say-requires g c = hello-spelt c.id.result c.id.type_inv

pub returns-in_err-say : goal.returns-in_err-say
returns-in_err-say g c =
    let L = g.L.Link in
    let link = link_seen (L.sent c.args.link.now) (L.left c.args.link.now) (L.faults c.args.link.now) in
    let link' = link_seen (L.sent c.say.new.link) (L.left c.say.new.link) (L.faults c.say.new.link) in
    let p = err_from_is_err_and c.from_residual.result c.from_residual.ensures.1 in
    rw (p.1, p.2) (hello-fails g.H.Host.honest (g.H.Host.seen c.args.host.now) c.args.agent.now link c.in_err-say.field-0.0 link' c.requires
    (subst (λ (id : ℕ). Says (frame.Hello id) (Err c.in_err-say.field-0.0) link.sent link'.sent) c.id.ensures c.in_err-say.ensures.says) c.in_err-say.ensures.left c.in_err-say.ensures.cause)

pub frames-init : goal.frames-init
frames-init g c =
    let L = g.L.Link in
    let link = link_seen (L.sent c.args.link.now) (L.left c.args.link.now) (L.faults c.args.link.now) in
    let link' = link_seen (L.sent c.say.new.link) (L.left c.say.new.link) (L.faults c.say.new.link) in
    says-hello g.H.Host.honest (g.H.Host.seen c.args.host.now) c.args.agent.now link c.new-incoming.result link' c.requires c.new-incoming.ensures
    (subst (λ (id : ℕ). Sends link.sent (frame_bytes (frame.Hello id)) link'.sent) c.id.ensures c.in_ok-say.ensures.says) c.in_ok-say.ensures.left (c.in_ok-say.ensures.cause.stays (λ e. cc))

pub returns-in_err-hear : goal.returns-in_err-hear
returns-in_err-hear g c =
    let L = g.L.Link in
    let link = link_seen (L.sent c.args.link.now) (L.left c.args.link.now) (L.faults c.args.link.now) in
    let between = link_seen (L.sent c.frames.link) (L.left c.frames.link) (L.faults c.frames.link) in
    let heard = link_seen (L.sent c.hear.new.link) (L.left c.hear.new.link) (L.faults c.hear.new.link) in
    let on = c.frames.invariant in
    let p = err_from_is_err_and c.from_residual-in_err-hear.result c.from_residual-in_err-hear.ensures.1 in
    rw (p.1, p.2) (hears-nothing g.H.Host.honest (g.H.Host.seen c.args.host.now) c.args.agent.now link c.frames.incoming c.frames.child.last (g.H.Host.seen c.frames.host) c.frames.agent between on
    c.in_err-hear.field-0.0 heard (c.in_err-hear.ensures.ends link.left on.frames on.given) c.in_err-hear.ensures.cause)

pub returns-in_err-take_frame : goal.returns-in_err-take_frame
returns-in_err-take_frame g c =
    let L = g.L.Link in
    let link = link_seen (L.sent c.args.link.now) (L.left c.args.link.now) (L.faults c.args.link.now) in
    let between = link_seen (L.sent c.frames.link) (L.left c.frames.link) (L.faults c.frames.link) in
    let heard = link_seen (L.sent c.hear.new.link) (L.left c.hear.new.link) (L.faults c.hear.new.link) in
    let link' = link_seen (L.sent c.take_frame.new.link) (L.left c.take_frame.new.link) (L.faults c.take_frame.new.link) in
    let on = c.frames.invariant in
    let p = err_from_is_err_and c.from_residual-in_err-take_frame.result c.from_residual-in_err-take_frame.ensures.1 in
    rw (p.1, p.2) (ends-there g.H.Host.honest (g.H.Host.seen c.args.host.now) c.args.agent.now link c.frames.incoming c.frames.child.last (g.H.Host.seen c.frames.host) c.frames.agent between on
    c.frame.result.now c.hear.new.incoming heard (c.in_ok-hear.ensures.given link.left on.frames on.given c.frame.result.now c.frame.ensures) c.in_ok-hear.ensures.sent (c.in_ok-hear.ensures.cause.stays (λ e. cc))
    (Err c.in_err-take_frame.field-0.0) (g.H.Host.seen c.take_frame.new.host) c.take_frame.new.agent c.take_frame.new.self.last link' c.in_err-take_frame.ensures.takes c.in_err-take_frame.ensures.ends c.in_err-take_frame.ensures.left c.in_err-take_frame.ensures.cause
    (λ e. cc))

pub frames-preserved : goal.frames-preserved
frames-preserved g c =
    let L = g.L.Link in
    let link = link_seen (L.sent c.args.link.now) (L.left c.args.link.now) (L.faults c.args.link.now) in
    let between = link_seen (L.sent c.frames.link) (L.left c.frames.link) (L.faults c.frames.link) in
    let heard = link_seen (L.sent c.hear.new.link) (L.left c.hear.new.link) (L.faults c.hear.new.link) in
    let link' = link_seen (L.sent c.take_frame.new.link) (L.left c.take_frame.new.link) (L.faults c.take_frame.new.link) in
    let on = c.frames.invariant in
    let is : c.take_frame.result ≡ Ok GoesOn = c.in_ok-take_frame.was ∙ ap Ok c.in-GoesOn.is in
    goes-on g.H.Host.honest (g.H.Host.seen c.args.host.now) c.args.agent.now link c.frames.incoming c.frames.child.last (g.H.Host.seen c.frames.host) c.frames.agent between on
    c.frame.result.now c.hear.new.incoming heard (c.in_ok-hear.ensures.given link.left on.frames on.given c.frame.result.now c.frame.ensures) c.in_ok-hear.ensures.sent (c.in_ok-hear.ensures.cause.stays (λ e. cc))
    c.take_frame.result (g.H.Host.seen c.take_frame.new.host) c.take_frame.new.agent c.take_frame.new.self.last link' c.take_frame.ensures.takes c.take_frame.ensures.ends c.take_frame.ensures.left c.take_frame.ensures.cause is

pub returns-in-Done : goal.returns-in-Done
returns-in-Done g c =
    let L = g.L.Link in
    let link = link_seen (L.sent c.args.link.now) (L.left c.args.link.now) (L.faults c.args.link.now) in
    let between = link_seen (L.sent c.frames.link) (L.left c.frames.link) (L.faults c.frames.link) in
    let heard = link_seen (L.sent c.hear.new.link) (L.left c.hear.new.link) (L.faults c.hear.new.link) in
    let link' = link_seen (L.sent c.take_frame.new.link) (L.left c.take_frame.new.link) (L.faults c.take_frame.new.link) in
    let on = c.frames.invariant in
    let is : c.take_frame.result ≡ Ok Done = c.in_ok-take_frame.was ∙ ap Ok c.in-Done.is in
    subst (λ (r : SessionResult). SendsHistory g.H.Host.honest (g.H.Host.seen c.args.host.now) c.args.agent.now link r (g.H.Host.seen c.take_frame.new.host) c.take_frame.new.agent link') (ap result_of is)
    (ends-there g.H.Host.honest (g.H.Host.seen c.args.host.now) c.args.agent.now link c.frames.incoming c.frames.child.last (g.H.Host.seen c.frames.host) c.frames.agent between on
    c.frame.result.now c.hear.new.incoming heard (c.in_ok-hear.ensures.given link.left on.frames on.given c.frame.result.now c.frame.ensures) c.in_ok-hear.ensures.sent (c.in_ok-hear.ensures.cause.stays (λ e. cc))
    c.take_frame.result (g.H.Host.seen c.take_frame.new.host) c.take_frame.new.agent c.take_frame.new.self.last link' c.take_frame.ensures.takes c.take_frame.ensures.ends c.take_frame.ensures.left c.take_frame.ensures.cause (λ e. cc))
