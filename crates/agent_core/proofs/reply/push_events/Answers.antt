use Rattle.std.proofs.Common.{sym}
use Rattle.agent_core.proofs.ReplyLemmas.{lines-more}
use Rattle.agent_core.proofs.reply.push_events.Goals as goal

pub loop-event-preserved : goal.loop-event-preserved
loop-event-preserved c =
    lines-more c.args.events.now c.loop-event.event-index c.event-item.result c.args.text.now c.loop-event.text c.push_event.new.text c.loop-event-test.true (sym c.event-item.is) c.in_ok-push_event.ensures c.loop-event.invariant
