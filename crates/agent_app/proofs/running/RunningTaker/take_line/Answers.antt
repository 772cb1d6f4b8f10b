use Rattle.plugin_text.proofs.LimitLemmas.{limits-of}
use Rattle.agent_app.proofs.running.RunningTaker.take_line.Goals as goal

pub take-requires : goal.take-requires
take-requires g c = record {
  ready = c.requires.ready;
  limits = limits-of c.args.line.now c.in-Ok.said c.requires.whole c.in-Ok.ensures.line;
}

pub returns-in-Err-clause-takes : goal.returns-in-Err-clause-takes
returns-in-Err-clause-takes g c = c.refuse.ensures.takes c.args.line.now c.in-Err.ensures.fault c.requires.short
