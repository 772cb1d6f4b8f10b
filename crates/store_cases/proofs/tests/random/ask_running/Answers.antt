use Rattle.store_cases.proofs.GoingLemmas.{going-same}
use Rattle.store_cases.proofs.tests.random.ask_running.Goals as goal

pub returns : goal.returns
returns c = record {
  going = going-same c.args.running.now.host c.ask.new.host c.args.running.now.store c.ask.new.store c.ask.ensures.same_store c.ask.ensures.same_host c.requires.going;
}
