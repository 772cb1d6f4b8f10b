use Rattle.std.proofs.Common.{◌≡◌, true, []}
use Rattle.std.proofs.lemmas.List.Elements.{All-nil}
use Rattle.history.specs.Limits.{keeps_limits}
use Rattle.agent_app.proofs.running.Running.new.Goals as goal

pub returns-clause-fed : goal.returns-clause-fed
returns-clause-fed c = record {
  every = c.args.every;
  past = [];
  feed_of = c.new.ensures.feed;
  grid_limit = c.requires.limit;
  blocks = tt;
  limits = All-nil (λ line. keeps_limits line ≡ true);
}
