use Rattle.std.proofs.Common.{sym, ◌∙◌}
use Rattle.replication.proofs.Copies.{latest-some, latest-none}
use Rattle.replication.proofs.latest.last_moment.Goals as goal

pub returns-in-Some : goal.returns-in-Some
returns-in-Some g c = c.moment.ensures ∙ latest-some g.T.Timed.moment_of c.args.before c.args.items.now _ (sym c.in-Some.ensures.value)

pub returns-in-None : goal.returns-in-None
returns-in-None g c = latest-none g.T.Timed.moment_of c.args.before c.args.items.now (sym c.in-None.ensures.value)
