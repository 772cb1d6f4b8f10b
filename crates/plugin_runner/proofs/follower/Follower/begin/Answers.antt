use Rattle.std.proofs.Common.{refl}
use Rattle.plugin_runner.proofs.FollowLemmas.{begin-read, begin-again}
use Rattle.plugin_runner.proofs.follower.Follower.begin.Goals as goal
use Rattle.plugin_runner.proofs.follower.Follower.begin.Goals.{then-not-self, else-not-self}

pub returns : goal.returns
returns g c = elim c.if-not-self.branch [
  | then-not-self w ↦
      rw (w.self-is, w.clock-is)
      (begin-read c.args.self.now _ c.args.chart _ _ (record { every = refl; last = refl; begun = refl; block = refl; rows = refl }) w.if-not-self.true w.moment-self.ensures.reading w.moment-self.ensures.later)
  | else-not-self w ↦
      rw (w.self-is, w.clock-is)
      (begin-again c.args.self.now _ c.args.chart _ (record { every = refl; last = refl; begun = w.if-not-self.false; block = refl; rows = refl }) w.if-not-self.false refl)
]
