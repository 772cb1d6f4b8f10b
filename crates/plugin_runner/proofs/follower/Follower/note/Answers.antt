use Rattle.std.proofs.Common.{ℕ, List, ◌∷◌, Option, Result, Ok, Err, refl, subst, sym}
use Rattle.std.specs.Result.{OnOk}
use Rattle.history.specs.declared.line.Line.{Line}
use Rattle.history.specs.declared.line.Line.TheVariants as line
use Rattle.plugin_runner.specs.declared.follower.Follower.{Follower}
use Rattle.plugin_runner.specs.Follower.{Follows, Notes}
use Rattle.plugin_runner.specs.Text.{Origin}
use Rattle.plugin_runner.proofs.FollowLemmas.{noted, noted-other}
use Rattle.plugin_runner.proofs.follower.Follower.note.Goals as goal

-- the same, where the call may fail
noted-ok : {T E : Type 0} (result : Result T E) (line : Line) (old new : Follower) (before : Option (List ℕ))
    → OnOk result ((origin : Origin) (readings : List ℕ) (past : List Line) → Follows old origin readings past → Follows new origin readings (line ∷ past))
    → OnOk result (Notes line old new before before)
noted-ok (Ok value) line old new before follows = noted line old new before before refl follows
noted-ok (Err fault) line old new before follows = tt

pub returns-in-End-clause-ok : goal.returns-in-End-clause-ok
returns-in-End-clause-ok g c =
    let before = g.C.Clock.readings c.args.clock.now in
    subst (λ said. OnOk c.end.result (Notes said c.args.self.now c.end.new.self before before)) (sym c.in-End.is)
    (noted-ok c.end.result line.End c.args.self.now c.end.new.self before c.end.ensures)

pub returns-in-Moment-clause-ok : goal.returns-in-Moment-clause-ok
returns-in-Moment-clause-ok g c =
    let before = g.C.Clock.readings c.args.clock.now in
    subst (λ said. Notes said c.args.self.now c.close_beat.new.self before before) (sym c.in-Moment.is)
    (noted (line.Moment c.in-Moment.moment) c.args.self.now c.close_beat.new.self before before refl c.close_beat.ensures)

pub returns : goal.returns
returns g c = record {
  ok = noted-other c.args.line c.in-Chart.is c.args.self.now (g.C.Clock.readings c.args.clock.now);
  err = tt;
}
