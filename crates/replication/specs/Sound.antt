-- What holds of a world after any steps.
use Rattle.std.specs.Prelude.{◌≡◌, ℕ, ◌<◌, ◌≤◌, List, length}
use Rattle.std.specs.List.{AllByRecursion}
use Rattle.replication.specs.declared.ask.Ask.{Ask}
use Rattle.replication.specs.declared.message.Data.{Data}
use Rattle.replication.specs.declared.named.NamedBeat.{NamedBeat}
use Rattle.replication.specs.declared.parent.Parent.{Parent}
use Rattle.replication.specs.declared.step.World.{World}
use Rattle.replication.specs.Answer.{IsWhole}
use Rattle.replication.specs.Copies.{EndsBy, RisesFrom, latest, IsCopy, IsTrueOf}
use Rattle.replication.specs.Names.{named_moment, message_of}
use Rattle.replication.specs.World.{child_of}

-- what the Data says is true of the child, it has all names that its beats use, and each beat has a word
pub record IsTrueData (floors : List ℕ) (child : List NamedBeat) (sent : Data) : Type 0 where
  pub says : IsTrueOf named_moment floors child (message_of sent)
  pub whole : IsWhole sent

abbrev pub HavePoints : List NamedBeat → Type 0
HavePoints beats = AllByRecursion (λ (beat : NamedBeat). 0 < length beat.points) beats

-- The child's moments rise, each of its beats has a point, and the copy ends within them. Each gap ends by the
-- end of the copy. The parent is a copy of the child, and each message is true of it and from it. No ask and no
-- message begins above the end of the copy.
pub record Sound (w : World) : Type 0 where
  pub rises : RisesFrom named_moment 0 w.beats
  pub points : HavePoints w.beats
  pub within : w.last ≤ latest named_moment 0 w.beats
  pub ended : AllByRecursion (EndsBy w.last) w.gaps
  pub copies : IsCopy named_moment w.floors w.beats w.held w.gaps w.last
  pub told : AllByRecursion (IsTrueData w.floors w.beats) w.messages
  pub child : AllByRecursion (λ (sent : Data). sent.child ≡ 1) w.messages
  pub asked : AllByRecursion (λ (ask : Ask). ask.last ≤ w.last) w.asks
  pub begun : AllByRecursion (λ (sent : Data). sent.prev ≤ w.last) w.messages

-- The parent ends where the world's copy does. It is of child 1, once it has anything.
pub record IsEndOf (w : World) (parent : Parent) : Type 0 where
  pub last : parent.last ≡ w.last
  pub child : parent.child ≡ child_of w
