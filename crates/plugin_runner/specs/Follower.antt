use Rattle.std.specs.Prelude.{◌≡◌, ℕ, ◌++◌, ◌∷◌, List, Option, length}
use Rattle.history.specs.declared.line.Line.{Line}
use Rattle.history.specs.Looking.{open_block}
use Rattle.plugin_runner.specs.declared.follower.Follower.{Follower}
use Rattle.plugin_runner.specs.Looking.{last_moment, has_begun, beats_begun, reading_at, charts}
use Rattle.plugin_runner.specs.Reads.{Reads}
use Rattle.plugin_runner.specs.Text.{Origin}

-- a follower knows what these lines say, the latest first, for which the clock gave these readings
pub record Follows (follower : Follower) (origin : Origin) (readings : List ℕ) (past : List Line) : Type 0 where
  pub every : follower.every ≡ origin.every
  pub last : follower.last ≡ last_moment origin.last past
  pub begun : follower.begun ≡ has_begun past
  pub reading : follower.reading ≡ reading_at readings (beats_begun past)
  pub count : length readings ≡ beats_begun past
  pub block : follower.block ≡ open_block past
  pub rows : follower.rows ≡ charts past

-- a follower took a line, and the clock was read where it is the first BEGIN of its beat
pub record Notes (line : Line) (old new : Follower) (before now : Option (List ℕ)) : Type 0 where
  pub taken : List ℕ
  pub reads : Reads before taken now
  pub follows : (origin : Origin) (readings : List ℕ) (past : List Line) → Follows old origin readings past → Follows new origin (readings ++ taken) (line ∷ past)
