-- Which feeds may close beats for an agent.
use Rattle.std.specs.Prelude.{◌≡◌, ℕ, ◌≤◌, true, false, List, [], ◌∷◌, All}
use Rattle.history.specs.declared.limits.TheConstants.{UPDATE_EVERY_LIMIT}
use Rattle.history.specs.declared.line.Line.{Line}
use Rattle.history.specs.declared.line.Line.TheVariants.{Begin}
use Rattle.history.specs.Limits.{keeps_limits}
use Rattle.history.specs.Looking.{beat}
use Rattle.history.specs.Refusal.{has_row}
use Rattle.collect_block.specs.declared.feed.Feed.{Feed}
use Rattle.collect_block.specs.Feed.{IsFeedOf}

-- the line does not open a second block of a chart in its beat
abbrev pub OpensFirst : ℕ → List Line → Line → Type 0
OpensFirst every past (Begin chart) = has_row (beat every past) chart ≡ false
OpensFirst every past line = Unit {0}

-- none of these lines, the latest first, does
abbrev pub OpenEachFirst : ℕ → List Line → Type 0
OpenEachFirst every [] = Unit {0}
OpenEachFirst every (line ∷ past) = OpensFirst every past line × OpenEachFirst every past

-- The feed gives charts an update_every that keeps its limit, and has taken lines whose definitions keep theirs,
-- none of which opens a second block of a chart in its beat. A new feed with such an update_every is so, and a
-- line that is refused is not taken.
pub record IsFed (feed : Feed) : Type 0 where
  pub every : ℕ
  pub past : List Line
  pub feed_of : IsFeedOf feed every past
  pub grid_limit : every ≤ UPDATE_EVERY_LIMIT
  pub blocks : OpenEachFirst every past
  pub limits : All (λ (line : Line). keeps_limits line ≡ true) past
