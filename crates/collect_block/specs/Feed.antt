use Rattle.std.specs.Prelude.{◌≡◌, ℕ, ◌+◌, ◌-◌, ◌^◌, ◌<◌, true, min, List, [], ◌∷◌, Option, Some, None, is_some}
use Rattle.std.specs.Option.{option_map}
use Rattle.history.specs.declared.fault.BlockFault.{BlockFault}
use Rattle.history.specs.declared.fault.BlockFault.TheVariants.{Memory}
use Rattle.history.specs.declared.line.Line.{Line}
use Rattle.history.specs.declared.line.Line.TheVariants as line
use Rattle.history.specs.Registry.{Registry}
use Rattle.history.specs.Looking.{open_block, last_chart, values, beat}
use Rattle.collect_block.specs.declared.block.Block.{Block}
use Rattle.collect_block.specs.declared.feed.Feed.{Feed}
use Rattle.collect_block.specs.declared.step.Step.{Step}
use Rattle.collect_block.specs.declared.step.Step.TheVariants.{Nothing, Beat, Query, Disabled}
use Rattle.collect_block.specs.BeatTables.{beat_of, CountsNew}

-- how many of these lines say nothing
abbrev pub skips : List Line → ℕ
skips [] = 0
skips (line.Skipped ∷ past) = skips past + 1
skips (line ∷ past) = skips past

-- what a line leads to, by the lines before it
abbrev pub step_of : ℕ → List Line → Line → Step
step_of every past (line.Moment moment) = Beat (beat every past) moment
step_of every past (line.Query text) = Query text
step_of every past line.Disable = Disabled
step_of every past line = Nothing

-- the open block of a text
abbrev pub block_of : List Line → List ℕ → Block
block_of past chart = record { chart = chart; values = values past }

-- A feed has taken these lines, the latest first; `every` is the update_every of the charts whose line
-- leaves it open.
pub record IsFeedOf (feed : Feed) (every : ℕ) (past : List Line) : Type 0 where
  pub update_every : feed.every ≡ every
  pub grid : 0 < every
  pub chart : feed.chart ≡ last_chart past
  pub block : feed.block ≡ option_map (block_of past) (open_block past)
  pub beat : beat_of feed.beat ≡ beat every past
  pub skipped : feed.skipped ≡ min (skips past) (2 ^ 64 - 1)

-- the feed has taken one line more
abbrev pub Becomes : Line → Feed → Feed → Type 0
Becomes line old new = (every : ℕ) (past : List Line) → IsFeedOf old every past → IsFeedOf new every (line ∷ past)

-- The feed counts at least the definitions of its open beat that this registry does not have: the charts, the
-- dimensions, and those of each chart. It does for a registry that has all that those had which it was handed.
pub record CountsFor (feed : Feed) (registry : Registry) : Type 0 where
  pub beat : CountsNew feed.beat registry

-- the same, where a line defines a chart or a dimension
abbrev pub CountsAt : Line → Feed → Registry → Type 0
CountsAt (line.Chart def) feed registry = CountsFor feed registry
CountsAt (line.Dimension def) feed registry = CountsFor feed registry
CountsAt line feed registry = Unit {0}

-- the feed counts on once it has taken a line: where that closes the beat nothing is left to count, whatever
-- registry there will be
abbrev pub CountsPast : Line → Feed → Registry → Type 0
CountsPast (line.Moment moment) feed registry = (later : Registry) → CountsFor feed later
CountsPast line feed registry = CountsFor feed registry

-- A line is refused with this fault for this reason. Memory runs out only where nothing else stands
-- against the line.
abbrev pub RefusedBy : Option BlockFault → BlockFault → Type 0
RefusedBy reason Memory = reason ≡ None
RefusedBy reason fault = reason ≡ Some fault

-- There is the chart that a line's dimension is of, or the block that its value goes to or that it closes.
abbrev pub IsPlaced : Line → Feed → Type 0
IsPlaced (line.Dimension def) feed = is_some feed.chart ≡ true
IsPlaced (line.Set id value anomalous) feed = is_some feed.block ≡ true
IsPlaced line.End feed = is_some feed.block ≡ true
IsPlaced line feed = Unit {0}

-- a line that closes no beat
abbrev pub ClosesNone : Line → Type 0
ClosesNone (line.Moment moment) = ⊥
ClosesNone line = Unit {0}
