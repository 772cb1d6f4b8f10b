-- The gaps of a copy: the spans of its child that it did not copy. A history has its newest beat first, and gaps stand with
-- the oldest first.
use Rattle.std.specs.Prelude.{◌≡◌, ℕ, ◌+◌, ◌*◌, ◌<◌, ◌==◌, nat_lt, List, [], ◌∷◌, ◌++◌, map, if◌then◌else◌}
use Rattle.std.specs.List.{AllByRecursion}
use Rattle.history.specs.History.{Beat, gaps, Gap}
use Rattle.side_codec.specs.declared.gap.GapSpan.{GapSpan}
use Rattle.side_codec.specs.Size.{side_limit}
use Rattle.tier_settings.specs.declared.settings.Settings.{Settings}
use Rattle.tier_settings.specs.Settings.{first_tier}
use Rattle.agent_core.specs.Answers.{floor_of_history}

abbrev pub gap_span : Gap → GapSpan
gap_span gap = record { from = gap.from; to = gap.to }

-- ---- gaps that meet

-- two gaps, one behind the other: where the first ends where the second begins, they are one
abbrev pub meeting : GapSpan → GapSpan → List GapSpan
meeting first second = if first.to == second.from then record { from = first.from; to = second.to } ∷ [] else first ∷ second ∷ []

-- a gap behind others, which may meet the last of them
abbrev pub join_gap : List GapSpan → GapSpan → List GapSpan
join_gap [] gap = gap ∷ []
join_gap (last ∷ []) gap = meeting last gap
join_gap (first ∷ next ∷ others) gap = first ∷ join_gap (next ∷ others) gap

abbrev pub joined_behind : List GapSpan → List GapSpan → List GapSpan
joined_behind before [] = before
joined_behind before (gap ∷ others) = joined_behind (join_gap before gap) others

-- the gaps of a history, those that meet as one
abbrev pub gaps_of : List Beat → List GapSpan
gaps_of h = joined_behind [] (map gap_span (gaps h))

-- ---- the floor of tier 0

-- without the first ones, those that end below the floor
abbrev pub gaps_above : ℕ → List GapSpan → List GapSpan
gaps_above floor [] = []
gaps_above floor (gap ∷ others) = if nat_lt gap.to floor then gaps_above floor others else gap ∷ others

-- how many gaps a checkpoint may have: one more than tier 0 can keep beats with points
unfoldable pub gap_limit : Settings → ℕ
gap_limit set = ((first_tier set).extents + 1) * (first_tier set).items + 1

-- how many bytes the side of a database may have: 8 for each of them, and all else has fewer than 2^28
abbrev pub side_share : Settings → ℕ
side_share set = side_limit (gap_limit set)

-- the history left these gaps: those that came before them end below the floor
pub record AreGapsLeft (set : Settings) (h : List Beat) (left : List GapSpan) : Type 0 where
  pub dropped : List GapSpan
  pub whole : gaps_of h ≡ dropped ++ left
  pub below : AllByRecursion (λ (gap : GapSpan). gap.to < floor_of_history set h 0) dropped
