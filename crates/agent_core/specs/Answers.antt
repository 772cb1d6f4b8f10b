-- What is answered of a history: from the points of its series, the floors of its tiers and its kept beats. A history has
-- its newest beat first.
use Rattle.std.specs.Prelude.{ℕ, List, [], ◌∷◌, map, reverse, Some, None, unwrap_or, Result, Ok, Err}
use Rattle.algorithms.specs.Words.{packed}
use Rattle.history.specs.History.{Beat, collected, copied, health, missing, registry_of}
use Rattle.history.specs.Points.{points, Point as HistoryPoint}
use Rattle.beat_tiers.specs.declared.kept.Kept.{Kept}
use Rattle.beat_tiers.specs.Beats.{TierBeat}
use Rattle.tier_rollup.specs.declared.point.Point.{Point}
use Rattle.query_engine.specs.declared.request.Request.{Request}
use Rattle.query_engine.specs.Windows.{table_of}
use Rattle.query_text.specs.declared.fault.QueryFault.{QueryFault}
use Rattle.query_text.specs.Asked.{query_read}
use Rattle.query_text.specs.Told.{fault_text, table_text}
use Rattle.tier_settings.specs.declared.settings.Settings.{Settings}
use Rattle.tier_settings.specs.Limits.{widths}
use Rattle.store_core.specs.Tiers.{floor_at, kept_of}
use Rattle.agent_core.specs.Kept.{copied_point, stored_points}

-- ---- what tiers see of a history

-- What tiers see of a beat that follows a history: its moment and its points. A gap has the moment of its end and no
-- points, and a configuration has neither.
abbrev pub tier_beat : List Beat → Beat → TierBeat
tier_beat h (collected moment beat) = record { moment = Some moment; points = stored_points (registry_of (collected moment beat ∷ h)) h moment beat }
tier_beat h (copied copy) = record { moment = Some copy.moment; points = map (copied_point (registry_of (copied copy ∷ h))) copy.words }
tier_beat h (health text) = record { moment = None; points = [] }
tier_beat h (missing gap) = record { moment = Some gap.to; points = [] }

abbrev pub tier_beats : List Beat → List TierBeat
tier_beats [] = []
tier_beats (beat ∷ h) = tier_beat h beat ∷ tier_beats h

-- the floor of a tier: nothing below it is answered
unfoldable pub floor_of_history : Settings → List Beat → ℕ → ℕ
floor_of_history set h tier = floor_at set (tier_beats h) tier

-- ---- the points of a series

abbrev pub told_point : HistoryPoint → Point
told_point point = record { moment = point.moment; word = point.word }

-- the earliest first
unfoldable pub points_of_history : List Beat → ℕ → List Point
points_of_history h series = reverse (map told_point (points packed h series))

-- ---- the reply to a query

-- to what was read of it: the table of a request, or the line of a refusal
unfoldable pub reply_to : Settings → List Beat → Result Request QueryFault → List ℕ
reply_to set h (Ok request) = table_text (registry_of h) request (table_of widths (floor_of_history set h) (points_of_history h) request)
reply_to set h (Err fault) = unwrap_or (fault_text fault) []

unfoldable pub reply_of : Settings → List Beat → List ℕ → List ℕ
reply_of set h text = reply_to set h (query_read (registry_of h) text)

-- ---- the kept beats

-- the beats with points at or above the floor of tier 0, and how many with points lie below it
unfoldable pub kept_of_history : Settings → List Beat → Kept
kept_of_history set h = kept_of set (tier_beats h)
