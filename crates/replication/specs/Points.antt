-- Points in the order of their names, and names that are numbered in this order.
use Rattle.std.specs.Prelude.{ℕ, Bool, false, List, [], ◌∷◌, ◌++◌, map, if◌then◌else◌}
use Rattle.std.specs.Cmp.Lexicographic.{slice_cmp}
use Rattle.std.specs.List.{list_any, flat_map, position_or_len}
use Rattle.std.specs.declared.cmp.Ordering.{Ordering}
use Rattle.std.specs.Ordering.{is_eq, match_ordering, nat_cmp, ordering_then}
use Rattle.std.specs.Str.{bytes_eq}
use Rattle.replication.specs.declared.beats.Beat.{Beat}
use Rattle.replication.specs.declared.beats.SeriesWord.{SeriesWord}
use Rattle.replication.specs.declared.named.NamedBeat.{NamedBeat}
use Rattle.replication.specs.declared.named.NamedPoint.{NamedPoint}
use Rattle.replication.specs.declared.names.ChartName.{ChartName}
use Rattle.replication.specs.declared.names.DimName.{DimName}
use Rattle.replication.specs.declared.names.Names.{Names}

-- ---- the order of names
-- by the bytes of the chart's id, and then of the dimension's
abbrev pub name_cmp : NamedPoint → NamedPoint → Ordering
name_cmp p q = ordering_then (slice_cmp nat_cmp p.chart q.chart) (slice_cmp nat_cmp p.dimension q.dimension)

abbrev pub has_name_of : NamedPoint → NamedPoint → Bool
has_name_of p q = is_eq (name_cmp p q)

-- the points with one more at its place, in place of one of its name
abbrev pub put : NamedPoint → List NamedPoint → List NamedPoint
put point [] = point ∷ []
put point (p ∷ ps) = match_ordering (name_cmp point p) (point ∷ p ∷ ps) (point ∷ ps) (p ∷ put point ps)

abbrev pub put_all : List NamedPoint → List NamedPoint → List NamedPoint
put_all points [] = points
put_all points (p ∷ ps) = put_all (put p points) ps

-- the points in the order of their names, each name once
abbrev pub in_order : List NamedPoint → List NamedPoint
in_order points = put_all [] points

abbrev pub points_of : List NamedBeat → List NamedPoint
points_of beats = flat_map (λ (beat : NamedBeat). beat.points) beats

-- a point of each name in the beats, in order
abbrev pub names_in : List NamedBeat → List NamedPoint
names_in beats = in_order (points_of beats)

-- ---- names by number
abbrev pub with_id : List (List ℕ) → List ℕ → List (List ℕ)
with_id ids id = if list_any (bytes_eq id) ids then ids else ids ++ id ∷ []

abbrev pub with_ids : List (List ℕ) → List NamedPoint → List (List ℕ)
with_ids ids [] = ids
with_ids ids (p ∷ ps) = with_ids (with_id ids p.chart) ps

-- the charts of the points, each once
abbrev pub charts_of : List NamedPoint → List (List ℕ)
charts_of points = with_ids [] points

-- a chart with its id as context and a value each second
abbrev pub plain_chart : List ℕ → ChartName
plain_chart id = record { id = id; context = id; update_every = 1 }

abbrev pub plain_dimension : List (List ℕ) → NamedPoint → DimName
plain_dimension charts point = record { chart = position_or_len (bytes_eq point.chart) charts; id = point.dimension; hidden = false }

-- the names of these points: a series for each, by its place
abbrev pub names_of : List NamedPoint → Names
names_of points = record { charts = map plain_chart (charts_of points); dimensions = map (plain_dimension (charts_of points)) points }

-- a point and a beat by number
abbrev pub numbered_point : List NamedPoint → NamedPoint → SeriesWord
numbered_point names point = record { series = position_or_len (has_name_of point) names; word = point.word }

abbrev pub numbered_beat : List NamedPoint → NamedBeat → Beat
numbered_beat names beat = record { moment = beat.moment; words = map (numbered_point names) beat.points }

abbrev pub numbered_beats : List NamedPoint → List NamedBeat → List Beat
numbered_beats names beats = map (numbered_beat names) beats
