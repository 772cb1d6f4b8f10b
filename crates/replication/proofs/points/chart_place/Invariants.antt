use Rattle.std.proofs.Common.{◌≡◌, ℕ, ◌<◌, false, List, get_or}
use Rattle.std.specs.Str.{bytes_eq}
use Rattle.replication.proofs.points.chart_place.Given as goal

abbrev pub invariant-loop-place : goal.invariant-loop-place
invariant-loop-place l = (k : ℕ) (d : List ℕ) → k < l.place → bytes_eq l.id (get_or l.charts k d) ≡ false
