use Rattle.std.proofs.Common.{◌≡◌, ◌++◌, take, drop}
use Rattle.replication.specs.Points.{put}
use Rattle.replication.proofs.points.search.Given as goal

-- the points so far come before this one
abbrev pub invariant-loop-place : goal.invariant-loop-place
invariant-loop-place l = put l.point l.points ≡ take l.place l.points ++ put l.point (drop l.place l.points)
