use Rattle.std.proofs.Common.{◌≡◌, drop}
use Rattle.std.specs.Prelude.{nat_lt}
use Rattle.checkpoint_body.specs.Canonical.{point_count}
use Rattle.checkpoint_body.proofs.canonical.has_fewer_points.Given as goal

-- the pages that are left decide
abbrev pub invariant-loop-page : goal.invariant-loop-page
invariant-loop-page l = nat_lt (point_count (drop l.page-index l.pages)) l.left ≡ nat_lt (point_count l.pages) l.fn.items
