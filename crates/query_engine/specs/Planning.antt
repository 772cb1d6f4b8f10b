use Rattle.std.specs.Prelude.{◌≡◌, ◌≢◌, ℕ, ◌%◌, ◌<◌, ◌≤◌, Bool, true, length, slice_index}
use Rattle.query_engine.specs.declared.plan.Plan.{Plan}
use Rattle.query_engine.specs.Points.{Tiers}

-- the tier may be read, and of the tiers below a count that may be read it has the lowest floor, and on a tie the highest
-- number
pub record IsLowestTier (floor : ℕ → ℕ) (may : ℕ → Bool) (count tier : ℕ) : Type 0 where
  pub inside : tier < count
  pub allowed : may tier ≡ true
  pub lowest : (other : ℕ) → other < count → may other ≡ true → floor tier ≤ floor other
  pub highest : (other : ℕ) → other < count → may other ≡ true → tier < other → floor tier < floor other

-- the plan names a tier that is there, its width and its floor
pub record IsPlan (tiers : Tiers) (plan : Plan) : Type 0 where
  pub inside : plan.tier < length tiers.widths
  pub width : plan.width ≡ slice_index tiers.widths plan.tier
  pub positive : 0 < plan.width
  pub floor : plan.floor ≡ tiers.floor plan.tier

-- a part of a window from one moment on ends at a later one, by the window's end, and with a bucket of the plan's tier
pub record IsPartEnd (plan : Plan) (from end to : ℕ) : Type 0 where
  pub later : from < to
  pub inside : to ≤ end
  pub whole : plan.tier ≢ 0 → to % plan.width ≡ 0
