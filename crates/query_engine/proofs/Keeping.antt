use Rattle.std.proofs.Common.{◌≡◌, ℕ, List}
use Rattle.tier_rollup.specs.declared.point.Point.{Point}
use Rattle.query_engine.specs.Points.{Tiers}

-- an object has the tiers that it had, tells what it told, keeps what it held, has not failed, and what was made so far is what its
-- points say
pub record Keeps (before now : Tiers) (told_before told_now : (ℕ → List Point) → Type 0) (kept : Type 0) (faults_before faults_now : ℕ)
    (made : (ℕ → List Point) → Type 0) : Type 0 where
  pub same : now ≡ before
  pub still : (told : ℕ → List Point) → told_before told → told_now told
  pub holds : kept
  pub unfailed : faults_now ≡ faults_before
  pub so_far : (told : ℕ → List Point) → told_before told → made told
