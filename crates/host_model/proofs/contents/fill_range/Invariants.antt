use Rattle.std.proofs.Common.{◌≡◌, ℕ, ◌<◌, ◌≤◌, ◌⊎◌, get_or}
use Rattle.host_model.proofs.contents.fill_range.Given as goal

abbrev pub invariant-loop-place : goal.invariant-loop-place
invariant-loop-place l = ((place : ℕ) → ((place < l.at) ⊎ (l.place ≤ place)) → get_or l.kept place 0 ≡ get_or l.fn.kept place 0)
    × ((place : ℕ) → l.at ≤ place → place < l.place → get_or l.kept place 0 ≡ l.byte)
