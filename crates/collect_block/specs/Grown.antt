use Rattle.std.specs.Prelude.{◌≡◌, ℕ, List, true}
use Rattle.std.specs.List.{list_any}
use Rattle.history.specs.Registry.{Registry, is_chart, is_dimension}

-- the later registry has each chart and each dimension of this one
pub record HasAllOf (registry later : Registry) : Type 0 where
  pub charts : (id : List ℕ) → list_any (is_chart id) registry.charts ≡ true → list_any (is_chart id) later.charts ≡ true
  pub dimensions : (chart id : List ℕ) → list_any (is_dimension chart id) registry.dimensions ≡ true → list_any (is_dimension chart id) later.dimensions ≡ true
