-- How the definitions of points pack a fraction here.
use Rattle.std.specs.Prelude.{ℕ, Bool}
use Rattle.fixed_num.specs.declared.rounding.Frac.{Frac}
use Rattle.storage_number.specs.Packing.{storage_number}

-- the storage number of a fraction and its marks anomalous and reset
unfoldable pub packed : Frac → Bool → Bool → ℕ
packed q anomalous reset = storage_number q.num q.den anomalous reset
