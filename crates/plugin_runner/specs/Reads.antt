use Rattle.std.specs.Prelude.{◌≡◌, ℕ, List, [], ◌∷◌, Option, IfSome}
use Rattle.std.specs.Option.{option_map}
use Rattle.host_model.specs.Clock.{next_reading, later_readings}

-- a clock was read just so often, and gave these readings
abbrev pub Reads : Option (List ℕ) → List ℕ → Option (List ℕ) → Type 0
Reads before [] now = now ≡ before
Reads before (reading ∷ more) now = IfSome before (λ ahead. reading ≡ next_reading ahead) × Reads (option_map later_readings before) more now
