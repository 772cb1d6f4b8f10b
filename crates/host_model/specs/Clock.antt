use Rattle.std.specs.Prelude.{ℕ, List, [], ◌∷◌}

-- the next reading of a clock that is to give these; one without a reading gives 0
abbrev pub next_reading : List ℕ → ℕ
next_reading [] = 0
next_reading (reading ∷ later) = reading

-- what it gives after that: the last reading is repeated
abbrev pub later_readings : List ℕ → List ℕ
later_readings [] = []
later_readings (reading ∷ []) = reading ∷ []
later_readings (reading ∷ next ∷ later) = next ∷ later
