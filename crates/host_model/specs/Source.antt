use Rattle.std.specs.Prelude.{◌≡◌, ℕ, List, ◌++◌, Option, option_map}

-- these bytes were a prefix of what was left, and were taken; a silent source stays silent
abbrev pub Takes : Option (List ℕ) → List ℕ → Option (List ℕ) → Type 0
Takes before bytes after = before ≡ option_map (λ left. bytes ++ left) after
