use Rattle.std.specs.Prelude.{◌≡◌, ℕ, List, ◌++◌, take, Option, option_map}

-- these bytes were put behind what was sent; a silent link stays silent
abbrev pub Sends : Option (List ℕ) → List ℕ → Option (List ℕ) → Type 0
Sends before bytes after = after ≡ option_map (λ sent. sent ++ bytes) before

-- a prefix of these bytes was put behind what was sent: none, some or all of them
abbrev pub SendsPrefix : Option (List ℕ) → List ℕ → Option (List ℕ) → Type 0
SendsPrefix before bytes after = (n : ℕ) × Sends before (take n bytes) after
