use Rattle.std.specs.Prelude.{◌≡◌, ℕ, List, [], ◌∷◌, ◌++◌}
use Rattle.plugin_runner.specs.Text.{Text, Open, Closed}

-- the bytes of lines, the latest of which comes first: each ends with a line feed
abbrev pub bytes : List (List ℕ) → List ℕ
bytes [] = []
bytes (line ∷ past) = bytes past ++ (line ++ 10 ∷ [])

abbrev pub bytes_of : Text → List ℕ
bytes_of (Open past) = bytes past
bytes_of (Closed past tail) = bytes past ++ tail

-- a text begins with these bytes
abbrev pub IsPrefix : List ℕ → List ℕ → Type 0
IsPrefix prefix whole = (more : List ℕ) × (whole ≡ prefix ++ more)
