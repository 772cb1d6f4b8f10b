use Rattle.std.specs.Prelude.{ℕ, List, [], ◌∷◌, decimal}

-- the words of a start: the program, how many seconds lie between beats, and the program's arguments
abbrev pub start_words : List (List ℕ) → ℕ → List (List ℕ)
start_words [] every = decimal every ∷ []
start_words (program ∷ arguments) every = program ∷ decimal every ∷ arguments
