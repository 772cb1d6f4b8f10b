use Rattle.std.specs.Prelude.{◌==◌, ℕ, Bool, true, not, if◌then◌else◌, List, [], ◌∷◌, Option, option_map, find}
use Rattle.simple_pattern.specs.Glob.{is_match}

-- the byte of `!`
abbrev pub bang : ℕ
bang = 33

-- a word refuses where it begins with `!`, and else accepts
abbrev pub accepts : List ℕ → Bool
accepts [] = true
accepts (byte ∷ word) = not (byte == bang)

-- the glob of a word is what follows its `!`, and else all of it
abbrev pub glob_of : List ℕ → List ℕ
glob_of [] = []
glob_of (byte ∷ word) = if byte == bang then word else byte ∷ word

-- the first word that a name matches decides: whether the word accepts
abbrev pub decision : List (List ℕ) → List ℕ → Option Bool
decision words name = option_map accepts (find (λ word. is_match (glob_of word) name) words)
