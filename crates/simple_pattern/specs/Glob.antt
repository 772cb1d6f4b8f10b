use Rattle.std.specs.Prelude.{◌==◌, ℕ, Bool, true, false, ◌&&◌, ◌||◌, if◌then◌else◌, List, [], ◌∷◌}

-- the byte of `*`
abbrev pub star : ℕ
star = 42

abbrev pub is_star : ℕ → Bool
is_star byte = byte == star

-- some end of a name passes: the whole of it, or what follows some run of it
abbrev pub any_end : (List ℕ → Bool) → List ℕ → Bool
any_end passes [] = passes []
any_end passes (byte ∷ name) = passes (byte ∷ name) || any_end passes name

-- a name begins with this byte, and what follows passes
abbrev pub goes_on : ℕ → (List ℕ → Bool) → List ℕ → Bool
goes_on byte passes [] = false
goes_on byte passes (first ∷ name) = first == byte && passes name

-- whether a name matches a glob: a `*` matches any run of a name, none too, and anything else itself
abbrev pub is_match : List ℕ → List ℕ → Bool
is_match [] [] = true
is_match [] (first ∷ name) = false
is_match (byte ∷ glob) name =
    if is_star byte then any_end (is_match glob) name else goes_on byte (is_match glob) name
