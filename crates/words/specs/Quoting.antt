use Rattle.std.specs.Prelude.{◌≢◌, ℕ, List, [], ◌∷◌, ◌++◌, All}

-- a text between two quotes
abbrev pub in_quotes : ℕ → List ℕ → List ℕ
in_quotes quote text = quote ∷ (text ++ quote ∷ [])

-- a text without this quote
abbrev pub HasNo : ℕ → List ℕ → Type 0
HasNo quote text = All (λ byte. byte ≢ quote) text
