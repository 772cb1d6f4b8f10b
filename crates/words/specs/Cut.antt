use Rattle.std.specs.Prelude.{◌≡◌, ℕ, true, false, List, [], ◌∷◌}
use Rattle.words.specs.Words.{words, has_open_quote, behind_first, IsEndOf}

-- this is the first word of a line, and the rest has the others
pub record Cuts (line word rest : List ℕ) : Type 0 where
  pub first : words line ≡ word ∷ words rest
  pub open_quote : has_open_quote rest ≡ has_open_quote line
  pub behind : behind_first line ≡ rest
  pub end : IsEndOf line rest

-- a line has no words, no quote of it is open, and nothing is left of it
pub record IsAllCut (line rest : List ℕ) : Type 0 where
  pub none : words line ≡ []
  pub closed : has_open_quote line ≡ false
  pub end : IsEndOf line rest
  pub empty : rest ≡ []

-- a line has no complete word, since the quote that begins its first one stays open
pub record StaysOpen (line : List ℕ) : Type 0 where
  pub none : words line ≡ []
  pub open_quote : has_open_quote line ≡ true
