use Rattle.std.specs.Prelude.{ℕ, List, [], ◌∷◌, map, slice_index_or}
use denote.Ref.{Bor}

-- the bytes of some texts
abbrev pub texts : List (Bor (List ℕ)) → List (List ℕ)
texts words = map (λ word. word.now) words

-- one of the words behind a keyword, counted from 0, or the empty word where it is missing
abbrev pub field : ℕ → List (List ℕ) → List ℕ
field place words = slice_index_or words place []

-- a word, or another one where it is empty
abbrev pub word_or : List ℕ → List ℕ → List ℕ
word_or other [] = other
word_or other (byte ∷ bytes) = byte ∷ bytes
