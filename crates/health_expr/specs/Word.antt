-- A word of the code, and the one that it is.
use Rattle.std.specs.Prelude.{◌≡◌, ℕ, ◌-◌, ◌<◌, ◌≤◌, ◌⊎◌, List, length, drop, slice_index}
use Rattle.health_expr.specs.declared.word.Word.{Word}
use Rattle.health_expr.specs.Cut.{Cut}

-- the word is the one that was cut off a text
pub record Is (cut : Cut) (text : List ℕ) (word : Word) : Type 0 where
  pub kind : word.kind ≡ cut.kind
  pub said : word.said.now ≡ cut.said
  pub rest : word.rest.now ≡ drop cut.len text

-- a prefix of this length is all of the text, or ends with a byte of ASCII
abbrev pub EndsInAscii : List ℕ → ℕ → Type 0
EndsInAscii text len = (len ≡ length text) ⊎ ((0 < len) × (len ≤ length text) × (slice_index text (len - 1) < 128))
