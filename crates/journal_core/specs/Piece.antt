use Rattle.std.specs.Prelude.{◌≡◌, ℕ, List, take, drop}
use Rattle.journal_core.specs.declared.piece.Piece.{Piece}

-- what was read ahead stands at its place in these bytes
pub record ReadsAhead (bytes : List ℕ) (piece : Piece) : Type 0 where
  pub same : take piece.count piece.bytes ≡ take piece.count (drop piece.place bytes)
