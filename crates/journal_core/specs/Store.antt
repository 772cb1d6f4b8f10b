use Rattle.std.specs.Prelude.{◌≡◌, ℕ, ◌+◌, ◌<◌, List, ◌∷◌, ◌++◌, length, take, drop}
use Rattle.journal_core.specs.Form.{length_field}

-- the bytes up to and with this gate are as they were
pub record KeepsThrough (gate : ℕ) (old bytes : List ℕ) : Type 0 where
  pub reaches : gate < length bytes
  pub prefix : take (gate + 1) bytes ≡ take (gate + 1) old

-- the bytes on both sides of this gate are as they were
pub record KeepsBeside (gate : ℕ) (old bytes : List ℕ) : Type 0 where
  pub reaches : gate < length bytes
  pub prefix : take gate bytes ≡ take gate old
  pub behind : drop (gate + 1) bytes ≡ drop (gate + 1) old

-- behind this gate stand the record and a closed gate, and before it nothing has changed
pub record Stages (gate : ℕ) (body old new : List ℕ) : Type 0 where
  pub rest : List ℕ
  pub form : new ≡ take (gate + 1) old ++ (length_field (length body) ++ (body ++ 0 ∷ rest))
