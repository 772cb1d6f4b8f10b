-- what the steps of a switch leave of their file
use Rattle.std.specs.Prelude.{◌≡◌, ◌⊎◌, ℕ, ◌<◌, List, length, take, drop}
use Rattle.host_model.specs.Images.{Change, IsImage}
use Rattle.checkpoint.specs.Form.{IsShut}

-- the first byte is as it was
pub record KeepsGate (old bytes : List ℕ) : Type 0 where
  pub reaches : 0 < length bytes
  pub gate : take 1 bytes ≡ take 1 old

-- all but the first byte is as it was
pub record KeepsBehindGate (old bytes : List ℕ) : Type 0 where
  pub size : length bytes ≡ length old
  pub rest : drop 1 bytes ≡ drop 1 old

-- a crash may have left these bytes before, or the file is not open
abbrev pub IsSameOrShut : List Change → List ℕ → Type 0
IsSameOrShut past bytes = IsImage past bytes ⊎ IsShut bytes

-- a crash may have left these bytes before, or the file is not open, or it holds the new ones whole
abbrev pub IsReplacing : List Change → List ℕ → List ℕ → Type 0
IsReplacing past whole bytes = IsImage past bytes ⊎ (IsShut bytes ⊎ (bytes ≡ whole))
