use Rattle.std.specs.Prelude.{◌≡◌, ℕ, ◌+◌, ◌<◌, ◌≤◌, ◌⊎◌, List, [], ◌∷◌, ◌++◌, length, min, max, take, drop, slice_index}

-- what happened to a file; `now` is what the file reads as afterwards
pub data Change : Type 0 where
  -- a write of `size` bytes from the place `at` on, which may have failed
  Wrote : (at size : ℕ) (now : List ℕ) → Change
  -- a cut to the length `len`, which may have failed
  Cut : (len : ℕ) (now : List ℕ) → Change
  -- a sync that succeeded
  Synced : Change

-- what the file reads as: the changes of a file have the newest first
abbrev pub contents : List Change → List ℕ
contents [] = []
contents (Wrote at size now ∷ past) = now
contents (Cut len now ∷ past) = now
contents (Synced ∷ past) = contents past

-- the bytes after a write of `bytes` from the place `at` on
abbrev pub written : List ℕ → ℕ → List ℕ → List ℕ
written old at bytes = take at old ++ bytes ++ drop (at + length bytes) old

-- what the file read as at the last sync
abbrev pub synced : List Change → List ℕ
synced [] = []
synced (Wrote at size now ∷ past) = synced past
synced (Cut len now ∷ past) = synced past
synced (Synced ∷ past) = contents past

-- the least length since the last sync
abbrev pub least : List Change → ℕ
least [] = 0
least (Wrote at size now ∷ past) = least past
least (Cut len now ∷ past) = min (least past) len
least (Synced ∷ past) = length (contents past)

-- the greatest length since the last sync
abbrev pub greatest : List Change → ℕ
greatest [] = 0
greatest (Wrote at size now ∷ past) = max (greatest past) (at + size)
greatest (Cut len now ∷ past) = greatest past
greatest (Synced ∷ past) = length (contents past)

-- no write and no cut has touched this place since the last sync
abbrev pub IsUntouched : List Change → ℕ → Type 0
IsUntouched [] place = Unit {0}
IsUntouched (Wrote at size now ∷ past) place = ((place < at) ⊎ (at + size ≤ place)) × IsUntouched past place
IsUntouched (Cut len now ∷ past) place = (place < len) × IsUntouched past place
IsUntouched (Synced ∷ past) place = Unit {0}

-- a crash may leave these bytes: the length is one between the least and the greatest since the last
-- sync, and each place that was synced and not touched holds the synced byte
pub record IsImage (past : List Change) (bytes : List ℕ) : Type 0 where
  pub no_shorter : least past ≤ length bytes
  pub no_longer : length bytes ≤ greatest past
  pub kept : (place : ℕ) → place < length (synced past) → place < length bytes → IsUntouched past place
      → slice_index bytes place ≡ slice_index (synced past) place

-- nothing has changed since the last sync
abbrev pub IsSynced : List Change → Type 0
IsSynced [] = Unit {0}
IsSynced (Wrote at size now ∷ past) = ⊥
IsSynced (Cut len now ∷ past) = ⊥
IsSynced (Synced ∷ past) = Unit {0}
