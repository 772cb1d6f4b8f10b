-- What a crash leaves of a history that goes on, what was told of it by then, and a disk on which nothing happens.
use Rattle.std.specs.Prelude.{◌≡◌, ℕ, ◌^◌, ◌<◌, ◌≤◌, List, ◌∷◌, ◌++◌, length, drop, All, codes, decimal}
use Rattle.host_model.specs.declared.file.File.{File}
use Rattle.host_model.specs.Moments.{Throughout}
use Rattle.host_model.specs.Past.{of, Event}
use Rattle.history.specs.History.{Beat}
use Rattle.plugin_text.specs.Lines.{lines}
use Rattle.tier_settings.specs.declared.settings.Settings.{Settings}
use Rattle.agent_core.specs.Stands.{StandsForHistory}

-- a history goes on from another
pub data Extends (h : List Beat) : List Beat → Type 0 where
  no_more : Extends h h
  one_more : (beat : Beat) (g : List Beat) → Extends h g → Extends h (beat ∷ g)

-- the line that tells of a stored beat, without its line feed
abbrev pub stored_line : ℕ → List ℕ
stored_line n = codes "STORED " ++ decimal n

-- no whole line of what was told acknowledges a beat behind the first n; a number that is told is below 2^64
abbrev pub IsAckedUpTo : ℕ → List ℕ → Type 0
IsAckedUpTo n text = All (λ (said : List ℕ). (m : ℕ) → m < 2 ^ 64 → said ≡ stored_line m → m ≤ n) (lines text)

-- at every moment nothing has happened to any file
abbrev pub LeavesFiles : (old new : List Event) → Type 0
LeavesFiles old new = Throughout (λ past. (file : File) → of file past ≡ of file old) old new

-- The disk holds this history with a prefix of the new beats, and every beat that was acknowledged since. `before` is
-- what had been told before.
pub record Keeps (set : Settings) (h0 whole : List Beat) (before : List ℕ) (disk : File → List ℕ) (text : List ℕ) : Type 0 where
  pub stored : List Beat
  pub since : Extends h0 stored
  pub within : Extends stored whole
  pub stands : StandsForHistory set stored disk
  pub acked : IsAckedUpTo (length stored) (drop (length before) text)
