-- What a store has stored for a history, and which disks stand for it. A history has its newest beat first, and so has the
-- store.
use Rattle.std.specs.Prelude.{◌≡◌, ◌⊎◌, ℕ, false, List, [], ◌∷◌, take, Option, None}
use Rattle.host_model.specs.declared.file.File.{File}
use Rattle.host_model.specs.Past.{Event}
use Rattle.history.specs.declared.fault.BlockFault.{BlockFault}
use Rattle.history.specs.History.{Beat, health}
use Rattle.tier_settings.specs.declared.settings.Settings.{Settings}
use Rattle.store_core.specs.declared.beats.beat.Beat.{Beat as StoreBeat}
use Rattle.store_core.specs.Stands.{is_made, Stands}
use Rattle.store_core.specs.Store.{IsStoreOf, StoreState}
use Rattle.store_core.specs.Stored.{IsBaseOf, Stored}
use Rattle.agent_core.specs.Answers.{tier_beats}
use Rattle.agent_core.specs.Health.{health_refusal}
use Rattle.agent_core.specs.Kept.{onto, AreBeatsOf, IsBeatOf}
use Rattle.agent_core.specs.Sides.{IsSideOf}

-- a history is an earlier one with the beats that these are kept for
abbrev pub AreSince : (earlier h : List Beat) → List StoreBeat → Type 0
AreSince earlier h [] = h ≡ earlier
AreSince earlier [] (kept ∷ beats) = ⊥
AreSince earlier (beat ∷ h) (kept ∷ beats) = IsBeatOf h beat kept × AreSince earlier h beats

-- A store has stored this for this history: its base is of the history up to the checkpoint, whose beats it had kept, and
-- has the side of that; and it keeps the beats since.
pub record IsStoredOf (set : Settings) (h : List Beat) (stored : Stored) : Type 0 where
  -- the history up to the checkpoint, and what the store had kept of its beats
  pub earlier : List Beat
  pub beats : List StoreBeat
  pub were : AreBeatsOf earlier beats
  pub base : IsBaseOf set (tier_beats earlier) stored.base
  pub side : IsSideOf set earlier stored.base.side
  pub since : AreSince earlier h stored.after

-- the store holds this history: none of its beats waits
pub record HoldsHistory (past : List Event) (store : StoreState) (set : Settings) (h : List Beat) : Type 0 where
  pub stored : Stored
  pub are : IsStoredOf set h stored
  pub store_of : IsStoreOf past store stored

-- the disk holds the database with these settings and this history
pub record StandsForHistory (set : Settings) (h : List Beat) (disk : File → List ℕ) : Type 0 where
  pub stored : Stored
  pub are : IsStoredOf set h stored
  pub stands : Stands stored disk

-- the disk holds this history with the first of these beats, with none or with all of them
abbrev pub StandsForPrefix : Settings → List Beat → List Beat → (File → List ℕ) → Type 0
StandsForPrefix set h more disk = (n : ℕ) × StandsForHistory set (onto h (take n more)) disk

-- the disk holds no database, or the one with these settings and without beats
abbrev pub StandsForNew : Settings → (File → List ℕ) → Type 0
StandsForNew set disk = (is_made disk ≡ false) ⊎ StandsForHistory set [] disk

-- the disk holds this history, or, where nothing refuses it, with the history after a call
abbrev pub StandsForOneOf : Settings → List Beat → Option BlockFault → List Beat → (File → List ℕ) → Type 0
StandsForOneOf set h refusal after disk = StandsForHistory set h disk ⊎ ((refusal ≡ None) × StandsForHistory set after disk)

-- the disk holds this history, or, where nothing refuses the text, with this configuration
abbrev pub StandsForHealth : Settings → List Beat → List ℕ → (File → List ℕ) → Type 0
StandsForHealth set h text disk = StandsForHistory set h disk ⊎ ((health_refusal text ≡ None) × StandsForHistory set (health text ∷ h) disk)
