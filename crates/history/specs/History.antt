use Rattle.std.specs.Prelude.{ℕ, List, [], ◌∷◌, ◌++◌, Option, Some, None}
use Rattle.history.specs.declared.beat.OpenBeat.{OpenBeat}
use Rattle.history.specs.declared.beat.OpenDim.{OpenDim}
use Rattle.history.specs.declared.chart.ChartDef.{ChartDef}
use Rattle.history.specs.Registry.{Registry, empty, with_definitions}

-- a storage number of a series
pub record Word : Type 0 where
  pub series : ℕ
  pub word : ℕ

-- a beat that was copied from a child, with its definitions by the child's ids
pub record Copy : Type 0 where
  pub child : ℕ
  pub moment : ℕ
  pub charts : List ChartDef
  pub dimensions : List OpenDim
  pub words : List Word

-- the span (from, to] that a child had expired
pub record Gap : Type 0 where
  pub child : ℕ
  pub from : ℕ
  pub to : ℕ

-- what an agent stores as one
pub data Beat : Type 0 where
  collected : (moment : ℕ) (beat : OpenBeat) → Beat
  copied : (copy : Copy) → Beat
  health : (text : List ℕ) → Beat
  missing : (gap : Gap) → Beat

-- A history is the list of an agent's beats, the latest first.

-- its last moment, or 0; a gap counts with its end
abbrev pub last : List Beat → ℕ
last [] = 0
last (collected moment beat ∷ h) = moment
last (copied copy ∷ h) = copy.moment
last (health text ∷ h) = last h
last (missing gap ∷ h) = gap.to

-- the child that it copies, if it copies
abbrev pub child : List Beat → Option ℕ
child [] = None
child (copied copy ∷ h) = Some copy.child
child (missing gap ∷ h) = Some gap.child
child (beat ∷ h) = child h

-- the text of its last configuration, if it has one
abbrev pub configuration : List Beat → Option (List ℕ)
configuration [] = None
configuration (health text ∷ h) = Some text
configuration (beat ∷ h) = configuration h

-- its gaps, the oldest first
abbrev pub gaps : List Beat → List Gap
gaps [] = []
gaps (missing gap ∷ h) = gaps h ++ gap ∷ []
gaps (beat ∷ h) = gaps h

-- its charts and dimensions
abbrev pub registry_of : List Beat → Registry
registry_of [] = empty
registry_of (collected moment beat ∷ h) = with_definitions (registry_of h) beat.charts beat.dimensions
registry_of (copied copy ∷ h) = with_definitions (registry_of h) copy.charts copy.dimensions
registry_of (beat ∷ h) = registry_of h
