use Rattle.std.specs.Prelude.{ℕ, Bool, false, not, ◌&&◌, ◌||◌, List, filter, map, unwrap_or}
use Rattle.std.specs.List.{enumerate_from}
use Rattle.simple_pattern.specs.Pattern.{decision}
use Rattle.history.specs.declared.beat.OpenDim.{OpenDim}
use Rattle.history.specs.declared.dimension.DimDef.{DimDef}
use Rattle.history.specs.Registry.{Registry, is_of}

-- a pattern accepts a name where it decides so; where it says nothing it does not
abbrev pub accepts : List (List ℕ) → List ℕ → Bool
accepts pattern name = unwrap_or (decision pattern name) false

-- a dimension is shown where it is not hidden and the pattern accepts its id or its name
abbrev pub is_shown : List (List ℕ) → DimDef → Bool
is_shown pattern def = not def.hidden && (accepts pattern def.id || accepts pattern def.name)

-- whether a dimension is shown in a query of this chart
abbrev pub is_column : List ℕ → List (List ℕ) → OpenDim → Bool
is_column chart pattern dimension = is_of chart dimension && is_shown pattern dimension.def

-- the numbers of the dimensions that a query of this chart shows, from a number on
abbrev pub columns_from : List ℕ → List (List ℕ) → ℕ → List OpenDim → List ℕ
columns_from chart pattern first dimensions =
    map (λ (place : ℕ × OpenDim). place.0) (filter (λ (place : ℕ × OpenDim). is_column chart pattern place.1) (enumerate_from first dimensions))

-- the numbers of the dimensions that a query of this chart shows, in their order
abbrev pub columns : Registry → List ℕ → List (List ℕ) → List ℕ
columns registry chart pattern = columns_from chart pattern 0 registry.dimensions
