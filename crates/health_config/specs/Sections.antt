-- The entities of a text: each line that begins one, and the lines up to the next.
use Rattle.std.specs.Prelude.{Bool, List, [], ◌∷◌, Option, Some, None}
use Rattle.health_config.specs.declared.lines.Line.{Line}
use Rattle.health_config.specs.Key.{begins}

-- an entity's first line, whether that begins a template, and the lines behind it
pub record Group : Type 0 where
  pub template : Bool
  pub head : Line
  pub body : List Line

-- the lines before the first entity, and the entities
pub record Sections : Type 0 where
  pub prefix : List Line
  pub groups : List Group

abbrev pub section : Option Bool → Line → Sections → Sections
section None line behind = record { prefix = line ∷ behind.prefix; groups = behind.groups }
section (Some template) line behind =
    record { prefix = []; groups = record { template = template; head = line; body = behind.prefix } ∷ behind.groups }

abbrev pub sections : List Line → Sections
sections [] = record { prefix = []; groups = [] }
sections (line ∷ lines) = section (begins line.text) line (sections lines)
