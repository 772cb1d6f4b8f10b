use Rattle.std.specs.Prelude.{ℕ, List, Option}
use Rattle.plugin_text.specs.declared.fault.LineFault.{LineFault}

-- a splitter holds what has come of the next line, and the refusal at which it stopped
pub record Held : Type 0 where
  pub rest : List ℕ
  pub refused : Option LineFault
