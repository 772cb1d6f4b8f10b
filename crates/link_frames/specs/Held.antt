use Rattle.std.specs.Prelude.{ℕ, List, Option}
use Rattle.link_frames.specs.declared.fault.FrameFault.{FrameFault}

-- a reader holds what has come of the next frame, and the refusal at which it stopped
pub record Held : Type 0 where
  pub rest : List ℕ
  pub refused : Option FrameFault
