-- The history that an agent is sound by after a call, and the beats of which a crash may leave the first behind it.
use Rattle.std.specs.Prelude.{ℕ, List, [], ◌∷◌, Result, Ok, Err}
use Rattle.history.specs.declared.line.Line.{Line}
use Rattle.history.specs.declared.line.Line.TheVariants.{Moment}
use Rattle.history.specs.History.{Beat, collected}
use Rattle.history.specs.Looking.{beat as open_beat}
use Rattle.agent_core.specs.declared.fault.AgentFault.{AgentFault}
use Rattle.agent_core.specs.declared.fault.AgentFault.TheVariants.{Refused, Health, DiskFault, Reopen, Memory}
use Rattle.agent_core.specs.Kept.{onto}
use Rattle.agent_core.specs.Rules.{history_with}

-- the history after a call that stores these beats at Ok, the earliest first
abbrev pub history_after : {T : Type 0} → Result T AgentFault → List Beat → List Beat → List Beat
history_after (Ok value) more h = onto h more
history_after (Err fault) more h = h

-- the history after a call that takes a line at Ok
abbrev pub history_by : {T : Type 0} → Result T AgentFault → ℕ → List Line → Line → List Beat → List Beat
history_by (Ok value) every past line h = history_with h every past line
history_by (Err fault) every past line h = h

-- the beat that a line closes, if it closes one
abbrev pub closed_by : ℕ → List Line → Line → List Beat
closed_by every past (Moment moment) = collected moment (open_beat every past) ∷ []
closed_by every past line = []

-- the beats that may be there after a call with these beats was refused so: its own where the disk failed or memory was
-- short, and else those that may have been there before
abbrev pub tried_with : AgentFault → (beats tried : List Beat) → List Beat
tried_with (Refused fault) beats tried = tried
tried_with (Health fault) beats tried = tried
tried_with DiskFault beats tried = beats
tried_with (Reopen cause) beats tried = tried
tried_with Memory beats tried = beats

-- the same after a call that may be done: then none is there that is not of the history
abbrev pub tried_after : {T : Type 0} → Result T AgentFault → (beats tried : List Beat) → List Beat
tried_after (Ok value) beats tried = []
tried_after (Err fault) beats tried = tried_with fault beats tried
