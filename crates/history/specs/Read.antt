use Rattle.std.specs.Prelude.{ℕ, ◌+◌, Bool, true, false, List, [], ◌∷◌, ◌++◌, length, Option, Some, None, is_some, is_none, if◌then◌else◌}
use Rattle.std.specs.Option.{option_map_or}
use Rattle.history.specs.declared.beat.OpenBeat.{OpenBeat}
use Rattle.history.specs.declared.fault.BlockFault.{BlockFault}
use Rattle.history.specs.declared.fault.BlockFault.TheVariants.{Unfinished as UnfinishedText}
use Rattle.history.specs.declared.line.Line.{Line}
use Rattle.history.specs.declared.line.Line.TheVariants.{Disable, Moment, Query}
use Rattle.history.specs.History.{Beat, collected, last, child, registry_of}
use Rattle.history.specs.Looking.{beat}
use Rattle.history.specs.Refusal.{refusal, is_unfinished}

-- what a text gives, in the order of its lines: the beat of a MOMENT, or a question
pub data Item : Type 0 where
  Closed : (beat : OpenBeat) (moment : ℕ) → Item
  Asked : (text : List ℕ) → Item

-- how a text ends, so far
pub data End : Type 0 where
  Open : End
  Ended : End
  Disabled : End
  Refused : (line : ℕ) (fault : BlockFault) → End

-- the items of these lines, the latest line first
abbrev pub items : ℕ → List Line → List Item
items every [] = []
items every (Moment moment ∷ past) = items every past ++ Closed (beat every past) moment ∷ []
items every (Query text ∷ past) = items every past ++ Asked text ∷ []
items every (line ∷ past) = items every past

-- the history after these lines, which follow a history
abbrev pub history_at : ℕ → List Beat → List Line → List Beat
history_at every h [] = h
history_at every h (Moment moment ∷ past) = collected moment (beat every past) ∷ history_at every h past
history_at every h (line ∷ past) = history_at every h past

-- the first refusal of a line that follows these
abbrev pub refusal_at : ℕ → List Beat → List Line → Line → Option BlockFault
refusal_at every h past line =
    let now = history_at every h past in
    refusal (registry_of now) every past (is_some (child now)) (last now) line

abbrev pub is_disable : Line → Bool
is_disable Disable = true
is_disable line = false

-- the lines that are read, the latest first: up to the first that is refused, or that says DISABLE
abbrev pub accepted : ℕ → List Beat → List Line → List Line → List Line
accepted every h past [] = past
accepted every h past (line ∷ lines) =
    if is_some (refusal_at every h past line) then past
    else if is_disable line then past
    else accepted every h (line ∷ past) lines

-- how the text ends
abbrev pub ending : ℕ → List Beat → Bool → List ℕ → List Line → List Line → End
ending every h false rest past [] = Open
ending every h true rest past [] = if is_unfinished every past rest then Refused (length past) UnfinishedText else Ended
ending every h ended rest past (line ∷ lines) =
    option_map_or (Refused (length past + 1)) (refusal_at every h past line)
    (if is_disable line then Disabled else ending every h ended rest (line ∷ past) lines)

-- a text of these lines, with these bytes behind its last line feed, that follows a history
pub record Text : Type 0 where
  pub items : List Item
  pub end : End

abbrev pub read : ℕ → List Beat → Bool → List ℕ → List Line → Text
read every h ended rest lines = record {
  items = items every (accepted every h [] lines);
  end = ending every h ended rest [] lines;
}
