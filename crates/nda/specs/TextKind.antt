use Rattle.std.specs.Prelude.{ℕ, List, ◌∷◌, codes, if◌then◌else◌}
use Rattle.std.specs.Str.{bytes_eq}
use Rattle.nda.specs.declared.arguments.TextKind.{TextKind}
use Rattle.nda.specs.declared.arguments.TextKind.TheVariants.{Alarms, Beats, Collected, Frames}

-- what the command of these words reads, where it reads something
abbrev pub text_kind_of : List (List ℕ) → TextKind
text_kind_of (command ∷ more) =
    if bytes_eq command (codes "collect") then Collected
    else if bytes_eq command (codes "health") then Alarms
    else if bytes_eq command (codes "receive") then Frames
    else if bytes_eq command (codes "send") then Frames
    else Beats
text_kind_of _ = Beats
