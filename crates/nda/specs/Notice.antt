use Rattle.std.specs.Prelude.{ℕ, List, [], ◌∷◌, Option, Some, None, codes, if◌then◌else◌}
use Rattle.std.specs.Str.{bytes_eq}
use Rattle.nda.specs.declared.arguments.Notice.{Notice}
use Rattle.nda.specs.declared.arguments.Notice.TheVariants.{Help, Version}

-- what a sole word asks the program to say of itself
abbrev pub notice_of : List (List ℕ) → Option Notice
notice_of (word ∷ []) =
    if bytes_eq word (codes "--help") then Some Help
    else if bytes_eq word (codes "--version") then Some Version
    else None
notice_of _ = None
