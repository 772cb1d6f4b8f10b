use Rattle.std.specs.Prelude.{ℕ, List, ◌∷◌, codes, if◌then◌else◌}
use Rattle.std.specs.Str.{bytes_eq}
use Rattle.host_files.specs.declared.folder_lock.LockKind.{LockKind}
use Rattle.host_files.specs.declared.folder_lock.LockKind.TheVariants.{None, Shared, Alone}

-- beside whom the command of these words may use the files of its folder
abbrev pub lock_of : List (List ℕ) → LockKind
lock_of (command ∷ more) =
    if bytes_eq command (codes "convert") then None
    else if bytes_eq command (codes "log") then Shared
    else if bytes_eq command (codes "query") then Shared
    else if bytes_eq command (codes "send") then Shared
    else Alone
lock_of _ = Alone
