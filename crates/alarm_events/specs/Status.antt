-- The six statuses: their numbers and their names.
use Rattle.std.specs.Prelude.{ℕ, ◌==◌, Bool, true, false, if◌then◌else◌, List, codes, Option, Some, None}
use Rattle.alarm_events.specs.declared.status.Status.{Status}
use Rattle.alarm_events.specs.declared.status.Status.TheVariants.{Removed, Undefined, Uninitialized, Clear, Warning, Critical}

-- the number of a status; a status is above those of lower numbers
abbrev pub number : Status → ℕ
number Removed = 0
number Undefined = 1
number Uninitialized = 2
number Clear = 3
number Warning = 5
number Critical = 6

abbrev pub status_of : ℕ → Option Status
status_of number =
    if number == 0 then Some Removed
    else (if number == 1 then Some Undefined
    else (if number == 2 then Some Uninitialized
    else (if number == 3 then Some Clear
    else (if number == 5 then Some Warning
    else (if number == 6 then Some Critical
    else None)))))

abbrev pub name : Status → List ℕ
name Removed = codes "REMOVED"
name Undefined = codes "UNDEFINED"
name Uninitialized = codes "UNINITIALIZED"
name Clear = codes "CLEAR"
name Warning = codes "WARNING"
name Critical = codes "CRITICAL"

abbrev pub is_raised : Status → Bool
is_raised Warning = true
is_raised Critical = true
is_raised _ = false
