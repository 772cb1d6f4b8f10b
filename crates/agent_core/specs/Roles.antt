-- What a history does, and what may be added to it: it collects, or it copies.
use Rattle.std.specs.Prelude.{ℕ, Bool, true, false, not, List, [], ◌∷◌, Option, Some, None}
use Rattle.history.specs.History.{Beat, collected, copied, health, missing}
use Rattle.agent_core.specs.declared.left.Role.{Role}
use Rattle.agent_core.specs.declared.left.Role.TheVariants.{Undecided, Collects, Copies}

-- by its last beat that decides it
abbrev pub role_of : List Beat → Role
role_of [] = Undecided
role_of (collected moment beat ∷ h) = Collects
role_of (copied copy ∷ h) = Copies copy.child
role_of (health text ∷ h) = role_of h
role_of (missing gap ∷ h) = Copies gap.child

-- a beat may be collected
abbrev pub may_collect : Role → Bool
may_collect Undecided = true
may_collect Collects = true
may_collect (Copies number) = false

-- a beat or a gap may be copied
abbrev pub may_copy : Role → Bool
may_copy Undecided = true
may_copy Collects = false
may_copy (Copies number) = true

-- it has copied beats or gaps
abbrev pub copies : Role → Bool
copies role = not (may_collect role)

-- the child that it copies, if it copies
abbrev pub child_in : Role → Option ℕ
child_in Undecided = None
child_in Collects = None
child_in (Copies number) = Some number
