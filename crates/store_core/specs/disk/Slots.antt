-- Which slots the extents of a tier have.
use Rattle.std.specs.Prelude.{◌≢◌, ℕ, Bool, true, not, ◌&&◌, ◌==◌, nat_le, All, List, [], ◌∷◌}
use Rattle.std.specs.List.{list_all, list_any}
use Rattle.tier_settings.specs.Settings.{tier_with}
use Rattle.checkpoint_body.specs.declared.body.Body.{Body}
use Rattle.checkpoint_body.specs.declared.body.Extent.{Extent}

-- whether one of the extents has this slot
abbrev pub is_used : List Extent → ℕ → Bool
is_used extents slot = list_any (λ (extent : Extent). slot == extent.slot) extents

-- none of the extents has this slot
abbrev pub IsUnused : List Extent → ℕ → Type 0
IsUnused extents slot = All (λ (extent : Extent). extent.slot ≢ slot) extents

-- no extent has the slot of another
abbrev pub are_apart : List Extent → Bool
are_apart [] = true
are_apart (extent ∷ extents) = not (is_used extents extent.slot) && are_apart extents

-- each has a slot of its own, and none is above this number
abbrev pub have_slots : ℕ → List Extent → Bool
have_slots most extents = list_all (λ (extent : Extent). nat_le extent.slot most) extents && are_apart extents

-- how many extents a tier keeps
abbrev pub most_extents : Body → ℕ → ℕ
most_extents body tier = (tier_with body.settings tier).extents

-- The extents of each tier have slots of their own, and those of the tier: these are numbered from 0 to the number of extents
-- that it keeps.
abbrev pub has_own_slots : Body → Bool
has_own_slots body =
    have_slots (most_extents body 0) body.points.extents && have_slots (most_extents body 1) body.minutes.extents
    && have_slots (most_extents body 2) body.hours.extents
