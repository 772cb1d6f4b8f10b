-- What is known of the settings and the extents of a body that has a spelling.
use Rattle.std.proofs.Common.{◌≡◌, ℕ, ◌<◌, ◌≤◌, ◌&&◌, List, [], ◌∷◌, true, leb, arith}
use Rattle.std.specs.List.{list_all, AllByRecursion}
use Rattle.std.proofs.lemmas.Bool.{and_parts, leb-true}
use Rattle.list_lemmas.proofs.Every.{all-at}
use Rattle.tier_settings.specs.declared.settings.Settings.{Settings}
use Rattle.tier_settings.specs.Limits.{InLimits}
use Rattle.tier_settings.specs.Settings.{tier_with}
use Rattle.tier_settings.proofs.TierLemmas.{each_tier, tier_there, IsWithin}
use Rattle.checkpoint_body.specs.declared.body.Body.{Body}
use Rattle.checkpoint_body.specs.declared.body.Extent.{Extent}
use Rattle.checkpoint_body.specs.Body.{HasSpelling}
use Rattle.store_core.specs.disk.Holds.{items_of}
use Rattle.store_core.specs.disk.Reading.{HasSlot}
use Rattle.store_core.specs.disk.Slots.{are_apart, have_slots, most_extents, has_own_slots}

-- a tier is in the limits
tier_within : (set : Settings) → InLimits set → (number : ℕ) → number < 3 → IsWithin (tier_with set number)
tier_within set limits number few =
    all-at IsWithin set.tiers number (tier_with set number)
    (each_tier IsWithin (λ tier some within. within) set.tiers limits.widths limits.tiers) (tier_there set limits.widths number few)

pub items_most : (body : Body) → HasSpelling body → (number : ℕ) → number < 3 → items_of body number ≤ 262144
items_most body spelt number few = (tier_within body.settings spelt.settings number few).most_items

slots_low : (most : ℕ) (extents : List Extent) → most ≤ 1024 → list_all (λ (extent : Extent). leb extent.slot most) extents ≡ true → AllByRecursion HasSlot extents
slots_low most [] small all = tt
slots_low most (extent ∷ extents) small all =
    let parts = and_parts _ _ all in
    let low = leb-true extent.slot most parts.0 in
    (omega (arith, low, small), slots_low most extents small parts.1)

slots_of : (body : Body) → HasSpelling body → (number : ℕ) → number < 3 → (extents : List Extent) → have_slots (most_extents body number) extents ≡ true → AllByRecursion HasSlot extents
slots_of body spelt number few extents placed =
    slots_low (most_extents body number) extents (tier_within body.settings spelt.settings number few).most_extents
    (and_parts (list_all (λ (extent : Extent). leb extent.slot (most_extents body number)) extents) (are_apart extents) placed).0

module _ (body : Body) (spelt : HasSpelling body) (placed : has_own_slots body ≡ true) where
  records_placed : ((have_slots (most_extents body 0) body.points.extents && have_slots (most_extents body 1) body.minutes.extents) ≡ true) × (have_slots (most_extents body 2) body.hours.extents ≡ true)
  records_placed =
      and_parts (have_slots (most_extents body 0) body.points.extents && have_slots (most_extents body 1) body.minutes.extents) (have_slots (most_extents body 2) body.hours.extents) placed

  both_placed : (have_slots (most_extents body 0) body.points.extents ≡ true) × (have_slots (most_extents body 1) body.minutes.extents ≡ true)
  both_placed = and_parts (have_slots (most_extents body 0) body.points.extents) (have_slots (most_extents body 1) body.minutes.extents) records_placed.0

  pub point_slots : AllByRecursion HasSlot body.points.extents
  point_slots = slots_of body spelt 0 (omega arith) body.points.extents both_placed.0

  pub minute_slots : AllByRecursion HasSlot body.minutes.extents
  minute_slots = slots_of body spelt 1 (omega arith) body.minutes.extents both_placed.1

  pub hour_slots : AllByRecursion HasSlot body.hours.extents
  hour_slots = slots_of body spelt 2 (omega arith) body.hours.extents records_placed.1
