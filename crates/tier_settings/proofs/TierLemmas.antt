-- The tiers of settings that have the widths of a database.
use Rattle.std.proofs.Common.{◌≡◌, ℕ, zero, suc, ◌<◌, ◌≤◌, List, [], ◌∷◌, length, map, slice_get, Some, true, refl, arith}
use Rattle.std.specs.List.{list_all, slice_index, AllByRecursion}
use Rattle.std.proofs.lemmas.Bool.{and_parts, leb-true}
use Rattle.tier_settings.specs.declared.limits.TheConstants.{MOST_EXTENTS, MOST_ITEMS}
use Rattle.tier_settings.specs.declared.settings.Settings.{Settings}
use Rattle.tier_settings.specs.declared.tier.Tier.{Tier}
use Rattle.tier_settings.specs.Limits.{is_tier, widths, HasWidths}
use Rattle.tier_settings.specs.Settings.{first_tier, other_tiers, tier_with}

-- ---- three tiers

pub count_is : (set : Settings) → HasWidths set.tiers → length set.tiers ≡ 3
count_is set has = by set.tiers has
  where
    by : (tiers : List Tier) → HasWidths tiers → length tiers ≡ 3
    by [] has = absurd cc
    by (a ∷ []) has = absurd cc
    by (a ∷ b ∷ []) has = absurd cc
    by (a ∷ b ∷ c ∷ []) has = refl
    by (a ∷ b ∷ c ∷ d ∷ tiers) has = absurd cc

pub split : (set : Settings) → HasWidths set.tiers → set.tiers ≡ first_tier set ∷ other_tiers set
split set has = by set.id set.tiers has
  where
    by : (id : ℕ) (tiers : List Tier) → HasWidths tiers → tiers ≡ first_tier (record { id = id; tiers = tiers }) ∷ other_tiers (record { id = id; tiers = tiers })
    by id [] has = absurd cc
    by id (a ∷ tiers) has = refl

pub tier_there : (set : Settings) → HasWidths set.tiers → (number : ℕ) → number < 3 → slice_get set.tiers number ≡ Some (tier_with set number)
tier_there set has number few = by set.id set.tiers has number few
  where
    by : (id : ℕ) (tiers : List Tier) → HasWidths tiers → (number : ℕ) → number < 3 → slice_get tiers number ≡ Some (tier_with (record { id = id; tiers = tiers }) number)
    by id [] has number few = absurd cc
    by id (a ∷ []) has number few = absurd cc
    by id (a ∷ b ∷ []) has number few = absurd cc
    by id (a ∷ b ∷ c ∷ []) has zero few = refl
    by id (a ∷ b ∷ c ∷ []) has (suc zero) few = refl
    by id (a ∷ b ∷ c ∷ []) has (suc (suc zero)) few = refl
    by id (a ∷ b ∷ c ∷ []) has (suc (suc (suc number))) few = absurd (omega (arith, few))
    by id (a ∷ b ∷ c ∷ d ∷ tiers) has number few = absurd cc

pub width_is : (set : Settings) → HasWidths set.tiers → (number : ℕ) → number < 3 → (tier_with set number).width ≡ slice_index widths number
width_is set has number few = by set.id set.tiers has number few
  where
    by : (id : ℕ) (tiers : List Tier) → HasWidths tiers → (number : ℕ) → number < 3 → (tier_with (record { id = id; tiers = tiers }) number).width ≡ slice_index widths number
    by id [] has number few = absurd cc
    by id (a ∷ []) has number few = absurd cc
    by id (a ∷ b ∷ []) has number few = absurd cc
    by id (a ∷ b ∷ c ∷ []) has zero few = cc
    by id (a ∷ b ∷ c ∷ []) has (suc zero) few = cc
    by id (a ∷ b ∷ c ∷ []) has (suc (suc zero)) few = cc
    by id (a ∷ b ∷ c ∷ []) has (suc (suc (suc number))) few = absurd (omega (arith, few))
    by id (a ∷ b ∷ c ∷ d ∷ tiers) has number few = absurd cc

-- ---- the limits

-- what is known of a tier in the limits
pub record IsWithin (tier : Tier) : Type 0 where
  pub some_items : 1 ≤ tier.items
  pub most_items : tier.items ≤ 262144
  pub some_extents : 1 ≤ tier.extents
  pub most_extents : tier.extents ≤ 1024

pub is_within : (tier : Tier) → is_tier tier ≡ true → IsWithin tier
is_within tier is =
    let all = and_parts _ _ is in
    let three = and_parts _ _ all.0 in
    let two = and_parts _ _ three.0 in
    record {
      some_items = leb-true 1 tier.items two.0;
      most_items = leb-true tier.items MOST_ITEMS two.1;
      some_extents = leb-true 1 tier.extents three.1;
      most_extents = leb-true tier.extents MOST_EXTENTS all.1;
    }

-- a fact of each tier in the limits whose width is at least 1
pub each_tier : (P : Tier → Type 0) → ((tier : Tier) → 1 ≤ tier.width → IsWithin tier → P tier) → (tiers : List Tier) → HasWidths tiers → list_all is_tier tiers ≡ true → AllByRecursion P tiers
each_tier P holds [] has are = absurd cc
each_tier P holds (a ∷ []) has are = absurd cc
each_tier P holds (a ∷ b ∷ []) has are = absurd cc
each_tier P holds (a ∷ b ∷ c ∷ []) has are =
    let of_a : a.width ≡ 1 = cc in
    let of_b : b.width ≡ 60 = cc in
    let of_c : c.width ≡ 3600 = cc in
    let first = and_parts (is_tier a) _ are in
    let second = and_parts (is_tier b) _ first.1 in
    let third = and_parts (is_tier c) _ second.1 in (
      holds a (omega (arith, of_a)) (is_within a first.0),
      (holds b (omega (arith, of_b)) (is_within b second.0), (holds c (omega (arith, of_c)) (is_within c third.0), tt)),
    )
each_tier P holds (a ∷ b ∷ c ∷ d ∷ tiers) has are = absurd cc
