-- The body of no beats has a spelling, and the tiers of no beats.
use Rattle.std.proofs.Common.{◌≡◌, ℕ, ◌^◌, ◌<◌, ◌&&◌, true, nat_le, List, [], ◌∷◌, length, arith, refl}
use Rattle.std.proofs.lemmas.Bool.{and_from, and_parts, le-leb, leb-true, lt-ltb}
use Rattle.std.proofs.lemmas.List.Elements.{All-nil}
use Rattle.std.proofs.lemmas.List.Sorted.{IsPermutation-refl}
use Rattle.beat_tiers.specs.State.{no_beats}
use Rattle.beat_tiers.specs.Tiers.{IsTier}
use Rattle.beat_tiers.proofs.SoundLemmas.{sound-none}
use Rattle.checkpoint_body.specs.Body.{HasSpelling}
use Rattle.checkpoint_body.specs.Canonical.{is_point_tier, is_record_tier}
use Rattle.checkpoint_body.specs.Fields.{IsQuota}
use Rattle.store_core.specs.disk.Contents.{no_pages}
use Rattle.tier_settings.specs.declared.limits.TheConstants.{MOST_EXTENTS, MOST_ITEMS}
use Rattle.tier_settings.specs.declared.settings.Settings.{Settings}
use Rattle.tier_settings.specs.declared.tier.Tier.{Tier}
use Rattle.tier_settings.specs.Limits.{is_tier, HasWidths, InLimits}
use Rattle.tier_settings.specs.Settings.{first_tier, other_tiers}
use Rattle.store_core.specs.bodies.First.{first_body, no_points, no_records}
use Rattle.store_core.specs.bodies.Tiers.{AreTiersOfBody}
use Rattle.store_core.proofs.BodyProofs.TierLemmas.{AreFormed, AreFormedRecords}
use Rattle.store_core.proofs.BodyProofs.WholeLemmas.{tier-is}

quota-is : (tier : Tier) → is_tier tier ≡ true → IsQuota tier
quota-is tier is =
    let parts = and_parts (nat_le 1 tier.items && nat_le tier.items MOST_ITEMS && nat_le 1 tier.extents) _ is in
    let before = and_parts (nat_le 1 tier.items && nat_le tier.items MOST_ITEMS) _ parts.0 in
    let items = leb-true tier.items MOST_ITEMS (and_parts (nat_le 1 tier.items) _ before.0).1 in
    let extents = leb-true tier.extents MOST_EXTENTS parts.1 in
    record { items = omega (arith, items); extents = omega (arith, extents) }

points-form : (tier : Tier) → IsTier tier → is_point_tier tier no_points ≡ true
points-form tier is = and_from _ _ (and_from _ _ (and_from _ _ (le-leb 0 tier.extents (omega arith)) refl) refl) (lt-ltb 0 tier.items (omega (arith, is.items)))

records-form : (tier : Tier) → IsTier tier → is_record_tier tier no_records ≡ true
records-form tier is =
    and_from _ _ (and_from _ _ (and_from _ _ (and_from _ _ (le-leb 0 tier.extents (omega arith)) refl) refl) refl) (lt-ltb 0 tier.items (omega (arith, is.items)))

-- what is shown of the first body
pub record IsBegun (settings : Settings) (side : List ℕ) : Type 0 where
  pub spelt : HasSpelling (first_body settings side)
  pub tiers : AreTiersOfBody (first_body settings side) no_pages (no_beats (first_tier settings) (other_tiers settings))

module _ (id : ℕ) (side : List ℕ) (short : length side < 2 ^ 32) where
  of-three : (first minutes hours : Tier) → InLimits (record { id = id; tiers = first ∷ minutes ∷ hours ∷ [] }) → IsBegun (record { id = id; tiers = first ∷ minutes ∷ hours ∷ [] }) side
  of-three first minutes hours limits =
      let widths = limits.widths in
      let first_width : first.width ≡ 1 = cc in
      let minutes_width : minutes.width ≡ 60 = cc in
      let hours_width : hours.width ≡ 3600 = cc in
      let one = and_parts (is_tier first) _ limits.tiers in
      let two = and_parts (is_tier minutes) _ one.1 in
      let three = (and_parts (is_tier hours) _ two.1).0 in
      let first_is : IsTier first = tier-is first one.0 (omega (arith, first_width)) in
      let minutes_is : IsTier minutes = tier-is minutes two.0 (omega (arith, minutes_width)) in
      let hours_is : IsTier hours = tier-is hours three (omega (arith, hours_width)) in
      record {
        spelt = record {
          fits = record {
            settings = record { id = limits.id; widths = limits.widths; quotas = (quota-is first one.0, (quota-is minutes two.0, (quota-is hours three, tt))) };
            count = omega arith;
            last = omega arith;
            floors = record { points = omega arith; minutes = omega arith; hours = omega arith };
            before = omega arith;
            sealed = record { points = omega arith; minutes = omega arith; hours = omega arith };
            extents = record {
              points = record { count = omega arith; each = tt };
              minutes = record { count = omega arith; each = tt };
              hours = record { count = omega arith; each = tt };
            };
            open_minutes = record { count = omega arith; each = tt };
            open_hours = record { count = omega arith; each = tt };
            points = record { count = omega arith; each = tt };
            minutes = record { count = omega arith; each = tt };
            hours = record { count = omega arith; each = tt };
            side = short;
          };
          settings = limits;
          points = points-form first first_is;
          minutes = records-form minutes minutes_is;
          hours = records-form hours hours_is;
        };
        tiers = record {
          last = refl;
          first = refl;
          others = refl;
          sound = sound-none first (minutes ∷ hours ∷ []) first_is (minutes_is, (hours_is, tt));
          points = record {
            floor = refl;
            before = refl;
            sealed = refl;
            formed = All-nil AreFormed;
            segments = tt;
            unsealed = IsPermutation-refl [];
          };
          records = (
            record {
              floor = refl;
              sealed = refl;
              open_records = refl;
              formed = All-nil (AreFormedRecords minutes.width);
              segments = tt;
              unsealed = IsPermutation-refl [];
            },
            record {
              floor = refl;
              sealed = refl;
              open_records = refl;
              formed = All-nil (AreFormedRecords hours.width);
              segments = tt;
              unsealed = IsPermutation-refl [];
            },
          );
        };
      }

  of-tiers : (tiers : List Tier) → HasWidths tiers → InLimits (record { id = id; tiers = tiers }) → IsBegun (record { id = id; tiers = tiers }) side
  of-tiers [] widths limits = absurd cc
  of-tiers (first ∷ []) widths limits = absurd cc
  of-tiers (first ∷ minutes ∷ []) widths limits = absurd cc
  of-tiers (first ∷ minutes ∷ hours ∷ []) widths limits = of-three first minutes hours limits
  of-tiers (first ∷ minutes ∷ hours ∷ other ∷ others) widths limits = absurd cc

pub begun : (settings : Settings) (side : List ℕ) → InLimits settings → length side < 2 ^ 32 → IsBegun settings side
begun settings side limits short = of-tiers settings.id side short settings.tiers limits.widths limits
