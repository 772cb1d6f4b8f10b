-- The tiers of what is left of a body and its pages are sound.
use Rattle.std.proofs.Common.{◌≡◌, ℕ, ◌+◌, true, List, [], ◌∷◌, get_or, Some, ap, sym, refl, ◌∙◌, subst}
use Rattle.std.specs.List.{AllByRecursion}
use Rattle.std.proofs.lemmas.Bool.{and_from}
use Rattle.std.proofs.lemmas.Option.{cond_some}
use Rattle.beat_tiers.specs.declared.item.Stepped.{Stepped}
use Rattle.beat_tiers.specs.declared.parts.KeptItems.{KeptItems}
use Rattle.beat_tiers.specs.declared.parts.KeptRecords.{KeptRecords}
use Rattle.beat_tiers.specs.Parts.{are_in_form, are_kept, is_record_tier, restored}
use Rattle.beat_tiers.specs.Segments.{items_of}
use Rattle.beat_tiers.specs.Sound.{AreSound, IsPointItem, IsRecordOfSeries}
use Rattle.beat_tiers.specs.State.{TiersState}
use Rattle.beat_tiers.specs.Tiers.{IsTier}
use Rattle.checkpoint_body.specs.declared.body.Body.{Body}
use Rattle.checkpoint_body.specs.Body.{HasSpelling}
use Rattle.tier_settings.specs.declared.tier.Tier.{Tier}
use Rattle.tier_settings.specs.Limits.{HasWidths}
use Rattle.tier_settings.specs.Settings.{no_tier}
use Rattle.store_core.specs.disk.Contents.{no_pages}
use Rattle.store_core.proofs.BodyProofs.WholeLemmas.{first-tier, other-tiers, rest_of}

abbrev pub tier_at : List Tier → ℕ → Tier
tier_at tiers place = get_or tiers place no_tier

record AreThree (all tiers : List Tier) : Type 0 where
  whole : all ≡ tier_at tiers 0 ∷ tier_at tiers 1 ∷ tier_at tiers 2 ∷ []
  others : rest_of tiers ≡ tier_at tiers 1 ∷ tier_at tiers 2 ∷ []

three-of : (tiers : List Tier) → HasWidths tiers → AreThree tiers tiers
three-of [] widths = absurd cc
three-of (first ∷ []) widths = absurd cc
three-of (first ∷ minutes ∷ []) widths = absurd cc
three-of (first ∷ minutes ∷ hours ∷ []) widths = record { whole = refl; others = refl }
three-of (first ∷ minutes ∷ hours ∷ other ∷ others) widths = absurd cc

module _ (body : Body) (spelt : HasSpelling body) (tiers : List Tier) (same : tiers ≡ body.settings.tiers) where
  three : AreThree body.settings.tiers tiers
  three = subst (λ (all : List Tier). AreThree all tiers) same (three-of tiers (subst HasWidths (sym same) spelt.settings.widths))

  pub left-first : IsTier (tier_at tiers 0)
  left-first = first-tier body no_pages spelt (tier_at tiers 0) (tier_at tiers 1) (tier_at tiers 2) three.whole

  each-other : AllByRecursion IsTier (tier_at tiers 1 ∷ tier_at tiers 2 ∷ [])
  each-other = other-tiers body no_pages spelt (tier_at tiers 0) (tier_at tiers 1) (tier_at tiers 2) three.whole

  pub left-minutes : IsTier (tier_at tiers 1)
  left-minutes = each-other.0

  pub left-hours : IsTier (tier_at tiers 2)
  left-hours = each-other.1.0

  pub left-others : AllByRecursion IsTier (rest_of tiers)
  left-others = subst (AllByRecursion IsTier) (sym three.others) each-other

  module _ (points : KeptItems Stepped) (minutes hours : KeptRecords) (records : List KeptRecords) (put : records ≡ minutes ∷ hours ∷ []) where
    -- each tier is in form, so they all are
    pub left-form : are_kept (tier_at tiers 0) body.last (body.last + 1) points ≡ true → is_record_tier body.last (tier_at tiers 1) minutes ≡ true
        → is_record_tier body.last (tier_at tiers 2) hours ≡ true → are_in_form (tier_at tiers 0) (rest_of tiers) body.last points records ≡ true
    left-form points_are minutes_are hours_are =
        ap (λ (ts : List Tier). are_in_form (tier_at tiers 0) ts body.last points records) three.others
        ∙ ap (λ (list : List KeptRecords). are_in_form (tier_at tiers 0) (tier_at tiers 1 ∷ tier_at tiers 2 ∷ []) body.last points list) put
        ∙ and_from _ _ points_are (and_from _ _ minutes_are (and_from _ _ hours_are refl))

    -- the tiers that come back are sound
    pub left-sound : AllByRecursion IsPointItem (items_of points) → AllByRecursion IsRecordOfSeries (items_of minutes.items) → AllByRecursion IsRecordOfSeries (items_of hours.items)
        → (state : TiersState) → restored (tier_at tiers 0) (rest_of tiers) body.last points records ≡ Some state → AreSound state × (state.last ≡ body.last)
    left-sound points_are minutes_are hours_are state back =
        let again : restored (tier_at tiers 0) (tier_at tiers 1 ∷ tier_at tiers 2 ∷ []) body.last points (minutes ∷ hours ∷ []) ≡ Some state =
        sym (ap (λ (list : List KeptRecords). restored (tier_at tiers 0) (tier_at tiers 1 ∷ tier_at tiers 2 ∷ []) body.last points list) put)
        ∙ sym (ap (λ (ts : List Tier). restored (tier_at tiers 0) ts body.last points records) three.others)
        ∙ back in
        let parts = cond_some (are_in_form (tier_at tiers 0) (tier_at tiers 1 ∷ tier_at tiers 2 ∷ []) body.last points (minutes ∷ hours ∷ [])) _ state again in
        subst (λ (found : TiersState). AreSound found × (found.last ≡ body.last)) parts.1 (
          record {
            last = spelt.fits.last;
            first = left-first;
            others = each-other;
            form = parts.0;
            points = points_are;
            records = (minutes_are, (hours_are, tt));
          },
          refl,
        )
