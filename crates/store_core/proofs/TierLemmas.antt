-- The tiers of a store: of no beats, with a beat more, and their floors.
use Rattle.std.proofs.Common.{◌≡◌, ℕ, zero, suc, ◌<◌, ◌≤◌, ◌+◌, ◌^◌, true, nat_lt, List, [], ◌∷◌, ◌++◌, length, map, Option, Some, None, slice_get, refl, ap, sym, subst, ◌∙◌, inl, inr, arith}
use Rattle.std.specs.List.{AllByRecursion, list_all}
use Rattle.std.specs.Option.{option_map, option_map_or}
use Rattle.std.proofs.lemmas.Bool.{and_parts, cases_eq, ltb-true, lt-ltb}
use Rattle.std.proofs.lemmas.List.{length-append, length-map}
use Rattle.std.proofs.lemmas.Option.{none-some, same_Some, slice_get-map}
use Rattle.tier_settings.specs.declared.settings.Settings.{Settings}
use Rattle.tier_settings.specs.declared.tier.Tier.{Tier}
use Rattle.tier_settings.specs.Limits.{InLimits}
use Rattle.tier_settings.specs.Settings.{first_tier, no_tier, other_tiers, tier_with}
use Rattle.tier_settings.proofs.TierLemmas.{each_tier, split, tier_there as settings_have, IsWithin}
use Rattle.entry_codec.specs.Lists.{is_ascending}
use Rattle.beat_tiers.specs.declared.item.BeatPoint.{BeatPoint}
use Rattle.beat_tiers.specs.Floors.{beats_before, floor_of}
use Rattle.beat_tiers.specs.Beats.{AreAbove, Follows, TierBeat, last}
use Rattle.beat_tiers.specs.State.{RecordTierState, TiersState, after_beat, no_beats, tier_floor}
use Rattle.beat_tiers.specs.Tiers.{AreTiersOf, IsTier}
use Rattle.beat_tiers.proofs.KeptLaws.{before_with}
use Rattle.beat_tiers.proofs.TierLemmas.{tier_at, tiers_none, tiers_with}
use Rattle.store_core.specs.declared.beats.beat.Beat.{Beat}
use Rattle.store_core.specs.beats.Beats.{IsMoment, is_point, is_timed, series_of}
use Rattle.store_core.specs.beats.Beats.{InForm}
use Rattle.store_core.specs.beats.Records.{is_later}
use Rattle.host_model.specs.Past.{Event}
use Rattle.store_core.specs.Counts.{counted}
use Rattle.store_core.specs.Store.{HasApplied, IsStoreAt, StoreState}
use Rattle.store_core.specs.Stored.{Base, HaveFollowed, IsBaseOf, Stored, new_database, next_base, tiers_of}
use Rattle.store_core.specs.Tiers.{floor_at, seen, HasTiers}
use Rattle.store_core.proofs.RecordLemmas.{prefix-followed}

-- ---- settings
wide_enough : (tier : Tier) → 1 ≤ tier.width → IsWithin tier → IsTier tier
wide_enough tier wide is = record { width = wide; items = is.some_items; extents = is.some_extents }

are_all : (set : Settings) → InLimits set → AllByRecursion IsTier (first_tier set ∷ other_tiers set)
are_all set limits = subst (AllByRecursion IsTier) (split set limits.widths) (each_tier IsTier wide_enough set.tiers limits.widths limits.tiers)

pub is_first : (set : Settings) → InLimits set → IsTier (first_tier set)
is_first set limits = (are_all set limits).0

pub are_others : (set : Settings) → InLimits set → AllByRecursion IsTier (other_tiers set)
are_others set limits = (are_all set limits).1

tiers_begin : (set : Settings) → InLimits set → HasTiers set [] (no_beats (first_tier set) (other_tiers set))
tiers_begin set limits = record {
  widths = limits.widths;
  before = refl;
  are = subst (λ (tiers : List Tier). AreTiersOf tiers [] (no_beats (first_tier set) (other_tiers set))) (sym (split set limits.widths))
      (tiers_none (first_tier set) (other_tiers set) (is_first set limits) (are_others set limits));
}

-- ---- a beat more
is_behind : (before now : ℕ) (moment : Option ℕ) → now ≡ before → is_later before moment ≡ true → option_map_or (λ m. nat_lt now m) moment true ≡ true
is_behind before now None same later = refl
is_behind before now (Some moment) same later = ap (λ (n : ℕ). nat_lt n moment) same ∙ later

is_short : (moment : Option ℕ) → IsMoment moment → option_map_or (λ m. nat_lt m (2 ^ 32)) moment true ≡ true
is_short None fits = refl
is_short (Some moment) fits = lt-ltb moment (2 ^ 32) fits.1

has_none : (moment : Option ℕ) (points : List BeatPoint) → is_timed moment points ≡ true → moment ≡ None → points ≡ []
has_none None [] timed is = refl
has_none None (point ∷ points) timed is = absurd cc
has_none (Some moment) points timed is = absurd cc

are_above : (least : ℕ) (points : List BeatPoint) → is_ascending (map series_of points) ≡ true → list_all is_point points ≡ true
    → ((point : BeatPoint) (rest : List BeatPoint) → points ≡ point ∷ rest → least ≤ point.series) → AreAbove least points
are_above least [] rises all low = tt
are_above least (point ∷ []) rises all low =
    (low point [] refl, ltb-true point.series 65536 (and_parts _ _ (and_parts _ _ (and_parts _ _ (and_parts _ _ all).0).0).0).0, tt)
are_above least (point ∷ next ∷ points) rises all low =
    let both = and_parts _ _ all in
    let up = and_parts _ _ rises in (
      low point (next ∷ points) refl,
      ltb-true point.series 65536 (and_parts _ _ (and_parts _ _ (and_parts _ _ both.0).0).0).0,
      are_above (point.series + 1) (next ∷ points) up.1 both.1 (λ first rest is. above first rest is (ltb-true point.series next.series up.0)),
    )
  where
    above : (first : BeatPoint) (rest : List BeatPoint) → next ∷ points ≡ first ∷ rest → point.series < next.series → point.series + 1 ≤ first.series
    above first rest is less =
        let same : next ≡ first = cc in
        let number : next.series ≡ first.series = ap series_of same in
        omega (arith, less, number)

pub follows : (beats : List TierBeat) (beat : Beat) (final : ℕ) → final ≡ last beats → InForm beat → is_later final beat.moment ≡ true → Follows (seen beat) beats
follows beats beat final same form later =
    let parts = and_parts _ _ form.form in
    let lists = and_parts _ _ parts.0 in
    record {
      later = is_behind final (last beats) beat.moment (sym same) later;
      short = is_short beat.moment form.short.moment;
      timed = has_none beat.moment beat.points parts.1;
      points = are_above 0 beat.points lists.0 lists.1 (λ point rest is. omega arith);
    }

-- ---- floors

module _ (set : Settings) (beats : List TierBeat) (tiers : TiersState) (has : HasTiers set beats tiers) where
  pub first_is : tiers.first ≡ first_tier set
  first_is = sym (ap (λ (all : List Tier). option_map_or (λ (tier : Tier). tier) (slice_get all 0) no_tier) has.are.set_is)

  first_floor : tier_floor tiers 0 ≡ floor_at set beats 0
  first_floor = has.are.points.floor ∙ ap (λ (tier : Tier). floor_of 0 tier beats) first_is

  -- the tier of records with a number
  pub record TierAt (number : ℕ) : Type 0 where
    pub place : ℕ
    pub one : RecordTierState
    pub there : slice_get tiers.records place ≡ Some one
    pub number_is : number ≡ place + 1
    pub tier_is : one.tier ≡ tier_with set number

  pub tier_there : (number : ℕ) → (number ≡ 0 → ⊥) → number < 3 → TierAt number
  tier_there zero some few = absurd (some refl)
  tier_there (suc place) some few =
      let of_tiers : slice_get (map (λ (one : RecordTierState). one.tier) tiers.records) place ≡ Some (tier_with set (suc place)) =
      sym (ap (λ (all : List Tier). slice_get all (suc place)) has.are.set_is) ∙ settings_have set has.widths (suc place) few in
      by (slice_get tiers.records place) refl (sym (slice_get-map (λ (one : RecordTierState). one.tier) tiers.records place) ∙ of_tiers)
    where
      by : (found : Option RecordTierState) → slice_get tiers.records place ≡ found → option_map (λ (one : RecordTierState). one.tier) found ≡ Some (tier_with set (suc place)) → TierAt (suc place)
      by None is of_tiers = absurd (none-some (tier_with set (suc place)) of_tiers)
      by (Some one) is of_tiers =
          record { place = place; one = one; there = is; number_is = omega arith; tier_is = same_Some one.tier (tier_with set (suc place)) of_tiers }

  record_floor : (number : ℕ) (at : TierAt number) → tier_floor tiers number ≡ floor_at set beats number
  record_floor number at =
      let here = tier_at beats 1 at.place tiers.records at.one has.are.records at.there in
      ap (tier_floor tiers) at.number_is
      ∙ by (at.place + 1) at.place refl (slice_get tiers.records at.place) refl
      ∙ ap (λ (found : Option RecordTierState). option_map_or (λ (one : RecordTierState). one.segments.floor) found 0) at.there
      ∙ here.segments.floor
      ∙ ap (λ (tier : Tier). floor_of (at.place + 1) tier beats) at.tier_is
      ∙ ap (λ (n : ℕ). floor_of n (tier_with set number) beats) (sym at.number_is)
    where
      by : (n place : ℕ) → n ≡ place + 1 → (found : Option RecordTierState) → slice_get tiers.records place ≡ found
          → tier_floor tiers n ≡ option_map_or (λ (one : RecordTierState). one.segments.floor) found 0
      by zero place is found e = absurd (omega (arith, is))
      by (suc n) place is found e =
          let same : n ≡ place = omega (arith, is) in
          ap (λ k. option_map_or (λ (one : RecordTierState). one.segments.floor) (slice_get tiers.records k) 0) same
          ∙ ap (λ (found : Option RecordTierState). option_map_or (λ (one : RecordTierState). one.segments.floor) found 0) e

  -- the floor of each tier that is there
  pub floor_is : (number : ℕ) → number < 3 → tier_floor tiers number ≡ floor_at set beats number
  floor_is number few = elim (cases_eq number 0) [
    | inl none ↦ ap (tier_floor tiers) none ∙ first_floor ∙ ap (floor_at set beats) (sym none)
    | inr some ↦ record_floor number (tier_there number some few)
  ]

-- ---- a beat more

tiers_more : (set : Settings) (beats : List TierBeat) (beat : Beat) (tiers : TiersState) → HasTiers set beats tiers → Follows (seen beat) beats
    → HasTiers set (seen beat ∷ beats) (after_beat beat.moment beat.points tiers)
tiers_more set beats beat tiers has next =
    let first = first_is set beats tiers has in
    let more = tiers_with set.tiers beats beat.moment beat.points tiers has.are next in
    record {
      widths = has.widths;
      are = more;
      before =
          before_with set.tiers beats beat.moment beat.points tiers has.are next more
          (has.before ∙ ap (λ (tier : Tier). beats_before tier beats) (sym first))
          ∙ ap (λ (tier : Tier). beats_before tier (seen beat ∷ beats)) first;
    }

-- the tiers of a base and of the beats since
pub tiers_since : (set : Settings) (before : List TierBeat) (base : Base) (after : List Beat) → HasTiers set before base.tiers → HaveFollowed base after
    → HasTiers set (map seen after ++ before) (tiers_of (record { base = base; after = after }))
tiers_since set before base [] has followed = has
tiers_since set before base (beat ∷ after) has followed =
    let was : TiersState = tiers_of (record { base = base; after = after }) in
    let rest = tiers_since set before base after has followed.1 in
    tiers_more set (map seen after ++ before) beat was rest (follows (map seen after ++ before) beat was.last rest.are.last_is followed.0.form followed.0.later)

-- ---- what is stored

-- a database that was just made
pub new_base : (set : Settings) (side : List ℕ) → InLimits set → IsBaseOf set [] (new_database set side).base
new_base set side limits = record { settings = refl; count = refl; tiers = tiers_begin set limits }

pub has_applied : (past : List Event) (store : StoreState) (stored : Stored) (rest : List Beat) (set : Settings) (before : List TierBeat) → IsStoreAt past store stored rest
    → IsBaseOf set before stored.base → HasApplied set (map seen stored.after ++ before) store
has_applied past store stored rest set before is_at base =
    subst (HasTiers set (map seen stored.after ++ before)) (sym is_at.tiers)
    (tiers_since set before stored.base stored.after base.tiers (prefix-followed stored.base stored.after rest is_at.has.follow))

count_since : (count before after : ℕ) → count ≡ counted before → counted (count + after) ≡ counted (after + before)
count_since count before after same = omega (arith, same)

-- what the next checkpoint has
pub base_next : (stored : Stored) (side : List ℕ) (set : Settings) (before : List TierBeat) → HaveFollowed stored.base stored.after → IsBaseOf set before stored.base
    → IsBaseOf set (map seen stored.after ++ before) (next_base stored side)
base_next stored side set before followed base = record {
  settings = base.settings;
  count =
      count_since stored.base.count (length before) (length stored.after) base.count
      ∙ ap counted (ap (λ n. n + length before) (sym (length-map stored.after seen)) ∙ sym (length-append (map seen stored.after) before));
  tiers = tiers_since set before stored.base stored.after base.tiers followed;
}
