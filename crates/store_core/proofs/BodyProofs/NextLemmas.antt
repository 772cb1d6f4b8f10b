-- What is shown of the next body: it can be made, it has a spelling, it may follow, and its tiers are those it was made of.
use Rattle.std.proofs.Common.{◌≡◌, ℕ, ◌+◌, ◌/◌, ◌^◌, ◌<◌, ◌≤◌, ◌==◌, ◌&&◌, true, nat_le, List, [], ◌∷◌, drop, length, map, slice_get, Option, Some, arith, sym, ap, refl, ◌∙◌, subst}
use Rattle.std.specs.List.{All, list_all}
use Rattle.std.specs.Option.{option_map_or}
use Rattle.std.proofs.lemmas.Bool.{and_from, and_parts, eqb-true, leb-true}
use Rattle.std.proofs.lemmas.List.Elements.{recursion_from_All}
use Rattle.std.proofs.lemmas.List.Sums.{AllPass-from_list_all}
use Rattle.list_lemmas.proofs.Every.{all-at}
use Rattle.beat_tiers.specs.declared.item.Stepped.{Stepped}
use Rattle.beat_tiers.specs.declared.parts.KeptItems.{KeptItems}
use Rattle.beat_tiers.specs.Parts.{are_kept, are_open, are_record_tiers, is_record_tier, kept_of}
use Rattle.beat_tiers.specs.Segments.{items_of}
use Rattle.beat_tiers.specs.Sound.{IsPointItem}
use Rattle.beat_tiers.specs.State.{RecordTierState, TiersState}
use Rattle.beat_tiers.proofs.SoundTier.{is-kept, IsKept}
use Rattle.checkpoint_body.specs.declared.body.Body.{Body}
use Rattle.checkpoint_body.specs.declared.body.Extent.{Extent}
use Rattle.checkpoint_body.specs.Body.{HasSpelling}
use Rattle.checkpoint_body.specs.Canonical.{is_point_tier, is_record_tier as is_body_tier}
use Rattle.checkpoint_body.specs.Fields.{FitsSettings}
use Rattle.store_core.specs.declared.disk.sealed.Sealed.{Sealed}
use Rattle.store_core.specs.disk.Contents.{Contents, KeptPages}
use Rattle.store_core.specs.disk.Holds.{page_of_records, page_of_slots}
use Rattle.store_core.specs.disk.Kept.{HasPagesOfEach}
use Rattle.store_core.specs.disk.Next.{written_records, written_slots, AreWritable, GoesOn, IsNext, IsWritable}
use Rattle.store_core.specs.disk.Shares.{AreSlotsOf, HasOwnSlots}
use Rattle.store_core.specs.disk.Slots.{have_slots, most_extents, has_own_slots}
use Rattle.tier_settings.specs.declared.limits.TheConstants.{MOST_EXTENTS, MOST_ITEMS}
use Rattle.tier_settings.specs.declared.settings.Settings.{Settings}
use Rattle.tier_settings.specs.declared.tier.Tier.{Tier}
use Rattle.tier_settings.specs.Limits.{is_tier, InLimits}
use Rattle.tier_settings.specs.Settings.{no_tier, other_tiers, tier_with}
use Rattle.store_core.specs.pages.Items.{IsRecordItem}
use Rattle.store_core.specs.pages.Pages.{AreRecordPagesOf, AreSlotPagesOf}
use Rattle.store_core.specs.bodies.Next.{beats_before, next_pages, no_beats_before, pages_of_records, pages_of_slots, CanBeNamed, GoOnFrom, HasOneNew, HaveCounted, IsNextBody}
use Rattle.store_core.specs.bodies.Reading.{no_beats_in}
use Rattle.store_core.specs.bodies.Segments.{beats_in}
use Rattle.store_core.specs.bodies.Tiers.{AreTiersOfBody}
use Rattle.store_core.proofs.BodyProofs.ExtentLemmas.{all-apart, all-slots, next-kept, next-placed}
use Rattle.store_core.proofs.BodyProofs.GoingTier.{can-name, outcome-of, sealed-below, still-counted, IsGoing}
use Rattle.store_core.proofs.BodyProofs.NextTier.{open-fit, point-extents, point-fit, point-form, point-tier, point-writable, record-extents, record-fit, record-form, record-items, record-tier, record-writable}
use Rattle.store_core.proofs.BodyProofs.WholeLemmas.{two_tiers}

-- with other tiers of records
abbrev whole : TiersState → List RecordTierState → TiersState
whole state records = record { last = state.last; first = state.first; points = state.points; records = records }

-- what holds where both have two tiers of records holds of all tiers that go on
by-both : (body : Body) (kept : KeptPages) (P : TiersState → TiersState → Type 0)
    → ((were_last last : ℕ) (were_first first : Tier) (were_points points : KeptItems Stepped) (were_minutes were_hours minutes hours : RecordTierState)
    → GoOnFrom body kept (two_tiers were_last were_first were_points were_minutes were_hours) (two_tiers last first points minutes hours)
    → P (two_tiers were_last were_first were_points were_minutes were_hours) (two_tiers last first points minutes hours))
    → (was now : TiersState) → GoOnFrom body kept was now → P was now
by-both body kept P holds was now on = by was.records now.records on
  where
    by : (were are : List RecordTierState) → GoOnFrom body kept (whole was were) (whole now are) → P (whole was were) (whole now are)
    by [] are on = absurd on.from.records
    by (minutes ∷ []) are on = absurd on.from.records
    by (minutes ∷ hours ∷ other ∷ others) are on = absurd on.from.records
    by (minutes ∷ hours ∷ []) [] on = absurd on.goes_on.records
    by (minutes ∷ hours ∷ []) (one ∷ []) on = absurd on.goes_on.records.2
    by (minutes ∷ hours ∷ []) (one ∷ two ∷ []) on = holds was.last now.last was.first now.first was.points now.points minutes hours one two on
    by (minutes ∷ hours ∷ []) (one ∷ two ∷ other ∷ others) on = absurd on.goes_on.records.2.2

-- ---- settings

record AreAllTiers (tiers : List Tier) (one two : Tier) : Type 0 where
  first : slice_get tiers 0 ≡ Some (option_map_or (λ (tier : Tier). tier) (slice_get tiers 0) no_tier)
  second : slice_get tiers 1 ≡ Some one
  third : slice_get tiers 2 ≡ Some two

all-tiers : (tiers : List Tier) (one two : Tier) → one ∷ two ∷ [] ≡ drop 1 tiers → AreAllTiers tiers one two
all-tiers [] one two same = absurd cc
all-tiers (tier ∷ tiers) one two same = record {
  first = refl;
  second = sym (ap (λ (list : List Tier). slice_get list 0) same);
  third = sym (ap (λ (list : List Tier). slice_get list 1) same);
}

record IsLimited (tier : Tier) : Type 0 where
  items : tier.items ≤ 262144
  extents : tier.extents ≤ 1024

limited : (tiers : List Tier) (place : ℕ) (tier : Tier) → list_all is_tier tiers ≡ true → slice_get tiers place ≡ Some tier → IsLimited tier
limited tiers place tier limits there =
    let is : is_tier tier ≡ true = all-at (λ (one : Tier). is_tier one ≡ true) tiers place tier (recursion_from_All (λ (one : Tier). is_tier one ≡ true) tiers (AllPass-from_list_all is_tier tiers limits)) there in
    let parts = and_parts (nat_le 1 tier.items && nat_le tier.items MOST_ITEMS && nat_le 1 tier.extents) _ is in
    let before = and_parts (nat_le 1 tier.items && nat_le tier.items MOST_ITEMS) _ parts.0 in
    record {
      items = leb-true tier.items MOST_ITEMS (and_parts (nat_le 1 tier.items) _ before.0).1;
      extents = leb-true tier.extents MOST_EXTENTS parts.1;
    }

-- ---- the tiers that go on

-- what a tier of records has whose tiers are sound
record IsInForm (last : ℕ) (one : RecordTierState) : Type 0 where
  before : one.segments.before ≡ 0
  kept : IsKept one.tier last (last / one.tier.width) one.segments
  opened : are_open 0 one.current ≡ true

in-form : (last : ℕ) (one : RecordTierState) → is_record_tier last one.tier (kept_of one) ≡ true → IsInForm last one
in-form last one is =
    let parts = and_parts (one.segments.before == 0 && are_kept one.tier last (last / one.tier.width) one.segments) _ is in
    let here = and_parts (one.segments.before == 0) _ parts.0 in
    record {
      before = eqb-true one.segments.before 0 here.0;
      kept = is-kept one.tier last (last / one.tier.width) one.segments here.1;
      opened = parts.1;
    }

module _ (body : Body) (kept : KeptPages) (spelt : HasSpelling body) (were_last last : ℕ) (were_first first : Tier) (were_points points : KeptItems Stepped) (were_minutes were_hours minutes hours : RecordTierState)
    (on : GoOnFrom body kept (two_tiers were_last were_first were_points were_minutes were_hours) (two_tiers last first points minutes hours)) where
  settings-are : AreAllTiers body.settings.tiers were_minutes.tier were_hours.tier
  settings-are = all-tiers body.settings.tiers were_minutes.tier were_hours.tier on.from.others

  first-same : were_first ≡ first
  first-same = sym on.goes_on.first

  first-is : tier_with body.settings 0 ≡ first
  first-is = sym on.from.first ∙ first-same

  minutes-same : minutes.tier ≡ were_minutes.tier
  minutes-same = on.goes_on.records.0

  hours-same : hours.tier ≡ were_hours.tier
  hours-same = on.goes_on.records.2.0

  minutes-is : tier_with body.settings 1 ≡ minutes.tier
  minutes-is = ap (λ (found : Option Tier). option_map_or (λ (tier : Tier). tier) found no_tier) settings-are.second ∙ sym minutes-same

  hours-is : tier_with body.settings 2 ≡ hours.tier
  hours-is = ap (λ (found : Option Tier). option_map_or (λ (tier : Tier). tier) found no_tier) settings-are.third ∙ sym hours-same

  first-limits : IsLimited first
  first-limits = subst IsLimited first-is (limited body.settings.tiers 0 (tier_with body.settings 0) spelt.settings.tiers settings-are.first)

  minutes-limits : IsLimited minutes.tier
  minutes-limits = subst IsLimited (sym minutes-same) (limited body.settings.tiers 1 were_minutes.tier spelt.settings.tiers settings-are.second)

  hours-limits : IsLimited hours.tier
  hours-limits = subst IsLimited (sym hours-same) (limited body.settings.tiers 2 were_hours.tier spelt.settings.tiers settings-are.third)

  points-form : is_point_tier first body.points ≡ true
  points-form = subst (λ (tier : Tier). is_point_tier tier body.points ≡ true) first-is spelt.points

  minutes-form : is_body_tier minutes.tier body.minutes ≡ true
  minutes-form = subst (λ (tier : Tier). is_body_tier tier body.minutes ≡ true) minutes-is spelt.minutes

  hours-form : is_body_tier hours.tier body.hours ≡ true
  hours-form = subst (λ (tier : Tier). is_body_tier tier body.hours ≡ true) hours-is spelt.hours

  forms-now : (are_kept first last (last + 1) points ≡ true) × (are_record_tiers last (minutes.tier ∷ hours.tier ∷ []) (kept_of minutes ∷ kept_of hours ∷ []) ≡ true)
  forms-now = and_parts (are_kept first last (last + 1) points) _ on.sound.form

  forms-were : (are_kept were_first were_last (were_last + 1) were_points ≡ true)
      × (are_record_tiers were_last (were_minutes.tier ∷ were_hours.tier ∷ []) (kept_of were_minutes ∷ kept_of were_hours ∷ []) ≡ true)
  forms-were = and_parts (are_kept were_first were_last (were_last + 1) were_points) _ on.from.sound.form

  minutes-now : IsInForm last minutes
  minutes-now = in-form last minutes (and_parts (is_record_tier last minutes.tier (kept_of minutes)) _ forms-now.1).0

  hours-now : IsInForm last hours
  hours-now = in-form last hours (and_parts (is_record_tier last hours.tier (kept_of hours)) _ (and_parts (is_record_tier last minutes.tier (kept_of minutes)) _ forms-now.1).1).0

  minutes-were : IsInForm were_last were_minutes
  minutes-were = in-form were_last were_minutes (and_parts (is_record_tier were_last were_minutes.tier (kept_of were_minutes)) _ forms-were.1).0

  hours-were : IsInForm were_last were_hours
  hours-were =
      in-form were_last were_hours
      (and_parts (is_record_tier were_last were_hours.tier (kept_of were_hours)) _ (and_parts (is_record_tier were_last were_minutes.tier (kept_of were_minutes)) _ forms-were.1).1).0

  points-going : IsGoing IsPointItem beats_in first body.last body.points.extents were_points points
  points-going =
      let is = is-kept first last (last + 1) points forms-now.0 in
      let was = is-kept were_first were_last (were_last + 1) were_points forms-were.0 in
      let low : were_points.count < 2 ^ 64 = let one = spelt.fits.sealed.points in let same = on.from.points.sealed in omega (arith, one, same) in
      subst (λ (tier : Tier). IsGoing IsPointItem beats_in tier body.last body.points.extents were_points points) first-same
      (subst (λ (moment : ℕ). IsGoing IsPointItem beats_in were_first moment body.points.extents were_points points) on.from.last
      (let limits = first-limits in let same = first-same in record {
        items = let items = limits.items in let e = ap (λ (tier : Tier). tier.items) same in omega (arith, items, e);
        kept = let extents = limits.extents in let e = ap (λ (tier : Tier). tier.extents) same in omega (arith, extents, e);
        named = let few = point-extents first body.points points-form in let e = ap (λ (tier : Tier). tier.extents) same in omega (arith, few, e);
        most = let most = is.most in let e = ap (λ (tier : Tier). tier.extents) same in omega (arith, most, e);
        few = let few = is.few in let e = ap (λ (tier : Tier). tier.items) same in omega (arith, few, e);
        ordered = is.ordered;
        each = on.sound.points;
        counted = on.counted.points;
        below = sealed-below 0 were_last were_points.sealed was.sealed;
        outcome = outcome-of IsPointItem beats_in _ were_first were_last were_points points on.goes_on.points (λ items. refl) low
            (subst (λ (moment : ℕ). HasOneNew moment points.sealed) (sym on.from.last) on.new.points);
      }))

  minutes-going : IsGoing (IsRecordItem minutes.tier.width) no_beats_in minutes.tier body.last body.minutes.extents were_minutes.segments minutes.segments
  minutes-going =
      let low : were_minutes.segments.count < 2 ^ 64 = let one = spelt.fits.sealed.minutes in let same = on.from.records.0.sealed in omega (arith, one, same) in
      let width = on.sound.others.0.width in
      subst (λ (tier : Tier). IsGoing (IsRecordItem minutes.tier.width) no_beats_in tier body.last body.minutes.extents were_minutes.segments minutes.segments) (sym minutes-same)
      (subst (λ (moment : ℕ). IsGoing (IsRecordItem minutes.tier.width) no_beats_in were_minutes.tier moment body.minutes.extents were_minutes.segments minutes.segments) on.from.last
      (let limits = minutes-limits in let same = minutes-same in record {
        items = let items = limits.items in let e = ap (λ (tier : Tier). tier.items) same in omega (arith, items, e);
        kept = let extents = limits.extents in let e = ap (λ (tier : Tier). tier.extents) same in omega (arith, extents, e);
        named = let few = record-extents minutes.tier body.minutes minutes-form in let e = ap (λ (tier : Tier). tier.extents) same in omega (arith, few, e);
        most = let most = minutes-now.kept.most in let e = ap (λ (tier : Tier). tier.extents) same in omega (arith, most, e);
        few = let few = minutes-now.kept.few in let e = ap (λ (tier : Tier). tier.items) same in omega (arith, few, e);
        ordered = minutes-now.kept.ordered;
        each = record-items minutes.tier.width last (items_of minutes.segments) on.sound.last (omega (arith, width)) on.sound.records.0 minutes-now.kept.below;
        counted = on.counted.records.0;
        below = sealed-below 0 were_last were_minutes.segments.sealed minutes-were.kept.sealed;
        outcome = outcome-of (IsRecordItem minutes.tier.width) no_beats_in _ were_minutes.tier were_last were_minutes.segments minutes.segments on.goes_on.records.1 (λ items. refl) low
            (subst (λ (moment : ℕ). HasOneNew moment minutes.segments.sealed) (sym on.from.last) on.new.records.0);
      }))

  hours-going : IsGoing (IsRecordItem hours.tier.width) no_beats_in hours.tier body.last body.hours.extents were_hours.segments hours.segments
  hours-going =
      let low : were_hours.segments.count < 2 ^ 64 = let one = spelt.fits.sealed.hours in let same = on.from.records.1.sealed in omega (arith, one, same) in
      let width = on.sound.others.1.0.width in
      subst (λ (tier : Tier). IsGoing (IsRecordItem hours.tier.width) no_beats_in tier body.last body.hours.extents were_hours.segments hours.segments) (sym hours-same)
      (subst (λ (moment : ℕ). IsGoing (IsRecordItem hours.tier.width) no_beats_in were_hours.tier moment body.hours.extents were_hours.segments hours.segments) on.from.last
      (let limits = hours-limits in let same = hours-same in record {
        items = let items = limits.items in let e = ap (λ (tier : Tier). tier.items) same in omega (arith, items, e);
        kept = let extents = limits.extents in let e = ap (λ (tier : Tier). tier.extents) same in omega (arith, extents, e);
        named = let few = record-extents hours.tier body.hours hours-form in let e = ap (λ (tier : Tier). tier.extents) same in omega (arith, few, e);
        most = let most = hours-now.kept.most in let e = ap (λ (tier : Tier). tier.extents) same in omega (arith, most, e);
        few = let few = hours-now.kept.few in let e = ap (λ (tier : Tier). tier.items) same in omega (arith, few, e);
        ordered = hours-now.kept.ordered;
        each = record-items hours.tier.width last (items_of hours.segments) on.sound.last (omega (arith, width)) on.sound.records.1.0 hours-now.kept.below;
        counted = on.counted.records.1.0;
        below = sealed-below 0 were_last were_hours.segments.sealed hours-were.kept.sealed;
        outcome = outcome-of (IsRecordItem hours.tier.width) no_beats_in _ were_hours.tier were_last were_hours.segments hours.segments on.goes_on.records.2.1 (λ items. refl) low
            (subst (λ (moment : ℕ). HasOneNew moment hours.segments.sealed) (sym on.from.last) on.new.records.1.0);
      }))

-- ---- what is asked of the parts

pub record IsReadyTier (body : Body) (extents : List Extent) (one : RecordTierState) : Type 0 where
  pub width : 0 < one.tier.width
  pub named : CanBeNamed (IsRecordItem one.tier.width) body.last extents one.segments

-- both tiers of records can be named
abbrev pub AreReadyTiers : Body → List RecordTierState → Type 0
AreReadyTiers body [] = ⊥
AreReadyTiers body (minutes ∷ []) = ⊥
AreReadyTiers body (minutes ∷ hours ∷ []) = IsReadyTier body body.minutes.extents minutes × IsReadyTier body body.hours.extents hours
AreReadyTiers body (minutes ∷ hours ∷ other ∷ others) = ⊥

-- the next body can be made of these tiers
pub record AreReady (body : Body) (now : TiersState) : Type 0 where
  pub points : CanBeNamed IsPointItem body.last body.points.extents now.points
  pub records : AreReadyTiers body now.records

pub are-ready : (body : Body) → HasSpelling body → (kept : KeptPages) (was now : TiersState) → GoOnFrom body kept was now → AreReady body now
are-ready body spelt kept was now on =
    by-both body kept (λ _ state. AreReady body state)
    (λ were_last last were_first first were_points points were_minutes were_hours minutes hours two. record {
      points =
          can-name IsPointItem beats_in first body.last body.points.extents were_points points
          (points-going body kept spelt were_last last were_first first were_points points were_minutes were_hours minutes hours two);
      records = (
        record {
          width = let width = two.sound.others.0.width in omega (arith, width);
          named = can-name (IsRecordItem minutes.tier.width) no_beats_in minutes.tier body.last body.minutes.extents were_minutes.segments minutes.segments
              (minutes-going body kept spelt were_last last were_first first were_points points were_minutes were_hours minutes hours two);
        },
        record {
          width = let width = two.sound.others.1.0.width in omega (arith, width);
          named = can-name (IsRecordItem hours.tier.width) no_beats_in hours.tier body.last body.hours.extents were_hours.segments hours.segments
              (hours-going body kept spelt were_last last were_first first were_points points were_minutes were_hours minutes hours two);
        },
      );
    })
    was now on

-- ---- the next body

-- what is shown of the body that is made
pub record IsMade (body : Body) (kept : KeptPages) (now : TiersState) (next : Body) (new : Sealed) : Type 0 where
  pub spelt : HasSpelling next
  pub writable : AreWritable next new
  pub own_slots : HasOwnSlots next new
  pub follows : (contents : Contents) → contents.body ≡ body → HasPagesOfEach body contents.kept → IsNext contents new next (next_pages body next new contents.kept)
  pub tiers : AreTiersOfBody next (next_pages body next new kept) now
  pub counted : HaveCounted now

module _ (body : Body) (kept : KeptPages) (spelt : HasSpelling body) (were_last last : ℕ) (were_first first : Tier) (were_points points : KeptItems Stepped) (were_minutes were_hours minutes hours : RecordTierState)
    (on : GoOnFrom body kept (two_tiers were_last were_first were_points were_minutes were_hours) (two_tiers last first points minutes hours))
    (count : ℕ) (side : List ℕ) (few : count < 2 ^ 64) (short : length side < 2 ^ 32) (next : Body) (new : Sealed) (is : IsNextBody body (two_tiers last first points minutes hours) count side next new) where
  going-points : IsGoing IsPointItem beats_in first body.last body.points.extents were_points points
  going-points = points-going body kept spelt were_last last were_first first were_points points were_minutes were_hours minutes hours on

  going-minutes : IsGoing (IsRecordItem minutes.tier.width) no_beats_in minutes.tier body.last body.minutes.extents were_minutes.segments minutes.segments
  going-minutes = minutes-going body kept spelt were_last last were_first first were_points points were_minutes were_hours minutes hours on

  going-hours : IsGoing (IsRecordItem hours.tier.width) no_beats_in hours.tier body.last body.hours.extents were_hours.segments hours.segments
  going-hours = hours-going body kept spelt were_last last were_first first were_points points were_minutes were_hours minutes hours on

  open-minutes : IsInForm last minutes
  open-minutes = minutes-now body kept spelt were_last last were_first first were_points points were_minutes were_hours minutes hours on

  open-hours : IsInForm last hours
  open-hours = hours-now body kept spelt were_last last were_first first were_points points were_minutes were_hours minutes hours on

  -- the tiers of the next settings
  tier-next : (place : ℕ) (tier : Tier) → tier_with body.settings place ≡ tier → tier ≡ tier_with next.settings place
  tier-next place tier same = sym same ∙ ap (λ (set : Settings). tier_with set place) (sym is.settings)

  first-next : first ≡ tier_with next.settings 0
  first-next = tier-next 0 first (first-is body kept spelt were_last last were_first first were_points points were_minutes were_hours minutes hours on)

  minutes-next : minutes.tier ≡ tier_with next.settings 1
  minutes-next = tier-next 1 minutes.tier (minutes-is body kept spelt were_last last were_first first were_points points were_minutes were_hours minutes hours on)

  hours-next : hours.tier ≡ tier_with next.settings 2
  hours-next = tier-next 2 hours.tier (hours-is body kept spelt were_last last were_first first were_points points were_minutes were_hours minutes hours on)

  next-spelt : HasSpelling next
  next-spelt = record {
    fits = record {
      settings = subst FitsSettings (sym is.settings) spelt.fits.settings;
      count = let same = is.count in omega (arith, same, few);
      last = let same = is.last in let low = on.sound.last in omega (arith, same, low);
      floors = record { points = is.points.fit.floor; minutes = is.records.0.fit.floor; hours = is.records.1.fit.floor };
      before = is.points.fit.before;
      sealed = record { points = is.points.fit.count; minutes = is.records.0.fit.count; hours = is.records.1.fit.count };
      extents = record {
        points = point-fit first body.last body.points were_points points going-points next.points new.points is.points spelt.fits.extents.points.each;
        minutes = record-fit 1 body.last last (omega arith) body.minutes were_minutes minutes going-minutes next.minutes new.minutes is.records.0 spelt.fits.extents.minutes.each;
        hours = record-fit 2 body.last last (omega arith) body.hours were_hours hours going-hours next.hours new.hours is.records.1 spelt.fits.extents.hours.each;
      };
      open_minutes = open-fit 1 body.last last (omega arith) body.minutes were_minutes minutes going-minutes next.minutes new.minutes is.records.0 open-minutes.opened;
      open_hours = open-fit 2 body.last last (omega arith) body.hours were_hours hours going-hours next.hours new.hours is.records.1 open-hours.opened;
      points = is.points.pages.fits;
      minutes = is.records.0.pages.fits;
      hours = is.records.1.pages.fits;
      side = subst (λ (list : List ℕ). length list < 2 ^ 32) (sym is.side) short;
    };
    settings = subst InLimits (sym is.settings) spelt.settings;
    points =
        subst (λ (tier : Tier). is_point_tier tier next.points ≡ true) first-next
        (point-form first body.last body.points were_points points going-points next.points new.points is.points);
    minutes =
        subst (λ (tier : Tier). is_body_tier tier next.minutes ≡ true) minutes-next
        (record-form 1 body.last last (omega arith) body.minutes were_minutes minutes going-minutes next.minutes new.minutes is.records.0 open-minutes.opened);
    hours =
        subst (λ (tier : Tier). is_body_tier tier next.hours ≡ true) hours-next
        (record-form 2 body.last last (omega arith) body.hours were_hours hours going-hours next.hours new.hours is.records.1 open-hours.opened);
  }

  next-writable : AreWritable next new
  next-writable = record {
    points =
        subst (λ (tier : Tier). All (IsWritable 0 tier.items) (map written_slots new.points)) first-next
        (point-writable first body.last body.points were_points points going-points next.points new.points is.points);
    minutes =
        subst (λ (tier : Tier). All (IsWritable 1 tier.items) (map written_records new.minutes)) minutes-next
        (record-writable 1 body.last last (omega arith) body.minutes were_minutes minutes going-minutes next.minutes new.minutes is.records.0);
    hours =
        subst (λ (tier : Tier). All (IsWritable 2 tier.items) (map written_records new.hours)) hours-next
        (record-writable 2 body.last last (omega arith) body.hours were_hours hours going-hours next.hours new.hours is.records.1);
    points_apart = all-apart 0 written_slots pages_of_slots AreSlotPagesOf beats_in beats_before body.last body.points.extents points next.points.extents new.points is.points.extents;
    minutes_apart =
        all-apart 1 written_records pages_of_records (AreRecordPagesOf 1 minutes.tier.width) no_beats_in no_beats_before body.last body.minutes.extents minutes.segments next.minutes.extents new.minutes
        is.records.0.extents;
    hours_apart =
        all-apart 2 written_records pages_of_records (AreRecordPagesOf 2 hours.tier.width) no_beats_in no_beats_before body.last body.hours.extents hours.segments next.hours.extents new.hours is.records.1.extents;
  }

  next-slots : HasOwnSlots next new
  next-slots = record {
    points =
        subst (λ (tier : Tier). AreSlotsOf tier (map written_slots new.points)) first-next
        (all-slots 0 written_slots pages_of_slots AreSlotPagesOf beats_in beats_before body.last body.points.extents points next.points.extents new.points is.points.extents first.extents going-points.named);
    minutes =
        subst (λ (tier : Tier). AreSlotsOf tier (map written_records new.minutes)) minutes-next
        (all-slots 1 written_records pages_of_records (AreRecordPagesOf 1 minutes.tier.width) no_beats_in no_beats_before body.last body.minutes.extents minutes.segments next.minutes.extents new.minutes
        is.records.0.extents minutes.tier.extents going-minutes.named);
    hours =
        subst (λ (tier : Tier). AreSlotsOf tier (map written_records new.hours)) hours-next
        (all-slots 2 written_records pages_of_records (AreRecordPagesOf 2 hours.tier.width) no_beats_in no_beats_before body.last body.hours.extents hours.segments next.hours.extents new.hours
        is.records.1.extents hours.tier.extents going-hours.named);
  }

  next-own_slots : has_own_slots body ≡ true → has_own_slots next ≡ true
  next-own_slots placed =
      let both = and_parts (have_slots (most_extents body 0) body.points.extents && have_slots (most_extents body 1) body.minutes.extents) (have_slots (most_extents body 2) body.hours.extents) placed in
      let one = and_parts (have_slots (most_extents body 0) body.points.extents) (have_slots (most_extents body 1) body.minutes.extents) both.0 in
      let is_first = first-is body kept spelt were_last last were_first first were_points points were_minutes were_hours minutes hours on in
      let is_minutes = minutes-is body kept spelt were_last last were_first first were_points points were_minutes were_hours minutes hours on in
      let is_hours = hours-is body kept spelt were_last last were_first first were_points points were_minutes were_hours minutes hours on in
      and_from _ _
      (and_from _ _
      (subst (λ (tier : Tier). have_slots tier.extents next.points.extents ≡ true) first-next
      (next-placed 0 written_slots pages_of_slots AreSlotPagesOf beats_in beats_before body.last body.points.extents points next.points.extents new.points is.points.extents first.extents going-points.named
      (subst (λ (tier : Tier). have_slots tier.extents body.points.extents ≡ true) is_first one.0)))
      (subst (λ (tier : Tier). have_slots tier.extents next.minutes.extents ≡ true) minutes-next
      (next-placed 1 written_records pages_of_records (AreRecordPagesOf 1 minutes.tier.width) no_beats_in no_beats_before body.last body.minutes.extents minutes.segments next.minutes.extents new.minutes
      is.records.0.extents minutes.tier.extents going-minutes.named
      (subst (λ (tier : Tier). have_slots tier.extents body.minutes.extents ≡ true) is_minutes one.1))))
      (subst (λ (tier : Tier). have_slots tier.extents next.hours.extents ≡ true) hours-next
      (next-placed 2 written_records pages_of_records (AreRecordPagesOf 2 hours.tier.width) no_beats_in no_beats_before body.last body.hours.extents hours.segments next.hours.extents new.hours
      is.records.1.extents hours.tier.extents going-hours.named
      (subst (λ (tier : Tier). have_slots tier.extents body.hours.extents ≡ true) is_hours both.1)))

  next-follows : (contents : Contents) → contents.body ≡ body → HasPagesOfEach body contents.kept → IsNext contents new next (next_pages body next new contents.kept)
  next-follows contents same each =
      let back = sym same in
      let pages = next_pages body next new contents.kept in
      record {
        settings = is.settings ∙ ap (λ (one : Body). one.settings) back;
        slots = subst (λ (one : Body). has_own_slots one ≡ true → has_own_slots next ≡ true) back next-own_slots;
        points =
            subst (λ (one : Body). GoesOn 0 one.points.extents (map (map page_of_slots) contents.kept.points) (map written_slots new.points) next.points.extents (map (map page_of_slots) pages.points)) back
            (next-kept 0 written_slots pages_of_slots AreSlotPagesOf beats_in beats_before body.last body.points.extents points next.points.extents new.points is.points.extents
            (map page_of_slots) (λ one. refl) contents.kept.points each.points);
        minutes =
            subst (λ (one : Body). GoesOn 1 one.minutes.extents (map (map page_of_records) contents.kept.minutes) (map written_records new.minutes) next.minutes.extents (map (map page_of_records) pages.minutes)) back
            (next-kept 1 written_records pages_of_records (AreRecordPagesOf 1 minutes.tier.width) no_beats_in no_beats_before body.last body.minutes.extents minutes.segments next.minutes.extents new.minutes
            is.records.0.extents (map page_of_records) (λ one. refl) contents.kept.minutes each.minutes);
        hours =
            subst (λ (one : Body). GoesOn 2 one.hours.extents (map (map page_of_records) contents.kept.hours) (map written_records new.hours) next.hours.extents (map (map page_of_records) pages.hours)) back
            (next-kept 2 written_records pages_of_records (AreRecordPagesOf 2 hours.tier.width) no_beats_in no_beats_before body.last body.hours.extents hours.segments next.hours.extents new.hours
            is.records.1.extents (map page_of_records) (λ one. refl) contents.kept.hours each.hours);
      }

  next-tiers : AreTiersOfBody next (next_pages body next new kept) (two_tiers last first points minutes hours)
  next-tiers = record {
    last = sym is.last;
    first = first-next;
    others =
        ap (λ (tier : Tier). tier ∷ hours.tier ∷ []) (minutes-same body kept spelt were_last last were_first first were_points points were_minutes were_hours minutes hours on)
        ∙ ap (λ (tier : Tier). were_minutes.tier ∷ tier ∷ []) (hours-same body kept spelt were_last last were_first first were_points points were_minutes were_hours minutes hours on)
        ∙ on.from.others ∙ ap other_tiers (sym is.settings);
    sound = on.sound;
    points = point-tier first body.last body.points were_points points going-points next.points new.points is.points kept.points on.from.sound.points on.from.points;
    records = (
      record-tier 1 body.last last (omega arith) body.minutes were_minutes minutes going-minutes next.minutes new.minutes is.records.0
          (minutes-same body kept spelt were_last last were_first first were_points points were_minutes were_hours minutes hours on)
          (minutes-were body kept spelt were_last last were_first first were_points points were_minutes were_hours minutes hours on).before open-minutes.before
          body.last next.last is.last kept.minutes on.from.sound.records.0 on.from.records.0,
      record-tier 2 body.last last (omega arith) body.hours were_hours hours going-hours next.hours new.hours is.records.1
          (hours-same body kept spelt were_last last were_first first were_points points were_minutes were_hours minutes hours on)
          (hours-were body kept spelt were_last last were_first first were_points points were_minutes were_hours minutes hours on).before open-hours.before
          body.last next.last is.last kept.hours on.from.sound.records.1.0 on.from.records.1,
    );
  }

pub is-made : (body : Body) → HasSpelling body → (kept : KeptPages) (was now : TiersState) → GoOnFrom body kept was now → (count : ℕ) (side : List ℕ) → count < 2 ^ 64 → length side < 2 ^ 32 → (next : Body) (new : Sealed)
    → IsNextBody body now count side next new → IsMade body kept now next new
is-made body spelt kept was now on count side few short next new =
    by-both body kept (λ _ state. IsNextBody body state count side next new → IsMade body kept state next new)
    (λ were_last last were_first first were_points points were_minutes were_hours minutes hours two is. record {
      spelt = next-spelt body kept spelt were_last last were_first first were_points points were_minutes were_hours minutes hours two count side few short next new is;
      writable = next-writable body kept spelt were_last last were_first first were_points points were_minutes were_hours minutes hours two count side few short next new is;
      own_slots = next-slots body kept spelt were_last last were_first first were_points points were_minutes were_hours minutes hours two count side few short next new is;
      follows = next-follows body kept spelt were_last last were_first first were_points points were_minutes were_hours minutes hours two count side few short next new is;
      tiers = next-tiers body kept spelt were_last last were_first first were_points points were_minutes were_hours minutes hours two count side few short next new is;
      counted = record {
        points =
            still-counted IsPointItem beats_in first body.last body.points.extents were_points points
            (points-going body kept spelt were_last last were_first first were_points points were_minutes were_hours minutes hours two);
        records = (
          still-counted (IsRecordItem minutes.tier.width) no_beats_in minutes.tier body.last body.minutes.extents were_minutes.segments minutes.segments
              (minutes-going body kept spelt were_last last were_first first were_points points were_minutes were_hours minutes hours two),
          (
            still-counted (IsRecordItem hours.tier.width) no_beats_in hours.tier body.last body.hours.extents were_hours.segments hours.segments
                (hours-going body kept spelt were_last last were_first first were_points points were_minutes were_hours minutes hours two),
            tt,
          ),
        );
      };
    })
    was now on
