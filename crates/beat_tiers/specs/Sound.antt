-- Tiers as every beat leaves them, whatever beats they are of.
use Rattle.std.specs.Prelude.{◌≡◌, ℕ, ◌+◌, ◌-◌, ◌<◌, ◌≤◌, ◌^◌, true, min, nat_lt, List, [], ◌∷◌, ◌++◌, drop, length, map, take}
use Rattle.std.specs.List.{AllByRecursion}
use Rattle.std.specs.Option.{option_map_or}
use Rattle.fixed_num.specs.declared.units.Record.{Record}
use Rattle.storage_number.specs.Word.{is_word}
use Rattle.tier_settings.specs.declared.limits.TheConstants.{LONGEST_STEP, MOST_SERIES}
use Rattle.tier_settings.specs.declared.tier.Tier.{Tier}
use Rattle.beat_tiers.specs.declared.item.BeatPoint.{BeatPoint}
use Rattle.beat_tiers.specs.declared.item.Item.{Item}
use Rattle.beat_tiers.specs.declared.item.Stepped.{Stepped}
use Rattle.beat_tiers.specs.declared.parts.KeptItems.{KeptItems}
use Rattle.beat_tiers.specs.declared.parts.Segment.{Segment}
use Rattle.beat_tiers.specs.Beats.{TierBeat, AreAbove}
use Rattle.beat_tiers.specs.Parts.{are_in_form, kept_of}
use Rattle.beat_tiers.specs.declared.segments.ItemKind.{ItemKind}
use Rattle.beat_tiers.specs.declared.segments.ItemKind.TheVariants.{Points, Records}
use Rattle.beat_tiers.specs.Segments.{beats_of, items_of}
use Rattle.beat_tiers.specs.State.{RecordTierState, TiersState, after_beat}
use Rattle.beat_tiers.specs.Tiers.{IsTier}

-- ---- sound tiers

-- the point of a beat, as a tier keeps it
pub record IsPointItem (item : Item Stepped) : Type 0 where
  pub series : item.series < MOST_SERIES
  pub least : 1 ≤ item.value.step
  pub most : item.value.step ≤ LONGEST_STEP
  pub word : is_word item.value.word ≡ true

-- the series of a record is below 65,536
abbrev pub IsRecordOfSeries : Item Record → Type 0
IsRecordOfSeries item = item.series < MOST_SERIES

-- the settings of a tier of records
abbrev pub tier_of : RecordTierState → Tier
tier_of state = state.tier

-- the tiers are in form, and each item that they keep is a point of a beat or a record of a series
pub record AreSound (state : TiersState) : Type 0 where
  pub last : state.last < 2 ^ 32
  pub first : IsTier state.first
  pub others : AllByRecursion (λ (one : RecordTierState). IsTier one.tier) state.records
  pub form : are_in_form state.first (map tier_of state.records) state.last state.points (map kept_of state.records) ≡ true
  pub points : AllByRecursion IsPointItem (items_of state.points)
  pub records : AllByRecursion (λ (one : RecordTierState). AllByRecursion IsRecordOfSeries (items_of one.segments)) state.records

-- ---- one more beat

-- the step of a point is 1 to 86,400 seconds, and its word is a storage number
pub record IsBeatPoint (point : BeatPoint) : Type 0 where
  pub least : 1 ≤ point.step
  pub most : point.step ≤ LONGEST_STEP
  pub word : is_word point.word ≡ true

-- A beat may follow one of this moment: its own, if it has one, lies above it, and its points have the order of their series,
-- each once and below 65,536.
pub record IsBeatAfter (last : ℕ) (beat : TierBeat) : Type 0 where
  pub later : option_map_or (λ moment. nat_lt last moment) beat.moment true ≡ true
  pub short : option_map_or (λ moment. nat_lt moment (2 ^ 32)) beat.moment true ≡ true
  pub order : AreAbove 0 beat.points
  pub points : AllByRecursion IsBeatPoint beat.points

module _ {T : Type 0} where
  -- how many beats gave the points that have expired, once these segments have too
  abbrev pub passed : ItemKind → ℕ → List (Segment T) → ℕ
  passed kind before [] = before
  passed kind before (segment ∷ segments) = passed kind (min (before + beats_of kind segment.items) (2 ^ 64 - 1)) segments

  -- What is kept goes on from what was: new segments stand behind those that were sealed, and the earliest of them all have gone.
  pub record GoesOn (kind : ItemKind) (IsNew : Segment T → Type 0) (was now : KeptItems T) : Type 0 where
    pub new : List (Segment T)
    pub gone : ℕ
    pub each : AllByRecursion IsNew new
    pub within : gone ≤ length was.sealed + length new
    pub sealed : now.sealed ≡ drop gone (was.sealed ++ new)
    pub before : now.before ≡ passed kind was.before (take gone (was.sealed ++ new))
    pub count : was.count < 2 ^ 64 → now.count ≡ min (was.count + length new) (2 ^ 64 - 1)

  -- the segment has fewer than 65,536 items beyond those at which the tier seals one
  abbrev pub IsShort : Tier → Segment T → Type 0
  IsShort tier segment = length segment.items < tier.items + MOST_SERIES

  abbrev pub IsSealedBy : Tier → ℕ → Segment T → Type 0
  IsSealedBy tier moment segment = (segment.sealed_at ≡ moment) × IsShort tier segment

  -- by a beat of this moment at most one segment was sealed
  pub record SealsAtMostOne (kind : ItemKind) (tier : Tier) (moment : ℕ) (was now : KeptItems T) : Type 0 where
    pub goes_on : GoesOn kind (IsSealedBy tier moment) was now
    pub one : length goes_on.new ≤ 1

-- each tier of records keeps its settings, and what it keeps has changed like this
abbrev pub HaveChanged : (Tier → KeptItems Record → KeptItems Record → Type 0) → List RecordTierState → List RecordTierState → Type 0
HaveChanged Change [] [] = Unit {0}
HaveChanged Change [] (next ∷ now) = ⊥
HaveChanged Change (one ∷ was) [] = ⊥
HaveChanged Change (one ∷ was) (next ∷ now) = (next.tier ≡ one.tier) × Change one.tier one.segments next.segments × HaveChanged Change was now

-- with one more beat, of this moment
pub record HaveSealed (moment : ℕ) (was now : TiersState) : Type 0 where
  pub points : SealsAtMostOne Points was.first moment was.points now.points
  pub records : HaveChanged (λ tier. SealsAtMostOne Records tier moment) was.records now.records

-- ---- beats, the latest first

abbrev pub after_beats : TiersState → List TierBeat → TiersState
after_beats state [] = state
after_beats state (beat ∷ beats) = after_beat beat.moment beat.points (after_beats state beats)

abbrev pub AreBeatsAfter : TiersState → List TierBeat → Type 0
AreBeatsAfter state [] = Unit {0}
AreBeatsAfter state (beat ∷ beats) = IsBeatAfter (after_beats state beats).last beat × AreBeatsAfter state beats

abbrev pub IsSealedAfter : {T : Type 0} → Tier → ℕ → Segment T → Type 0
IsSealedAfter tier last segment = (last < segment.sealed_at) × IsShort tier segment

-- the segments that the tiers have sealed since are later than the last moment of what they were
pub record HaveGoneOn (was now : TiersState) : Type 0 where
  pub last : was.last ≤ now.last
  pub first : now.first ≡ was.first
  pub points : GoesOn Points (IsSealedAfter was.first was.last) was.points now.points
  pub records : HaveChanged (λ tier. GoesOn Records (IsSealedAfter tier was.last)) was.records now.records
