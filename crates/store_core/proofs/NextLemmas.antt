-- The tiers of a store go on from those of its checkpoint, and each has sealed one segment at most since.
use Rattle.std.proofs.Common.{◌≡◌, ℕ, zero, suc, ◌+◌, ◌-◌, ◌/◌, ◌≤◌, ◌==◌, ◌&&◌, Bool, true, false, nat_le, nat_lt, if◌then◌else◌, List, [], ◌∷◌, ◌++◌, drop, length, map, slice_get, Option, Some, None, arith, append-nil, refl, sym, ap, ◌∙◌, subst}
use Rattle.std.specs.List.{list_all, list_any, AllByRecursion}
use Rattle.std.specs.Option.{is_some, option_and_then, option_map_or}
use Rattle.std.proofs.lemmas.Bool.{and_parts, leb-true, lt-ltb, ltb-false, ltb-true, or_from, or_parts, true≢false}
use Rattle.tier_settings.specs.declared.tier.Tier.{Tier}
use Rattle.beat_tiers.specs.declared.item.BeatPoint.{BeatPoint}
use Rattle.beat_tiers.specs.declared.parts.KeptItems.{KeptItems}
use Rattle.beat_tiers.specs.declared.parts.Segment.{Segment}
use Rattle.beat_tiers.specs.Beats.{Follows}
use Rattle.beat_tiers.specs.Parts.{are_kept, are_record_tiers, are_sealed, is_record_tier, is_sealed, kept_of}
use Rattle.beat_tiers.specs.Sound.{tier_of, AreBeatsAfter, AreSound, HaveChanged, IsBeatAfter, IsBeatPoint, SealsAtMostOne}
use Rattle.beat_tiers.specs.State.{RecordTierState, TiersState, after_beat}
use Rattle.beat_tiers.proofs.GoingOn.{gone-on-all, sound-all}
use Rattle.beat_tiers.proofs.SoundLemmas.{sound-next}
use Rattle.beat_tiers.proofs.SoundTier.{is-kept}
use Rattle.checkpoint_body.specs.declared.body.Body.{Body}
use Rattle.store_core.specs.disk.Contents.{KeptPages}
use Rattle.store_core.specs.bodies.Next.{if_after, sealed_after, GoOnFrom, HasOneNew, HaveCounted, HaveOneNew}
use Rattle.store_core.specs.bodies.Tiers.{AreTiersOfBody}
use Rattle.store_core.proofs.BodyProofs.GoingLemmas.{none-after, one-tail}
use Rattle.store_core.proofs.BodyProofs.GoingTier.{sealed-below}
use Rattle.store_core.specs.declared.beats.beat.Beat.{Beat}
use Rattle.store_core.specs.beats.Beats.{is_point, InForm}
use Rattle.store_core.specs.beats.Records.{is_later}
use Rattle.store_core.specs.Tiers.{seen}
use Rattle.store_core.proofs.TierLemmas.{follows}
use Rattle.store_core.specs.Stored.{Base, has_sealed, has_sealed_records, is_numbered, tiers_of, HaveFollowed}

-- ---- beats, as tiers see them

above-last : (last : ℕ) (moment : Option ℕ) → is_later last moment ≡ true → option_map_or (λ m. nat_lt last m) moment true ≡ true
above-last last None later = refl
above-last last (Some moment) later = later

above-none : (last : ℕ) (moment : Option ℕ) → is_later last moment ≡ true → is_later 0 moment ≡ true
above-none last None later = refl
above-none last (Some moment) later = let lt = ltb-true last moment later in lt-ltb 0 moment (omega (arith, lt))

-- a beat alone may follow no beats
follows-none : (last : ℕ) (beat : Beat) → InForm beat → is_later last beat.moment ≡ true → Follows (seen beat) []
follows-none last beat form later = follows [] beat 0 refl form (above-none last beat.moment later)

beat-points : (points : List BeatPoint) → list_all is_point points ≡ true → AllByRecursion IsBeatPoint points
beat-points [] all = tt
beat-points (point ∷ points) all =
    let both = and_parts (is_point point) _ all in
    let word = and_parts (nat_lt point.series 65536 && nat_le 1 point.step && nat_le point.step 86400) _ both.0 in
    let most = and_parts (nat_lt point.series 65536 && nat_le 1 point.step) _ word.0 in
    let least = and_parts (nat_lt point.series 65536) _ most.0 in
    (record { least = leb-true 1 point.step least.1; most = leb-true point.step 86400 most.1; word = word.1 }, beat-points points both.1)

beat-after : (last : ℕ) (beat : Beat) → InForm beat → is_later last beat.moment ≡ true → IsBeatAfter last (seen beat)
beat-after last beat form later =
    let alone = follows-none last beat form later in
    record {
      later = above-last last beat.moment later;
      short = alone.short;
      order = alone.points;
      points = beat-points beat.points (and_parts _ _ (and_parts _ _ form.form).0).1;
    }

pub beats-after : (base : Base) (after : List Beat) → HaveFollowed base after → AreBeatsAfter base.tiers (map seen after)
beats-after base [] followed = tt
beats-after base (beat ∷ beats) followed =
    (beat-after (tiers_of (record { base = base; after = beats })).last beat followed.0.form followed.0.later, beats-after base beats followed.1)

-- the tiers after one beat are sound
pub sound-one : (tiers : TiersState) (beat : Beat) → AreSound tiers → InForm beat → is_later tiers.last beat.moment ≡ true → AreSound (after_beat beat.moment beat.points tiers)
sound-one tiers beat sound form later = sound-all tiers (seen beat ∷ []) sound (beat-after tiers.last beat form later, tt)

-- the tiers after the beats are sound
pub sound-after : (base : Base) (after : List Beat) → AreSound base.tiers → HaveFollowed base after → AreSound (tiers_of (record { base = base; after = after }))
sound-after base after sound followed = sound-all base.tiers (map seen after) sound (beats-after base after followed)

-- ---- segments that were sealed at or before a moment

module _ {T : Type 0} where
  -- each was
  abbrev pub AreEarly : ℕ → List (Segment T) → Type 0
  AreEarly moment segments = AllByRecursion (λ (segment : Segment T). segment.sealed_at ≤ moment) segments

  last-of-more : (moment : ℕ) (segment next : Segment T) (rest : List (Segment T)) → sealed_after moment (segment ∷ next ∷ rest) ≡ sealed_after moment (next ∷ rest)
  last-of-more moment segment next rest =
      let here : suc (suc (length rest)) - 1 ≡ suc (length rest) = omega arith in
      let there : suc (length rest) - 1 ≡ length rest = omega arith in
      ap (λ (n : ℕ). option_and_then (if_after moment) (slice_get (segment ∷ next ∷ rest) n)) here
      ∙ sym (ap (λ (n : ℕ). option_and_then (if_after moment) (slice_get (next ∷ rest) n)) there)

  early-one : (moment : ℕ) (segment : Segment T) → is_some (if_after moment segment) ≡ false → segment.sealed_at ≤ moment
  early-one moment segment none = by (nat_lt moment segment.sealed_at) refl none
    where
      by : (test : Bool) → nat_lt moment segment.sealed_at ≡ test → is_some (if test then Some segment else None) ≡ false → segment.sealed_at ≤ moment
      by true is none = absurd (true≢false none)
      by false is none = ltb-false moment segment.sealed_at is

  -- where the last was, each was: the moments of sealing rise
  pub early-all : (least last moment : ℕ) (segments : List (Segment T)) → are_sealed least last segments ≡ true → is_some (sealed_after moment segments) ≡ false → AreEarly moment segments
  early-all least last moment [] are none = tt
  early-all least last moment (segment ∷ []) are none = (early-one moment segment none, tt)
  early-all least last moment (segment ∷ next ∷ segments) are none =
      let parts = and_parts (is_sealed least last segment) _ are in
      let rest = early-all (segment.sealed_at + 1) last moment (next ∷ segments) parts.1 (ap is_some (sym (last-of-more moment segment next segments)) ∙ none) in
      let here = and_parts (is_sealed (segment.sealed_at + 1) last next) _ parts.1 in
      let bounds = and_parts (nat_lt 0 (length next.items) && nat_le (segment.sealed_at + 1) next.sealed_at) _ here.0 in
      let behind = leb-true (segment.sealed_at + 1) next.sealed_at (and_parts (nat_lt 0 (length next.items)) _ bounds.0).1 in
      let low = rest.0 in
      (omega (arith, low, behind), rest)

  -- with one more behind them at most, one is later at most
  one-behind : (moment : ℕ) (xs ys : List (Segment T)) → AreEarly moment xs → length ys ≤ 1 → HasOneNew moment (xs ++ ys)
  one-behind moment [] [] early few = tt
  one-behind moment [] (y ∷ []) early few = tt
  one-behind moment [] (y ∷ z ∷ ys) early few = absurd (omega (arith, few))
  one-behind moment (x ∷ []) [] early few = tt
  one-behind moment (x ∷ []) (y ∷ ys) early few = (early.0, one-behind moment [] (y ∷ ys) tt few)
  one-behind moment (x ∷ z ∷ xs) ys early few = (early.0, one-behind moment (z ∷ xs) ys early.1 few)

  none-new : (moment : ℕ) (segments : List (Segment T)) → AreEarly moment segments → HasOneNew moment segments
  none-new moment segments early = subst (HasOneNew moment) (append-nil segments) (one-behind moment segments [] early (omega arith))

  new-drop : (moment n : ℕ) (segments : List (Segment T)) → HasOneNew moment segments → HasOneNew moment (drop n segments)
  new-drop moment zero segments one = one
  new-drop moment (suc n) [] one = tt
  new-drop moment (suc n) (segment ∷ segments) one = new-drop moment n segments (one-tail moment segment segments one)

  one-sealed : (kind : _) (tier : Tier) (moment at : ℕ) (was now : KeptItems T) → AreEarly moment was.sealed → SealsAtMostOne kind tier at was now → HasOneNew moment now.sealed
  one-sealed kind tier moment at was now early seals =
      subst (HasOneNew moment) (sym seals.goes_on.sealed)
      (new-drop moment seals.goes_on.gone (was.sealed ++ seals.goes_on.new) (one-behind moment was.sealed seals.goes_on.new early seals.one))

-- ---- all tiers

-- each of the segments that the tiers keep was sealed at or before a moment
pub record HaveEarly (moment : ℕ) (tiers : TiersState) : Type 0 where
  pub points : AreEarly moment tiers.points.sealed
  pub records : AllByRecursion (λ (one : RecordTierState). AreEarly moment one.segments.sealed) tiers.records

-- the moments of sealing rise in each tier, up to the last moment
record Rise (tiers : TiersState) : Type 0 where
  points : are_sealed 0 tiers.last tiers.points.sealed ≡ true
  records : AllByRecursion (λ (one : RecordTierState). are_sealed 0 tiers.last one.segments.sealed ≡ true) tiers.records

records-rise : (last : ℕ) (states : List RecordTierState) → are_record_tiers last (map tier_of states) (map kept_of states) ≡ true
    → AllByRecursion (λ (one : RecordTierState). are_sealed 0 last one.segments.sealed ≡ true) states
records-rise last [] form = tt
records-rise last (state ∷ states) form =
    let parts = and_parts (is_record_tier last state.tier (kept_of state)) _ form in
    let one = and_parts (state.segments.before == 0 && are_kept state.tier last (last / state.tier.width) state.segments) _ parts.0 in
    let kept = and_parts (state.segments.before == 0) _ one.0 in
    ((is-kept state.tier last (last / state.tier.width) state.segments kept.1).sealed, records-rise last states parts.1)

rise-sound : (tiers : TiersState) → AreSound tiers → Rise tiers
rise-sound tiers sound =
    let parts = and_parts (are_kept tiers.first tiers.last (tiers.last + 1) tiers.points) _ sound.form in
    record {
      points = (is-kept tiers.first tiers.last (tiers.last + 1) tiers.points parts.0).sealed;
      records = records-rise tiers.last tiers.records parts.1;
    }

records-risen : (last : ℕ) (states : List RecordTierState) → AllByRecursion (λ (one : RecordTierState). are_sealed 0 last one.segments.sealed ≡ true) states
    → AllByRecursion (λ (one : RecordTierState). AreEarly last one.segments.sealed) states
records-risen last [] rise = tt
records-risen last (state ∷ states) rise = (sealed-below 0 last state.segments.sealed rise.0, records-risen last states rise.1)

-- up to the last moment all were sealed
pub early-sound : (tiers : TiersState) → AreSound tiers → HaveEarly tiers.last tiers
early-sound tiers sound =
    let rise = rise-sound tiers sound in
    record { points = sealed-below 0 tiers.last tiers.points.sealed rise.points; records = records-risen tiers.last tiers.records rise.records }

records-unsealed : (last moment : ℕ) (states : List RecordTierState) → AllByRecursion (λ (one : RecordTierState). are_sealed 0 last one.segments.sealed ≡ true) states
    → list_any (has_sealed_records moment) states ≡ false → AllByRecursion (λ (one : RecordTierState). AreEarly moment one.segments.sealed) states
records-unsealed last moment [] rise none = tt
records-unsealed last moment (state ∷ states) rise none =
    let parts = or_parts (has_sealed_records moment state) _ none in
    (early-all 0 last moment state.segments.sealed rise.0 parts.0, records-unsealed last moment states rise.1 parts.1)

-- where none was sealed after a moment, all were sealed by then
pub early-unsealed : (moment : ℕ) (tiers : TiersState) → AreSound tiers → has_sealed moment tiers ≡ false → HaveEarly moment tiers
early-unsealed moment tiers sound none =
    let rise = rise-sound tiers sound in
    let parts = or_parts (is_some (sealed_after moment tiers.points.sealed)) _ none in
    record {
      points = early-all 0 tiers.last moment tiers.points.sealed rise.points parts.0;
      records = records-unsealed tiers.last moment tiers.records rise.records parts.1;
    }

records-early : (moment : ℕ) (states : List RecordTierState) → AllByRecursion (λ (one : RecordTierState). AreEarly moment one.segments.sealed) states
    → list_any (has_sealed_records moment) states ≡ false
records-early moment [] early = refl
records-early moment (state ∷ states) early =
    or_from (has_sealed_records moment state) _ (ap is_some (none-after moment state.segments.sealed early.0)) (records-early moment states early.1)

-- sound tiers have sealed nothing after their last moment
pub sound-unsealed : (tiers : TiersState) → AreSound tiers → has_sealed tiers.last tiers ≡ false
sound-unsealed tiers sound =
    let early = early-sound tiers sound in
    or_from (is_some (sealed_after tiers.last tiers.points.sealed)) _ (ap is_some (none-after tiers.last tiers.points.sealed early.points)) (records-early tiers.last tiers.records early.records)

records-none-new : (moment : ℕ) (states : List RecordTierState) → AllByRecursion (λ (one : RecordTierState). AreEarly moment one.segments.sealed) states
    → AllByRecursion (λ (one : RecordTierState). HasOneNew moment one.segments.sealed) states
records-none-new moment [] early = tt
records-none-new moment (state ∷ states) early = (none-new moment state.segments.sealed early.0, records-none-new moment states early.1)

none-new-all : (moment : ℕ) (tiers : TiersState) → HaveEarly moment tiers → HaveOneNew moment tiers
none-new-all moment tiers early = record {
  points = none-new moment tiers.points.sealed early.points;
  records = records-none-new moment tiers.records early.records;
}

records-sealed : (kind : _) (moment at : ℕ) (was now : List RecordTierState) → AllByRecursion (λ (one : RecordTierState). AreEarly moment one.segments.sealed) was
    → HaveChanged (λ tier. SealsAtMostOne kind tier at) was now → AllByRecursion (λ (one : RecordTierState). HasOneNew moment one.segments.sealed) now
records-sealed kind moment at [] [] early changed = tt
records-sealed kind moment at [] (next ∷ now) early changed = absurd changed
records-sealed kind moment at (one ∷ was) [] early changed = absurd changed
records-sealed kind moment at (one ∷ was) (next ∷ now) early changed =
    (one-sealed kind one.tier moment at one.segments next.segments early.0 changed.1, records-sealed kind moment at was now early.1 changed.2)

-- one beat behind those of which all was sealed by a moment
one-beat : (moment : ℕ) (tiers : TiersState) (points : List BeatPoint) → AreSound tiers → HaveEarly moment tiers → (at : Option ℕ)
    → IsBeatAfter tiers.last (record { moment = at; points = points }) → HaveOneNew moment (after_beat at points tiers)
one-beat moment tiers points sound early None after = none-new-all moment tiers early
one-beat moment tiers points sound early (Some at) after =
    let seals = (sound-next tiers at points sound after).seals in
    let now : TiersState = after_beat (Some at) points tiers in
    record {
      points = one-sealed _ tiers.first moment at tiers.points now.points early.points seals.points;
      records = records-sealed _ moment at tiers.records now.records early.records seals.records;
    }

-- each tier has sealed one segment at most since the base, where there can be a later one
pub one-new : (base : Base) (after : List Beat) → AreSound base.tiers → HaveFollowed base after → is_numbered base.number ≡ true
    → HaveOneNew base.tiers.last (tiers_of (record { base = base; after = after }))
one-new base [] sound followed numbered = none-new-all base.tiers.last base.tiers (early-sound base.tiers sound)
one-new base (beat ∷ beats) sound followed numbered =
    let before : TiersState = tiers_of (record { base = base; after = beats }) in
    let still : AreSound before = sound-after base beats sound followed.1 in
    one-beat base.tiers.last before beat.points still (early-unsealed base.tiers.last before still (followed.0.unsealed numbered)) beat.moment
    (beat-after before.last beat followed.0.form followed.0.later)

-- the tiers after the beats go on from those of the body that the base is of
pub goes-on : (body : Body) (kept : KeptPages) (base : Base) (after : List Beat) (tiers : TiersState) → AreTiersOfBody body kept base.tiers → HaveCounted base.tiers
    → HaveFollowed base after → is_numbered base.number ≡ true → tiers ≡ tiers_of (record { base = base; after = after }) → GoOnFrom body kept base.tiers tiers
goes-on body kept base after tiers are counted followed numbered is =
    subst (GoOnFrom body kept base.tiers) (sym is) (record {
      from = are;
      counted = counted;
      sound = sound-after base after are.sound followed;
      goes_on = gone-on-all base.tiers (map seen after) are.sound (beats-after base after followed);
      new = subst (λ (moment : ℕ). HaveOneNew moment (tiers_of (record { base = base; after = after }))) are.last (one-new base after are.sound followed numbered);
    })
