-- The segments that tiers keep were counted exactly where the body names no more extents than it says were sealed.
use Rattle.std.proofs.Common.{◌≡◌, ℕ, ◌≤◌, List, [], ◌∷◌, length, ap, arith}
use Rattle.std.specs.List.{AllByRecursion}
use Rattle.beat_tiers.specs.State.{RecordTierState, TiersState}
use Rattle.checkpoint_body.specs.declared.body.Body.{Body}
use Rattle.checkpoint_body.specs.declared.body.RecordTier.{RecordTier}
use Rattle.checkpoint_body.specs.declared.page.RecordPage.{RecordPage}
use Rattle.store_core.specs.disk.Advancing.{NamesNone}
use Rattle.store_core.specs.disk.Contents.{KeptPages}
use Rattle.store_core.specs.bodies.Next.{AreCounted, HaveCounted}
use Rattle.store_core.specs.bodies.Segments.{first_number}
use Rattle.store_core.specs.bodies.Tiers.{AreRecordTiers, AreTiersOfBody, IsRecordTier}
use Rattle.store_core.specs.bodies.Next.{HasCounted}
use Rattle.store_core.proofs.BodyProofs.OneLemmas.{records-count, slots-count}

-- there is an extent of each segment of a tier of records
tier-extents : (last : ℕ) (body : RecordTier) (kept : List (List RecordPage)) (state : RecordTierState) → IsRecordTier last body kept state
    → length state.segments.sealed ≡ length body.extents
tier-extents last body kept state is =
    records-count (first_number state.segments.count (length state.segments.sealed)) body.extents kept state.segments.sealed is.segments

module _ (body : Body) (kept : KeptPages) (tiers : TiersState) (are : AreTiersOfBody body kept tiers) where
  point-extents : length tiers.points.sealed ≡ length body.points.extents
  point-extents = slots-count (first_number tiers.points.count (length tiers.points.sealed)) tiers.points.before body.points.extents kept.points tiers.points.sealed are.points.segments

  pub tiers-counted : HasCounted body → HaveCounted tiers
  tiers-counted has = record {
    points = omega (arith, point-extents, are.points.sealed, has.points);
    records = by tiers.records are.records;
  }
    where
      one : (last : ℕ) (of_body : RecordTier) (pages : List (List RecordPage)) (state : RecordTierState) → IsRecordTier last of_body pages state
          → length of_body.extents ≤ of_body.sealed → AreCounted state.segments
      one last of_body pages state is least = omega (arith, tier-extents last of_body pages state is, is.sealed, least)

      by : (records : List RecordTierState) → AreRecordTiers body kept records → AllByRecursion (λ (state : RecordTierState). AreCounted state.segments) records
      by [] is = absurd is
      by (minutes ∷ []) is = absurd is
      by (minutes ∷ hours ∷ []) is =
          (one body.last body.minutes kept.minutes minutes is.0 has.minutes, (one body.last body.hours kept.hours hours is.1 has.hours, tt))
      by (minutes ∷ hours ∷ other ∷ others) is = absurd is

  pub body-counted : HaveCounted tiers → HasCounted body
  body-counted have =
      let two = by tiers.records are.records have.records in
      record { points = omega (arith, point-extents, are.points.sealed, have.points); minutes = two.0; hours = two.1 }
    where
      one : (last : ℕ) (of_body : RecordTier) (pages : List (List RecordPage)) (state : RecordTierState) → IsRecordTier last of_body pages state
          → AreCounted state.segments → length of_body.extents ≤ of_body.sealed
      one last of_body pages state is least = omega (arith, tier-extents last of_body pages state is, is.sealed, least)

      by : (records : List RecordTierState) → AreRecordTiers body kept records → AllByRecursion (λ (state : RecordTierState). AreCounted state.segments) records
          → (length body.minutes.extents ≤ body.minutes.sealed) × (length body.hours.extents ≤ body.hours.sealed)
      by [] is all = absurd is
      by (minutes ∷ []) is all = absurd is
      by (minutes ∷ hours ∷ []) is all = (one body.last body.minutes kept.minutes minutes is.0 all.0, one body.last body.hours kept.hours hours is.1 all.1.0)
      by (minutes ∷ hours ∷ other ∷ others) is all = absurd is

-- a body that names no extent
pub none-counted : (body : Body) → NamesNone body → HasCounted body
none-counted body none = record {
  points = omega (arith, ap length none.points);
  minutes = omega (arith, ap length none.minutes);
  hours = omega (arith, ap length none.hours);
}
