-- The tiers that a database has, and the next body that is made of them.
use Rattle.std.proofs.Common.{◌≡◌, ℕ, List, [], ◌∷◌, length, get_or, map, arith, sym, ap, refl, ◌∙◌, subst}
use Rattle.beat_tiers.specs.Room.{records_held, tiers_held, RecordTierHeld, TiersHeld}
use Rattle.checkpoint_body.specs.declared.body.Body.{Body}
use Rattle.store_core.specs.declared.disk.sealed.Sealed.{Sealed}
use Rattle.store_core.specs.bodies.Next.{AreNextTiers, IsNextBody, IsNextPointTier, IsNextRecordTier}
use Rattle.store_core.proofs.BodyProofs.NextLemmas.{AreReadyTiers, IsReadyTier}

module _ (body : Body) where
  pub two-long : (records : List RecordTierHeld) → AreReadyTiers body (map records_held records) → length records ≡ 2
  two-long [] are = absurd are
  two-long (minutes ∷ []) are = absurd are
  two-long (minutes ∷ hours ∷ []) are = refl
  two-long (minutes ∷ hours ∷ other ∷ others) are = absurd are

pub two-are : (records : List RecordTierHeld) (minutes hours : RecordTierHeld) → length records ≡ 2 → minutes ≡ get_or records 0 minutes → hours ≡ get_or records 1 hours
    → records ≡ minutes ∷ hours ∷ []
two-are [] minutes hours two first second = absurd (omega (arith, two))
two-are (one ∷ []) minutes hours two first second = absurd (omega (arith, two))
two-are (one ∷ other ∷ []) minutes hours two first second =
    ap (λ (state : RecordTierHeld). state ∷ other ∷ []) (sym first) ∙ ap (λ (state : RecordTierHeld). minutes ∷ state ∷ []) (sym second)
two-are (one ∷ other ∷ third ∷ others) minutes hours two first second = absurd (omega (arith, two))

module _ (body : Body) (held : TiersHeld) (minutes hours : RecordTierHeld) (both : held.records ≡ minutes ∷ hours ∷ []) where
  pub both-ready : AreReadyTiers body (map records_held held.records) → IsReadyTier body body.minutes.extents (records_held minutes) × IsReadyTier body body.hours.extents (records_held hours)
  both-ready ready = subst (λ (records : List RecordTierHeld). AreReadyTiers body (map records_held records)) both ready

  -- the next body, by its parts
  pub next-of : (count : ℕ) (side : List ℕ) (next : Body) (new : Sealed) → next.settings ≡ body.settings → next.count ≡ count → next.last ≡ held.last → next.side ≡ side
      → IsNextPointTier body.last body.points held.points.kept next.points new.points
      → IsNextRecordTier 1 body.last held.last body.minutes (records_held minutes) next.minutes new.minutes
      → IsNextRecordTier 2 body.last held.last body.hours (records_held hours) next.hours new.hours → IsNextBody body (tiers_held held) count side next new
  next-of count side next new settings_is count_is last_is side_is points_are minutes_are hours_are = record {
    settings = settings_is;
    count = count_is;
    last = last_is;
    side = side_is;
    points = points_are;
    records = subst (λ (records : List RecordTierHeld). AreNextTiers body held.last (map records_held records) next new) (sym both) (minutes_are, hours_are);
  }
