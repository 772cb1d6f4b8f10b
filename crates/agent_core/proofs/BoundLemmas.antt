-- The files of a database stay within their shares, call after call.
use Rattle.std.proofs.Common.{◌≡◌, inl, inr, ℕ, ◌≤◌, Bool, ◌&&◌, true, false, cond, nat_lt, List, [], length, sym, ap, ◌∙◌, subst, arith, le_refl}
use Rattle.std.proofs.lemmas.Bool.{lt-ltb, ltb-true}
use Rattle.host_model.specs.Disks.{EveryDisk}
use Rattle.host_model.specs.Past.{Event}
use Rattle.host_model.specs.Moments.{begins, Throughout}
use Rattle.host_model.proofs.MomentLemmas.{at_end, joined}
use Rattle.history.specs.History.{Beat}
use Rattle.alarm_core.specs.Course.{held, Held}
use Rattle.alarm_core.specs.Kept.{kept}
use Rattle.side_codec.specs.Size.{KeepLimits, side_limit}
use Rattle.side_codec.specs.declared.gap.GapSpan.{GapSpan}
use Rattle.tier_settings.specs.declared.settings.Settings.{Settings}
use Rattle.store_core.specs.declared.beats.beat.Beat.{Beat as StoreBeat}
use Rattle.store_core.specs.disk.Shares.{share, IsWithin}
use Rattle.store_core.specs.Stands.{StandsAround, StandsEither}
use Rattle.store_core.specs.Store.{can_advance, IsStoreOf, StoreState}
use Rattle.store_core.specs.Stored.{advanced, is_numbered, next_base, stored_with, Stored}
use Rattle.store_core.proofs.AdvanceLemmas.{same-number}
use Rattle.store_core.proofs.StandLemmas.{images-at}
use Rattle.agent_core.specs.Answers.{floor_of_history, tier_beats}
use Rattle.agent_core.specs.Gaps.{side_share, gaps_above}
use Rattle.agent_core.specs.declared.left.Left.{Left}
use Rattle.agent_core.specs.Bound.{GrowsWithin, HasReached}
use Rattle.agent_core.specs.Left.{IsLeftBy}
use Rattle.agent_core.specs.Stands.{HoldsHistory}
use Rattle.agent_core.proofs.AlarmTexts.{texts-of}
use Rattle.agent_core.proofs.GapCounts.{few-gaps}
use Rattle.agent_core.proofs.GapLemmas.{first-tier, gaps-written}
use Rattle.agent_core.proofs.StoredLemmas.{applied-all, settings-of, were_kept}

pub below-most : (low high most : ℕ) → low ≤ high → nat_lt high most ≡ true → nat_lt low most ≡ true
below-most low high most less numbered = let under = ltb-true high most numbered in lt-ltb low most (omega (arith, less, under))

-- ---- one call after the other
module _ (set : Settings) (limit : ℕ) where
  pub grows-none : (past : List Event) (store : StoreState) → GrowsWithin set limit past store past store
  grows-none past store = record { number = le_refl store.files.number; reached = λ was. was; moments = λ numbered within. begins within }

  pub grows-still : (past past' : List Event) (store store' : StoreState) → past' ≡ past → store' ≡ store → GrowsWithin set limit past store past' store'
  grows-still past past' store store' past_is store_is =
      subst (λ (p : List Event). GrowsWithin set limit past store p store') (sym past_is)
      (subst (λ (s : StoreState). GrowsWithin set limit past store past s) (sym store_is) (grows-none past store))

  pub grows-both : (past middle new : List Event) (store between after : StoreState) → GrowsWithin set limit past store middle between → GrowsWithin set limit middle between new after → GrowsWithin set limit past store new after
  grows-both past middle new store between after first second = record {
    number = let low = first.number in let high = second.number in omega (arith, low, high);
    reached = λ was. second.reached (first.reached was);
    moments = λ numbered within.
        let begun = first.moments (below-most between.files.number after.files.number _ second.number numbered) within in
        joined begun (second.moments numbered (at_end begun));
  }

-- ---- the calls of a store
climbs-next : (stored : Stored) (side : List ℕ) → stored.base.number ≤ (advanced stored side).base.number
climbs-next stored side = by (is_numbered stored.base.number)
  where
    moved : Stored
    moved = record { base = next_base stored side; after = [] }

    by : (b : Bool) → stored.base.number ≤ (cond b moved stored).base.number
    by true = omega arith
    by false = le_refl stored.base.number

-- ---- the checkpoint that a disk has
pub store-reached : (past : List Event) (store : StoreState) (stored : Stored) → IsStoreOf past store stored → EveryDisk (HasReached store.files.number) past
store-reached past store stored is disk images =
    let number = same-number past store stored is in
    record { stored = stored; stands = images-at past store stored [] is disk images; reached = omega (arith, number) }

module _ (past past' : List Event) (store store' : StoreState) (set : Settings) (h : List Beat) (holds : HoldsHistory past store set h) where
  -- a store that is refused keeps its number
  pub around-reached : (kept : StoreBeat) → store'.files.number ≡ store.files.number → Throughout (EveryDisk (StandsAround holds.stored kept)) past past' → EveryDisk (HasReached store'.files.number) past'
  around-reached kept same moments disk images = by (at_end moments disk images)
    where
      was : store.files.number ≡ holds.stored.base.number
      was = same-number past store holds.stored holds.store_of

      by : StandsAround holds.stored kept disk → HasReached store'.files.number disk
      by (inl stands) = record { stored = holds.stored; stands = stands; reached = omega (arith, same, was) }
      by (inr stands) = record { stored = stored_with holds.stored kept; stands = stands; reached = omega (arith, same, was) }

  pub either-reached : (side : List ℕ) → store'.files.number ≡ store.files.number → Throughout (EveryDisk (StandsEither holds.stored (advanced holds.stored side))) past past' → EveryDisk (HasReached store'.files.number) past'
  either-reached side same moments disk images = by (at_end moments disk images)
    where
      was : store.files.number ≡ holds.stored.base.number
      was = same-number past store holds.stored holds.store_of

      climbs : holds.stored.base.number ≤ (advanced holds.stored side).base.number
      climbs = climbs-next holds.stored side

      by : StandsEither holds.stored (advanced holds.stored side) disk → HasReached store'.files.number disk
      by (inl stands) = record { stored = holds.stored; stands = stands; reached = omega (arith, same, was) }
      by (inr stands) = record { stored = advanced holds.stored side; stands = stands; reached = omega (arith, same, was, climbs) }

  pub stored-number : (kept : StoreBeat) → IsStoreOf past' store' (stored_with holds.stored kept) → store'.files.number ≡ store.files.number
  stored-number kept is = same-number past' store' (stored_with holds.stored kept) is ∙ sym (same-number past store holds.stored holds.store_of)

  pub advanced-number : (side : List ℕ) → IsStoreOf past' store' (advanced holds.stored side) → store.files.number ≤ store'.files.number
  advanced-number side is =
      let was = same-number past store holds.stored holds.store_of in
      let now = same-number past' store' (advanced holds.stored side) is in
      let climbs = climbs-next holds.stored side in
      omega (arith, was, now, climbs)

  module _ {honest : Type 0} (true_host : honest) (limit : ℕ) where
    -- a beat was added, or was refused
    pub commit-grows : store'.files.number ≡ store.files.number → EveryDisk (HasReached store'.files.number) past'
        → ((side : ℕ) → can_advance store ≡ true → honest → IsWithin (share store.body.settings side) past → Throughout (IsWithin (share store.body.settings side)) past past')
        → GrowsWithin set limit past store past' store'
    commit-grows same reached bound = record {
      number = omega (arith, same);
      reached = λ _. reached;
      moments = λ numbered.
          subst (λ (s : Settings). IsWithin (share s limit) past → Throughout (IsWithin (share s limit)) past past') (settings-of past store set h holds)
          (bound limit (ap (λ (whole : Bool). whole && is_numbered store.files.number) holds.store_of.whole ∙ ap is_numbered (sym same) ∙ numbered) true_host);
    }

    -- a checkpoint was made, or was refused
    pub checkpoint-grows : (side : List ℕ) → length side ≤ limit → store.files.number ≤ store'.files.number → EveryDisk (HasReached store'.files.number) past'
        → ((most : ℕ) → length side ≤ most → honest → IsWithin (share store.body.settings most) past → Throughout (IsWithin (share store.body.settings most)) past past')
        → GrowsWithin set limit past store past' store'
    checkpoint-grows side short climbs reached bound = record {
      number = climbs;
      reached = λ _. reached;
      moments = λ numbered.
          subst (λ (s : Settings). IsWithin (share s limit) past → Throughout (IsWithin (share s limit)) past past') (settings-of past store set h holds) (bound limit short true_host);
    }

-- the texts of what a history left
pub left-texts : (past : List Event) (store : StoreState) (set : Settings) (h : List Beat) → HoldsHistory past store set h → (left : Left) → IsLeftBy set h left → KeepLimits (kept (held left.alarms))
left-texts past store set h holds left is =
    let all = were_kept set h holds.stored holds.are in
    subst (λ (one : Held). KeepLimits (kept one)) (sym is.alarms_are) (texts-of set h all.beats all.are)

-- ---- the side
-- what is written of what beats left has at most so many gaps
pub side-fits : (past : List Event) (store : StoreState) (set : Settings) (h : List Beat) → HoldsHistory past store set h → (left : Left) → IsLeftBy set h left → (floor : ℕ) → floor ≡ floor_of_history set h 0
    → (size limit : ℕ) → size ≤ side_limit (length (gaps_above floor left.gaps)) → side_share set ≤ limit → size ≤ limit
side-fits past store set h holds left by floor floor_is size limit short fits =
    let all = were_kept set h holds.stored holds.are in
    let written = ap (λ (gaps : List GapSpan). length gaps) (gaps-written set h left.gaps floor floor_is by.gaps_are) in
    let few = few-gaps set h all.beats all.are (first-tier set (tier_beats h) store (applied-all past store set h holds)) in
    omega (arith, short, written, few, fits)
