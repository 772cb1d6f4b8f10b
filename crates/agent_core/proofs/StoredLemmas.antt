-- What a store has stored for a history: nothing, one beat more, the next base, and what is known of the history by it.
use Rattle.std.proofs.Common.{◌≡◌, ℕ, suc, ◌+◌, Bool, true, false, cond, List, [], ◌∷◌, ◌++◌, length, map, refl, sym, ap, ◌∙◌, subst, arith}
use Rattle.host_model.specs.Past.{Event}
use Rattle.history.specs.History.{Beat, collected, copied, health, missing, last}
use Rattle.beat_tiers.specs.Beats.{TierBeat}
use Rattle.beat_tiers.specs.Beats as tiers
use Rattle.tier_settings.specs.declared.settings.Settings.{Settings}
use Rattle.tier_settings.specs.Limits.{InLimits}
use Rattle.store_core.specs.declared.beats.beat.Beat.{Beat as StoreBeat}
use Rattle.checkpoint_body.specs.declared.body.Body.{Body}
use Rattle.store_core.specs.Counts.{counted}
use Rattle.store_core.specs.Store.{HasApplied, IsStoreAt, StoreState}
use Rattle.store_core.specs.Stored.{advanced, is_numbered, new_database, next_base, stored_with, HaveFollowed, IsBaseOf, Stored}
use Rattle.store_core.specs.Tiers.{seen}
use Rattle.store_core.proofs.TierLemmas.{base_next, has_applied, new_base}
use Rattle.agent_core.specs.Answers.{tier_beats}
use Rattle.agent_core.specs.Kept.{AreBeatsOf, IsBeatOf}
use Rattle.agent_core.specs.Sides.{IsSideOf}
use Rattle.agent_core.specs.Stands.{AreSince, HoldsHistory, IsStoredOf}
use Rattle.agent_core.proofs.AnswerLemmas.{seen-beat}

-- ---- the beats of a history

-- a store has kept these beats for the history, whether it still has them or not
pub record WereKept (h : List Beat) : Type 0 where
  pub beats : List StoreBeat
  pub are : AreBeatsOf h beats

since-kept : (earlier h : List Beat) (before after : List StoreBeat) → AreBeatsOf earlier before → AreSince earlier h after → AreBeatsOf h (after ++ before)
since-kept earlier h before [] were since = subst (λ (g : List Beat). AreBeatsOf g before) (sym since) were
since-kept earlier [] before (kept ∷ after) were since = absurd since
since-kept earlier (beat ∷ h) before (kept ∷ after) were since = (since.0, since-kept earlier h before after were since.1)

pub were_kept : (set : Settings) (h : List Beat) (stored : Stored) → IsStoredOf set h stored → WereKept h
were_kept set h stored are = record { beats = stored.after ++ are.beats; are = since-kept are.earlier h are.beats stored.after are.were are.since }

-- what tiers see of the beats since, and of those before
seen-since : (earlier h : List Beat) (after : List StoreBeat) → AreSince earlier h after → map seen after ++ tier_beats earlier ≡ tier_beats h
seen-since earlier h [] since = ap tier_beats (sym since)
seen-since earlier [] (kept ∷ after) since = absurd since
seen-since earlier (beat ∷ h) (kept ∷ after) since = λ i. seen-beat h beat kept since.0 i ∷ seen-since earlier h after since.1 i

length-since : (earlier h : List Beat) (after : List StoreBeat) → AreSince earlier h after → length h ≡ length after + length earlier
length-since earlier h [] since = omega (arith, ap length since)
length-since earlier [] (kept ∷ after) since = absurd since
length-since earlier (beat ∷ h) (kept ∷ after) since = omega (arith, length-since earlier h after since.1)

-- ---- what is stored

-- nothing yet
pub stored_new : (set : Settings) (side : List ℕ) → InLimits set → IsSideOf set [] side → IsStoredOf set [] (new_database set side)
stored_new set side limits is = record { earlier = []; beats = []; were = tt; base = new_base set side limits; side = is; since = refl }

-- one beat more
pub stored_more : (set : Settings) (h : List Beat) (stored : Stored) (beat : Beat) (kept : StoreBeat) → IsStoredOf set h stored → IsBeatOf h beat kept
    → IsStoredOf set (beat ∷ h) (stored_with stored kept)
stored_more set h stored beat kept are of =
    record { earlier = are.earlier; beats = are.beats; were = are.were; base = are.base; side = are.side; since = (of, are.since) }

-- the history without the last beat that was stored
pub record IsWithBeat (set : Settings) (h : List Beat) (stored : Stored) (kept : StoreBeat) : Type 0 where
  pub beat : Beat
  pub before : List Beat
  pub whole : beat ∷ before ≡ h
  pub are : IsStoredOf set before stored
  pub of : IsBeatOf before beat kept

pub stored_less : (set : Settings) (h : List Beat) (stored : Stored) (kept : StoreBeat) → IsStoredOf set h (stored_with stored kept) → IsWithBeat set h stored kept
stored_less set [] stored kept are = absurd are.since
stored_less set (beat ∷ h) stored kept are = record {
  beat = beat;
  before = h;
  whole = refl;
  are = record { earlier = are.earlier; beats = are.beats; were = are.were; base = are.base; side = are.side; since = are.since.1 };
  of = are.since.0;
}

-- a checkpoint with the side of the history: the same history is stored
pub stored_advanced : (set : Settings) (h : List Beat) (stored : Stored) (side : List ℕ) → IsStoredOf set h stored → HaveFollowed stored.base stored.after → IsSideOf set h side
    → IsStoredOf set h (advanced stored side)
stored_advanced set h stored side are followed is = by (is_numbered stored.base.number)
  where
    by : (b : Bool) → IsStoredOf set h (cond b (record { base = next_base stored side; after = [] }) stored)
    by true = record {
      earlier = h;
      beats = stored.after ++ are.beats;
      were = since-kept are.earlier h are.beats stored.after are.were are.since;
      base =
          subst (λ (beats : List TierBeat). IsBaseOf set beats (next_base stored side)) (seen-since are.earlier h stored.after are.since)
          (base_next stored side set (tier_beats are.earlier) followed are.base);
      side = is;
      since = refl;
    }
    by false = are

-- ---- what a store of it has applied

-- what tiers see of the history
pub applied-at : (past : List Event) (store : StoreState) (set : Settings) (h : List Beat) (stored : Stored) (rest : List StoreBeat) → IsStoredOf set h stored → IsStoreAt past store stored rest
    → HasApplied set (tier_beats h) store
applied-at past store set h stored rest are is_at =
    subst (λ (beats : List TierBeat). HasApplied set beats store) (seen-since are.earlier h stored.after are.since)
    (has_applied past store stored rest set (tier_beats are.earlier) is_at are.base)

pub applied-all : (past : List Event) (store : StoreState) (set : Settings) (h : List Beat) → HoldsHistory past store set h → HasApplied set (tier_beats h) store
applied-all past store set h holds = applied-at past store set h holds.stored [] holds.are holds.store_of

pub tiers-last : (h : List Beat) → tiers.last (tier_beats h) ≡ last h
tiers-last [] = refl
tiers-last (collected moment beat ∷ h) = refl
tiers-last (copied copy ∷ h) = refl
tiers-last (health text ∷ h) = tiers-last h
tiers-last (missing gap ∷ h) = refl

tiers-length : (h : List Beat) → length (tier_beats h) ≡ length h
tiers-length [] = refl
tiers-length (beat ∷ h) = ap suc (tiers-length h)

counted-since : (base earlier after all : ℕ) → base ≡ counted earlier → all ≡ after + earlier → counted (base + after) ≡ counted all
counted-since base earlier after all same whole = omega (arith, same, whole)

-- what it answers
pub record Answers (store : StoreState) (set : Settings) (h : List Beat) : Type 0 where
  pub last_is : store.tiers.last ≡ last h
  pub count : store.count ≡ counted (length h)
  pub settings : store.body.settings ≡ set

pub answers : (past : List Event) (store : StoreState) (set : Settings) (h : List Beat) (stored : Stored) (rest : List StoreBeat) → IsStoredOf set h stored → IsStoreAt past store stored rest
    → Answers store set h
answers past store set h stored rest are is_at = record {
  last_is = (applied-at past store set h stored rest are is_at).are.last_is ∙ tiers-last h;
  count =
      is_at.count
      ∙ counted-since stored.base.count (length are.earlier) (length stored.after) (length h) (are.base.count ∙ ap counted (tiers-length are.earlier))
      (length-since are.earlier h stored.after are.since);
  settings = ap (λ (b : Body). b.settings) is_at.body ∙ is_at.has.base.settings ∙ are.base.settings;
}

pub settings-of : (past : List Event) (store : StoreState) (set : Settings) (h : List Beat) → HoldsHistory past store set h → store.body.settings ≡ set
settings-of past store set h holds = (answers past store set h holds.stored [] holds.are holds.store_of).settings
