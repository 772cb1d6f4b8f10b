-- What is kept goes on from what was, by one beat after the other.
use Rattle.std.proofs.Common.{◌≡◌, ℕ, zero, suc, ◌+◌, ◌-◌, ◌^◌, ◌<◌, ◌≤◌, min, List, [], ◌∷◌, ◌++◌, drop, length, take, Option, Some, None, arith, refl, sym, ap, ◌∙◌, append_assoc, append-nil}
use Rattle.std.proofs.lemmas.Bool.{ltb-true}
use Rattle.std.proofs.lemmas.List.{length-append, length-drop}
use Rattle.list_lemmas.proofs.Every.{all-append, all-weaker}
use Rattle.tier_settings.specs.declared.tier.Tier.{Tier}
use Rattle.beat_tiers.specs.declared.item.BeatPoint.{BeatPoint}
use Rattle.beat_tiers.specs.declared.parts.KeptItems.{KeptItems}
use Rattle.beat_tiers.specs.declared.parts.Segment.{Segment}
use Rattle.beat_tiers.specs.declared.segments.ItemKind.{ItemKind}
use Rattle.beat_tiers.specs.declared.segments.ItemKind.TheVariants.{Points, Records}
use Rattle.beat_tiers.specs.Beats.{TierBeat}
use Rattle.beat_tiers.specs.Segments.{beats_of}
use Rattle.beat_tiers.specs.Sound.{after_beats, passed, AreBeatsAfter, AreSound, GoesOn, HaveChanged, HaveGoneOn, IsBeatAfter, IsSealedAfter, IsSealedBy, SealsAtMostOne}
use Rattle.beat_tiers.specs.State.{RecordTierState, TiersState, after_beat}
use Rattle.beat_tiers.proofs.GivenLemmas.{beat_of}
use Rattle.beat_tiers.proofs.SoundLemmas.{sound-more, sound-next}

-- ---- lists

drop-behind : {A : Type 0} (n m k : ℕ) (xs ys : List A) → n ≤ length xs → k ≡ n + m → drop m (drop n xs ++ ys) ≡ drop k (xs ++ ys)
drop-behind zero m k xs ys le sum = ap (λ i. drop i (xs ++ ys)) (omega (arith, sum))
drop-behind (suc n) m k [] ys le sum = absurd (omega (arith, le))
drop-behind (suc n) m zero (x ∷ xs) ys le sum = absurd (omega (arith, sum))
drop-behind (suc n) m (suc k) (x ∷ xs) ys le sum = drop-behind n m k xs ys (omega (arith, le)) (omega (arith, sum))

take-behind : {A : Type 0} (n m k : ℕ) (xs ys : List A) → n ≤ length xs → k ≡ n + m → take n xs ++ take m (drop n xs ++ ys) ≡ take k (xs ++ ys)
take-behind zero m k xs ys le sum = ap (λ i. take i (xs ++ ys)) (omega (arith, sum))
take-behind (suc n) m k [] ys le sum = absurd (omega (arith, le))
take-behind (suc n) m zero (x ∷ xs) ys le sum = absurd (omega (arith, sum))
take-behind {A} (suc n) m (suc k) (x ∷ xs) ys le sum = ap (λ (rest : List A). x ∷ rest) (take-behind n m k xs ys (omega (arith, le)) (omega (arith, sum)))

-- ---- what is kept of one tier

module _ {T : Type 0} (kind : ItemKind) where
  passed-append : (before : ℕ) (xs ys : List (Segment T)) → passed kind before (xs ++ ys) ≡ passed kind (passed kind before xs) ys
  passed-append before [] ys = refl
  passed-append before (x ∷ xs) ys = passed-append (min (before + beats_of kind x.items) (2 ^ 64 - 1)) xs ys

  goes-nowhere : (IsNew : Segment T → Type 0) (kept : KeptItems T) → GoesOn kind IsNew kept kept
  goes-nowhere IsNew kept = record {
    new = [];
    gone = 0;
    each = tt;
    within = omega arith;
    sealed = sym (append-nil kept.sealed);
    before = refl;
    count = λ short. omega arith;
  }

  module _ (P Q R : Segment T → Type 0) (was mid now : KeptItems T) (one : GoesOn kind P was mid) (next : GoesOn kind Q mid now) where
    abbrev all : List (Segment T)
    all = was.sealed ++ one.new

    size : length all ≡ length was.sealed + length one.new
    size = length-append was.sealed one.new

    left : length mid.sealed ≡ length all - one.gone
    left = ap length one.sealed ∙ length-drop one.gone all

    both : length (one.new ++ next.new) ≡ length one.new + length next.new
    both = length-append one.new next.new

    whole : all ++ next.new ≡ was.sealed ++ (one.new ++ next.new)
    whole = append_assoc was.sealed one.new next.new

    behind : mid.sealed ++ next.new ≡ drop one.gone all ++ next.new
    behind = ap (λ (sealed : List (Segment T)). sealed ++ next.new) one.sealed

    goes-then : ((segment : Segment T) → P segment → R segment) → ((segment : Segment T) → Q segment → R segment) → GoesOn kind R was now
    goes-then first second = record {
      new = one.new ++ next.new;
      gone = one.gone + next.gone;
      each = all-append R one.new next.new (all-weaker P R first one.new one.each) (all-weaker Q R second next.new next.each);
      within = omega (arith, size, left, both, one.within, next.within);
      sealed = next.sealed ∙ ap (drop next.gone) behind
          ∙ drop-behind one.gone next.gone (one.gone + next.gone) all next.new (omega (arith, size, one.within)) refl
          ∙ ap (drop (one.gone + next.gone)) whole;
      before = next.before
          ∙ ap (λ before. passed kind before (take next.gone (mid.sealed ++ next.new))) one.before
          ∙ ap (λ (segments : List (Segment T)). passed kind (passed kind was.before (take one.gone all)) (take next.gone segments)) behind
          ∙ sym (passed-append was.before (take one.gone all) (take next.gone (drop one.gone all ++ next.new)))
          ∙ ap (passed kind was.before) (take-behind one.gone next.gone (one.gone + next.gone) all next.new (omega (arith, size, one.within)) refl)
          ∙ ap (λ (segments : List (Segment T)). passed kind was.before (take (one.gone + next.gone) segments)) whole;
      count = λ short.
          let first = one.count short in
          let second = next.count (omega (arith, first)) in
          omega (arith, first, second, both);
    }

-- ---- all tiers

tiers-stay : (last : ℕ) (states : List RecordTierState) → HaveChanged (λ tier. GoesOn Records (IsSealedAfter tier last)) states states
tiers-stay last [] = tt
tiers-stay last (state ∷ states) = (refl, goes-nowhere Records (IsSealedAfter state.tier last) state.segments, tiers-stay last states)

kept-then : {T : Type 0} (kind : ItemKind) (tier next : Tier) (last moment : ℕ) (was mid now : KeptItems T) → next ≡ tier → last < moment → GoesOn kind (IsSealedAfter tier last) was mid
    → SealsAtMostOne kind next moment mid now → GoesOn kind (IsSealedAfter tier last) was now
kept-then {T} kind tier next last moment was mid now same lt one seals =
    goes-then kind (IsSealedAfter tier last) (IsSealedBy next moment) (IsSealedAfter tier last) was mid now one seals.goes_on (λ segment is. is)
    (λ segment is. let items = ap (λ (t : Tier). t.items) same in (omega (arith, lt, is.0), omega (arith, is.1, items)))

tiers-then : (last moment : ℕ) (was mid now : List RecordTierState) → last < moment → HaveChanged (λ tier. GoesOn Records (IsSealedAfter tier last)) was mid
    → HaveChanged (λ tier. SealsAtMostOne Records tier moment) mid now → HaveChanged (λ tier. GoesOn Records (IsSealedAfter tier last)) was now
tiers-then last moment [] [] [] lt one seals = tt
tiers-then last moment [] [] (next ∷ now) lt one seals = absurd seals
tiers-then last moment [] (state ∷ mid) now lt one seals = absurd one
tiers-then last moment (first ∷ was) [] now lt one seals = absurd one
tiers-then last moment (first ∷ was) (state ∷ mid) [] lt one seals = absurd seals
tiers-then last moment (first ∷ was) (state ∷ mid) (next ∷ now) lt one seals = (
  seals.0 ∙ one.0,
  kept-then Records first.tier state.tier last moment first.segments state.segments next.segments one.0 lt one.1 seals.1,
  tiers-then last moment was mid now lt one.2 seals.2,
)

gone-on-more : (state mid : TiersState) (moment : Option ℕ) (points : List BeatPoint) → AreSound mid → HaveGoneOn state mid → IsBeatAfter mid.last (beat_of moment points)
    → HaveGoneOn state (after_beat moment points mid)
gone-on-more state mid None points sound gone after = gone
gone-on-more state mid (Some moment) points sound gone after =
    let later : mid.last < moment = ltb-true mid.last moment after.later in
    let seals = (sound-next mid moment points sound after).seals in
    let now : TiersState = after_beat (Some moment) points mid in
    record {
      last = omega (arith, later, gone.last);
      first = gone.first;
      points = kept-then Points state.first mid.first state.last moment state.points mid.points now.points gone.first (omega (arith, later, gone.last)) gone.points seals.points;
      records = tiers-then state.last moment state.records mid.records now.records (omega (arith, later, gone.last)) gone.records seals.records;
    }

pub sound-all : (state : TiersState) (beats : List TierBeat) → AreSound state → AreBeatsAfter state beats → AreSound (after_beats state beats)
sound-all state [] sound after = sound
sound-all state (beat ∷ beats) sound after = sound-more (after_beats state beats) beat.moment beat.points (sound-all state beats sound after.1) after.0

pub gone-on-all : (state : TiersState) (beats : List TierBeat) → AreSound state → AreBeatsAfter state beats → HaveGoneOn state (after_beats state beats)
gone-on-all state [] sound after = record {
  last = omega arith;
  first = refl;
  points = goes-nowhere Points (IsSealedAfter state.first state.last) state.points;
  records = tiers-stay state.last state.records;
}
gone-on-all state (beat ∷ beats) sound after =
    gone-on-more state (after_beats state beats) beat.moment beat.points (sound-all state beats sound after.1) (gone-on-all state beats sound after.1) after.0
