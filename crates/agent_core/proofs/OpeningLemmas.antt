-- An agent that replays the beats of its store: where it begins, each step, and where it ends.
use Rattle.std.proofs.Common.{◌≡◌, ℕ, List, [], ◌∷◌, Some, None, refl, sym, ap, ◌∙◌, subst}
use Rattle.host_model.specs.declared.file.File.{File}
use Rattle.host_model.specs.Past.{Event}
use Rattle.host_model.specs.Disks.{EveryDisk}
use Rattle.history.specs.History.{Beat, last}
use Rattle.tier_settings.specs.declared.settings.Settings.{Settings}
use Rattle.checkpoint_body.specs.declared.body.Body.{Body}
use Rattle.store_core.specs.declared.beats.beat.Beat.{Beat as StoreBeat}
use Rattle.store_core.specs.Damaged.{HasForm}
use Rattle.store_core.specs.Stands.{Stands}
use Rattle.store_core.specs.Store.{base_of, HasApplied, IsReady, IsReplayed, IsStoreAt, OpensAt, Replays, StoreState}
use Rattle.store_core.specs.Stored.{stored_with, stored_with_all, Stored}
use Rattle.store_core.proofs.DamageLemmas.{one-form}
use Rattle.agent_core.specs.declared.left.Left.{Left}
use Rattle.agent_core.specs.Agent.{left_in, AgentIsReady, AgentState, HasLeft, IsAgentOf}
use Rattle.agent_core.specs.Answers.{tier_beats}
use Rattle.agent_core.specs.Kept.{onto, AreBeatsOf, IsBeatOf}
use Rattle.agent_core.specs.Stands.{HoldsHistory, IsStoredOf, StandsForHistory}
use Rattle.agent_core.specs.Sides.{IsSideOf}
use Rattle.agent_core.specs.Left.{IsLeftBy}
use Rattle.agent_core.specs.Replay.{AreNextOf, HasReplayed, IsAtPrefix, IsOpenedFor, IsReplaying}
use Rattle.agent_core.proofs.StoredLemmas.{answers, applied-at, stored_less, stored_more, were_kept}

-- ---- the beginning

-- a history, cut where its store is
record IsCut (set : Settings) (h : List Beat) (stored : Stored) (rest : List StoreBeat) : Type 0 where
  prefix : List Beat
  more : List Beat
  whole : onto prefix more ≡ h
  are : IsStoredOf set prefix stored
  next : AreNextOf prefix more rest

-- the cut one beat earlier
cut-earlier : (set : Settings) (h : List Beat) (kept : StoreBeat) (stored : Stored) (rest : List StoreBeat) (prefix more : List Beat) → onto prefix more ≡ h
    → IsStoredOf set prefix (stored_with stored kept) → AreNextOf prefix more rest → IsCut set h stored (kept ∷ rest)
cut-earlier set h kept stored rest prefix more whole are next =
    let less = stored_less set prefix stored kept are in
    record {
      prefix = less.before;
      more = less.beat ∷ more;
      whole = ap (λ (g : List Beat). onto g more) less.whole ∙ whole;
      are = less.are;
      next = (less.of, subst (λ (g : List Beat). AreNextOf g more rest) (sym less.whole) next);
    }

cut : (set : Settings) (h : List Beat) (stored : Stored) (rest : List StoreBeat) → IsStoredOf set h (stored_with_all stored rest) → IsCut set h stored rest
cut set h stored [] are = record { prefix = h; more = []; whole = refl; are = are; next = tt }
cut set h stored (kept ∷ rest) are =
    let later = cut set h (stored_with stored kept) rest are in
    cut-earlier set h kept stored rest later.prefix later.more later.whole later.are later.next

-- a store that was opened for a history stands at what it has of an earlier one, and has the side of this
pub record IsOpenedAt (past : List Event) (store : StoreState) (set : Settings) (h : List Beat) : Type 0 where
  pub earlier : List Beat
  pub beats : List StoreBeat
  pub were : AreBeatsOf earlier beats
  pub side : IsSideOf set earlier store.body.side
  pub at : IsAtPrefix past store set earlier h

-- the side of a store that stands at its checkpoint
pub side-is : (past : List Event) (store : StoreState) (stored : Stored) → OpensAt past store stored → store.body.side ≡ stored.base.side
side-is past store stored opens = ap (λ (b : Body). b.side) opens.is_at.body ∙ opens.is_at.has.base.side

pub opened-at : (past : List Event) (store : StoreState) (set : Settings) (h : List Beat) → IsOpenedFor past store set h → IsOpenedAt past store set h
opened-at past store set h opened =
    let opens = opened.opens in
    let found = cut set h (base_of opened.stored) opens.rest (subst (IsStoredOf set h) (sym opens.whole) opened.are) in
    record {
      earlier = found.are.earlier;
      beats = found.are.beats;
      were = found.are.were;
      side = subst (IsSideOf set found.are.earlier) (sym (side-is past store opened.stored opens)) found.are.side;
      at = subst (λ (g : List Beat). IsAtPrefix past store set g h) found.are.since (record {
        more = found.more;
        stored = base_of opened.stored;
        rest = opens.rest;
        whole = found.whole;
        are = found.are;
        next = found.next;
        is_at = opens.is_at;
      });
    }

-- ---- a step

-- the beat that was replayed, and what is left
pub record IsNextBeat (past : List Event) (store : StoreState) (h : List Beat) (prefix : List Beat) (stored : Stored) (kept : StoreBeat) : Type 0 where
  pub beat : Beat
  pub more : List Beat
  pub rest : List StoreBeat
  pub of : IsBeatOf prefix beat kept
  pub whole : onto (beat ∷ prefix) more ≡ h
  pub next : AreNextOf (beat ∷ prefix) more rest
  pub is_at : IsStoreAt past store (stored_with stored kept) rest

module _ (past : List Event) (store : StoreState) (h : List Beat) where
  step-of : (prefix more : List Beat) (stored : Stored) (rest : List StoreBeat) (kept : StoreBeat) → onto prefix more ≡ h → AreNextOf prefix more rest → Replays past store stored rest (Some kept)
      → IsNextBeat past store h prefix stored kept
  step-of prefix more stored [] kept whole next replays = absurd replays
  step-of prefix [] stored (first ∷ rest) kept whole next replays = absurd next
  step-of prefix (beat ∷ more) stored (first ∷ rest) kept whole next replays = record {
    beat = beat;
    more = more;
    rest = rest;
    of = subst (IsBeatOf prefix beat) (sym replays.0) next.0;
    whole = whole;
    next = next.1;
    is_at = replays.1;
  }

  none-of : (stored : Stored) (rest : List StoreBeat) → Replays past store stored rest None → IsStoreAt past store stored rest
  none-of stored [] replays = replays
  none-of stored (first ∷ rest) replays = absurd replays

module _ (past : List Event) (store store' : StoreState) (left : Left) (set : Settings) (h : List Beat) (was : IsReplaying past store left set h) where
  module _ (kept : StoreBeat) (replays : (stored : Stored) (rest : List StoreBeat) → IsStoreAt past store stored rest → Replays past store' stored rest (Some kept)) where
    -- the next beat of the history
    next-of : IsNextBeat past store' h was.prefix was.at.stored kept
    next-of = step-of past store' h was.prefix was.at.more was.at.stored was.at.rest kept was.at.whole was.at.next (replays was.at.stored was.at.rest was.at.is_at)

    pub replaying-more : (left' : Left)
        → ((g : List Beat) (beats : List StoreBeat) (beat : Beat) → AreBeatsOf g beats → IsBeatOf g beat kept → HasApplied set (tier_beats (beat ∷ g)) store' → store.tiers.last ≡ last g → IsLeftBy set g left → IsLeftBy set (beat ∷ g) left')
        → IsReplaying past store' left' set h
    replaying-more left' followed =
        let step = next-of in
        let all = were_kept set was.prefix was.at.stored was.at.are in
        let more = stored_more set was.prefix was.at.stored step.beat kept was.at.are step.of in
        let applied = applied-at past store' set (step.beat ∷ was.prefix) (stored_with was.at.stored kept) step.rest more step.is_at in
        let before : store.tiers.last ≡ last was.prefix = (answers past store set was.prefix was.at.stored was.at.rest was.at.are was.at.is_at).last_is in
        record {
          prefix = step.beat ∷ was.prefix;
          at = record { more = step.more; stored = stored_with was.at.stored kept; rest = step.rest; whole = step.whole; are = more; next = step.next; is_at = step.is_at };
          left_by = followed was.prefix all.beats step.beat all.are step.of applied before was.left_by;
        }

    -- the step is not refused for what is kept
    pub replaying-stands : {P : Type 0} → ((g : List Beat) (beats : List StoreBeat) (beat : Beat) → AreBeatsOf g beats → IsBeatOf g beat kept → IsLeftBy set g left → P) → P
    replaying-stands stands =
        let step = next-of in
        let all = were_kept set was.prefix was.at.stored was.at.are in
        stands was.prefix all.beats step.beat all.are step.of was.left_by

  pub replaying-same : ((stored : Stored) (rest : List StoreBeat) → IsStoreAt past store stored rest → Replays past store' stored rest None) → IsReplaying past store' left set h
  replaying-same replays = record {
    prefix = was.prefix;
    at = record {
      more = was.at.more;
      stored = was.at.stored;
      rest = was.at.rest;
      whole = was.at.whole;
      are = was.at.are;
      next = was.at.next;
      is_at = none-of past store' h was.at.stored was.at.rest (replays was.at.stored was.at.rest was.at.is_at);
    };
    left_by = was.left_by;
  }

-- ---- the end

no-more : (prefix more : List Beat) → AreNextOf prefix more [] → more ≡ []
no-more prefix [] next = refl
no-more prefix (beat ∷ more) next = absurd next

-- a store that has replayed all holds the history, whose beats left what is left
module _ (past : List Event) (store : StoreState) (left : Left) (set : Settings) (h : List Beat) (was : IsReplaying past store left set h) (done : IsReplayed store) where
  none : was.at.rest ≡ []
  none = sym was.at.is_at.waiting ∙ done

  all : was.prefix ≡ h
  all = sym (ap (onto was.prefix) (no-more was.prefix was.at.more (subst (AreNextOf was.prefix was.at.more) none was.at.next))) ∙ was.at.whole

  pub replayed-holds : HoldsHistory past store set h
  replayed-holds = record {
    stored = was.at.stored;
    are = subst (λ (g : List Beat). IsStoredOf set g was.at.stored) all was.at.are;
    store_of = subst (λ (rest : List StoreBeat). IsStoreAt past store was.at.stored rest) none was.at.is_at;
  }

  pub replayed-left : IsLeftBy set h left
  replayed-left = subst (λ (g : List Beat). IsLeftBy set g left) all was.left_by

-- an agent of such a store is of the history
pub replayed-is_of : (past : List Event) (agent : AgentState) (set : Settings) (h : List Beat) → HoldsHistory past agent.store set h → IsLeftBy set h (left_in agent) → agent.last ≡ agent.store.tiers.last
    → agent.count ≡ agent.store.count → agent.fault ≡ None → IsAgentOf past agent set h
replayed-is_of past agent set h holds left last_is count going =
    let said = answers past agent.store set h holds.stored [] holds.are holds.store_of in
    record {
      holds = holds;
      left_by = left;
      last_is = last_is ∙ said.last_is;
      count = count ∙ said.count;
      going = going;
    }

-- ---- an agent that was opened

-- the store of a disk that stands for a history
pub opened-for : (disk : File → List ℕ) (past : List Event) (store : StoreState) → ((stored : Stored) → Stands stored disk → OpensAt past store stored)
    → (set : Settings) (h : List Beat) → StandsForHistory set h disk → IsOpenedFor past store set h
opened-for disk past store opens set h stands = record { stored = stands.stored; are = stands.are; opens = opens stands.stored stands.stands }

-- whatever a crash leaves holds that history
pub opened-images : (disk : File → List ℕ) (past : List Event) → ((stored : Stored) → Stands stored disk → EveryDisk (Stands stored) past)
    → (set : Settings) (h : List Beat) → StandsForHistory set h disk → EveryDisk (StandsForHistory set h) past
opened-images disk past opens set h stands other images =
    record { stored = stands.stored; are = stands.are; stands = opens stands.stored stands.stands other images }

-- what a call of it requires, once all is replayed
pub opened-ready : (honest : Type 0) (past : List Event) (store : StoreState) (agent : AgentState) → HasReplayed store agent → IsReady honest past agent.store → AgentIsReady honest past agent
opened-ready honest past store agent has ready going = record {
  store = ready;
  replayed = has.replayed;
  going = has.store_going;
  same_last = has.same_last;
  up_to = has.up_to;
  charts = has.charts;
  dimensions = has.dimensions;
  limits = has.limits;
}

-- what the notes of the disk leave, which has one form at most
pub opened-left : (disk : File → List ℕ) (body other : Body) (beats others : List StoreBeat) (agent : AgentState) → HasForm body beats disk → HasForm other others disk
    → HasLeft body.side beats agent → HasLeft other.side others agent
opened-left disk body other beats others agent form also left =
    let one = one-form body other beats others disk form also in
    subst (λ (b : Body). HasLeft b.side others agent) one.0 (subst (λ (since : List StoreBeat). HasLeft body.side since agent) one.1 left)
