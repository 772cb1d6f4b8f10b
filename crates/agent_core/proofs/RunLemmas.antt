-- Calls of an agent, one after the other, keep each file within its share.
use Rattle.std.proofs.Common.{◌≡◌, inl, inr, ℕ, ◌≤◌, List, ◌∷◌, Option, Some, Result, Ok, Err, IfErr, refl, sym, ap, subst, ◌∙◌, le_refl}
use Rattle.std.proofs.lemmas.Option.{none-some}
use Rattle.host_model.specs.Past.{Event, Told}
use Rattle.host_model.specs.Moments.{begins, goes_on}
use Rattle.host_model.specs.Seen.{Seen}
use Rattle.history.specs.declared.beat.OpenBeat.{OpenBeat}
use Rattle.history.specs.declared.line.Line.{Line}
use Rattle.history.specs.History.{Beat}
use Rattle.collect_block.specs.declared.feed.Feed.{Feed}
use Rattle.collect_block.specs.Feed.{CountsAt, IsFeedOf}
use Rattle.replication.specs.declared.ask.Ask.{Ask}
use Rattle.replication.specs.declared.message.Data.{Data}
use Rattle.replication.specs.declared.verdict.Verdict.{Verdict}
use Rattle.tier_settings.specs.declared.settings.Settings.{Settings}
use Rattle.beat_tiers.specs.declared.kept.Kept.{Kept}
use Rattle.store_core.specs.declared.fault.Why.{Why}
use Rattle.agent_core.specs.declared.fault.AgentFault.{AgentFault}
use Rattle.agent_core.specs.declared.fault.AgentFault.TheVariants.{Refused, Health, DiskFault, Reopen, Memory}
use Rattle.agent_core.specs.declared.reply.Reply.{Reply}
use Rattle.agent_core.specs.declared.reply.Said.{Said}
use Rattle.agent_core.specs.Agent.{AgentState, IsAgentOf, IsSoundBy}
use Rattle.agent_core.specs.Bound.{GrowsWithin, IsSound, RunsWithin}
use Rattle.agent_core.specs.Calls.{AnswersAsk, Beats, Keeps, Lines, Queries, Reads, SetsHealth, TakesData}
use Rattle.agent_core.specs.Faults.{LeavesAll, Reopens, ReopensWith}
use Rattle.agent_core.specs.Gaps.{side_share}
use Rattle.agent_core.proofs.BoundLemmas.{grows-both, grows-none, grows-still}
use Rattle.agent_core.proofs.KeptLemmas.{agent-told}
use Rattle.agent_core.proofs.Sound.{beat-sound, data-sound, health-sound, kept-sound, line-sound, query-sound, take-sound}

-- ---- no call, and one after the other
pub runs-none : (honest : Type 0) (host : Seen) (agent : AgentState) → RunsWithin honest host agent host agent
runs-none honest host agent = record {
  sound = λ true_host set is_sound. is_sound;
  bound = λ true_host set is_sound limit fits. grows-none set limit host.past agent.store;
}

pub runs-both : (honest : Type 0) (host middle new : Seen) (agent between after : AgentState) → RunsWithin honest host agent middle between → RunsWithin honest middle between new after
    → RunsWithin honest host agent new after
runs-both honest host middle new agent between after one other = record {
  sound = λ true_host set is_sound. other.sound true_host set (one.sound true_host set is_sound);
  bound = λ true_host set is_sound limit fits.
      grows-both set limit host.past middle.past new.past agent.store between.store after.store
      (one.bound true_host set is_sound limit fits) (other.bound true_host set (one.sound true_host set is_sound) limit fits);
}

is-sound : (past : List Event) (agent : AgentState) (set : Settings) (h tried : List Beat) → IsSoundBy past agent set h tried → IsSound past agent set
is-sound past agent set h tried sound = record { h = h; tried = tried; sound = sound }

-- ---- the host alone
module _ (honest : Type 0) (host host' : Seen) (agent : AgentState) where
  -- nothing happened to the disk, and nothing was told
  pub runs-still : (honest → host'.past ≡ host.past) → RunsWithin honest host agent host' agent
  runs-still quiet = record {
    sound = λ true_host set is. subst (λ (past : List Event). IsSound past agent set) (sym (quiet true_host)) is;
    bound = λ true_host set is limit fits. grows-still set limit host.past host'.past agent.store agent.store (quiet true_host) refl;
  }

  told-sound : (sent : List ℕ) (set : Settings) (h tried : List Beat) → IsSoundBy host.past agent set h tried → IsSoundBy (Told sent ∷ host.past) agent set h tried
  told-sound sent set h tried (inl is_of) = inl (agent-told sent host.past agent set h is_of)
  told-sound sent set h tried (inr was) = inr (record { cause = was.cause; spent = was.spent; count = was.count; last_is = was.last_is; id = was.id; images = was.images })

  told-grows : (sent : List ℕ) (set : Settings) (limit : ℕ) → GrowsWithin set limit host.past agent.store (Told sent ∷ host.past) agent.store
  told-grows sent set limit = record { number = le_refl agent.store.files.number; reached = λ was. was; moments = λ numbered within. goes_on (Told sent) host.past (begins within) within }

  -- something was told
  pub runs-told : (sent : List ℕ) → (honest → host'.past ≡ Told sent ∷ host.past) → RunsWithin honest host agent host' agent
  runs-told sent told = record {
    sound = λ true_host set is. subst (λ (past : List Event). IsSound past agent set) (sym (told true_host)) (is-sound (Told sent ∷ host.past) agent set is.h is.tried (told-sound sent set is.h is.tried is.sound));
    bound = λ true_host set is limit fits. subst (λ (past : List Event). GrowsWithin set limit host.past agent.store past agent.store) (sym (told true_host)) (told-grows sent set limit);
  }

-- ---- one call
-- a call of an agent that is spent changes nothing
spent-leaves : {T : Type 0} (P : Type 0) (before : Option Why) (result : Result T AgentFault) (cause : Why) → before ≡ Some cause → Reopens before result → IfErr result (λ fault. LeavesAll fault → P) → P
spent-leaves P before (Ok value) cause spent reopens unchanged = absurd (none-some cause (sym reopens ∙ spent))
spent-leaves P before (Err fault) cause spent reopens unchanged = unchanged (leaves fault reopens)
  where
    leaves : (fault : AgentFault) → ReopensWith before fault → LeavesAll fault
    leaves (Refused why) reopens = tt
    leaves (Health why) reopens = tt
    leaves DiskFault reopens = absurd (none-some cause (sym reopens ∙ spent))
    leaves (Reopen earlier) reopens = tt
    leaves Memory reopens = absurd (none-some cause (sym reopens ∙ spent))

module _ (honest : Type 0) (host host' : Seen) (agent agent' : AgentState) where
  call-runs : (honest → (set : Settings) → IsSound host.past agent set → IsSound host'.past agent' set)
      → (honest → (set : Settings) (h : List Beat) → IsAgentOf host.past agent set h → (limit : ℕ) → side_share set ≤ limit → GrowsWithin set limit host.past agent.store host'.past agent'.store)
      → ((cause : Why) → agent.fault ≡ Some cause → (agent' ≡ agent) × (host' ≡ host)) → RunsWithin honest host agent host' agent'
  call-runs sound bound spent = record {
    sound = sound;
    bound = λ true_host set is_sound limit fits. by true_host set limit fits is_sound.h is_sound.tried is_sound.sound;
  }
    where
      by : honest → (set : Settings) (limit : ℕ) → side_share set ≤ limit → (h tried : List Beat) → IsSoundBy host.past agent set h tried → GrowsWithin set limit host.past agent.store host'.past agent'.store
      by true_host set limit fits h tried (inl is_of) = bound true_host set h is_of limit fits
      by true_host set limit fits h tried (inr was) =
          let same = spent was.cause was.spent in
          grows-still set limit host.past host'.past agent.store agent'.store (ap (λ (s : Seen). s.past) same.1) (ap (λ (a : AgentState). a.store) same.0)

  pub beat-runs : (beat : OpenBeat) (moment : ℕ) (result : Result Reply AgentFault) → Beats honest host agent beat moment result host' agent' → RunsWithin honest host agent host' agent'
  beat-runs beat moment result did =
      call-runs
      (λ true_host set is. is-sound _ _ set _ _ (beat-sound honest host agent beat moment host' agent' set is.h is.tried true_host result did is.sound))
      did.bound
      (λ cause spent. spent-leaves _ agent.fault result cause spent did.reopens did.unchanged)

  pub health-runs : (text : List ℕ) (result : Result Reply AgentFault) → SetsHealth honest host agent text result host' agent' → RunsWithin honest host agent host' agent'
  health-runs text result did =
      call-runs
      (λ true_host set is. is-sound _ _ set _ _ (health-sound honest host agent text host' agent' set is.h is.tried true_host result did is.sound))
      did.bound
      (λ cause spent. spent-leaves _ agent.fault result cause spent did.reopens did.unchanged)

  pub line-runs : (feed feed' : Feed) (line : Line) (result : Result Said AgentFault) (every : ℕ) (past : List Line) → IsFeedOf feed every past → CountsAt line feed agent.registry
      → Lines honest host agent feed line result host' agent' feed' → RunsWithin honest host agent host' agent'
  line-runs feed feed' line result every past is_feed at did =
      call-runs
      (λ true_host set is. is-sound _ _ set _ _ (line-sound honest host agent feed line host' agent' feed' set is.h is.tried every past true_host is_feed at result did is.sound))
      did.bound
      (λ cause spent. spent-leaves _ agent.fault result cause spent did.reopens did.unchanged)

  pub take-runs : (message : Data) (result : Result (Verdict × Reply) AgentFault) → TakesData honest host agent message result host' agent' → RunsWithin honest host agent host' agent'
  take-runs message result did =
      call-runs
      (λ true_host set is. is-sound _ _ set _ _ (take-sound honest host agent message host' agent' set is.h is.tried true_host result did is.sound))
      did.bound
      (λ cause spent. spent-leaves _ agent.fault result cause spent did.reopens did.unchanged)

  -- a call that reads leaves the files alone
  read-runs : {T : Type 0} (result : Result T AgentFault) → Reads honest host agent result host' agent' → (honest → (set : Settings) → IsSound host.past agent set → IsSound host'.past agent' set) → RunsWithin honest host agent host' agent'
  read-runs result did sound = record {
    sound = sound;
    bound = λ true_host set is limit fits. grows-still set limit host.past host'.past agent.store agent'.store (did.quiet true_host) did.store;
  }

  pub query-runs : (text : List ℕ) (result : Result (List ℕ) AgentFault) → Queries honest host agent text result host' agent' → RunsWithin honest host agent host' agent'
  query-runs text result did =
      read-runs result did.reads (λ true_host set is. is-sound _ _ set _ _ (query-sound honest host host' agent agent' text result set is.h is.tried true_host did is.sound))

  pub kept-runs : (result : Result Kept AgentFault) → Keeps honest host agent result host' agent' → RunsWithin honest host agent host' agent'
  kept-runs result did =
      read-runs result did.reads (λ true_host set is. is-sound _ _ set _ _ (kept-sound honest host host' agent agent' result set is.h is.tried true_host did is.sound))

  pub data-runs : (ask : Ask) (result : Result (Option Data) AgentFault) → AnswersAsk honest host agent ask result host' agent' → RunsWithin honest host agent host' agent'
  data-runs ask result did =
      read-runs result did.reads (λ true_host set is. is-sound _ _ set _ _ (data-sound honest host host' agent agent' ask result set is.h is.tried true_host did is.sound))
