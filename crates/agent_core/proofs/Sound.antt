-- Each call keeps an agent sound by a history: it is of it, or was before it was spent.
use Rattle.std.proofs.Common.{◌≡◌, ℕ, inl, inr, List, [], ◌∷◌, Option, Some, None, Result, Ok, Err, refl, sym, ap, ◌∙◌, subst}
use Rattle.std.proofs.lemmas.Option.{none-some}
use Rattle.host_model.specs.declared.file.File.{File}
use Rattle.host_model.specs.Disks.{EveryDisk}
use Rattle.host_model.proofs.MomentLemmas.{at_end}
use Rattle.history.specs.declared.beat.OpenBeat.{OpenBeat}
use Rattle.history.specs.declared.fault.BlockFault.{BlockFault}
use Rattle.history.specs.declared.line.Line.{Line}
use Rattle.history.specs.declared.line.Line.TheVariants.{Moment}
use Rattle.history.specs.History.{Beat, collected, health}
use Rattle.history.specs.Looking.{beat as open_beat}
use Rattle.collect_block.specs.declared.feed.Feed.{Feed}
use Rattle.collect_block.specs.Feed.{CountsAt, IsFeedOf}
use Rattle.replication.specs.declared.ask.Ask.{Ask}
use Rattle.replication.specs.declared.message.Data.{Data}
use Rattle.replication.specs.declared.verdict.Verdict.{Verdict}
use Rattle.tier_settings.specs.declared.settings.Settings.{Settings}
use Rattle.store_core.specs.declared.fault.Why.{Why}
use Rattle.store_core.specs.declared.fault.Why.TheVariants as why
use Rattle.beat_tiers.specs.declared.kept.Kept.{Kept}
use Rattle.agent_core.specs.declared.fault.AgentFault.{AgentFault}
use Rattle.agent_core.specs.declared.fault.AgentFault.TheVariants.{Refused, Health, DiskFault, Reopen, Memory}
use Rattle.agent_core.specs.declared.reply.Reply.{Reply}
use Rattle.agent_core.specs.declared.reply.Said.{Said}
use Rattle.agent_core.specs.Agent.{id_of, AgentState, IsAgentOf, IsSoundBy, IsSpentAfter}
use Rattle.agent_core.specs.Calls.{AnswersAsk, Beats, Keeps, Lines, Queries, Reads, SetsHealth, TakesData}
use Rattle.agent_core.specs.Copying.{added_to}
use Rattle.host_model.specs.Seen.{Seen}
use Rattle.agent_core.specs.Faults.{cause_of, fault_after, LeavesAll, ReopensWith}
use Rattle.agent_core.specs.Kept.{onto}
use Rattle.agent_core.specs.Stands.{StandsForPrefix, StandsForHealth, StandsForHistory, StandsForOneOf}
use Rattle.agent_core.specs.Roles.{copies}
use Rattle.agent_core.specs.Rules.{beat_refusal, history_with, line_refusal}
use Rattle.agent_core.specs.Sound.{closed_by, history_after, history_by, tried_after, tried_with}
use Rattle.agent_core.proofs.CopyCalls.{adds-are}
use Rattle.agent_core.proofs.KeptLemmas.{stays}
use Rattle.agent_core.proofs.StoredLemmas.{settings-of}

never : (agent : AgentState) (cause : Why) → agent.fault ≡ Some cause → agent.fault ≡ None → ⊥
never agent cause now none = none-some cause (sym none ∙ now)

-- ---- a call that was refused
-- a disk with the history, and one with a beat more
none-first : (set : Settings) (h more : List Beat) (disk : File → List ℕ) → StandsForHistory set h disk → StandsForPrefix set h more disk
none-first set h more disk stands = (0, stands)

one-first : (set : Settings) (h : List Beat) (beat : Beat) (disk : File → List ℕ) → StandsForHistory set (beat ∷ h) disk → StandsForPrefix set h (beat ∷ []) disk
one-first set h beat disk stands = (1, stands)

abbrev unstored : AgentFault → Result Reply AgentFault
unstored fault = Err fault

abbrev unsaid : AgentFault → Result Said AgentFault
unsaid fault = Err fault

-- a call was refused with this fault
record Failed (host : Seen) (agent : AgentState) (fault : AgentFault) (host' : Seen) (agent' : AgentState) : Type 0 where
  pub unchanged : LeavesAll fault → (agent' ≡ agent) × (host' ≡ host)
  pub spends : agent.fault ≡ None → agent'.fault ≡ cause_of fault
  pub reopens : ReopensWith agent.fault fault
  pub count : agent'.count ≡ agent.count
  pub last : agent'.last ≡ agent.last
  pub id : id_of agent' ≡ id_of agent

module _ (host : Seen) (agent : AgentState) (host' : Seen) (agent' : AgentState) (set : Settings) (h beats tried : List Beat) where
  abbrev Did : AgentFault → Type 0
  Did fault = Failed host agent fault host' agent'

  -- a call that changed nothing
  same : agent' ≡ agent → host' ≡ host → IsSoundBy host.past agent set h tried → IsSoundBy host'.past agent' set h tried
  same agents hosts sound =
      subst (λ (s : Seen). IsSoundBy s.past agent' set h tried) (sym hosts) (subst (λ (a : AgentState). IsSoundBy host.past a set h tried) (sym agents) sound)

  -- a call of an agent that was going, and was refused for the disk or for memory
  spent : (fault : AgentFault) (cause : Why) → Did fault → IsAgentOf host.past agent set h → cause_of fault ≡ Some cause → EveryDisk (StandsForPrefix set h beats) host'.past → IsSoundBy host'.past agent' set h beats
  spent fault cause did is_of leaves images =
      inr (record {
        cause = cause;
        spent = did.spends is_of.going ∙ leaves;
        count = did.count ∙ is_of.count;
        last_is = did.last ∙ is_of.last_is;
        id = did.id ∙ ap (λ (s : Settings). s.id) (settings-of host.past agent.store set h is_of.holds);
        images = images;
      })

  of-going : (fault : AgentFault) → Did fault → IsAgentOf host.past agent set h → EveryDisk (StandsForPrefix set h beats) host'.past → IsSoundBy host'.past agent' set h (tried_with fault beats tried)
  of-going (Refused reason) did is_of images = let kept = did.unchanged tt in same kept.0 kept.1 (inl is_of)
  of-going (Health reason) did is_of images = let kept = did.unchanged tt in same kept.0 kept.1 (inl is_of)
  of-going DiskFault did is_of images = spent DiskFault why.Disk did is_of refl images
  of-going (Reopen cause) did is_of images = let kept = did.unchanged tt in same kept.0 kept.1 (inl is_of)
  of-going Memory did is_of images = spent Memory why.Memory did is_of refl images

  of-spent : (fault : AgentFault) → Did fault → IsSpentAfter host.past agent set h tried → IsSoundBy host'.past agent' set h (tried_with fault beats tried)
  of-spent (Refused reason) did was = let kept = did.unchanged tt in same kept.0 kept.1 (inr was)
  of-spent (Health reason) did was = let kept = did.unchanged tt in same kept.0 kept.1 (inr was)
  of-spent DiskFault did was = absurd (never agent was.cause was.spent did.reopens)
  of-spent (Reopen cause) did was = let kept = did.unchanged tt in same kept.0 kept.1 (inr was)
  of-spent Memory did was = absurd (never agent was.cause was.spent did.reopens)

  -- a refused call keeps an agent sound
  failed-sound : (fault : AgentFault) → Did fault → (IsAgentOf host.past agent set h → EveryDisk (StandsForPrefix set h beats) host'.past) → IsSoundBy host.past agent set h tried
      → IsSoundBy host'.past agent' set h (tried_with fault beats tried)
  failed-sound fault did images (inl is_of) = of-going fault did is_of (images is_of)
  failed-sound fault did images (inr was) = of-spent fault did was

-- ---- a beat
module _ (honest : Type 0) (host : Seen) (agent : AgentState) (beat : OpenBeat) (moment : ℕ) (host' : Seen) (agent' : AgentState) (set : Settings) (h tried : List Beat) (true_host : honest) where
  abbrev beat_reason : Option BlockFault
  beat_reason = beat_refusal agent.registry (copies agent.role) agent.last moment beat

  beat-failed : (fault : AgentFault) → Beats honest host agent beat moment (Err fault) host' agent' → Failed host agent fault host' agent'
  beat-failed fault did = record {
    unchanged = did.unchanged;
    spends = λ going. did.fault ∙ ap (λ (f : Option Why). fault_after f (unstored fault)) going;
    reopens = did.reopens;
    count = did.stays.0;
    last = did.stays.1;
    id = did.id;
  }

  beat-left : (disk : File → List ℕ) → StandsForOneOf set h beat_reason (collected moment beat ∷ h) disk → StandsForPrefix set h (collected moment beat ∷ []) disk
  beat-left disk (inl stands) = none-first set h (collected moment beat ∷ []) disk stands
  beat-left disk (inr stands) = one-first set h (collected moment beat) disk stands.1

  -- `beat` keeps an agent sound
  pub beat-sound : (result : Result Reply AgentFault) → Beats honest host agent beat moment result host' agent' → IsSoundBy host.past agent set h tried
      → IsSoundBy host'.past agent' set (history_after result (collected moment beat ∷ []) h) (tried_after result (collected moment beat ∷ []) tried)
  beat-sound (Ok reply) did (inl is_of) = inl (did.done true_host set h is_of)
  beat-sound (Ok reply) did (inr was) = absurd (never agent was.cause was.spent did.reopens)
  beat-sound (Err fault) did sound =
      failed-sound host agent host' agent' set h (collected moment beat ∷ []) tried fault (beat-failed fault did) (λ is_of disk images. beat-left disk (at_end (did.any_moment true_host set h is_of) disk images)) sound

-- ---- a configuration
module _ (honest : Type 0) (host : Seen) (agent : AgentState) (text : List ℕ) (host' : Seen) (agent' : AgentState) (set : Settings) (h tried : List Beat) (true_host : honest) where
  health-failed : (fault : AgentFault) → SetsHealth honest host agent text (unstored fault) host' agent' → Failed host agent fault host' agent'
  health-failed fault did = record {
    unchanged = did.unchanged;
    spends = λ going. did.fault ∙ ap (λ (f : Option Why). fault_after f (unstored fault)) going;
    reopens = did.reopens;
    count = did.stays;
    last = did.last;
    id = did.id;
  }

  health-left : (disk : File → List ℕ) → StandsForHealth set h text disk → StandsForPrefix set h (health text ∷ []) disk
  health-left disk (inl stands) = none-first set h (health text ∷ []) disk stands
  health-left disk (inr stands) = one-first set h (health text) disk stands.1

  -- `set_health` keeps an agent sound
  pub health-sound : (result : Result Reply AgentFault) → SetsHealth honest host agent text result host' agent' → IsSoundBy host.past agent set h tried
      → IsSoundBy host'.past agent' set (history_after result (health text ∷ []) h) (tried_after result (health text ∷ []) tried)
  health-sound (Ok reply) did (inl is_of) = inl (did.done true_host set h is_of)
  health-sound (Ok reply) did (inr was) = absurd (never agent was.cause was.spent did.reopens)
  health-sound (Err fault) did sound =
      failed-sound host agent host' agent' set h (health text ∷ []) tried fault (health-failed fault did) (λ is_of disk images. health-left disk (at_end (did.any_moment true_host set h is_of) disk images)) sound

-- ---- a line
module _ (honest : Type 0) (host : Seen) (agent : AgentState) (feed : Feed) (line : Line) (host' : Seen) (agent' : AgentState) (feed' : Feed) (set : Settings) (h tried : List Beat) (every : ℕ) (past : List Line)
    (true_host : honest) (is_feed : IsFeedOf feed every past) (at : CountsAt line feed agent.registry) where
  abbrev line_reason : Option BlockFault
  line_reason = line_refusal agent.registry (copies agent.role) agent.last every past line

  line-failed : (fault : AgentFault) → Lines honest host agent feed line (Err fault) host' agent' feed' → Failed host agent fault host' agent'
  line-failed fault did = record {
    unchanged = did.unchanged;
    spends = λ going. did.fault ∙ ap (λ (f : Option Why). fault_after f (unsaid fault)) going;
    reopens = did.reopens;
    count = did.stays.0;
    last = did.stays.1;
    id = did.id;
  }

  closed-left : (line : Line) (disk : File → List ℕ) → StandsForHistory set (history_with h every past line) disk → StandsForPrefix set h (closed_by every past line) disk
  closed-left (Moment moment) disk stands = one-first set h (collected moment (open_beat every past)) disk stands
  closed-left line disk stands = none-first set h [] disk stands

  line-left : (disk : File → List ℕ) → StandsForOneOf set h line_reason (history_with h every past line) disk → StandsForPrefix set h (closed_by every past line) disk
  line-left disk (inl stands) = none-first set h (closed_by every past line) disk stands
  line-left disk (inr stands) = closed-left line disk stands.1

  -- `line` keeps an agent sound
  pub line-sound : (result : Result Said AgentFault) → Lines honest host agent feed line result host' agent' feed' → IsSoundBy host.past agent set h tried
      → IsSoundBy host'.past agent' set (history_by result every past line h) (tried_after result (closed_by every past line) tried)
  line-sound (Ok said) did (inl is_of) = inl (did.done true_host set h every past is_of is_feed)
  line-sound (Ok said) did (inr was) = absurd (never agent was.cause was.spent did.reopens)
  line-sound (Err fault) did sound =
      failed-sound host agent host' agent' set h (closed_by every past line) tried fault (line-failed fault did)
      (λ is_of disk images. line-left disk (at_end (did.any_moment true_host set h every past is_of is_feed) disk images)) sound

-- ---- a call that reads
module _ (honest : Type 0) (host : Seen) (agent : AgentState) (host' : Seen) (agent' : AgentState) (set : Settings) (h tried : List Beat) (true_host : honest) where
  -- nothing happened to the disk, so that a crash leaves the history
  read-left : IsAgentOf host.past agent set h → host'.past ≡ host.past → EveryDisk (StandsForPrefix set h []) host'.past
  read-left is_of quiet =
      subst (EveryDisk (StandsForPrefix set h [])) (sym quiet) (λ disk images. none-first set h [] disk (stays host.past agent.store set h is_of.holds disk images))

  module _ (T : Type 0) where
    abbrev unread : AgentFault → Result T AgentFault
    unread fault = Err fault

    read-failed : (fault : AgentFault) → Reads honest host agent (unread fault) host' agent' → Failed host agent fault host' agent'
    read-failed fault did = record {
      unchanged = did.unchanged;
      spends = λ going. did.fault ∙ ap (λ (f : Option Why). fault_after f (unread fault)) going;
      reopens = did.reopens;
      count = did.stays.0;
      last = did.stays.1;
      id = did.id;
    }

    -- it keeps an agent sound
    read-sound : (result : Result T AgentFault) → Reads honest host agent result host' agent' → IsSoundBy host.past agent set h tried → IsSoundBy host'.past agent' set h (tried_after result [] tried)
    read-sound (Ok value) did (inl is_of) = inl (did.done true_host set h is_of)
    read-sound (Ok value) did (inr was) = absurd (never agent was.cause was.spent did.reopens)
    read-sound (Err fault) did sound =
        failed-sound host agent host' agent' set h [] tried fault (read-failed fault did) (λ is_of. read-left is_of (did.quiet true_host)) sound

-- `query` keeps an agent sound
pub query-sound : (honest : Type 0) (host host' : Seen) (agent agent' : AgentState) (text : List ℕ) (result : Result (List ℕ) AgentFault) (set : Settings) (h tried : List Beat) → honest
    → Queries honest host agent text result host' agent' → IsSoundBy host.past agent set h tried → IsSoundBy host'.past agent' set h (tried_after result [] tried)
query-sound honest host host' agent agent' text result set h tried true_host did = read-sound honest host agent host' agent' set h tried true_host _ result did.reads

-- `kept` keeps an agent sound
pub kept-sound : (honest : Type 0) (host host' : Seen) (agent agent' : AgentState) (result : Result Kept AgentFault) (set : Settings) (h tried : List Beat) → honest
    → Keeps honest host agent result host' agent' → IsSoundBy host.past agent set h tried → IsSoundBy host'.past agent' set h (tried_after result [] tried)
kept-sound honest host host' agent agent' result set h tried true_host did = read-sound honest host agent host' agent' set h tried true_host _ result did.reads

-- `data` keeps an agent sound
pub data-sound : (honest : Type 0) (host host' : Seen) (agent agent' : AgentState) (ask : Ask) (result : Result (Option Data) AgentFault) (set : Settings) (h tried : List Beat) → honest
    → AnswersAsk honest host agent ask result host' agent' → IsSoundBy host.past agent set h tried → IsSoundBy host'.past agent' set h (tried_after result [] tried)
data-sound honest host host' agent agent' ask result set h tried true_host did = read-sound honest host agent host' agent' set h tried true_host _ result did.reads

-- ---- a message of a child
abbrev pub untaken : AgentFault → Result (Verdict × Reply) AgentFault
untaken fault = Err fault

module _ (honest : Type 0) (host : Seen) (agent : AgentState) (message : Data) (host' : Seen) (agent' : AgentState) (set : Settings) (h tried : List Beat) (true_host : honest) where
  take-failed : (fault : AgentFault) → TakesData honest host agent message (untaken fault) host' agent' → Failed host agent fault host' agent'
  take-failed fault did = record {
    unchanged = did.unchanged;
    spends = λ going. did.fault ∙ ap (λ (f : Option Why). fault_after f (untaken fault)) going;
    reopens = did.reopens;
    count = did.stays.0;
    last = did.stays.1;
    id = did.id;
  }

  -- `take` keeps an agent sound
  pub take-sound : (result : Result (Verdict × Reply) AgentFault) → TakesData honest host agent message result host' agent' → IsSoundBy host.past agent set h tried
      → IsSoundBy host'.past agent' set (history_after result (added_to h message) h) (tried_after result (added_to h message) tried)
  take-sound (Ok taken) did (inl is_of) =
      inl (subst (λ (more : List Beat). IsAgentOf host'.past agent' set (onto h more)) (adds-are host.past agent set h is_of message) (did.done true_host set h is_of))
  take-sound (Ok taken) did (inr was) = absurd (never agent was.cause was.spent did.reopens)
  take-sound (Err fault) did sound =
      failed-sound host agent host' agent' set h (added_to h message) tried fault (take-failed fault did)
      (λ is_of disk images. subst (λ (more : List Beat). StandsForPrefix set h more disk) (adds-are host.past agent set h is_of message) (at_end (did.any_moment true_host set h is_of) disk images)) sound
