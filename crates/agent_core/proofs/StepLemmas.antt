-- What an agent does with each step of a feed, and with a line that leads to no step.
use Rattle.std.proofs.Common.{◌≡◌, ◌≢◌, ◌⊎◌, ◌≤◌, ℕ, inl, inr, Bool, true, List, Option, Some, None, Result, Ok, Err, IfOk, OnOk, refl, sym, ap, ◌∙◌, subst, le_refl}
use Rattle.std.specs.Option.{option_map_or}
use Rattle.std.proofs.lemmas.Option.{none-some}
use Rattle.host_model.specs.Disks.{EveryDisk}
use Rattle.host_model.specs.Moments.{begins, Throughout}
use Rattle.history.specs.declared.beat.OpenBeat.{OpenBeat}
use Rattle.history.specs.declared.fault.BlockFault.{BlockFault}
use Rattle.history.specs.declared.line.Line.{Line}
use Rattle.history.specs.declared.line.Line.TheVariants.{Disable, Moment, Query}
use Rattle.history.specs.History.{Beat}
use Rattle.history.specs.Limits.{keeps_limits}
use Rattle.history.specs.Refusal.{refusal}
use Rattle.history.specs.Registry.{Registry}
use Rattle.collect_block.specs.declared.feed.Feed.{Feed}
use Rattle.collect_block.specs.declared.step.Step.{Step}
use Rattle.collect_block.specs.declared.step.Step.TheVariants as step
use Rattle.collect_block.specs.Feed.{step_of, Becomes, CountsAt, CountsFor, CountsPast, IsFeedOf}
use Rattle.tier_settings.specs.declared.settings.Settings.{Settings}
use Rattle.store_core.specs.declared.fault.Why.{Why}
use Rattle.store_core.specs.declared.fault.Why.TheVariants as why
use Rattle.store_core.specs.disk.Holds.{OnlyOwn}
use Rattle.agent_core.specs.Gaps.{side_share}
use Rattle.agent_core.specs.declared.fault.AgentFault.{AgentFault}
use Rattle.agent_core.specs.declared.fault.AgentFault.TheVariants.{Refused, DiskFault, Memory}
use Rattle.agent_core.specs.declared.reply.Reply.{Reply}
use Rattle.agent_core.specs.declared.reply.Said.{Said}
use Rattle.agent_core.specs.declared.reply.Said.TheVariants.{Disabled, Nothing, Stored, Table}
use Rattle.agent_core.specs.Agent.{AgentIsReady, AgentState, IsAgentOf}
use Rattle.agent_core.specs.Bound.{GrowsWithin}
use Rattle.agent_core.specs.Calls.{AsksHost, Beats, ClosesBeat, FeedTakes, Lines, Queries}
use Rattle.host_model.specs.Seen.{Seen}
use Rattle.agent_core.specs.Fed.{IsFed}
use Rattle.agent_core.specs.Faults.{fault_after, IsReading, RefusedBy}
use Rattle.agent_core.specs.Stands.{StandsForOneOf}
use Rattle.agent_core.specs.Roles.{copies}
use Rattle.agent_core.specs.Rules.{closing_refusal, count_with, history_with, last_with, line_refusal}
use Rattle.agent_core.specs.Said.{Answers, IsSaid, TellsEvents}
use Rattle.agent_core.specs.Steps.{step_count, step_history, step_last, step_refusal, AnswersStep, HasBeat, IsSaidOf, NeedsHost, Takes, TellsStep}
use Rattle.agent_core.proofs.BoundLemmas.{grows-none, grows-still}
use Rattle.agent_core.proofs.FedLemmas.{fed-more}
use Rattle.agent_core.proofs.KeptLemmas.{nothing_done}
use Rattle.agent_core.proofs.Outcomes.{always, fails-free, on_err, on_ok}

-- ---- a step
abbrev saying : Said → Result Said AgentFault
saying said = Ok said

never-disk : (said : Said) → saying said ≡ Err DiskFault → ⊥
never-disk said e = cc

abbrev stored : Reply → Result Reply AgentFault
stored reply = Ok reply

-- a beat that was stored
pub beat-stored : (honest : Type 0) (host host' : Seen) (agent agent' : AgentState) (beat : OpenBeat) (moment : ℕ) (reply : Reply) → agent.fault ≡ None → Beats honest host agent beat moment (Ok reply) host' agent'
    → Takes honest host agent (step.Beat beat moment) (saying (Stored reply)) host' agent'
beat-stored honest host host' agent agent' beat moment reply going did = record {
  any_moment = did.any_moment;
  done = did.done;
  said = (reply.events, λ i. Stored (record { count = did.number i; events = reply.events }));
  answered = λ set h is_of. tt;
  events = λ true_host set h is_of. (reply.count, λ i. Stored (record { count = reply.count; events = did.events true_host set h is_of i }));
  counts = did.counts;
  last = did.last;
  refused = did.refused going;
  asks = tt;
  fails = λ e. tt;
  same = λ none. absurd (none tt);
  quiet = λ none. absurd (none tt);
  registry = λ none. absurd (none tt);
  unchanged = tt;
  fault = did.fault ∙ ap (λ (f : Option Why). fault_after f (stored reply)) going ∙ sym (ap (λ (f : Option Why). fault_after f (saying (Stored reply))) going);
  reopens = did.reopens;
  stays = tt;
  id = did.id;
  ready = did.ready;
  cause = record { later = did.cause.later; failed = λ e. absurd (never-disk (Stored reply) e); stays = λ _. did.cause.stays (λ e. cc) };
  bound = did.bound;
  gaps = did.gaps;
  only_here = did.only_here;
  tells = did.tells;
}

-- a step for which the host is not asked
module _ (honest : Type 0) (host : Seen) (agent : AgentState) (going : agent.fault ≡ None) (ready : AgentIsReady honest host.past agent) where
  step-quiet : (step : Step) (now : Said) → (NeedsHost step → ⊥) → IsSaidOf agent.count step now → ((set : Settings) (h : List Beat) → AnswersStep set h step now)
      → ((set : Settings) (h : List Beat) → TellsStep set h step now) → step_refusal agent.registry (copies agent.role) agent.last step ≡ None → ((h : List Beat) → step_history h step ≡ h) → step_count agent.count step ≡ agent.count → step_last agent.last step ≡ agent.last
      → Takes honest host agent step (saying now) host agent
  step-quiet step now none is_said answers tells free kept count last = record {
    any_moment = λ true_host set h is_of. begins (nothing_done host.past agent set h is_of (step_refusal agent.registry (copies agent.role) agent.last step) (step_history h step));
    done = λ true_host set h is_of. subst (IsAgentOf host.past agent set) (sym (kept h)) is_of;
    said = is_said;
    answered = λ set h is_of. answers set h;
    events = λ true_host set h is_of. tells set (step_history h step);
    counts = sym count;
    last = sym last;
    refused = free;
    asks = tt;
    fails = λ e. absurd (never-disk now e);
    same = λ none. (refl, refl);
    quiet = λ none true_host. refl;
    registry = λ none. refl;
    unchanged = tt;
    fault = going ∙ sym (ap (λ (f : Option Why). fault_after f (saying now)) going);
    reopens = going;
    stays = tt;
    id = refl;
    ready = ready;
    cause = record { later = le_refl host.disk_faults; failed = λ e. absurd (never-disk now e); stays = λ _. refl };
    bound = λ true_host set h is_of limit fits. grows-none set limit host.past agent.store;
    gaps = refl;
    only_here = λ true_host. record { others = λ other far. refl; output = refl };
    tells = refl;
  }

  pub step-nothing : Takes honest host agent step.Nothing (saying Nothing) host agent
  step-nothing = step-quiet step.Nothing Nothing (λ none. none) refl (λ set h. tt) (λ set h. tt) refl (λ h. refl) refl refl

  pub step-disabled : Takes honest host agent step.Disabled (saying Disabled) host agent
  step-disabled = step-quiet step.Disabled Disabled (λ none. none) refl (λ set h. tt) (λ set h. tt) refl (λ h. refl) refl refl

-- a question
module _ (honest : Type 0) (host host' : Seen) (agent agent' : AgentState) (text : List ℕ) (going : agent.fault ≡ None) where
  abbrev replied : List ℕ → Result (List ℕ) AgentFault
  replied reply = Ok reply

  abbrev unreplied : AgentFault → Result (List ℕ) AgentFault
  unreplied fault = Err fault

  -- nothing happens to the disk
  asked-moments : {T : Type 0} (result : Result T AgentFault) → (honest → host'.past ≡ host.past) → honest → (set : Settings) (h : List Beat) → IsAgentOf host.past agent set h
      → Throughout (EveryDisk (StandsForOneOf set h None h)) host.past host'.past
  asked-moments result quiet true_host set h is_of =
      subst (Throughout (EveryDisk (StandsForOneOf set h None h)) host.past) (sym (quiet true_host)) (begins (nothing_done host.past agent set h is_of None h))

  asked-here : (honest → host'.past ≡ host.past) → honest → OnlyOwn host.past host'.past
  asked-here quiet true_host = subst (OnlyOwn host.past) (sym (quiet true_host)) (record { others = λ other far. refl; output = refl })

  asked-within : (honest → host'.past ≡ host.past) → agent'.store ≡ agent.store → honest → (set : Settings) (h : List Beat) → IsAgentOf host.past agent set h → (limit : ℕ) → side_share set ≤ limit
      → GrowsWithin set limit host.past agent.store host'.past agent'.store
  asked-within quiet same true_host set h is_of limit fits = grows-still set limit host.past host'.past agent.store agent'.store (quiet true_host) same

  pub query-answered : (reply : List ℕ) → Queries honest host agent text (replied reply) host' agent' → Takes honest host agent (step.Query text) (saying (Table reply)) host' agent'
  query-answered reply did = record {
    any_moment = asked-moments (replied reply) did.reads.quiet;
    done = did.reads.done;
    said = (reply, refl);
    answered = λ set h is_of. ap Table (did.answered set h is_of);
    events = λ true_host set h is_of. tt;
    counts = did.reads.stays.0;
    last = did.reads.stays.1;
    refused = refl;
    asks = tt;
    fails = λ e. absurd (never-disk (Table reply) e);
    same = λ none. absurd (none tt);
    quiet = λ none. did.reads.quiet;
    registry = λ none. did.reads.registry;
    unchanged = tt;
    fault = did.reads.fault ∙ ap (λ (f : Option Why). fault_after f (replied reply)) going ∙ sym (ap (λ (f : Option Why). fault_after f (saying (Table reply))) going);
    reopens = did.reads.reopens;
    stays = tt;
    id = did.reads.id;
    ready = did.reads.ready;
    cause = record { later = did.reads.cause.later; failed = λ e. absurd (never-disk (Table reply) e); stays = λ _. did.reads.cause.stays (λ e. cc) };
    bound = asked-within did.reads.quiet did.reads.store;
    gaps = did.reads.gaps;
    only_here = asked-here did.reads.quiet;
    tells = did.reads.tells;
  }

  abbrev unsaid : AgentFault → Result Said AgentFault
  unsaid fault = Err fault

  is-disk : (fault : AgentFault) → unsaid fault ≡ Err DiskFault → fault ≡ DiskFault
  is-disk fault e = cc

  same-disk : (fault : AgentFault) → unsaid fault ≡ Err DiskFault → unreplied fault ≡ Err DiskFault
  same-disk fault e = cc

  other-disk : (fault : AgentFault) → unreplied fault ≡ Err DiskFault → unsaid fault ≡ Err DiskFault
  other-disk fault e = cc

  pub query-failed : (fault : AgentFault) → Queries honest host agent text (unreplied fault) host' agent' → Takes honest host agent (step.Query text) (unsaid fault) host' agent'
  query-failed fault did = record {
    any_moment = asked-moments (unreplied fault) did.reads.quiet;
    done = tt;
    said = tt;
    answered = tt;
    events = tt;
    counts = tt;
    last = tt;
    refused = fails-free agent.fault fault did.reads.faults did.reads.reopens going;
    asks = tt;
    fails = λ e. absurd (subst IsReading (is-disk fault e) did.reads.faults);
    same = λ none. absurd (none tt);
    quiet = λ none. did.reads.quiet;
    registry = λ none. did.reads.registry;
    unchanged = did.reads.unchanged;
    fault = did.reads.fault ∙ ap (λ (f : Option Why). fault_after f (unreplied fault)) going ∙ sym (ap (λ (f : Option Why). fault_after f (unsaid fault)) going);
    reopens = did.reads.reopens;
    stays = did.reads.stays;
    id = did.reads.id;
    ready = did.reads.ready;
    cause = record { later = did.reads.cause.later; failed = λ e. did.reads.cause.failed (same-disk fault e); stays = λ never. did.reads.cause.stays (λ e. never (other-disk fault e)) };
    bound = asked-within did.reads.quiet did.reads.store;
    gaps = did.reads.gaps;
    only_here = asked-here did.reads.quiet;
    tells = did.reads.tells;
  }

-- ---- what a line leads to is what its step does
closing-is : (registry : Registry) (copies : Bool) (last every : ℕ) (past : List Line) (line : Line)
    → closing_refusal registry copies last every past line ≡ step_refusal registry copies last (step_of every past line)
closing-is registry copies last every past (Moment moment) = refl
closing-is registry copies last every past line = refl

reason-is : (registry : Registry) (copies : Bool) (last every : ℕ) (past : List Line) (line : Line) → refusal registry every past copies last line ≡ None
    → line_refusal registry copies last every past line ≡ step_refusal registry copies last (step_of every past line)
reason-is registry copies last every past line free =
    ap (λ (reason : Option BlockFault). option_map_or Some reason (closing_refusal registry copies last every past line)) free ∙ closing-is registry copies last every past line

history-is : (h : List Beat) (every : ℕ) (past : List Line) (line : Line) → history_with h every past line ≡ step_history h (step_of every past line)
history-is h every past (Moment moment) = refl
history-is h every past line = refl

count-is : (count every : ℕ) (past : List Line) (line : Line) → count_with count line ≡ step_count count (step_of every past line)
count-is count every past (Moment moment) = refl
count-is count every past line = refl

last-is : (last every : ℕ) (past : List Line) (line : Line) → last_with last line ≡ step_last last (step_of every past line)
last-is last every past (Moment moment) = refl
last-is last every past line = refl

said-is : (count every : ℕ) (past : List Line) (line : Line) (now : Said) → IsSaidOf count (step_of every past line) now → IsSaid count line now
said-is count every past (Moment moment) now is_said = is_said
said-is count every past (Query text) now is_said = is_said
said-is count every past Disable now is_said = is_said
said-is count every past line now is_said = is_said

answer-is : (set : Settings) (h : List Beat) (every : ℕ) (past : List Line) (line : Line) (now : Said) → AnswersStep set h (step_of every past line) now → Answers set h line now
answer-is set h every past (Query text) now answers = answers
answer-is set h every past line now answers = tt

tells-is : (set : Settings) (h : List Beat) (every : ℕ) (past : List Line) (line : Line) (now : Said) → TellsStep set h (step_of every past line) now → TellsEvents set h line now
tells-is set h every past (Moment moment) now tells = tells
tells-is set h every past line now tells = tt

asks-is : (every : ℕ) (past : List Line) (line : Line) → NeedsHost (step_of every past line) → AsksHost line
asks-is every past (Moment moment) needs = needs
asks-is every past (Query text) needs = needs
asks-is every past line needs = absurd needs

closes-is : (every : ℕ) (past : List Line) (line : Line) → HasBeat (step_of every past line) → ClosesBeat line
closes-is every past (Moment moment) has = has
closes-is every past line has = absurd has

-- a line that leads to no beat goes on to count for the same registry, and one that does for every registry
counts-past : (feed : Feed) (registry registry' : Registry) (every : ℕ) (past : List Line) (line : Line) → ((HasBeat (step_of every past line) → ⊥) → registry' ≡ registry) → CountsPast line feed registry → CountsFor feed registry'
counts-past feed registry registry' every past (Moment moment) same counts = counts registry'
counts-past feed registry registry' every past line same counts = subst (CountsFor feed) (sym (same (λ has. has))) counts

-- a line for which the host is asked counts wherever it stands
counts-anywhere : (feed : Feed) (registry : Registry) (line : Line) → AsksHost line → CountsAt line feed registry
counts-anywhere feed registry (Moment moment) asks = tt
counts-anywhere feed registry (Query text) asks = tt
counts-anywhere feed registry line asks = absurd asks

-- what is to count at a line, counts there, or the host is not asked for it
counts-or-quiet : (feed : Feed) (registry : Registry) (every : ℕ) (past : List Line) (line : Line) → CountsAt line feed registry ⊎ (NeedsHost (step_of every past line) → ⊥)
counts-or-quiet feed registry every past (Moment moment) = inl tt
counts-or-quiet feed registry every past (Query text) = inl tt
counts-or-quiet feed registry every past line = inr (λ needs. needs)

-- only a MOMENT leads to a beat
moment-closes : (every : ℕ) (past : List Line) (line : Line) → HasBeat (step_of every past line) → ((moment : ℕ) → line ≡ Moment moment → ⊥) → ⊥
moment-closes every past (Moment moment) has none = none moment refl
moment-closes every past line has none = has

-- ---- a line that the feed took
module _ (honest : Type 0) (host host' : Seen) (agent agent' : AgentState) (feed feed' : Feed) (line : Line) (step : Step) (result : Result Said AgentFault) (fed : IsFed feed) (limits : keeps_limits line ≡ true)
    (free : (every : ℕ) (past : List Line) → IsFeedOf feed every past → CountsAt line feed agent.registry → refusal agent.registry every past (copies agent.role) agent.last line ≡ None)
    (gives : (every : ℕ) (past : List Line) → IsFeedOf feed every past → step ≡ step_of every past line) (becomes : Becomes line feed feed')
    (counts : CountsFor feed agent.registry → CountsPast line feed' agent.registry) (took : Takes honest host agent step result host' agent') where
  abbrev because : Step → Option BlockFault
  because step = step_refusal agent.registry (copies agent.role) agent.last step

  abbrev against : ℕ → List Line → Option BlockFault
  against every past = line_refusal agent.registry (copies agent.role) agent.last every past line

  reason : (every : ℕ) (past : List Line) → IsFeedOf feed every past → CountsAt line feed agent.registry → because step ≡ against every past
  reason every past is_feed at = ap because (gives every past is_feed) ∙ sym (reason-is agent.registry (copies agent.role) agent.last every past line (free every past is_feed at))

  more : (h : List Beat) (every : ℕ) (past : List Line) → IsFeedOf feed every past → step_history h step ≡ history_with h every past line
  more h every past is_feed = ap (step_history h) (gives every past is_feed) ∙ sym (history-is h every past line)

  -- what a crash leaves of a history, by the reason against the line
  abbrev Left : Settings → List Beat → ℕ → List Line → Option BlockFault → Seen → Type 0
  Left set h every past r host' = Throughout (EveryDisk (StandsForOneOf set h r (history_with h every past line))) host.past host'.past

  moments : honest → (set : Settings) (h : List Beat) (every : ℕ) (past : List Line) → IsAgentOf host.past agent set h → IsFeedOf feed every past → Left set h every past (against every past) host'
  moments true_host set h every past is_of is_feed = by (counts-or-quiet feed agent.registry every past line)
    where
      by : CountsAt line feed agent.registry ⊎ (NeedsHost (step_of every past line) → ⊥) → Left set h every past (against every past) host'
      by (inl at) =
          subst (λ (r : Option BlockFault). Left set h every past r host') (reason every past is_feed at)
          (subst (λ (g : List Beat). Throughout (EveryDisk (StandsForOneOf set h (because step) g)) host.past host'.past) (more h every past is_feed)
          (took.any_moment true_host set h is_of))
      by (inr quiet) =
          subst (Left set h every past (against every past)) (sym (took.same (λ needs. quiet (subst NeedsHost (gives every past is_feed) needs))).1)
          (begins (nothing_done host.past agent set h is_of (against every past) (history_with h every past line)))

  abbrev its : step ≡ step_of fed.every fed.past line
  its = gives fed.every fed.past fed.feed_of

  counts-on : CountsFor feed agent.registry → CountsFor feed' agent'.registry
  counts-on before =
      counts-past feed' agent.registry agent'.registry fed.every fed.past line
      (λ quiet. took.registry (λ has. quiet (subst HasBeat its has))) (counts before)

  asking : NeedsHost step → AsksHost line
  asking needs = asks-is fed.every fed.past line (subst NeedsHost its needs)

  -- what the feed took in vain is a line for which the host was asked
  in-vain : NeedsHost step → FeedTakes agent feed line feed'
  in-vain needs = record {
    asks = asking needs;
    stands = λ every past is_feed. free every past is_feed (counts-anywhere feed agent.registry line (asking needs));
    takes = becomes;
  }

  is-said : (result : Result Said AgentFault) → IfOk result (IsSaidOf agent'.count step) → IfOk result (IsSaid agent'.count line)
  is-said (Ok now) is_said = said-is agent'.count fed.every fed.past line now (subst (λ (s : Step). IsSaidOf agent'.count s now) its is_said)
  is-said (Err fault) is_said = tt

  is-answer : (result : Result Said AgentFault) → IfOk result (λ now. (set : Settings) (h : List Beat) → IsAgentOf host.past agent set h → AnswersStep set h step now)
      → IfOk result (λ now. (set : Settings) (h : List Beat) → IsAgentOf host.past agent set h → Answers set h line now)
  is-answer (Ok now) answers = λ set h is_of. answer-is set h fed.every fed.past line now (subst (λ (s : Step). AnswersStep set h s now) its (answers set h is_of))
  is-answer (Err fault) answers = tt

  is-told : (result : Result Said AgentFault) → IfOk result (λ now. honest → (set : Settings) (h : List Beat) → IsAgentOf host.past agent set h → TellsStep set (step_history h step) step now)
      → IfOk result (λ now. honest → (set : Settings) (h : List Beat) (every : ℕ) (past : List Line) → IsAgentOf host.past agent set h → IsFeedOf feed every past
      → TellsEvents set (history_with h every past line) line now)
  is-told (Ok now) tells = λ true_host set h every past is_of is_feed.
      tells-is set (history_with h every past line) every past line now
      (subst (λ (s : Step). TellsStep set (history_with h every past line) s now) (gives every past is_feed)
      (subst (λ (g : List Beat). TellsStep set g step now) (more h every past is_feed) (tells true_host set h is_of)))
  is-told (Err fault) tells = tt

  pub line-taken : Lines honest host agent feed line result host' agent' feed'
  line-taken = record {
    any_moment = moments;
    done = on_ok _ _ result took.done (λ done true_host set h every past is_of is_feed.
        subst (λ (g : List Beat). IsAgentOf host'.past agent' set g) (more h every past is_feed) (done true_host set h is_of));
    said = is-said result took.said;
    answered = is-answer result took.answered;
    events = is-told result took.events;
    counts = subst (λ (n : ℕ). OnOk result (agent'.count ≡ n)) (ap (step_count agent.count) its ∙ sym (count-is agent.count fed.every fed.past line)) took.counts;
    last = subst (λ (n : ℕ). OnOk result (agent'.last ≡ n)) (ap (step_last agent.last) its ∙ sym (last-is agent.last fed.every fed.past line)) took.last;
    refused = λ going every past is_feed at. subst (λ (r : Option BlockFault). RefusedBy r result) (reason every past is_feed at) took.refused;
    takes = always (Becomes line feed feed') result becomes;
    counts_on = always (CountsFor feed agent.registry → CountsFor feed' agent'.registry) result counts-on;
    leaves = on_err _ _ result took.asks (λ needs. inr (in-vain needs));
    fed = fed-more feed feed' line agent.registry (copies agent.role) agent.last fed limits becomes free;
    asks = λ quiet. (took.same (λ needs. quiet (asking needs))).1;
    same = λ quiet. always (agent' ≡ agent) result (took.same (λ needs. quiet (asking needs))).0;
    fails = λ e. closes-is fed.every fed.past line (subst HasBeat its (took.fails e));
    quiet = λ none. took.quiet (λ has. moment-closes fed.every fed.past line (subst HasBeat its has) none);
    unchanged = took.unchanged;
    fault = took.fault;
    reopens = took.reopens;
    stays = took.stays;
    id = took.id;
    ready = took.ready;
    cause = took.cause;
    bound = took.bound;
    gaps = took.gaps;
    only_here = took.only_here;
    tells = took.tells;
  }

-- ---- a line that it did not take
-- an agent for which memory was short
abbrev pub short_of : AgentState → AgentState
short_of agent = record agent { fault = Some why.Memory }

-- an agent that was going, once it has noted no cause
pub going-on : (agent : AgentState) → agent.fault ≡ None → agent ≡ record agent { fault = None }
going-on agent going = ap (λ (fault : Option Why). record agent { fault = fault }) going

module _ (honest : Type 0) (host : Seen) (agent : AgentState) (feed feed' : Feed) (line : Line) (fed : IsFed feed) (same : feed' ≡ feed) where
  abbrev failed : AgentFault → Result Said AgentFault
  failed fault = Err fault

  no-disk : (fault : AgentFault) → fault ≢ DiskFault → failed fault ≡ Err DiskFault → ⊥
  no-disk fault other e = other (cc)

  never : (reason : Option BlockFault) (more : List Beat) (set : Settings) (h : List Beat) → IsAgentOf host.past agent set h
      → Throughout (EveryDisk (StandsForOneOf set h reason more)) host.past host.past
  never reason more set h is_of = begins (nothing_done host.past agent set h is_of reason more)

  pub line-refused : (fault : BlockFault) → agent.fault ≡ None → AgentIsReady honest host.past agent
      → ((every : ℕ) (past : List Line) → IsFeedOf feed every past → CountsAt line feed agent.registry → refusal agent.registry every past (copies agent.role) agent.last line ≡ Some fault)
      → Lines honest host agent feed line (failed (Refused fault)) host agent feed'
  line-refused fault going ready reason = record {
    any_moment = λ true_host set h every past is_of is_feed. never (line_refusal agent.registry (copies agent.role) agent.last every past line) (history_with h every past line) set h is_of;
    done = tt;
    said = tt;
    answered = tt;
    events = tt;
    counts = tt;
    last = tt;
    refused = λ going every past is_feed at. ap (λ (reason : Option BlockFault). option_map_or Some reason (closing_refusal agent.registry (copies agent.role) agent.last every past line)) (reason every past is_feed at);
    takes = tt;
    counts_on = tt;
    leaves = inl same;
    fed = subst IsFed (sym same) fed;
    asks = λ quiet. refl;
    same = λ quiet. tt;
    fails = λ e. absurd (no-disk (Refused fault) (λ e. cc) e);
    quiet = λ none true_host. refl;
    unchanged = λ leaves. (refl, refl);
    fault = going ∙ sym (ap (λ (f : Option Why). fault_after f (failed (Refused fault))) going);
    reopens = going;
    stays = (refl, refl);
    id = refl;
    ready = ready;
    cause = record { later = le_refl host.disk_faults; failed = λ e. absurd (no-disk (Refused fault) (λ e. cc) e); stays = λ _. refl };
    bound = λ true_host set h is_of limit fits. grows-none set limit host.past agent.store;
    gaps = refl;
    only_here = λ true_host. record { others = λ other far. refl; output = refl };
    tells = refl;
  }

  closing-none : (every : ℕ) (past : List Line) → ((moment : ℕ) → line ≡ Moment moment → ⊥) → closing_refusal agent.registry (copies agent.role) agent.last every past line ≡ None
  closing-none every past quiet = by line quiet
    where
      by : (line : Line) → ((moment : ℕ) → line ≡ Moment moment → ⊥) → closing_refusal agent.registry (copies agent.role) agent.last every past line ≡ None
      by (Moment moment) quiet = absurd (quiet moment refl)
      by line quiet = refl

  pub line-short : agent.fault ≡ None
      → ((every : ℕ) (past : List Line) → IsFeedOf feed every past → CountsAt line feed agent.registry → refusal agent.registry every past (copies agent.role) agent.last line ≡ None)
      → ((moment : ℕ) → line ≡ Moment moment → ⊥)
      → Lines honest host agent feed line (failed Memory) host (short_of agent) feed'
  line-short going free quiet = record {
    any_moment = λ true_host set h every past is_of is_feed. never (line_refusal agent.registry (copies agent.role) agent.last every past line) (history_with h every past line) set h is_of;
    done = tt;
    said = tt;
    answered = tt;
    events = tt;
    counts = tt;
    last = tt;
    refused = λ going every past is_feed at.
        ap (λ (reason : Option BlockFault). option_map_or Some reason (closing_refusal agent.registry (copies agent.role) agent.last every past line)) (free every past is_feed at) ∙ closing-none every past quiet;
    takes = tt;
    counts_on = tt;
    leaves = inl same;
    fed = subst IsFed (sym same) fed;
    asks = λ quiet. refl;
    same = λ quiet. tt;
    fails = λ e. absurd (no-disk Memory (λ e. cc) e);
    quiet = λ none true_host. refl;
    unchanged = λ leaves. absurd leaves;
    fault = sym (ap (λ (f : Option Why). fault_after f (failed Memory)) going);
    reopens = going;
    stays = (refl, refl);
    id = refl;
    ready = λ now. absurd (none-some why.Memory (sym now));
    cause = record { later = le_refl host.disk_faults; failed = λ e. absurd (no-disk Memory (λ e. cc) e); stays = λ _. refl };
    bound = λ true_host set h is_of limit fits. grows-none set limit host.past agent.store;
    gaps = refl;
    only_here = λ true_host. record { others = λ other far. refl; output = refl };
    tells = refl;
  }
