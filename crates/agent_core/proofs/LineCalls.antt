-- A line by what a feed made of it: the agent takes its step, or it is refused, or memory ran out.
use Rattle.std.proofs.Common.{◌≡◌, ◌⊎◌, ℕ, inl, inr, Bool, List, Option, Some, None, Result, Ok, Err, IfErr, IfOk, IsErrOf, MatchResult, OnErr, OnOk, true, refl, ap, subst}
use Rattle.host_model.specs.Seen.{Seen}
use Rattle.history.specs.declared.fault.BlockFault.{BlockFault}
use Rattle.history.specs.declared.fault.BlockFault.TheVariants as block
use Rattle.history.specs.declared.line.Line.{Line}
use Rattle.history.specs.Limits.{keeps_limits}
use Rattle.history.specs.Refusal.{refusal}
use Rattle.history.specs.Registry.{Registry}
use Rattle.collect_block.specs.declared.feed.Feed.{Feed}
use Rattle.collect_block.specs.declared.step.Step.{Step}
use Rattle.collect_block.specs.Feed.{step_of, Becomes, ClosesNone, CountsAt, CountsFor, CountsPast, IsFeedOf, RefusedBy}
use Rattle.agent_core.specs.declared.fault.AgentFault.{AgentFault}
use Rattle.agent_core.specs.declared.fault.AgentFault.TheVariants.{Refused, Memory}
use Rattle.agent_core.specs.declared.reply.Said.{Said}
use Rattle.agent_core.specs.Agent.{AgentIsReady, AgentState}
use Rattle.agent_core.specs.Calls.{Lines}
use Rattle.agent_core.specs.Faults.{cause_of, of_block}
use Rattle.agent_core.specs.Fed.{IsFed}
use Rattle.agent_core.specs.Roles.{copies}
use Rattle.agent_core.specs.Steps.{Takes}
use Rattle.agent_core.proofs.StepLemmas.{going-on, line-refused, line-short, line-taken, short_of}

-- a feed refuses the line for the first reason against it, and takes it where there is none
abbrev pub Refuses : Registry → Bool → ℕ → Feed → Line → Result Step BlockFault → Type 0
Refuses registry copies last feed line made =
    (every : ℕ) (past : List Line) → IsFeedOf feed every past → CountsAt line feed registry
    → MatchResult made (λ _. refusal registry every past copies last line ≡ None) (RefusedBy (refusal registry every past copies last line))

-- a fault of a feed is a reason against the line, and not that memory ran out
abbrev IsReason : BlockFault → Type 0
IsReason fault = (of_block fault ≡ Refused fault) × ((reason : Option BlockFault) → RefusedBy reason fault → reason ≡ Some fault)

short-or-reason : (fault : BlockFault) → (fault ≡ block.Memory) ⊎ IsReason fault
short-or-reason block.Memory = inl refl
short-or-reason fault = inr (refl, λ reason why. why)

abbrev failing : BlockFault → Result Step BlockFault
failing fault = Err fault

abbrev failed : AgentFault → Result Said AgentFault
failed fault = Err fault

module _ (honest : Type 0) (host host' : Seen) (agent agent' : AgentState) (feed feed' : Feed) (line : Line) (result : Result Said AgentFault) (fed : IsFed feed) (limits : keeps_limits line ≡ true)
    (going : agent.fault ≡ None) (ready : AgentIsReady honest host.past agent) where
  pub line-fed : (made : Result Step BlockFault) → Refuses agent.registry (copies agent.role) agent.last feed line made
      → ((every : ℕ) (past : List Line) → IsFeedOf feed every past → IsErrOf made block.Memory → ClosesNone line)
      → IfOk made (λ step. (every : ℕ) (past : List Line) → IsFeedOf feed every past → step ≡ step_of every past line)
      → OnOk made (Becomes line feed feed') → OnOk made (CountsFor feed agent.registry → CountsPast line feed' agent.registry) → OnErr made (feed' ≡ feed)
      → IfOk made (λ step. Takes honest host agent step result host' agent') → IfErr made (λ fault. result ≡ Err (of_block fault))
      → IfErr made (λ fault. agent' ≡ record agent { fault = cause_of (of_block fault) }) → OnErr made (host' ≡ host)
      → Lines honest host agent feed line result host' agent' feed'
  line-fed (Ok step) refuses short gives taken counts same took told spent still = line-taken honest host host' agent agent' feed feed' line step result fed limits refuses gives taken counts took
  line-fed (Err fault) refuses short gives taken counts same took told spent still = by (short-or-reason fault)
    where
      by : (fault ≡ block.Memory) ⊎ IsReason fault → Lines honest host agent feed line result host' agent' feed'
      by (inl is) =
          rw (told, spent, still, is) (line-short honest host agent feed feed' line fed same going (λ every past is_feed at. subst (RefusedBy (refusal agent.registry every past (copies agent.role) agent.last line)) is (refuses every past is_feed at))
          (λ moment e. subst ClosesNone e (short fed.every fed.past fed.feed_of (ap failing is))))
      by (inr reason) =
          rw (told, spent, still, reason.0) (subst (λ (after : AgentState). Lines honest host agent feed line (failed (Refused fault)) host after feed') (going-on agent going)
          (line-refused honest host agent feed feed' line fed same fault going ready (λ every past is_feed at. reason.1 (refusal agent.registry every past (copies agent.role) agent.last line) (refuses every past is_feed at))))
