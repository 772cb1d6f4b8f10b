-- A run under way: of which prefix of its text it is, and what its steps promise.
use Rattle.std.specs.Prelude.{◌≡◌, ℕ, ◌+◌, Bool, true, false, List, [], ◌∷◌, ◌++◌, length, take, ◌⊎◌, None, Result, Ok, MatchResult, IfErr, IsErrOf}
use Rattle.host_model.specs.declared.status.Status.{Status}
use Rattle.host_model.specs.declared.status.Status.TheVariants.{Ok as Done, Refused, Limit, TellFault, DiskFault, Memory}
use Rattle.host_model.specs.Cause.{HasCause, Rose}
use Rattle.host_model.specs.Moments.{Throughout, EveryCrash}
use Rattle.host_model.specs.Past.{Event, Told, told, MayAdd}
use Rattle.history.specs.declared.line.Line.{Line}
use Rattle.history.specs.History.{Beat, registry_of}
use Rattle.history.specs.Read.{history_at}
use Rattle.plugin_text.specs.Lines.{lines, parts, rest, fits}
use Rattle.plugin_text.specs.declared.refusal.Refusal.{Refusal}
use Rattle.chart_registry.specs.Accepted.{AreAccepted, IsWithin}
use Rattle.collect_block.specs.Feed.{CountsFor, IsFeedOf}
use Rattle.tier_settings.specs.declared.settings.Settings.{Settings}
use Rattle.agent_core.specs.Agent.{IsAgentOf, AgentIsReady}
use Rattle.agent_core.specs.Bound.{RunsWithin}
use Rattle.host_model.specs.Seen.{Seen}
use Rattle.agent_core.specs.Fed.{IsFed}
use Rattle.line_stream.specs.Chain.{Acts}
use Rattle.link_session.specs.Keeps.{IsAckedUpTo, Keeps, LeavesFiles}
use Rattle.agent_app.specs.declared.running.Running.{Running}
use Rattle.agent_app.specs.Convert.{refusal_line, refusal_status}
use Rattle.agent_app.specs.Reading.{HasRead}
use Rattle.agent_app.specs.Run.{history_with_text, run_reading, run_rules, FailsAtBeat, HasRunCause, LeavesOthers, Stores}

-- ---- a run under way

-- After these lines the run's agent and feed are of just these, `made` was told since the start, whole lines, and a
-- crash at any moment since left what it may leave.
pub record RunsAt (past : List Event) (running : Running) (every : ℕ) (set : Settings) (h0 : List Beat) (start : List Event) (read : List Line) (made : List ℕ) : Type 0 where
  pub within : IsWithin (registry_of h0)
  pub accepted : AreAccepted every h0 read
  pub agent : IsAgentOf past running.agent set (history_at every h0 read)
  pub feed : IsFeedOf running.feed every read
  pub counts : CountsFor running.feed running.agent.registry
  pub tells : told past ≡ told start ++ made
  pub closed : rest made ≡ []
  pub acked : IsAckedUpTo (length (history_at every h0 read)) made
  pub crashes : Throughout (EveryCrash (Keeps set h0 (history_at every h0 read) (told start))) start past

-- the run has taken these lines of its text, and goes on
pub record IsRunning (past : List Event) (running : Running) (every : ℕ) (set : Settings) (h0 : List Beat) (prefix : List (List ℕ)) (start : List Event) : Type 0 where
  pub read : List Line
  pub made : List ℕ
  pub has : HasRead (run_rules every set h0) prefix read made
  pub at : RunsAt past running every set h0 start read made

-- the run over this text ended so
pub record StopsIn (status : Status) (every : ℕ) (set : Settings) (h0 : List Beat) (ended : Bool) (text : List ℕ) (start new : List Event) (source_rose tell_rose disk_rose : Type 0) : Type 0 where
  pub stores : Stores status every set h0 ended text start new
  pub stored_for : FailsAtBeat status every set h0 ended text stores.output.said
  pub cause : HasRunCause status ended (run_reading every set h0 ended text).ending text source_rose tell_rose disk_rose

-- ---- what is told

-- the telling of a text failed, or there was no memory to make it
abbrev pub IsCutShort : Status → (honest : Type 0) → (text : List ℕ) → (old new : List Event) → (tell_rose : Type 0) → Type 0
IsCutShort status honest text old new tell_rose =
    ((status ≡ TellFault) × tell_rose × (honest → MayAdd (λ (n : ℕ). Told (take n text)) old new)) ⊎ ((status ≡ Memory) × (new ≡ old))

-- a text was told, and the run ends with the status that is wanted, or that was cut short
abbrev pub TellsEnd : (status wanted : Status) → (honest : Type 0) → (text : List ℕ) → (old new : List Event) → (tell_rose : Type 0) → Type 0
TellsEnd status wanted honest text old new tell_rose = ((status ≡ wanted) × (honest → new ≡ Told text ∷ old)) ⊎ IsCutShort status honest text old new tell_rose

-- a refusal was told, and that is how the run ends, or that was cut short
abbrev pub TellsRefusal : Status → (honest : Type 0) → ℕ → Refusal → (old new : List Event) → (tell_rose : Type 0) → Type 0
TellsRefusal status honest line why old new tell_rose = TellsEnd status (refusal_status line why) honest (refusal_line line why) old new tell_rose

-- ---- the steps of a run

-- the statuses of a run that its taker ends
abbrev pub IsTakers : Status → Type 0
IsTakers Done = Unit {0}
IsTakers (Refused line number) = Unit {0}
IsTakers (Limit line number) = Unit {0}
IsTakers TellFault = Unit {0}
IsTakers DiskFault = Unit {0}
IsTakers Memory = Unit {0}
IsTakers status = ⊥

abbrev pub TellRose : Seen → Seen → Type 0
TellRose host host' = Rose host.tell_faults host'.tell_faults

abbrev pub DiskRose : Seen → Seen → Type 0
DiskRose host host' = Rose host.disk_faults host'.disk_faults

-- the counts of failures of the output and of the disk stay, but where that part failed
pub record Counts (host host' : Seen) (tell_fault disk_fault : Type 0) : Type 0 where
  pub tells : HasCause host.tell_faults host'.tell_faults tell_fault
  pub disk : HasCause host.disk_faults host'.disk_faults disk_fault

-- what each call of the taker requires
pub record IsFit (honest : Type 0) (running : Running) (host : Seen) : Type 0 where
  pub agent : AgentIsReady honest host.past running.agent
  pub going : running.agent.fault ≡ None
  pub feed : IsFed running.feed

-- the line was taken, or the run ends at it
pub record TakesLine (honest : Type 0) (running : Running) (host : Seen) (number : ℕ) (bytes : List ℕ) (result : Result (Unit {0}) Status) (running' : Running) (host' : Seen) : Type 0 where
  pub run : honest → (every : ℕ) (set : Settings) (h0 : List Beat) (prefix : List (List ℕ)) (start : List Event) → IsRunning host.past running every set h0 prefix start → number ≡ length prefix + 1
      → MatchResult result (λ _. IsRunning host'.past running' every set h0 (prefix ++ bytes ∷ []) start)
      (λ status. (ended : Bool) (text next : List ℕ) (more : List (List ℕ)) → parts text ≡ prefix ++ bytes ∷ next ∷ more → StopsIn status every set h0 ended text start host'.past ⊥ (TellRose host host') (DiskRose host host'))
  -- where the text closes no beat, nothing happens to any file
  pub quiet : honest → (every : ℕ) (set : Settings) (h0 : List Beat) (prefix : List (List ℕ)) (start : List Event) → IsRunning host.past running every set h0 prefix start
      → (text next : List ℕ) (more : List (List ℕ)) → parts text ≡ prefix ++ bytes ∷ next ∷ more → history_with_text every h0 text ≡ h0 → LeavesFiles host.past host'.past
  pub statuses : IfErr result IsTakers
  pub counts : Counts host host' (IsErrOf result TellFault) (IsErrOf result DiskFault)
  pub others : LeavesOthers honest host host'
  -- it adds no gap, and each file of the database stays within its share
  pub bound : honest → (every : ℕ) (set : Settings) (h0 : List Beat) (prefix : List (List ℕ)) (start : List Event) → IsRunning host.past running every set h0 prefix start → RunsWithin honest host running.agent host' running'.agent

-- nothing is done where the lines of a piece are over
abbrev pub Pauses : {T H : Type 0} → T → H → Result (Unit {0}) Status → T → H → Type 0
Pauses running host result running' host' = (result ≡ Ok tt) × (running' ≡ running) × (host' ≡ host)

-- the text has ended
pub record EndsRun (honest : Type 0) (running : Running) (host : Seen) (count : ℕ) (left : List ℕ) (status : Status) (host' : Seen) : Type 0 where
  pub run : honest → (every : ℕ) (set : Settings) (h0 : List Beat) (text : List ℕ) (start : List Event) → IsRunning host.past running every set h0 (lines text) start → count ≡ length (lines text) → left ≡ rest text
      → StopsIn status every set h0 true text start host'.past ⊥ (TellRose host host') (DiskRose host host')
  pub quiet : honest → LeavesFiles host.past host'.past
  pub statuses : IsTakers status
  pub counts : Counts host host' (status ≡ TellFault) (status ≡ DiskFault)
  pub others : LeavesOthers honest host host'

-- a line is too long
pub record Overflows (honest : Type 0) (running : Running) (host : Seen) (number : ℕ) (status : Status) (host' : Seen) : Type 0 where
  pub run : honest → (every : ℕ) (set : Settings) (h0 : List Beat) (prefix : List (List ℕ)) (start : List Event) → IsRunning host.past running every set h0 prefix start → number ≡ length prefix + 1
      → (ended : Bool) (text long : List ℕ) (more : List (List ℕ)) → parts text ≡ prefix ++ long ∷ more → fits long ≡ false
      → StopsIn status every set h0 ended text start host'.past ⊥ (TellRose host host') (DiskRose host host')
  pub quiet : honest → LeavesFiles host.past host'.past
  pub statuses : IsTakers status
  pub counts : Counts host host' (status ≡ TellFault) (status ≡ DiskFault)
  pub others : LeavesOthers honest host host'

-- what each call of the taker does
abbrev pub run_acts : {H : Type 0} → (honest : Type 0) → (H → Seen) → Acts Running H
run_acts honest seen = record {
  takes = λ running host number bytes result running' host'. TakesLine honest running (seen host) number bytes result running' (seen host');
  pauses = Pauses;
  ends = λ running host count left status running' host'. EndsRun honest running (seen host) count left status (seen host');
  overflows = λ running host number status running' host'. Overflows honest running (seen host) number status (seen host');
}
