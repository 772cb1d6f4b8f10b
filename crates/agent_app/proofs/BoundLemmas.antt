-- The files of a database stay within their shares over a command.
use Rattle.std.proofs.Common.{◌≡◌, true, inl, inr, ℕ, ◌≤◌, List, [], Option, Some, None, Result, Ok, Err, IfOk, sym, subst}
use Rattle.host_model.specs.declared.file.File.{File}
use Rattle.host_model.specs.declared.status.Status.{Status}
use Rattle.host_model.specs.Disks.{EveryDisk, reads_as}
use Rattle.host_model.specs.Images.{greatest, Change, IsImage}
use Rattle.host_model.specs.Moments.{begins, Throughout}
use Rattle.host_model.specs.Past.{Event, IsDisk}
use Rattle.host_model.specs.Seen.{Seen}
use Rattle.host_model.proofs.MomentLemmas.{at_end, joined, weakened}
use Rattle.history.specs.History.{Beat}
use Rattle.tier_settings.specs.declared.settings.Settings.{Settings}
use Rattle.line_stream.specs.Chain.{Chain, begins as chain_begins, goes_on, pauses}
use Rattle.line_stream.specs.Run.{Ended, at_line, at_pause, at_long_line, at_end as at_end_of, at_fault, at_limit, at_want}
use Rattle.plugin_text.specs.Lines.{lines}
use Rattle.plugin_text.specs.declared.refusal.Refusal.{Refusal}
use Rattle.store_core.specs.disk.Shares.{share}
use Rattle.store_core.specs.Store.{StoreState}
use Rattle.store_core.proofs.DiskProofs.ShareLemmas.{within_disks}
use Rattle.agent_core.specs.declared.fault.OpenFault.{OpenFault}
use Rattle.agent_core.specs.Agent.{AgentState}
use Rattle.agent_core.specs.Bound.{GrowsWithin, HasReached, RunsWithin}
use Rattle.agent_core.specs.Calls.{Opens}
use Rattle.agent_core.specs.Notes.{NotesGo}
use Rattle.agent_core.proofs.BoundLemmas.{below-most, store-reached}
use Rattle.agent_core.proofs.RunLemmas.{runs-both, runs-none, runs-still, runs-told}
use Rattle.link_session.specs.Keeps.{LeavesFiles}
use Rattle.link_session.proofs.BoundLemmas.{torn-runs}
use Rattle.link_session.proofs.LeavesLemmas.{leaves-nothing, may-told, one-told}
use Rattle.agent_app.specs.declared.running.Running.{Running}
use Rattle.agent_app.specs.declared.command.Command.{Command}
use Rattle.agent_app.specs.declared.command.Command.TheVariants.{Collect, Convert, Health, Log, New, Query, Receive, Run, Send}
use Rattle.agent_app.specs.Bound.{AgentGrows, EndsWithin, GrowsBy, StaysBy, StaysUnopened, StaysWithin}
use Rattle.agent_app.specs.Command.{command_of, settings_for}
use Rattle.agent_app.specs.Convert.{refusal_line}
use Rattle.agent_app.specs.Run.{IsHostAsFound}
use Rattle.agent_app.specs.Running.{run_acts, IsCutShort, IsRunning, TellsRefusal}
use Rattle.agent_app.proofs.RunLemmas.{chain-runs}

-- ---- where nothing is written
-- nothing has happened
pub still-within : (shares : File → ℕ) (past : List Event) → StaysWithin shares past past
still-within shares past within = begins within

-- nothing happens to any file
pub leaves-within : (shares : File → ℕ) (old new : List Event) → LeavesFiles old new → StaysWithin shares old new
leaves-within shares old new leaves within =
    weakened (λ past same file. subst (λ (changes : List Change). greatest changes ≤ shares file) (sym (same file)) (within file)) leaves

-- whatever a crash leaves, it might have left before
pub found-within : (shares : File → ℕ) (old new : List Event) → Throughout (EveryDisk (IsDisk old)) old new → StaysWithin shares old new
found-within shares old new moments within = within_disks shares old new within moments

pub then-within : (shares : File → ℕ) (old middle new : List Event) → StaysWithin shares old middle → StaysWithin shares middle new → StaysWithin shares old new
then-within shares old middle new first second within = let begun = first within in joined begun (second (at_end begun))

module _ (set : Settings) (limit : ℕ) where
  -- behind what wrote nothing
  pub ends-behind : (old middle new : List Event) → StaysWithin (share set limit) old middle → EndsWithin set limit middle new → EndsWithin set limit old new
  ends-behind old middle new first ends disk images numbered = then-within (share set limit) old middle new first (ends disk images numbered)

  -- and before that
  pub ends-before : (old middle new : List Event) → EndsWithin set limit old middle → LeavesFiles middle new → EndsWithin set limit old new
  ends-before old middle new ends leaves disk images numbered =
      then-within (share set limit) old middle new
      (ends disk (λ file. subst (λ (changes : List Change). IsImage changes (disk file)) (at_end leaves file) (images file)) numbered)
      (leaves-within (share set limit) middle new leaves)

  -- calls of an agent
  grown : (past past' : List Event) (store store' : StoreState) → EveryDisk (HasReached store.files.number) past → GrowsWithin set limit past store past' store' → EndsWithin set limit past past'
  grown past past' store store' was grows disk images numbered =
      let has = grows.reached was disk images in
      grows.moments (below-most store'.files.number has.stored.base.number _ has.reached (numbered has.stored has.stands))

-- calls of an agent that is of a history
pub runs-grow : (honest : Type 0) (host host' : Seen) (agent agent' : AgentState) → RunsWithin honest host agent host' agent' → honest → AgentGrows agent host.past host'.past
runs-grow honest host host' agent agent' runs h set g is_of limit fits =
    grown set limit host.past host'.past agent.store agent'.store (store-reached host.past agent.store is_of.holds.stored is_of.holds.store_of)
    (runs.bound h set (record { h = g; tried = []; sound = inl is_of }) limit fits)

-- nothing was asked of it
pub idle-grows : (agent : AgentState) (past : List Event) → AgentGrows agent past past
idle-grows agent past set g is_of limit fits disk images numbered = still-within (share set limit) past

pub grows-before : (agent : AgentState) (old middle new : List Event) → AgentGrows agent old middle → LeavesFiles middle new → AgentGrows agent old new
grows-before agent old middle new grows leaves set g is_of limit fits = ends-before set limit old middle new (grows set g is_of limit fits) leaves

-- ---- a database that is opened, or not
module _ (honest : Type 0) (host middle : Seen) where
  pub unopened-grows : (why : OpenFault) → Opens honest host (Err why) middle → honest → GrowsBy host.past middle.past
  unopened-grows why opens h set g here limit fits disk images numbered = opens.bound (share set limit) h

  pub opened-grows : (agent : AgentState) (new : List Event) → Opens honest host (Ok agent) middle → honest → AgentGrows agent middle.past new → GrowsBy host.past new
  opened-grows agent new opens h grows set g here limit fits =
      ends-behind set limit host.past middle.past new (opens.bound (share set limit) h) (grows set g (opens.opened h set g here) limit fits)

-- ---- what is told touches no file
pub cut-written : (s : Status) (honest : Type 0) (text : List ℕ) (old new : List Event) (tell_rose : Type 0) → IsCutShort s honest text old new tell_rose → honest → LeavesFiles old new
cut-written s honest text old new tell_rose (inl (is, rose, torn)) h = may-told old new text (torn h)
cut-written s honest text old new tell_rose (inr (is, same)) h = subst (LeavesFiles old) (sym same) (leaves-nothing old)

pub refusal-written : (s : Status) (honest : Type 0) (number : ℕ) (why : Refusal) (old new : List Event) (tell_rose : Type 0) → TellsRefusal s honest number why old new tell_rose → honest → LeavesFiles old new
refusal-written s honest number why old new tell_rose (inl (is, done)) h = subst (LeavesFiles old) (sym (done h)) (one-told old (refusal_line number why))
refusal-written s honest number why old new tell_rose (inr cut) h = cut-written s honest (refusal_line number why) old new tell_rose cut h

-- ---- what is told of a line
module _ (honest : Type 0) (host host' : Seen) (agent : AgentState) where
  pub cut-runs : (s : Status) (text : List ℕ) (tell_rose : Type 0) → IsCutShort s honest text host.past host'.past tell_rose → RunsWithin honest host agent host' agent
  cut-runs s text tell_rose (inl (is, rose, torn)) = torn-runs honest host agent host' text torn
  cut-runs s text tell_rose (inr (is, same)) = runs-still honest host host' agent (λ _. same)

  pub refusal-runs : (s : Status) (number : ℕ) (why : Refusal) (tell_rose : Type 0) → TellsRefusal s honest number why host.past host'.past tell_rose → RunsWithin honest host agent host' agent
  refusal-runs s number why tell_rose (inl (is, done)) = runs-told honest host host' agent (refusal_line number why) done
  refusal-runs s number why tell_rose (inr cut) = cut-runs s (refusal_line number why) tell_rose cut

-- ---- a run
abbrev ended-so : (s : Status) → Result (Unit {0}) Status
ended-so s = Err s

module _ {H : Type 0} (honest : Type 0) (seen : H → Seen) (h : honest) (every : ℕ) (set : Settings) (h0 : List Beat) (start : List Event) where
  pub chain-within : (running : Running) (host : H) → IsRunning (seen host).past running every set h0 [] start → (prefix : List (List ℕ)) (running' : Running) (host' : H) → Chain (run_acts honest seen) running host prefix running' host'
      → RunsWithin honest (seen host) running.agent (seen host') running'.agent
  chain-within running host first prefix running' host' chain_begins = runs-none honest (seen host) running.agent
  chain-within running host first prefix running' host' (goes_on lines line between running'' middle host'' before step) =
      runs-both honest (seen host) (seen middle) (seen host') running.agent between.agent running'.agent (chain-within running host first lines between middle before)
      (step.bound h every set h0 lines start (chain-runs honest seen h every set h0 start running host first lines between middle before))
  chain-within running host first prefix running' host' (pauses lines between running'' middle host'' before step) =
      subst (λ (m : H). RunsWithin honest (seen host) running.agent (seen m) running''.agent) (sym step.2)
      (subst (λ (r : Running). RunsWithin honest (seen host) running.agent (seen middle) r.agent) (sym step.1) (chain-within running host first lines between middle before))

  module _ (s : Status) (running : Running) (host : H) (first : IsRunning (seen host).past running every set h0 [] start) (text : List ℕ) (left : Option (List ℕ)) (source_rose : Type 0) where
    -- lines were taken
    chain-grows : (prefix : List (List ℕ)) (running' : Running) (middle : H) → Chain (run_acts honest seen) running host prefix running' middle → AgentGrows running.agent (seen host).past (seen middle).past
    chain-grows prefix running' middle chain = runs-grow honest (seen host) (seen middle) running.agent running'.agent (chain-within running host first prefix running' middle chain) h

    -- and then the run ended
    chain-ends : (prefix : List (List ℕ)) (running' : Running) (middle host'' : H) → Chain (run_acts honest seen) running host prefix running' middle → LeavesFiles (seen middle).past (seen host'').past → AgentGrows running.agent (seen host).past (seen host'').past
    chain-ends prefix running' middle host'' chain leaves = grows-before running.agent (seen host).past (seen middle).past (seen host'').past (chain-grows prefix running' middle chain) leaves

    pub run-grows : (running'' : Running) (host'' : H) → Ended (run_acts honest seen) s running host text running'' host'' left source_rose → AgentGrows running.agent (seen host).past (seen host'').past
    run-grows running'' host'' (at_line prefix line next more running' middle whole short_prefix short chain step) =
        runs-grow honest (seen host) (seen host'') running.agent running''.agent
        (runs-both honest (seen host) (seen middle) (seen host'') running.agent running'.agent running''.agent (chain-within running host first prefix running' middle chain)
        (step.bound h every set h0 prefix start (chain-runs honest seen h every set h0 start running host first prefix running' middle chain))) h
    run-grows running'' host'' (at_pause running' middle took step) = absurd (apart step.0)
      where
        apart : ended-so s ≡ Ok tt → ⊥
        apart e = cc
    run-grows running'' host'' (at_long_line prefix long more running' middle whole short over chain step) = chain-ends prefix running' middle host'' chain (step.quiet h)
    run-grows running'' host'' (at_end_of running' middle below nothing took step) = chain-ends (lines text) running' middle host'' took.chain (step.quiet h)
    run-grows running'' host'' (at_fault is rose below took last) = chain-grows (lines text) running'' host'' took.chain
    run-grows running'' host'' (at_limit is full took) = chain-grows (lines text) running'' host'' took.chain
    run-grows running'' host'' (at_want prefix is took) = chain-grows prefix running'' host'' took.chain

-- ---- a command
-- where no database can be opened
pub unopened-stays : (honest : Type 0) (host host' : Seen) → honest → ((NotesGo true (reads_as host.past) → ⊥) → IsHostAsFound honest host host') → StaysUnopened host.past host'.past
unopened-stays honest host host' h as_found none shares = found-within shares host.past host'.past ((as_found none).any_moment h)

-- of which nothing was done
module _ (past : List Event) where
  still-grows : GrowsBy past past
  still-grows set h here limit fits disk images numbered = still-within (share set limit) past

  still-unopened : StaysUnopened past past
  still-unopened none shares = still-within shares past

  pub stays-still : (command : Option Command) → StaysBy command past past
  stays-still (Some Run) = (still-grows, still-unopened)
  stays-still (Some (Collect every starts)) = (still-grows, still-unopened)
  stays-still (Some Health) = (still-grows, still-unopened)
  stays-still (Some Receive) = (still-grows, still-unopened)
  stays-still (Some (New plan)) = λ limit fits. still-within (share (settings_for plan) limit) past
  stays-still (Some Convert) = λ shares. still-within shares past
  stays-still (Some (Log form)) = λ shares. still-within shares past
  stays-still (Some Query) = λ shares. still-within shares past
  stays-still (Some Send) = λ shares. still-within shares past
  stays-still None = λ shares. still-within shares past

-- the command that was read of the words
pub stays-as : {E : Type 0} (read : Result (Option Command) E) (words : List (List ℕ)) (command : Option Command) (old new : List Event) → read ≡ Ok command → IfOk read (λ (c : Option Command). c ≡ command_of words)
    → StaysBy command old new → StaysBy (command_of words) old new
stays-as {E} read words command old new is says stays =
    subst (λ (c : Option Command). StaysBy c old new) (subst (λ (r : Result (Option Command) E). IfOk r (λ (c : Option Command). c ≡ command_of words)) is says) stays
