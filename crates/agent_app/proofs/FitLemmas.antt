-- A run that took a line, or told a text, is as ready as before.
use Rattle.std.proofs.Common.{◌≡◌, ℕ, List, ◌∷◌, Option, Result, Ok, Err, OnOk, ap, ◌∙◌}
use Rattle.host_model.specs.declared.status.Status.{Status}
use Rattle.host_model.specs.Past.{of, Told}
use Rattle.host_model.specs.Seen.{Seen}
use Rattle.history.specs.declared.line.Line.{Line}
use Rattle.collect_block.specs.declared.feed.Feed.{Feed}
use Rattle.store_core.specs.declared.fault.Why.{Why}
use Rattle.agent_core.specs.declared.reply.Said.{Said}
use Rattle.agent_core.specs.Agent.{AgentState}
use Rattle.agent_core.specs.Calls.{Lines}
use Rattle.agent_core.specs.Faults.{fault_after}
use Rattle.link_session.proofs.ReadyLemmas.{ready-after}
use Rattle.agent_app.specs.declared.running.Running.{Running}
use Rattle.agent_app.specs.Running.{IsFit}

-- what the agent answered is no fault of it
pub fit-taken : (honest : Type 0) (running : Running) (host : Seen) (said : Line) (answer : Said) (middle : Seen) (agent : AgentState) (feed : Feed)
    → Lines honest host running.agent running.feed said (Ok answer) middle agent feed → IsFit honest running host → IsFit honest (record running { agent = agent; feed = feed }) middle
fit-taken honest running host said answer middle agent feed lined fit = record {
  agent = lined.ready;
  going = lined.fault ∙ ap (λ (f : Option Why). fault_after {T = Said} f (Ok answer)) fit.going;
  feed = lined.fed;
}

pub fit-told : (honest : Type 0) (running : Running) (middle new : Seen) (text : List ℕ) (result : Result (Unit {0}) Status) → IsFit honest running middle
    → OnOk result (honest → new.past ≡ Told text ∷ middle.past) → OnOk result (IsFit honest running new)
fit-told honest running middle new text (Ok value) fit told = record {
  agent = ready-after honest middle.past new.past running.agent (λ h file. ap (of file) (told h)) fit.agent;
  going = fit.going;
  feed = fit.feed;
}
fit-told honest running middle new text (Err status) fit told = tt
