-- What is told between calls of an agent leaves the files alone.
use Rattle.std.proofs.Common.{inl, inr, ℕ, List, take, Option, Result}
use Rattle.host_model.specs.Past.{MayAdd, Told}
use Rattle.host_model.specs.Seen.{Seen}
use Rattle.agent_core.specs.Agent.{AgentState}
use Rattle.agent_core.specs.Bound.{RunsWithin}
use Rattle.agent_core.proofs.RunLemmas.{runs-still, runs-told}
use Rattle.link_session.specs.declared.flow.Flow.{Flow}
use Rattle.link_session.specs.declared.fault.SessionFault.{SessionFault}
use Rattle.link_session.specs.Receiving.{SaysHave}

module _ (honest : Type 0) (host : Seen) (agent : AgentState) where
  -- ---- what is told
  module _ (host' : Seen) where
    -- a prefix of a text was told, or nothing was
    pub torn-runs : (text : List ℕ) → (honest → MayAdd (λ (n : ℕ). Told (take n text)) host.past host'.past) → RunsWithin honest host agent host' agent
    torn-runs text may = record {
      sound = λ true_host. (by (may true_host)).sound true_host;
      bound = λ true_host. (by (may true_host)).bound true_host;
    }
      where
        by : MayAdd (λ (n : ℕ). Told (take n text)) host.past host'.past → RunsWithin honest host agent host' agent
        by (inl same) = runs-still honest host host' agent (λ _. same)
        by (inr (n, added)) = runs-told honest host host' agent (take n text) (λ _. added)

    pub have-runs : (text : List ℕ) (last : ℕ) (result : Result Flow SessionFault) (a b : Option (List ℕ)) → SaysHave honest text last result host.past host'.past a b → RunsWithin honest host agent host' agent
    have-runs text last result a b (inl (fault, is, inl (tell, torn), same)) = torn-runs text torn
    have-runs text last result a b (inl (fault, is, inr (memory, quiet), same)) = runs-still honest host host' agent quiet
    have-runs text last result a b (inr (told, said)) = runs-told honest host host' agent text told
