-- An agent that was just made.
use Rattle.std.proofs.Common.{◌≡◌, ◌⊎◌, ℕ, inl, inr, List, [], None, Result, Ok, Err, IsErrOf, refl, sym, subst, le_refl}
use Rattle.host_model.specs.Cause.{HasCause}
use Rattle.host_model.specs.declared.file.File.{File}
use Rattle.host_model.specs.Past.{Event, IsDisk}
use Rattle.host_model.specs.Disks.{reads_as, EveryDisk}
use Rattle.host_model.specs.Moments.{begins, Throughout}
use Rattle.host_model.specs.Seen.{Seen}
use Rattle.host_model.proofs.DiskLemmas.{disks_weaker}
use Rattle.host_model.proofs.MomentLemmas.{at_end}
use Rattle.tier_settings.specs.declared.settings.Settings.{Settings}
use Rattle.tier_settings.specs.Limits.{InLimits}
use Rattle.store_core.specs.declared.fault.CreateFault.{CreateFault}
use Rattle.store_core.specs.declared.fault.CreateFault.TheVariants as creating
use Rattle.store_core.specs.Stands.{StandsIfMade}
use Rattle.store_core.specs.Store.{IsStoreOf, StoreState}
use Rattle.store_core.specs.Stored.{new_database}
use Rattle.agent_core.specs.Agent.{left_in, AgentState, IsAgentOf}
use Rattle.agent_core.specs.Calls.{Creates, ReadsAsBefore}
use Rattle.agent_core.specs.Sides.{IsSideOf}
use Rattle.agent_core.specs.Stands.{StandsForNew}
use Rattle.agent_core.specs.Left.{IsLeftBy}
use Rattle.agent_core.proofs.OpenFaults.{failed_with, told-of}
use Rattle.agent_core.proofs.StoredLemmas.{stored_new}

-- a crash left this disk before, or it holds no database, or the one with these settings and without beats
abbrev pub WasOrIsNew : List Event → Settings → (File → List ℕ) → Type 0
WasOrIsNew old set disk = IsDisk old disk ⊎ StandsForNew set disk

module _ (set : Settings) (side : List ℕ) (limits : InLimits set) (is : IsSideOf set [] side) where
  pub new_climbs : (old new : List Event) → Throughout (EveryDisk (λ disk. IsDisk old disk ⊎ StandsIfMade set side disk)) old new
      → Throughout (EveryDisk (WasOrIsNew old set)) old new
  new_climbs old new moments = disks_weaker by moments
    where
      by : (disk : File → List ℕ) → IsDisk old disk ⊎ StandsIfMade set side disk → WasOrIsNew old set disk
      by disk (inl was) = inl was
      by disk (inr (inl none)) = inr (inl none)
      by disk (inr (inr stands)) = inr (inr (record { stored = new_database set side; are = stored_new set side limits is; stands = stands }))

  -- the agent of a history without beats
  pub new_is_of : (past : List Event) (store : StoreState) (agent : AgentState) → IsStoreOf past store (new_database set side) → IsLeftBy set [] (left_in agent)
      → agent.store ≡ store → agent.last ≡ 0 → agent.count ≡ 0 → agent.fault ≡ None → IsAgentOf past agent set []
  new_is_of past store agent store_of left same last_is count going = record {
    holds = record {
      stored = new_database set side;
      are = stored_new set side limits is;
      store_of = subst (λ (s : StoreState). IsStoreOf past s (new_database set side)) (sym same) store_of;
    };
    left_by = left;
    last_is = last_is;
    count = count;
    going = going;
  }

-- ---- what was there before

pub before-itself : (past : List Event) → ReadsAsBefore past past
before-itself past = record { same = λ file. refl; disks = λ disk images. images }

pub before-at_end : (old new : List Event) → ((file : File) → reads_as new file ≡ reads_as old file) → Throughout (EveryDisk (IsDisk old)) old new → ReadsAsBefore old new
before-at_end old new same moments = record { same = same; disks = at_end moments }

-- memory ran out before its store was made
pub not-made : (honest : Type 0) (host : Seen) (set : Settings) → Creates honest host set (Err creating.Memory) host
not-made honest host set = record {
  any_moment = λ true_host. begins (λ disk images. inl images);
  created = tt;
  ready = tt;
  new = tt;
  exists = λ is. absurd cc;
  none = tt;
  made = λ true_host made. (inr (inr refl), before-itself host.past);
  made_moment = λ true_host made. begins (λ disk images. images);
  memory = λ is true_host. before-itself host.past;
  memory_moment = λ is true_host. begins (λ disk images. images);
  cause = record { later = le_refl host.disk_faults; failed = λ failed. absurd cc; stays = λ other. refl };
  bound = λ limit fits true_host within. begins within;
  only_here = λ true_host. record { others = λ file far. refl; output = refl };
  tells = refl;
}

-- where there is a database already, an agent is refused as its store is
pub made-told : {A B : Type 0} (result : Result A CreateFault) (fault : CreateFault) → result ≡ Err fault
    → IsErrOf result creating.Exists ⊎ (IsErrOf result creating.DiskFault ⊎ IsErrOf result creating.Memory)
    → IsErrOf (failed_with {T = B} fault) creating.Exists ⊎ (IsErrOf (failed_with {T = B} fault) creating.DiskFault ⊎ IsErrOf (failed_with {T = B} fault) creating.Memory)
made-told {A = A} {B = B} result fault is (inl e) = inl (told-of {T = A} {U = B} result fault creating.Exists is e)
made-told {A = A} {B = B} result fault is (inr (inl e)) = inr (inl (told-of {T = A} {U = B} result fault creating.DiskFault is e))
made-told {A = A} {B = B} result fault is (inr (inr e)) = inr (inr (told-of {T = A} {U = B} result fault creating.Memory is e))

-- where it was made, the disk did not fail
pub done-cause : {A B : Type 0} (old new : ℕ) (result : Result A CreateFault) (value : A) (agent : B) → result ≡ Ok value → HasCause old new (IsErrOf result creating.DiskFault)
    → HasCause old new (IsErrOf {E = CreateFault} (Ok agent) creating.DiskFault)
done-cause old new result value agent is cause = record { later = cause.later; failed = λ failed. absurd cc; stays = λ other. cause.stays (λ failed. cc) }
